-- The sets of the statements of a module are those at its file number.
use Rattle.std.proofs.Common.{◌≡◌, ℕ, ◌≤◌, Bool, true, false, cond, List, [], ◌∷◌, refl, ap, sym, ◌∙◌, arith, nat_eq, nat_lt}
use Rattle.std.specs.Prelude.{Option, slice_get}
use Rattle.std.proofs.lemmas.Bool.{eqb-true, ltb-false, ltb-true}
use Rattle.vb_tree.specs.Tree.{Module}
use Rattle.bound_tree.specs.declared.rule_set.RuleSet.{RuleSet}
use Rattle.written_trees.specs.Facts.{list_set, set_at}
use Rattle.written_facts.specs.Statements.{file_sets, files_end, module_sets, sets_by_file}
use Rattle.written_facts.proofs.Numbered.{none_behind, numbered}

none_past : (ms : List Module) (file : ℕ) → files_end ms ≤ file → file_sets file ms ≡ []
none_past [] file h = refl
none_past (m ∷ ms) file h = by_number (nat_eq m.file file) refl (none_past ms file (omega (arith, h)))
  where
    by_number : (b : Bool) → nat_eq m.file file ≡ b → file_sets file ms ≡ [] → cond b (module_sets m) (file_sets file ms) ≡ []
    by_number true e more = let same = eqb-true m.file file e in absurd (omega (arith, h, same))
    by_number false e more = more

pub by_file : (ms : List Module) (file n : ℕ) → list_set (slice_get (sets_by_file ms) file) n ≡ set_at (file_sets file ms) n
by_file ms file n = by_number (nat_lt file (files_end ms)) refl
  where
    by_number : (b : Bool) → nat_lt file (files_end ms) ≡ b → list_set (slice_get (sets_by_file ms) file) n ≡ set_at (file_sets file ms) n
    by_number true e = ap (λ (o : Option (List RuleSet)). list_set o n) (numbered (λ (f : ℕ). file_sets f ms) (files_end ms) file (ltb-true file (files_end ms) e))
    by_number false e =
        let past = ltb-false file (files_end ms) e in
        ap (λ (o : Option (List RuleSet)). list_set o n) (none_behind (λ (f : ℕ). file_sets f ms) (files_end ms) file past)
        ∙ sym (ap (λ (s : List RuleSet). set_at s n) (none_past ms file past))
