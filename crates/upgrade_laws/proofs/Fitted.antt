-- By the marks of the arrays of a program, lines that break no rule use arrays as their ranks and lower bounds are.
use Rattle.std.proofs.Common.{◌≡◌, ℕ, zero, suc, ◌+◌, true, false, List, [], ◌∷◌, map, Some, None, refl, ap, sym, ◌∙◌, arith}
use Rattle.std.specs.Prelude.{Option, slice_get}
use Rattle.std.specs.List.{Contains}
use Rattle.std.proofs.lemmas.Option.{none-some, same_Some}
use Rattle.vb_tree.specs.BoundTree.{Ty, array}
use Rattle.bound_tree.specs.declared.marks.Marks.{Marks}
use Rattle.bound_tree.specs.declared.rule_set.RuleSet.{RuleSet}
use Rattle.bound_tree.specs.RuleSets.{is_broken}
use Rattle.bound_tree.specs.Tree.{Declarations, Expr, Line, Variable}
use Rattle.bound_facts.specs.Parts.{line_uses}
use Rattle.array_bounds.specs.Known.{Known}
use Rattle.array_bounds.specs.Rows.{AreMarks, line_rules, variable_rules, variables_rules}
use Rattle.written_trees.specs.Facts as deciding
use Rattle.written_trees.specs.Facts.{is_array_variable, is_flagged_variable, line_set, list_set, set_at, set_or_none}
use Rattle.written_facts.specs.United.{AreUnited}
use Rattle.run_base.specs.Machines.{nth_line}
use Rattle.run_matches.specs.CleanLines.{lines_at, or_none}
use Rattle.run_matches.specs.CoveredVariables.{has_extents}
use Rattle.run_matches.specs.Upgrades.{Upgrade, is_flagged, is_unknown, type_of}
use Rattle.run_statements.specs.Fitting.{FitsLine, FitsNode}
use Rattle.upgrade_laws.proofs.Breaking.{each_whole}
use Rattle.upgrade_laws.proofs.Fits.{ranks_fit, resizes_fit, uses_fit}
use Rattle.upgrade_laws.proofs.Ranks.{rank_above}
use Rattle.upgrade_laws.proofs.Tests.{left_false}

got_map : {A B : Type 0} (f : A → B) (xs : List A) (i : ℕ) (x : A) → slice_get xs i ≡ Some x → slice_get (map f xs) i ≡ Some (f x)
got_map f [] i x e = absurd (none-some x e)
got_map f (y ∷ ys) zero x e = ap (λ z. Some (f z)) (same_Some y x e)
got_map f (y ∷ ys) (suc i) x e = got_map f ys i x e

variables_at : (F : Known) (first i v : ℕ) (xs : List Variable) (x : Variable) → v ≡ first + i → slice_get xs i ≡ Some x
    → slice_get (variables_rules F first xs) i ≡ Some (variable_rules F v x)
variables_at F first i v [] x s e = absurd (none-some x e)
variables_at F first zero v (y ∷ ys) x s e =
    ap (λ (z : Variable). Some (variable_rules F first z)) (same_Some y x e)
    ∙ ap (λ (n : ℕ). Some (variable_rules F n x)) (let same : first ≡ v = omega (arith, s) in same)
variables_at F first (suc i) v (y ∷ ys) x s e = variables_at F (suc first) i v ys x (omega (arith, s)) e

-- the lines of its procedure
among_lines : (o : Option (List Line)) (k : ℕ) (l : Line) → slice_get (or_none o) k ≡ Some l → (lines : List Line) × (o ≡ Some lines) × (slice_get lines k ≡ Some l)
among_lines None k l e = absurd (none-some l e)
among_lines (Some lines) k l e = (lines, refl, e)

module _ (U : Upgrade) (ms : List Marks) (united : AreUnited ms U.facts.marks) (g : deciding.AreFacts U.program U.facts) (m : Marks) (among : Contains ms m)
    (known : AreMarks U.program m) where
  abbrev D : Declarations
  D = U.program.declarations

  line_whole : (p k : ℕ) (lines : List Line) (l : Line) → slice_get U.program.bodies p ≡ Some lines → slice_get lines k ≡ Some l
      → is_broken (line_set U.facts p k) ≡ false → is_broken (line_rules D known.0 l) ≡ false
  line_whole p k lines l at got h =
      let each = each_whole (λ (x : Marks). list_set (slice_get x.lines p) k) ms (ap is_broken (sym (united.lines p k)) ∙ h) m among in
      let set : list_set (slice_get m.lines p) k ≡ line_rules D known.0 l =
      ap (λ (sets : List (List RuleSet)). list_set (slice_get sets p) k) known.2.lines
      ∙ ap (λ (o : Option (List RuleSet)). list_set o k) (got_map (map (line_rules D known.0)) U.program.bodies p lines at)
      ∙ ap set_or_none (got_map (line_rules D known.0) lines k l got) in
      ap is_broken (sym set) ∙ each

  variable_whole : (v : ℕ) (x : Variable) → slice_get D.vars v ≡ Some x → is_flagged U v ≡ false → is_broken (variable_rules known.0 v x) ≡ false
  variable_whole v x at sound =
      let h = left_false (is_flagged_variable U.facts v) (is_unknown (type_of U v)) sound in
      let each = each_whole (λ (y : Marks). set_at y.vars v) ms (ap is_broken (sym (united.vars v)) ∙ h) m among in
      let set : set_at m.vars v ≡ variable_rules known.0 v x =
      ap (λ (sets : List RuleSet). set_at sets v) known.2.vars ∙ ap set_or_none (variables_at known.0 0 v v D.vars x (omega arith) at) in
      ap is_broken (sym set) ∙ each

  pub uses_suit : (p k : ℕ) (l : Line) → nth_line (lines_at U.program p) (suc k) ≡ Some l → is_broken (line_set U.facts p k) ≡ false → (d : Expr)
      → Contains (line_uses l) d → FitsNode U d
  uses_suit p k l e h d i =
      let w = among_lines (slice_get U.program.bodies p) k l e in
      uses_fit U known.0 known.1 g variable_whole p k w.0 l w.1 w.2 (line_whole p k w.0 l w.1 w.2 h) d i

  pub resizes_suit : (p k : ℕ) (l : Line) → nth_line (lines_at U.program p) (suc k) ≡ Some l → is_broken (line_set U.facts p k) ≡ false → FitsLine U p l
  resizes_suit p k l e h =
      let w = among_lines (slice_get U.program.bodies p) k l e in
      resizes_fit U known.0 known.1 g variable_whole p k w.0 l w.1 w.2 (line_whole p k w.0 l w.1 w.2 h)

  pub ranks_suit : (v : ℕ) (x : Variable) (e : Ty) (rank : ℕ) → slice_get D.vars v ≡ Some x → x.ty ≡ array e (suc rank) → is_flagged U v ≡ false
      → U.facts.rank v ≡ suc rank
  ranks_suit v x e rank at is sound = ranks_fit U known.0 known.1 g variable_whole v x e rank at is sound

  pub dimensions_suit : has_extents U.program ≡ true → (v : ℕ) → is_array_variable (slice_get D.vars v) ≡ true → U.facts.rank v ≡ 0 → ⊥
  dimensions_suit h v a none = let above = rank_above U.program v h (g.ranks v a) in omega (arith, above, none)
