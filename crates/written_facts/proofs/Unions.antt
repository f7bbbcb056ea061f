-- The union of the sets with a number is what the lists of unions have at that number.
use Rattle.std.proofs.Common.{◌≡◌, ℕ, ◌≤◌, Bool, true, false, List, [], ◌∷◌, map, refl, ap, sym, ◌∙◌, arith, nat_lt, Some, None}
use Rattle.std.specs.Prelude.{Option, slice_get}
use Rattle.std.proofs.lemmas.Bool.{ltb-false, ltb-true}
use Rattle.std.proofs.lemmas.Option.{slice_get_past}
use Rattle.bound_tree.specs.declared.marks.Marks.{Marks}
use Rattle.bound_tree.specs.declared.rule_set.RuleSet.{RuleSet}
use Rattle.bound_tree.specs.RuleSets.{both, none}
use Rattle.written_trees.specs.Facts.{list_set, set_at, set_or_none}
use Rattle.written_trees.specs.Prologues.{union}
use Rattle.written_facts.specs.declared.marks.Kind.{Kind}
use Rattle.written_facts.specs.United.{lists_at, longest, or_empty, sets_of, union_at, united, united_lists}
use Rattle.written_facts.proofs.Numbered.{none_behind, numbered}

no_rules : both none none ≡ none
unfolding both none
no_rules = refl

abbrev Table : Type 0
Table = List (List RuleSet)

-- behind the end of the longest list there is no rule
none_past : (lists : List (List RuleSet)) (k : ℕ) → longest lists ≤ k → union_at lists k ≡ none
none_past [] k h = refl
none_past (l ∷ ls) k h =
    ap (λ s. both s (union_at ls k)) (ap set_or_none (slice_get_past l k (omega (arith, h)))) ∙ ap (both none) (none_past ls k (omega (arith, h))) ∙ no_rules

pub united_at : (lists : List (List RuleSet)) (k : ℕ) → set_at (united lists) k ≡ union_at lists k
united_at lists k = by_length (nat_lt k (longest lists)) refl
  where
    by_length : (b : Bool) → nat_lt k (longest lists) ≡ b → set_at (united lists) k ≡ union_at lists k
    by_length true e = ap set_or_none (numbered (union_at lists) (longest lists) k (ltb-true k (longest lists) e))
    by_length false e =
        let past = ltb-false k (longest lists) e in ap set_or_none (none_behind (union_at lists) (longest lists) k past) ∙ sym (none_past lists k past)

-- ---- lists of lists

listed_set : (o : Option (List RuleSet)) (k : ℕ) → set_at (or_empty o) k ≡ list_set o k
listed_set None k = refl
listed_set (Some l) k = refl

listed_sets : (tables : List Table) (p k : ℕ) → union_at (lists_at tables p) k ≡ union (map (λ (t : Table). list_set (slice_get t p) k) tables)
listed_sets [] p k = refl
listed_sets (t ∷ ts) p k =
    ap (λ s. both s (union_at (lists_at ts p) k)) (listed_set (slice_get t p) k) ∙ ap (both (list_set (slice_get t p) k)) (listed_sets ts p k)

no_lists : (tables : List Table) (p k : ℕ) → longest tables ≤ p → union (map (λ (t : Table). list_set (slice_get t p) k) tables) ≡ none
no_lists [] p k h = refl
no_lists (t ∷ ts) p k h =
    ap (λ (o : Option (List RuleSet)). both (list_set o k) (union (map (λ (u : Table). list_set (slice_get u p) k) ts))) (slice_get_past t p (omega (arith, h)))
    ∙ ap (both none) (no_lists ts p k (omega (arith, h))) ∙ no_rules

pub united_line : (tables : List Table) (p k : ℕ) → list_set (slice_get (united_lists tables) p) k ≡ union (map (λ (t : Table). list_set (slice_get t p) k) tables)
united_line tables p k = by_length (nat_lt p (longest tables)) refl
  where
    by_length : (b : Bool) → nat_lt p (longest tables) ≡ b → list_set (slice_get (united_lists tables) p) k ≡ union (map (λ (t : Table). list_set (slice_get t p) k) tables)
    by_length true e =
        ap (λ (o : Option (List RuleSet)). list_set o k) (numbered (λ (q : ℕ). united (lists_at tables q)) (longest tables) p (ltb-true p (longest tables) e))
        ∙ united_at (lists_at tables p) k ∙ listed_sets tables p k
    by_length false e =
        let past = ltb-false p (longest tables) e in
        ap (λ (o : Option (List RuleSet)). list_set o k) (none_behind (λ (q : ℕ). united (lists_at tables q)) (longest tables) p past) ∙ sym (no_lists tables p k past)

-- ---- marks

union_of : {X Y : Type 0} (f : Y → RuleSet) (g : X → Y) → (xs : List X) → union (map f (map g xs)) ≡ union (map (λ x. f (g x)) xs)
union_of f g [] = refl
union_of f g (x ∷ xs) = ap (both (f (g x))) (union_of f g xs)

pub declared_sets : (kind : Kind) (given : List Marks) (sets : List RuleSet) → sets ≡ united (map (sets_of kind) given) → (k : ℕ) → set_at sets k ≡ union (map (λ (g : Marks). set_at (sets_of kind g) k) given)
declared_sets kind given sets is k =
    ap (λ (s : List RuleSet). set_at s k) is ∙ united_at (map (sets_of kind) given) k ∙ union_of (λ (l : List RuleSet). set_at l k) (sets_of kind) given

pub line_sets : (given : List Marks) (table : Table) → table ≡ united_lists (map (λ (m : Marks). m.lines) given) → (p k : ℕ)
    → list_set (slice_get table p) k ≡ union (map (λ (g : Marks). list_set (slice_get g.lines p) k) given)
line_sets given table is p k =
    ap (λ (t : Table). list_set (slice_get t p) k) is ∙ united_line (map (λ (m : Marks). m.lines) given) p k
    ∙ union_of (λ (t : Table). list_set (slice_get t p) k) (λ (m : Marks). m.lines) given
