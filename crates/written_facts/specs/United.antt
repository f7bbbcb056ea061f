-- The rules that are broken by the marks of several passes together.
use Rattle.std.specs.Prelude.{◌≡◌, ℕ, List, [], ◌∷◌, Option, Some, None, map, length, max, slice_get}
use Rattle.std.specs.Borrow.{Bor}
use Rattle.std.specs.List.{range_with_len}
use Rattle.bound_tree.specs.declared.marks.Marks.{Marks}
use Rattle.bound_tree.specs.declared.rule_set.RuleSet.{RuleSet}
use Rattle.written_trees.specs.Facts.{list_set, set_at}
use Rattle.written_trees.specs.Prologues.{union}
use Rattle.written_facts.specs.declared.marks.Kind.{Kind}
use Rattle.written_facts.specs.declared.marks.Kind.TheVariants as kind

-- For each code line, by its procedure and its number there, and for each declaration the union of the sets of all passes. What
-- stands behind the end of a list breaks no rule.
pub record AreUnited (given : List Marks) (m : Marks) : Type 0 where
  pub lines : (p k : ℕ) → list_set (slice_get m.lines p) k ≡ union (map (λ (g : Marks). list_set (slice_get g.lines p) k) given)
  pub heads : (p : ℕ) → set_at m.heads p ≡ union (map (λ (g : Marks). set_at g.heads p) given)
  pub vars : (v : ℕ) → set_at m.vars v ≡ union (map (λ (g : Marks). set_at g.vars v) given)
  pub consts : (c : ℕ) → set_at m.consts c ≡ union (map (λ (g : Marks). set_at g.consts c) given)
  pub types : (t : ℕ) → set_at m.types t ≡ union (map (λ (g : Marks). set_at g.types t) given)
  pub enums : (e : ℕ) → set_at m.enums e ≡ union (map (λ (g : Marks). set_at g.enums e) given)

-- ---- as lists

-- the union of the sets with a number, one of each list
abbrev pub union_at : List (List RuleSet) → ℕ → RuleSet
union_at lists k = union (map (λ (l : List RuleSet). set_at l k) lists)

-- the length of the longest list
abbrev pub longest : {X : Type 0} → List (List X) → ℕ
longest [] = 0
longest (l ∷ ls) = max (length l) (longest ls)

abbrev pub united : List (List RuleSet) → List RuleSet
united lists = map (union_at lists) (range_with_len 0 (longest lists))

abbrev pub or_empty : {X : Type 0} → Option (List X) → List X
or_empty None = []
or_empty (Some l) = l

-- the lists with a number, one of each list of lists
abbrev pub lists_at : List (List (List RuleSet)) → ℕ → List (List RuleSet)
lists_at tables p = map (λ (t : List (List RuleSet)). or_empty (slice_get t p)) tables

abbrev pub united_lists : List (List (List RuleSet)) → List (List RuleSet)
united_lists tables = map (λ (p : ℕ). united (lists_at tables p)) (range_with_len 0 (longest tables))

-- ---- declarations

abbrev pub sets_of : Kind → Marks → List RuleSet
sets_of kind.Heads m = m.heads
sets_of kind.Vars m = m.vars
sets_of kind.Consts m = m.consts
sets_of kind.Types m = m.types
sets_of kind.Enums m = m.enums

-- ---- what references show

abbrev pub shown_marks : Bor Marks → Marks
shown_marks b = b.now

abbrev pub shown_list : {X : Type 0} → Bor (List X) → List X
shown_list b = b.now
