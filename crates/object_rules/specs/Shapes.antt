-- What is noted of properties by the number of their first part.
use Rattle.std.specs.Prelude.{◌≡◌, ℕ, Bool, false, cond, not, ◌||◌, ◌&&◌, nat_lt, Option, Some, None, List, [], ◌∷◌, length, slice_get}
use Rattle.std.specs.List.{flat_map}
use Rattle.reach_table.specs.Chains.{is_marked}
use Rattle.bound_tree.specs.Tree.{Procedure, Declarations}
use Rattle.bound_facts.specs.Leading.{is_in}
use Rattle.object_rules.specs.declared.shapes.NotedParts.{NotedParts as Noted}
use Rattle.object_rules.specs.Properties.{are_alike, is_let, is_property, is_set, lacks_value}

-- whether a part differs from another one or lacks its value
abbrev pub is_apart : Declarations → (first : Option Procedure) → Procedure → Bool
is_apart D None p = false
is_apart D (Some first) p = not (are_alike D first p) || lacks_value p

-- the same, where that one is the first part
abbrev pub is_broken_part : Declarations → Procedure → Bool
is_broken_part D p = is_property p.kind && is_apart D (slice_get D.procs p.first.0) p

abbrev pub first_if : Bool → Procedure → List ℕ
first_if test p = cond test (p.first.0 ∷ []) []

-- the first parts of those that pass a test
abbrev pub firsts : (Procedure → Bool) → List Procedure → List ℕ
firsts test procs = flat_map (λ p. first_if (test p) p) procs

abbrev pub is_let_part : Procedure → Bool
is_let_part p = is_let p.kind

abbrev pub is_set_part : Procedure → Bool
is_set_part p = is_set p.kind

-- the flags of the procedures whose numbers are in a list
abbrev pub AreFlags : Declarations → List ℕ → List Bool → Type 0
AreFlags D list flags = (f : ℕ) → is_marked flags f ≡ (nat_lt f (length D.procs) && is_in list f)

pub record AreShapes (D : Declarations) (s : Noted) : Type 0 where
  pub broken : AreFlags D (firsts (is_broken_part D) D.procs) s.broken.items
  pub lets : AreFlags D (firsts is_let_part D.procs) s.lets.items
  pub sets : AreFlags D (firsts is_set_part D.procs) s.sets.items

-- what a head asks of its property
abbrev pub breaks_noted : Noted → Procedure → Bool
breaks_noted s p = is_property p.kind && (is_marked s.broken.items p.first.0 || (is_marked s.lets.items p.first.0 && is_marked s.sets.items p.first.0))
