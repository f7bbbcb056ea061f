-- Variables that hold no array: scalars, objects, and user types of scalars.
use Rattle.std.proofs.Common.{◌≡◌, ◌∙◌, sym, ap, subst, ℕ, true, not, ◌&&◌, [], true≢false, Some, inl, inr}
use Rattle.vb_tree.specs.BoundTree.{Ty, class, user}
use Rattle.bound_tree.specs.Tree.{Declarations, Variable}
use Rattle.bound_facts.proofs.Chains.{both_true}
use Rattle.run_base.specs.Positions.{Position}
use Rattle.vb6_run.specs.Shapes.{Shape, simple, group, array, endless, declared_shape, shape_by, user_shapes, variable_shape}
use Rattle.vb6_run.specs.Store.{Address, root, item}
use Rattle.run_matches.specs.Addresses.{IsTarget}
use Rattle.run_matches.specs.CoveredVariables.{covers_group_type, covers_owner, covers_type}
use Rattle.run_matches.specs.Frames.{StandsAs}
use Rattle.run_matches.specs.Pledges.{type_of_shape}
use Rattle.run_matches.specs.SoundShapes.{IsSoundShape}
use Rattle.run_matches.specs.Upgrades.{Upgrade, type_of, type_of_some}
use Rattle.run_statements.specs.Frames.{IsGroup, IsKnown, IsReadable, type_shape}
use Rattle.agreeing_laws.proofs.UserShapes.{group_type_of, group_unbounded}
use Rattle.line_laws.proofs.Uses.{not_true, scalar_type, shape_is}

pub record IsFlatVariable (U : Upgrade) (v : ℕ) : Type 0 where
  pub shape : IsSoundShape U (variable_shape U.program.declarations v)
  pub of_type : type_of U v ≡ Some (type_of_shape (variable_shape U.program.declarations v))

pub known_scalar : (U : Upgrade) (v : ℕ) → IsReadable U v → IsKnown U v
known_scalar U v r =
    let x : Variable = r.variable in
    let rest = both_true (covers_owner x.owner) (covers_type x.ty && not x.auto) r.covers in
    record {
      variable = x;
      is_variable = r.is_variable;
      plain = not_true x.auto (both_true (covers_type x.ty) (not x.auto) rest.1).1;
      sound = r.sound;
    }

pub flat_scalar : (U : Upgrade) (v : ℕ) → IsReadable U v → IsFlatVariable U v
flat_scalar U v r = record {
  shape = subst (λ s. IsSoundShape U s) (sym (shape_is U v r)) (inl (scalar_type U v r));
  of_type = ap type_of_some r.is_variable ∙ ap (λ s. Some (type_of_shape s)) (sym (shape_is U v r));
}

pub group_shape_is : (U : Upgrade) (v : ℕ) (ty : Ty) (r : IsGroup U v ty) → variable_shape U.program.declarations v ≡ type_shape U ty
group_shape_is U v ty r =
    let x : Variable = r.known.variable in
    let users : ℕ → Shape = user_shapes U.program.declarations in
    ap (declared_shape users) r.known.is_variable ∙ ap (shape_by users x.bounds) r.is_type ∙ group_unbounded U.program.declarations x.bounds ty r.covers

pub flat_group : (U : Upgrade) (v : ℕ) (ty : Ty) → IsGroup U v ty → IsFlatVariable U v
flat_group U v ty r = record {
  shape = subst (λ s. IsSoundShape U s) (sym (group_shape_is U v ty r)) r.sound;
  of_type =
      ap type_of_some r.known.is_variable ∙ ap (λ z. Some z) (r.is_type ∙ sym (group_type_of U.program.declarations ty r.covers))
      ∙ ap (λ s. Some (type_of_shape s)) (sym (group_shape_is U v ty r));
}

-- ---- where they stand

-- at a position, with the shape of the declaration
pub stands_as : (s : Shape) (a : Address) (q : Position) → a ≡ root s q → StandsAs s a q
stands_as (simple ty) a q e = inl e
stands_as (group t fs) a q e = e
stands_as (array f bounds) a q e = (bounds, e)
stands_as endless a q e = e

-- a class is no scalar
no_scalar : (D : Declarations) (ty : Ty) → covers_group_type D ty ≡ true → covers_type ty ≡ true → ⊥
no_scalar D (user t) c e = true≢false (sym e)
no_scalar D (class k) c e = true≢false (sym e)
no_scalar D _ c e = true≢false (sym c)

no_root : {s d : Shape} {p q : Position} {i : ℕ} → root s p ≡ item d q i [] → ⊥
no_root e = cc e

same_item : {s t : Ty} {p q : Position} {i j : ℕ} → item (simple s) p i [] ≡ item (simple t) q j [] → s ≡ t
same_item e = cc e

-- an element of an array is a scalar
no_group_item : (U : Upgrade) (ty : Ty) (a : Address) (q : Position) (i : ℕ) → IsTarget U a → covers_group_type U.program.declarations ty ≡ true
    → a ≡ item (simple ty) q i [] → ⊥
no_group_item U ty a q i (inl (inl x)) covers at = no_root (sym x.stands ∙ at)
no_group_item U ty a q i (inl (inr (inl x))) covers at = no_root (sym x.stands ∙ at)
no_group_item U ty a q i (inl (inr (inr x))) covers at = no_root (sym x.stands ∙ at)
no_group_item U ty a q i (inr x) covers at =
    no_scalar U.program.declarations ty covers (subst (λ z. covers_type z ≡ true) (same_item (sym x.stands ∙ at)) x.covers)

-- an object is no element
pub object_stands : (U : Upgrade) (ty : Ty) (a : Address) (q : Position) → covers_group_type U.program.declarations ty ≡ true → IsTarget U a
    → StandsAs (simple ty) a q → a ≡ root (simple ty) q
object_stands U ty a q covers target (inl e) = e
object_stands U ty a q covers target (inr x) = absurd (no_group_item U ty a q x.0 target covers x.1)

-- a user type or an object is no element
pub group_stands : (U : Upgrade) (s : Shape) (ty : Ty) (a : Address) (q : Position) → IsSoundShape U s → type_of_shape s ≡ ty
    → covers_group_type U.program.declarations ty ≡ true → IsTarget U a → StandsAs s a q → a ≡ root s q
group_stands U (simple ty) t a q sound is covers target h =
    object_stands U ty a q (subst (λ z. covers_group_type U.program.declarations z ≡ true) (sym is) covers) target h
group_stands U (group u fs) ty a q sound is covers target h = h
group_stands U (array e bounds) ty a q sound is covers target h = absurd sound
group_stands U endless ty a q sound is covers target h = absurd sound
