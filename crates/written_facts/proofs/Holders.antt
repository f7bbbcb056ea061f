-- The user types that hold arrays, or what has to be made, by the definition of what is written.
use Rattle.std.proofs.Common.{◌≡◌, ℕ, suc, Bool, List, [], ◌∷◌, ◌++◌, length, refl, ap, subst, ◌∙◌, Some, None}
use Rattle.std.specs.Prelude.{◌||◌, ◌↔◌, IsTrue, Option, slice_get}
use Rattle.std.specs.List.{flat_map, list_any}
use Rattle.vb_tree.specs.BoundTree.{Ty, boolean, byte, integer, long, currency, str, fixed, user, class, object, variant, array, nothing, unknown}
use Rattle.vb_tree.specs.declared.declared.VarId.{VarId}
use Rattle.bound_tree.specs.declared.declared.TypeDecl.{TypeDecl}
use Rattle.bound_tree.specs.Tree.{Variable, Declarations}
use Rattle.bound_facts.specs.Leading.{LeadsTo}
use Rattle.bound_facts.specs.Locks.{field_types, type_of_variable, type_pairs}
use Rattle.array_bounds.specs.Types as found
use Rattle.written_trees.specs.Facts.{Holds, is_made_type, types_with}

pub same_made : (ty : Ty) → found.is_made ty ≡ is_made_type ty
same_made boolean = refl
same_made byte = refl
same_made integer = refl
same_made long = refl
same_made currency = refl
same_made str = refl
same_made (fixed n) = refl
same_made (user t) = refl
same_made (class c) = refl
same_made object = refl
same_made variant = refl
same_made (array ty rank) = refl
same_made nothing = refl
same_made unknown = refl

module _ (D : Declarations) (test other : Ty → Bool) (same : (ty : Ty) → test ty ≡ other ty) where
  any_first : (o : Option Variable) (more : List Ty) → (found.is_field_that test o || list_any other more) ≡ list_any other (type_of_variable o ++ more)
  any_first None more = refl
  any_first (Some v) more = ap (λ b. b || list_any other more) (same v.ty)

  any_field : (fields : List VarId) → found.has_field D.vars test fields ≡ list_any other (flat_map (λ (f : VarId). type_of_variable (slice_get D.vars f.0)) fields)
  any_field [] = refl
  any_field (f ∷ fs) =
      ap (λ b. found.is_field_that test (slice_get D.vars f.0) || b) (any_field fs)
      ∙ any_first (slice_get D.vars f.0) (flat_map (λ (g : VarId). type_of_variable (slice_get D.vars g.0)) fs)

  same_types : (t : ℕ) (ds : List TypeDecl) → found.those_from D.vars test t ds ≡ types_with D other t ds
  same_types t [] = refl
  same_types t (d ∷ ds) =
      ap (λ b. found.number_if t b ++ found.those_from D.vars test (suc t) ds) (any_field d.fields)
      ∙ ap (λ (ts : List ℕ). found.number_if t (list_any other (field_types D d)) ++ ts) (same_types (suc t) ds)

  pub same_holders : (b : Bool) (t : ℕ) → IsTrue b ↔ found.Holds D test t → IsTrue b ↔ Holds D other t
  same_holders b t = subst (λ (ts : List ℕ). IsTrue b ↔ LeadsTo (length D.types) (type_pairs D) ts t) (same_types 0 D.types)
