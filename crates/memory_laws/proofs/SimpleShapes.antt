-- Variables of scalars of covered types and of classes: what matches there is of the written shape, and is kept as it is.
use Rattle.std.proofs.Common.{◌≡◌, refl, sym, ap, subst, ◌∙◌, inl, inr, ℕ, ◌&&◌, Bool, true, nat_eq, None, Some, eq-eqb, eqb-true, true≢false}
use Rattle.vb_tree.specs.BoundTree.{Ty}
use Rattle.vb_tree.specs.BoundTree as types
use Rattle.vb_tree.specs.declared.value.Value6.{Value6}
use Rattle.vb_tree.specs.declared.value.Value6.TheVariants as v
use Rattle.bound_facts.specs.Locks.{is_same_type}
use Rattle.net_tree.specs.Types.{TypeName}
use Rattle.net_meaning.specs.declared.value.ValueN.{ValueN}
use Rattle.net_meaning.specs.ValueMatch.{Matches, no_object_of, objects_of}
use Rattle.vb6_run.specs.Shapes.{simple}
use Rattle.vb6_run.specs.Values.{if_of_shape, kept_as, scalar}
use Rattle.net_run.specs.Shapes as shape
use Rattle.net_run.specs.Shapes.{is_object, is_of}
use Rattle.net_run.specs.Values as net_value
use Rattle.run_matches.specs.Likeness.{SameShape, same_class, same_scalar, scalar_word}
use Rattle.run_matches.specs.SoundShapes.{IsClass, IsSoundShape}
use Rattle.run_matches.specs.Upgrades.{Upgrade}
use Rattle.memory_laws.proofs.Scalars.{covered_same, kept_scalar, scalar_of_word}

-- ---- types

pub number_itself : (t : ℕ) → nat_eq t t ≡ true
number_itself t = eq-eqb t t refl

pub type_itself : (ty : Ty) → is_same_type ty ty ≡ true
type_itself types.boolean = refl
type_itself types.byte = refl
type_itself types.integer = refl
type_itself types.long = refl
type_itself types.currency = refl
type_itself types.str = refl
type_itself (types.fixed units) = number_itself units
type_itself (types.user t) = number_itself t
type_itself (types.class k) = number_itself k
type_itself types.object = refl
type_itself types.variant = refl
type_itself (types.array e rank) = type_itself e
type_itself types.nothing = refl
type_itself types.unknown = refl

of_class : (s : Ty) (k : ℕ) → is_same_type s (types.class k) ≡ true → s ≡ types.class k
of_class (types.class j) k e = ap types.class (eqb-true j k e)
of_class _ k e = absurd (true≢false (sym e))

-- no word stands for a class
pub no_word : (U : Upgrade) (ty : Ty) (t : TypeName) → IsClass U ty → scalar_word ty ≡ Some t → ⊥
no_word U ty t c e = none t (sym (ap scalar_word c.2) ∙ e)
  where
    none : (t : TypeName) → None ≡ Some t → ⊥
    none t e = cc

-- ---- objects

module _ (same : ℕ → ℕ → Bool) where
  kept_object : (k : ℕ) (x : Value6) (y : ValueN) → Matches same (types.class k) x y
      → kept_as (simple (types.class k)) (scalar (types.class k) x) ≡ Some (scalar (types.class k) x)
  kept_object k _ _ (no_object_of _) = ap (λ b. if_of_shape (b && true) (scalar (types.class k) v.Nothing)) (number_itself k)
  kept_object k _ _ (objects_of _ i j e) = ap (λ b. if_of_shape (b && true) (scalar (types.class k) (v.Object i))) (number_itself k)

  object_matched : (k : ℕ) (x : Value6) (y : ValueN) → Matches same (types.class k) x y → is_object y ≡ true
  object_matched k _ _ (no_object_of _) = refl
  object_matched k _ _ (objects_of _ i j e) = refl

-- ---- both

module _ (U : Upgrade) where
  pub simple_same : (s ty : Ty) → IsSoundShape U (simple ty) → is_same_type s ty ≡ true → s ≡ ty
  simple_same s ty (inl c) e = covered_same s ty c e
  simple_same s ty (inr k) e = of_class s k.0 (subst (λ z. is_same_type s z ≡ true) k.2 e) ∙ sym k.2

  module _ (same : ℕ → ℕ → Bool) where
    pub kept_simple : (ty : Ty) (x : Value6) (y : ValueN) → IsSoundShape U (simple ty) → Matches same ty x y
        → kept_as (simple ty) (scalar ty x) ≡ Some (scalar ty x)
    kept_simple ty x y (inl c) m = kept_scalar same ty x y c m
    kept_simple ty x y (inr k) m =
        subst (λ z. kept_as (simple z) (scalar z x) ≡ Some (scalar z x)) (sym k.2) (kept_object same k.0 x y (subst (λ z. Matches same z x y) k.2 m))

    pub simple_suits : (ty : Ty) (d : shape.Shape) (x : Value6) (y : ValueN) → IsSoundShape U (simple ty) → SameShape U (simple ty) d
        → Matches same ty x y → is_of d (net_value.single y) ≡ true
    simple_suits _ _ x y (inl c) (same_scalar ty t word) m = scalar_of_word same ty x y t c word m
    simple_suits _ _ x y (inr k) (same_scalar ty t word) m = absurd (no_word U ty t k word)
    simple_suits _ _ x y c (same_class k home is) m = object_matched same k x y m
