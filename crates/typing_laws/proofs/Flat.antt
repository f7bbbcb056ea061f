-- Without objects what is covered is a scalar, an array, or a place of a user type: a variable of one, or a field of such a place.
use Rattle.std.proofs.Common.{◌≡◌, ◌⊎◌, inl, inr, refl, sym, ap, ◌∙◌, ℕ, Bool, true, false, ◌&&◌, ◌||◌, true≢false, List, [], ◌∷◌, None, Some}
use Rattle.up_base.proofs.Tests.{both_true, either}
use Rattle.vb_tree.specs.BoundTree as types
use Rattle.vb_tree.specs.BoundTree.{Ty}
use Rattle.vb_tree.specs.declared.declared.VarId.{VarId}
use Rattle.bound_tree.specs.Tree.{Expr, typed, Term, variable, field, call, convert, me, new_object, with_object, no_passed}
use Rattle.bound_tree.specs.Tree as tree
use Rattle.bound_facts.specs.Locks.{is_same_type}
use Rattle.bound_facts.specs.Node.{type_at}
use Rattle.run_matches.specs.CoveredVariables.{covers_type}
use Rattle.run_matches.specs.CoveredExprs.{Uses, covers_argument, covers_array, covers_base, covers_expr, covers_group, covers_group_term, covers_object, covers_operand, covers_place, has_inner, has_member, has_scalar, is_changeable, is_class_of, is_kept, is_nothing, is_passable, is_scalar_type, is_type}
use Rattle.run_matches.specs.CoveredLines.{covers_copy, covers_property, covers_property_term, covers_set, covers_set_member, covers_set_variable, covers_store, covers_stored, is_auto_target, is_member_ordered, is_ordered}
use Rattle.run_matches.specs.UserTypes.{is_class_type, is_user, is_user_of}
use Rattle.typing_laws.specs.Flat.{without_objects}

-- an array variable
pub record NamesArray (u : Uses) (e : Expr) : Type 0 where
  pub element : Ty
  pub rank : ℕ
  pub variable : VarId
  pub qualified : Bool
  pub is : e ≡ typed (types.array element rank) (tree.variable variable qualified)
  pub used : u.array variable element ≡ true

pub array_named : (u : Uses) (e : Expr) → covers_array u e ≡ true → NamesArray u e
array_named u (typed (types.array e rank) (variable v qualified)) h = record {
  element = e;
  rank = rank;
  variable = v;
  qualified = qualified;
  is = refl;
  used = (both_true (u.array v e) (u.named v qualified) h).0;
}
array_named u (typed (types.array e rank) _) h = absurd (true≢false (sym h))
array_named u (typed _ t) h = absurd (true≢false (sym h))

-- a scalar variable
pub variable_used : (u : Uses) (ty : Ty) (v : VarId) (qualified : Bool) → covers_expr u (typed ty (variable v qualified)) ≡ true → u.scalar v ≡ true
variable_used u ty v qualified h =
    (both_true (u.scalar v) (u.named v qualified) (both_true (covers_type ty) (u.scalar v && u.named v qualified) h).1).0

-- ---- places

no_both : (ty : Ty) → is_class_type ty ≡ true → is_user ty ≡ true → ⊥
no_both (types.class c) h i = true≢false (sym i)
no_both _ h i = true≢false (sym h)

inner_user : (u : Uses) (of ty : Ty) (k : ℕ) → has_inner u of k ty ≡ true → is_user ty ≡ true
inner_user u of (types.user t) k h = refl
inner_user u of _ k h = absurd (true≢false (sym h))

-- a place is of a user type
pub place_user : (u : Uses) (e : Expr) → covers_place (without_objects u) e ≡ true → is_user (type_at e) ≡ true
place_user u (typed ty (variable v qualified)) h =
    let vs : Uses = without_objects u in
    (both_true (is_user ty) (u.group v ty) (both_true (vs.group v ty) (vs.named v qualified) h).0).0
place_user u (typed ty (field e k)) h =
    inner_user (without_objects u) (type_at e) ty k
    (both_true (has_inner (without_objects u) (type_at e) k ty) (covers_base (without_objects u) e) h).0
place_user u (typed _ _) h = absurd (true≢false (sym h))

-- a variable that is one
pub group_used : (u : Uses) (ty : Ty) (v : VarId) (qualified : Bool) → covers_place (without_objects u) (typed ty (variable v qualified)) ≡ true → u.group v ty ≡ true
group_used u ty v qualified h =
    let vs : Uses = without_objects u in
    (both_true (is_user ty) (u.group v ty) (both_true (vs.group v ty) (vs.named v qualified) h).0).1

none_kept : (ty : Ty) → is_user_of (λ t. false) ty ≡ true → ⊥
none_kept (types.user t) h = true≢false (sym h)
none_kept _ h = true≢false (sym h)

no_kept : (u : Uses) (ty : Ty) (t : Term) → is_kept (without_objects u) ty t ≡ true → ⊥
no_kept u ty (with_object root) h = none_kept ty h
no_kept u ty _ h = true≢false (sym h)

base_place : (u : Uses) (e : Expr) → covers_base (without_objects u) e ≡ true → covers_place (without_objects u) e ≡ true
base_place u (typed ty t) h = by (either (is_kept (without_objects u) ty t) (covers_place (without_objects u) (typed ty t)) h)
  where
    by : (is_kept (without_objects u) ty t ≡ true) ⊎ (covers_place (without_objects u) (typed ty t) ≡ true) → covers_place (without_objects u) (typed ty t) ≡ true
    by (inl k) = absurd (no_kept u ty t k)
    by (inr p) = p

-- a field of a place, that is a place itself
pub record InnerUsed (u : Uses) (ty : Ty) (e : Expr) (k : ℕ) : Type 0 where
  pub user_type : ℕ
  pub of : type_at e ≡ types.user user_type
  pub place : covers_place (without_objects u) e ≡ true
  pub field : is_type ty (u.field_type user_type k) ≡ true

pub inner_used : (u : Uses) (ty : Ty) (e : Expr) (k : ℕ) → covers_place (without_objects u) (typed ty (field e k)) ≡ true → InnerUsed u ty e k
inner_used u ty e k h =
    let b = both_true (has_inner (without_objects u) (type_at e) k ty) (covers_base (without_objects u) e) h in
    by ty (type_at e) refl b.0 (base_place u e b.1)
  where
    by : (ty of : Ty) → type_at e ≡ of → has_inner (without_objects u) of k ty ≡ true → covers_place (without_objects u) e ≡ true → InnerUsed u ty e k
    by (types.user t) (types.user s) is i p = record { user_type = s; of = is; place = p; field = i }
    by (types.user t) _ is i p = absurd (true≢false (sym i))
    by _ of is i p = absurd (true≢false (sym i))

-- ---- objects

no_member : (u : Uses) (of : Ty) (k : ℕ) (test : Ty → Bool) → has_member (without_objects u) of k test ≡ true → ⊥
no_member u (types.class c) k test h = true≢false (sym h)
no_member u _ k test h = true≢false (sym h)

no_class : (ty : Ty) → is_class_of None ty ≡ true → ⊥
no_class (types.class c) h = true≢false (sym h)
no_class _ h = true≢false (sym h)

pub no_object_covered : (u : Uses) (e : Expr) → covers_object (without_objects u) e ≡ true → ⊥
no_object_covered u (typed ty (variable v qualified)) h =
    let vs : Uses = without_objects u in
    let a = both_true (is_class_type ty) ((vs.group v ty || false) && vs.named v qualified) h in
    by a.0
    (either (vs.group v ty) false (both_true (vs.group v ty || false) (vs.named v qualified) a.1).0)
  where
    by : is_class_type ty ≡ true → ((is_user ty && u.group v ty) ≡ true) ⊎ (false ≡ true) → ⊥
    by k (inl g) = no_both ty k (both_true (is_user ty) (u.group v ty) g).0
    by k (inr n) = true≢false (sym n)
no_object_covered u (typed ty me) h = no_class ty h
no_object_covered u (typed ty (with_object root)) h = true≢false (sym (both_true (is_class_type ty) false h).1)
no_object_covered u (typed ty (call p qualified of no_passed)) h = true≢false (sym (both_true (is_class_type ty) false h).1)
no_object_covered u (typed ty (field e k)) h =
    let a = both_true (is_class_type ty) (has_member (without_objects u) (type_at e) k (is_same_type ty) && covers_object (without_objects u) e) h in
    no_member u (type_at e) k (is_same_type ty)
    (both_true (has_member (without_objects u) (type_at e) k (is_same_type ty)) (covers_object (without_objects u) e) a.1).0
no_object_covered u (typed ty _) h = true≢false (sym h)

no_group_call : (u : Uses) (ty : Ty) (t : Term) → covers_group_term (without_objects u) ty t ≡ true → ⊥
no_group_call u ty (field e k) h = no_object_covered u (typed ty (field e k)) h
no_group_call u ty me h = no_object_covered u (typed ty me) h
no_group_call u ty (call p qualified of args) h = true≢false (sym h)
no_group_call u ty (convert to e) h = true≢false (sym h)
no_group_call u ty (new_object c) h = true≢false (sym (both_true (is_class_of (Some c.0) ty) false h).1)
no_group_call u ty _ h = true≢false (sym h)

pub group_place : (u : Uses) (e : Expr) → covers_group (without_objects u) e ≡ true → covers_place (without_objects u) e ≡ true
group_place u (typed ty t) h = by (either (covers_place (without_objects u) (typed ty t)) (covers_group_term (without_objects u) ty t) h)
  where
    by : (covers_place (without_objects u) (typed ty t) ≡ true) ⊎ (covers_group_term (without_objects u) ty t ≡ true) → covers_place (without_objects u) (typed ty t) ≡ true
    by (inl p) = p
    by (inr c) = absurd (no_group_call u ty t c)

-- what Is compares is Nothing itself
pub operand_nothing : (u : Uses) (e : Expr) → covers_operand (without_objects u) e ≡ true → is_nothing e ≡ true
operand_nothing u (typed ty t) h = by (either (is_nothing (typed ty t)) (is_class_type ty && covers_group (without_objects u) (typed ty t)) h)
  where
    by : (is_nothing (typed ty t) ≡ true) ⊎ (is_class_type ty && covers_group (without_objects u) (typed ty t) ≡ true) → is_nothing (typed ty t) ≡ true
    by (inl c) = c
    by (inr c) =
        let b = both_true (is_class_type ty) (covers_group (without_objects u) (typed ty t)) c in
        absurd (no_both ty b.0 (place_user u (typed ty t) (group_place u (typed ty t) b.1)))

-- ---- arguments

-- what goes by value is a scalar or a place
pub value_covered : (u : Uses) (e : Expr) → covers_argument (without_objects u) (tree.by_value e) ≡ true
    → (covers_expr (without_objects u) e ≡ true) ⊎ (covers_place (without_objects u) e ≡ true)
value_covered u e h = by (either (covers_expr (without_objects u) e) (covers_group (without_objects u) e) h)
  where
    by : (covers_expr (without_objects u) e ≡ true) ⊎ (covers_group (without_objects u) e ≡ true)
        → (covers_expr (without_objects u) e ≡ true) ⊎ (covers_place (without_objects u) e ≡ true)
    by (inl c) = inl c
    by (inr p) = inr (group_place u e p)

-- a scalar that is given by reference is changed, where it is a variable
pub record Referred (u : Uses) (e : Expr) : Type 0 where
  pub passes : is_passable (without_objects u) e ≡ true
  pub covers : covers_expr (without_objects u) e ≡ true

-- what goes by reference is a scalar, an array or a place
abbrev pub ReferenceKind : Uses → Expr → Type 0
ReferenceKind u e = Referred u e ⊎ (NamesArray (without_objects u) e ⊎ (covers_place (without_objects u) e ≡ true))

pub reference_covered : (u : Uses) (e : Expr) → covers_argument (without_objects u) (tree.by_reference e) ≡ true → ReferenceKind u e
reference_covered u e h =
    by (either (is_passable (without_objects u) e && covers_expr (without_objects u) e) (covers_array (without_objects u) e || covers_place (without_objects u) e) h)
  where
    whole : (covers_array (without_objects u) e ≡ true) ⊎ (covers_place (without_objects u) e ≡ true) → ReferenceKind u e
    whole (inl a) = inr (inl (array_named (without_objects u) e a))
    whole (inr p) = inr (inr p)

    by : (is_passable (without_objects u) e && covers_expr (without_objects u) e ≡ true) ⊎ (covers_array (without_objects u) e || covers_place (without_objects u) e ≡ true)
        → ReferenceKind u e
    by (inl c) =
        let b = both_true (is_passable (without_objects u) e) (covers_expr (without_objects u) e) c in
        inl (record { passes = b.0; covers = b.1 })
    by (inr a) = whole (either (covers_array (without_objects u) e) (covers_place (without_objects u) e) a)

-- ---- fields

-- a field of a place, that is a scalar
pub record FieldUsed (u : Uses) (e : Expr) (k : ℕ) : Type 0 where
  pub user_type : ℕ
  pub of : type_at e ≡ types.user user_type
  pub place : covers_place (without_objects u) e ≡ true
  pub scalar : is_scalar_type (u.field_type user_type k) ≡ true

pub field_used : (u : Uses) (ty : Ty) (e : Expr) (k : ℕ) → covers_expr (without_objects u) (typed ty (field e k)) ≡ true → FieldUsed u e k
field_used u ty e k c =
    let vs : Uses = without_objects u in
    let b = both_true (covers_type ty)
    ((has_scalar vs (type_at e) k && covers_base vs e) || (has_member vs (type_at e) k covers_type && covers_object vs e)) c in
    by (either (has_scalar vs (type_at e) k && covers_base vs e) (has_member vs (type_at e) k covers_type && covers_object vs e) b.1)
  where
    of_user : (of : Ty) → type_at e ≡ of → has_scalar (without_objects u) of k ≡ true → covers_place (without_objects u) e ≡ true → FieldUsed u e k
    of_user (types.user s) is h p = record { user_type = s; of = is; place = p; scalar = h }
    of_user _ is h p = absurd (true≢false (sym h))

    by : ((has_scalar (without_objects u) (type_at e) k && covers_base (without_objects u) e) ≡ true)
        ⊎ ((has_member (without_objects u) (type_at e) k covers_type && covers_object (without_objects u) e) ≡ true) → FieldUsed u e k
    by (inl h) =
        let b = both_true (has_scalar (without_objects u) (type_at e) k) (covers_base (without_objects u) e) h in
        of_user (type_at e) refl b.0 (base_place u e b.1)
    by (inr h) =
        absurd (no_member u (type_at e) k covers_type (both_true (has_member (without_objects u) (type_at e) k covers_type) (covers_object (without_objects u) e) h).0)

-- ---- assignments

user_no_class : (s : ℕ) (ty : Ty) → ty ≡ types.user s → is_class_type ty ≡ true → ⊥
user_no_class s ty is h = true≢false (sym h ∙ ap is_class_type is)

no_member_ordered : (u : Uses) (to e : Expr) → covers_expr (without_objects u) to ≡ true → is_member_ordered (without_objects u) to e ≡ true → ⊥
no_member_ordered u (typed ty (field d k)) e c h =
    let f : FieldUsed u d k = field_used u ty d k c in
    user_no_class f.user_type (type_at d) f.of (both_true (is_class_type (type_at d)) _ h).0
no_member_ordered u (typed ty _) e c h = true≢false (sym h)

-- no property takes a value
no_property : (u : Uses) (to e : Expr) → covers_property (without_objects u) to e ≡ true → ⊥
no_property u (typed ty t) e h = by t (both_true (is_same_type ty (type_at e)) (covers_property_term (without_objects u) t e) h).1
  where
    by : (t : Term) → covers_property_term (without_objects u) t e ≡ true → ⊥
    by (call p qualified of args) c = true≢false (sym c)
    by _ c = true≢false (sym c)

-- an assignment of a scalar to a variable that is changed, to a field of one, or to an element
pub record Stored (u : Uses) (to e : Expr) : Type 0 where
  pub kind : (is_changeable (without_objects u) to ≡ true) ⊎ (is_ordered (without_objects u) to e ≡ true)
  pub target : covers_expr (without_objects u) to ≡ true
  pub value : covers_expr (without_objects u) e ≡ true

-- an assignment of a place to another of its type, as a whole
pub record Copied (u : Uses) (to e : Expr) : Type 0 where
  pub user : is_user (type_at to) ≡ true
  pub same : is_same_type (type_at to) (type_at e) ≡ true
  pub target : covers_place (without_objects u) to ≡ true
  pub value : covers_place (without_objects u) e ≡ true

pub stored_of : (u : Uses) (to e : Expr) → covers_store (without_objects u) (to ∷ e ∷ []) ≡ true → Stored u to e ⊎ Copied u to e
stored_of u to e h = whole (either (covers_stored vs to e) (covers_property vs to e) h)
  where
    vs : Uses
    vs = without_objects u

    stores : Bool
    stores = is_changeable vs to || (is_ordered vs to e || is_member_ordered vs to e)

    parts : Bool
    parts = covers_expr vs to && covers_expr vs e

    kinds : (is_changeable vs to ≡ true) ⊎ ((is_ordered vs to e || is_member_ordered vs to e) ≡ true) → covers_expr vs to ≡ true
        → (is_changeable vs to ≡ true) ⊎ (is_ordered vs to e ≡ true)
    kinds (inl c) t = inl c
    kinds (inr c) t = ordered (either (is_ordered vs to e) (is_member_ordered vs to e) c)
      where
        ordered : (is_ordered vs to e ≡ true) ⊎ (is_member_ordered vs to e ≡ true) → (is_changeable vs to ≡ true) ⊎ (is_ordered vs to e ≡ true)
        ordered (inl o) = inr o
        ordered (inr o) = absurd (no_member_ordered u to e t o)

    by : (stores && parts ≡ true) ⊎ (covers_copy vs to e ≡ true) → Stored u to e ⊎ Copied u to e
    by (inl a) =
        let x = both_true stores parts a in
        let y = both_true (covers_expr vs to) (covers_expr vs e) x.1 in
        inl (record { kind = kinds (either (is_changeable vs to) (is_ordered vs to e || is_member_ordered vs to e) x.0) y.0; target = y.0; value = y.1 })
    by (inr b) =
        let is = both_true (is_user (type_at to))
        (is_changeable vs to && (is_same_type (type_at to) (type_at e) && (covers_place vs to && covers_group vs e))) b in
        let x = both_true (is_changeable vs to) (is_same_type (type_at to) (type_at e) && (covers_place vs to && covers_group vs e)) is.1 in
        let y = both_true (is_same_type (type_at to) (type_at e)) (covers_place vs to && covers_group vs e) x.1 in
        let z = both_true (covers_place vs to) (covers_group vs e) y.1 in
        inr (record { user = is.0; same = y.0; target = z.0; value = group_place u e z.1 })

    whole : (covers_stored vs to e ≡ true) ⊎ (covers_property vs to e ≡ true) → Stored u to e ⊎ Copied u to e
    whole (inl c) = by (either (stores && parts) (covers_copy vs to e) c)
    whole (inr p) = absurd (no_property u to e p)

no_auto_target : (u : Uses) (e : Expr) → is_auto_target (without_objects u) e ≡ true → ⊥
no_auto_target u (typed ty (variable v qualified)) h = true≢false (sym h)
no_auto_target u (typed ty _) h = true≢false (sym h)

no_set_variable : (u : Uses) (to e : Expr) → is_class_type (type_at to) ≡ true → covers_set_variable (without_objects u) to e ≡ true → ⊥
no_set_variable u to e k h = by (either (is_changeable vs to && kept) (is_auto_target vs to && same) h)
  where
    vs : Uses
    vs = without_objects u

    kept : Bool
    kept = is_same_type (type_at to) (type_at e) && (covers_place vs to && covers_group vs e)

    same : Bool
    same = is_same_type (type_at to) (type_at e) && covers_group vs e

    by : (is_changeable vs to && kept ≡ true) ⊎ (is_auto_target vs to && same ≡ true) → ⊥
    by (inl c) =
        let x = both_true (is_same_type (type_at to) (type_at e)) (covers_place vs to && covers_group vs e) (both_true (is_changeable vs to) kept c).1 in
        no_both (type_at to) k (place_user u to (both_true (covers_place vs to) (covers_group vs e) x.1).0)
    by (inr a) = no_auto_target u to (both_true (is_auto_target vs to) same a).0

-- no Set is covered
pub no_set : (u : Uses) (es : List Expr) → covers_set (without_objects u) es ≡ true → ⊥
no_set u [] h = true≢false (sym h)
no_set u (to ∷ []) h = true≢false (sym h)
no_set u (to ∷ e ∷ d ∷ es) h = true≢false (sym h)
no_set u (to ∷ e ∷ []) h = whole (either (is_class_type (type_at to) && sets) (covers_property (without_objects u) to e) h)
  where
    sets : Bool
    sets = covers_set_variable (without_objects u) to e || covers_set_member (without_objects u) to e

    by : is_class_type (type_at to) ≡ true → (covers_set_variable (without_objects u) to e ≡ true) ⊎ (covers_set_member (without_objects u) to e ≡ true) → ⊥
    by k (inl c) = no_set_variable u to e k c
    by k (inr c) =
        let vs : Uses = without_objects u in
        let x = both_true (is_member_ordered vs to e) (is_same_type (type_at to) (type_at e) && (covers_object vs to && covers_group vs e)) c in
        let y = both_true (is_same_type (type_at to) (type_at e)) (covers_object vs to && covers_group vs e) x.1 in
        no_object_covered u to (both_true (covers_object vs to) (covers_group vs e) y.1).0

    whole : (is_class_type (type_at to) && sets ≡ true) ⊎ (covers_property (without_objects u) to e ≡ true) → ⊥
    whole (inl c) =
        let b = both_true (is_class_type (type_at to)) sets c in
        by b.0 (either (covers_set_variable (without_objects u) to e) (covers_set_member (without_objects u) to e) b.1)
    whole (inr p) = no_property u to e p
