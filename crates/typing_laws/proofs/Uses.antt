-- Variables that covered expressions use, each at an address where it stands.
use Rattle.std.proofs.Common.{◌≡◌, ◌⊎◌, inl, inr, refl, sym, ap, ◌∙◌, ℕ, Bool, true, false, cond, not, ◌&&◌, nat_eq, eqb-true, subst, true≢false, List, [], ◌∷◌, Option, Some, None}
use Rattle.std.specs.Prelude.{slice_get}
use Rattle.std.specs.List.{list_any}
use Rattle.up_base.proofs.Tests.{both_true, not_true}
use Rattle.vb_tree.specs.BoundTree as types
use Rattle.vb_tree.specs.BoundTree.{Ty}
use Rattle.vb_tree.specs.declared.declared.Owner.{Owner}
use Rattle.vb_tree.specs.declared.declared.Owner.TheVariants as owner
use Rattle.vb_tree.specs.declared.declared.VarId.{VarId}
use Rattle.bound_tree.specs.declared.body.Mention.{Mention}
use Rattle.bound_tree.specs.Tree.{Variable, Declarations, Program}
use Rattle.bound_facts.specs.Node.{auto_class, class_in}
use Rattle.vb6_run.specs.Programs.{is_module_variable}
use Rattle.vb6_run.specs.Runnables.{declared_address, is_class_file, object_root, root_address, variable_address}
use Rattle.run_base.specs.Positions.{shared}
use Rattle.vb6_run.specs.Shapes.{variable_shape}
use Rattle.vb6_run.specs.Store.{Address, Memory, SourceFrame, root}
use Rattle.run_matches.specs.CoveredVariables.{belongs_to, covers_array_owner, covers_array_use, covers_array_variable, covers_bounds, covers_group_type, covers_group_use, covers_group_variable, covers_owner, covers_some, covers_some_array, covers_some_group, covers_type, covers_use, covers_user, covers_variable, is_array_of, is_class_member, is_loud, is_mention_of, is_named_apart, is_of_class, is_reached}
use Rattle.run_matches.specs.Covered.{is_answer_of}
use Rattle.run_matches.specs.Shared.{is_alone_static}
use Rattle.run_matches.specs.UserTypes.{is_user}
use Rattle.bound_facts.specs.Locks.{is_same_type}
use Rattle.typing_laws.specs.Frames.{Footprint, HasOwn, IsPlace, IsSound, ground, shared_place}
use Rattle.typing_laws.specs.Flat.{has_flat_variables, is_flat, is_flat_in, stands_outside, is_loud_variable}
use Rattle.typing_laws.proofs.Made.{FlatKind, array_flat, array_type, flat_kinds, scalar_flat, shape_of_variable}
use Rattle.typing_laws.proofs.Places.{all_at}

-- a variable that a line of a procedure uses: one of a standard module, or its own
pub record Used (D : Declarations) (p : ℕ) (v : VarId) : Type 0 where
  pub variable : Variable
  pub is_variable : slice_get D.vars v.0 ≡ Some variable
  pub owned : (is_module_variable D variable.owner ≡ true) ⊎ (belongs_to p variable.owner ≡ true)
  pub covers : covers_type variable.ty ≡ true
  pub plain : auto_class (slice_get D.vars v.0) ≡ None

-- what is no variable of a class is one of a standard module, where it is one of a module
owner_reached : (D : Declarations) (p v : ℕ) (name : List ℕ) (o : Owner) → not (is_of_class D o) ≡ true → is_reached D p v name o ≡ true → covers_owner o ≡ true
    → (is_module_variable D o ≡ true) ⊎ (belongs_to p o ≡ true)
owner_reached D p v name (owner.Module file) out h c = inl out
owner_reached D p v name (owner.Local q) out h c = inr h
owner_reached D p v name (owner.Static q) out h c = inr (both_true (nat_eq p q.0) (is_alone_static D p v name) h).0
owner_reached D p v name (owner.Value q) out h c = inr h
owner_reached D p v name (owner.Reference q) out h c = inr h
owner_reached D p v name (owner.Answer q) out h c = inr h
owner_reached D p v name (owner.Field t) out h c = absurd (true≢false (sym c))

scalar_plain : (D : Declarations) (v : VarId) (x : Variable) → slice_get D.vars v.0 ≡ Some x → covers_variable x ≡ true → auto_class (slice_get D.vars v.0) ≡ None
scalar_plain D v x is h =
    let b = both_true (covers_owner x.owner) (covers_type x.ty && not x.auto) h in
    ap auto_class is ∙ ap (λ t. cond t (class_in x.ty) None) (not_true x.auto (both_true (covers_type x.ty) (not x.auto) b.1).1)

use_in : (D : Declarations) (p : ℕ) (v : VarId) (o : Option Variable) → slice_get D.vars v.0 ≡ o → not (is_class_member D o) ≡ true
    → covers_some D p v.0 o ≡ true → Used D p v
use_in D p v None is out h = absurd (true≢false (sym h))
use_in D p v (Some x) is out h =
    let a = both_true (is_reached D p v.0 x.name x.owner) (covers_variable x) h in
    let b = both_true (covers_owner x.owner) (covers_type x.ty && not x.auto) a.1 in
    record {
      variable = x;
      is_variable = is;
      owned = owner_reached D p v.0 x.name x.owner out a.0 b.0;
      covers = (both_true (covers_type x.ty) (not x.auto) b.1).0;
      plain = scalar_plain D v x is a.1;
    }

pub use_is : (P : Program) (p : ℕ) (mentions : List Mention) (v : VarId) → covers_use P p mentions v && stands_outside P.declarations v ≡ true
    → Used P.declarations p v
use_is P p mentions v h =
    let D : Declarations = P.declarations in
    let o = slice_get D.vars v.0 in
    let a = both_true (covers_use P p mentions v) (stands_outside D v) h in
    use_in D p v o refl a.1 (both_true (list_any (is_mention_of v) mentions) (covers_some D p v.0 o) a.0).1

-- no As New variable is covered
pub use_plain : (P : Program) (p : ℕ) (mentions : List Mention) (v : VarId) → covers_use P p mentions v ≡ true
    → auto_class (slice_get P.declarations.vars v.0) ≡ None
use_plain P p mentions v h =
    by (slice_get P.declarations.vars v.0) refl
    (both_true (list_any (is_mention_of v) mentions) (covers_some P.declarations p v.0 (slice_get P.declarations.vars v.0)) h).1
  where
    by : (o : Option Variable) → slice_get P.declarations.vars v.0 ≡ o → covers_some P.declarations p v.0 o ≡ true
        → auto_class (slice_get P.declarations.vars v.0) ≡ None
    by None is c = absurd (true≢false (sym c))
    by (Some x) is c =
        scalar_plain P.declarations v x is (both_true (is_reached P.declarations p v.0 x.name x.owner) (covers_variable x) c).1

-- an array that a line of a procedure uses
pub record UsedArray (D : Declarations) (p : ℕ) (v : VarId) (e : Ty) : Type 0 where
  pub variable : Variable
  pub is_variable : slice_get D.vars v.0 ≡ Some variable
  pub owned : (is_module_variable D variable.owner ≡ true) ⊎ (belongs_to p variable.owner ≡ true)
  pub flat : is_flat D variable ≡ true
  pub rank : ℕ
  pub is_type : variable.ty ≡ types.array e rank
  pub plain : auto_class (slice_get D.vars v.0) ≡ None

array_owner : (o : Owner) → covers_array_owner o ≡ true → covers_owner o ≡ true
array_owner (owner.Module file) h = refl
array_owner (owner.Local p) h = refl
array_owner (owner.Static p) h = refl
array_owner (owner.Reference p) h = refl
array_owner (owner.Value p) h = refl
array_owner (owner.Answer p) h = refl
array_owner (owner.Field t) h = absurd (true≢false (sym h))

array_in : (D : Declarations) (p : ℕ) (v : VarId) (e : Ty) (o : Option Variable) → slice_get D.vars v.0 ≡ o → not (is_class_member D o) ≡ true
    → covers_some_array D p v.0 e o ≡ true → UsedArray D p v e
array_in D p v e None is out h = absurd (true≢false (sym h))
array_in D p v e (Some x) is out h =
    let named = is_named_apart (slice_get D.procs p) x.name in
    let a = both_true (is_reached D p v.0 x.name x.owner) (covers_array_variable e x && named) h in
    let b = both_true (covers_array_variable e x) named a.1 in
    let rest = covers_type e && (is_array_of e x.ty && (covers_bounds x.ty x.bounds && not x.auto)) in
    let owner = both_true (covers_array_owner x.owner) rest b.0 in
    let t = array_type x e b.0 in
    record {
      variable = x;
      is_variable = is;
      owned = owner_reached D p v.0 x.name x.owner out a.0 (array_owner x.owner owner.0);
      flat = array_flat D x e b.0;
      rank = t.0;
      is_type = t.1;
      plain = ap auto_class is ∙ ap (λ s. cond x.auto (class_in s) None) t.1 ∙ none_of x.auto;
    }
  where
    none_of : (b : Bool) → cond {A = Option ℕ} b None None ≡ None
    none_of true = refl
    none_of false = refl

pub array_use_is : (P : Program) (p : ℕ) (mentions : List Mention) (v : VarId) (e : Ty)
    → (covers_array_use P p mentions v e && is_loud_variable P v) && stands_outside P.declarations v ≡ true → UsedArray P.declarations p v e × (is_loud P v.0 (slice_get P.declarations.vars v.0) ≡ true)
array_use_is P p mentions v e h =
    let D : Declarations = P.declarations in
    let o = slice_get D.vars v.0 in
    let used = both_true (covers_array_use P p mentions v e && is_loud_variable P v) (stands_outside D v) h in
    let a = both_true (covers_array_use P p mentions v e) (is_loud_variable P v) used.0 in
    let b = both_true (list_any (is_mention_of v) mentions) (covers_some_array D p v.0 e o) a.0 in
    (array_in D p v e o refl used.1 b.1, a.1)

-- ---- addresses

-- a variable of a standard module
module_address : (D : Declarations) (f : SourceFrame) (v : ℕ) (x : Variable) → slice_get D.vars v ≡ Some x → is_module_variable D x.owner ≡ true
    → variable_address D f v ≡ Some (root (variable_shape D v) (shared_place v))
module_address D f v x is outer = ap (λ o. declared_address D f v o) is ∙ by x.owner outer
  where
    by : (o : Owner) → is_module_variable D o ≡ true → declared_address D f v (Some (record x { owner = o })) ≡ Some (root (variable_shape D v) (shared_place v))
    by (owner.Module file) h =
        ap (λ b. root_address D v (cond b (object_root f.me v) (Some (shared (v ∷ []))))) (not_true (is_class_file D file) h)
    by (owner.Local q) h = absurd (true≢false (sym h))
    by (owner.Static q) h = absurd (true≢false (sym h))
    by (owner.Value q) h = absurd (true≢false (sym h))
    by (owner.Reference q) h = absurd (true≢false (sym h))
    by (owner.Answer q) h = absurd (true≢false (sym h))
    by (owner.Field t) h = absurd (true≢false (sym h))

-- where a variable stands in a frame
abbrev pub PlaceOf : Program → Footprint → SourceFrame → Memory → (variable : ℕ) → Variable → Type 0
PlaceOf P F f w v x = (a : Address) × (variable_address P.declarations f v ≡ Some a) × IsPlace P F w v x a

pub flat_place : (P : Program) (F : Footprint) (p : ℕ) (f : SourceFrame) (w : Memory) → IsSound (ground P.declarations F) w → HasOwn P F p w f → (v : ℕ) (x : Variable)
    → slice_get P.declarations.vars v ≡ Some x → (is_module_variable P.declarations x.owner ≡ true) ⊎ (belongs_to p x.owner ≡ true) → is_flat P.declarations x ≡ true
    → PlaceOf P F f w v x
flat_place P F p f w sound own v x is (inr h) flat = own v x is h flat
flat_place P F p f w sound own v x is (inl h) flat = (
  root (variable_shape P.declarations v) (shared_place v),
  module_address P.declarations f v x is h,
  (shape_of_variable P.declarations v x is flat, sound.modules v x is h flat),
)

pub place_of : (P : Program) (F : Footprint) (p : ℕ) (f : SourceFrame) (w : Memory) → IsSound (ground P.declarations F) w → HasOwn P F p w f → (v : VarId)
    (u : Used P.declarations p v) → PlaceOf P F f w v.0 u.variable
place_of P F p f w sound own v u = flat_place P F p f w sound own v.0 u.variable u.is_variable u.owned (scalar_flat P.declarations u.variable u.covers)

-- ---- variables of a covered procedure

pub own_flat : (P : Program) (p v : ℕ) (x : Variable) → has_flat_variables P p ≡ true → slice_get P.declarations.vars v ≡ Some x
    → belongs_to p x.owner ≡ true → is_flat P.declarations x ≡ true
own_flat P p v x covers is own =
    sym (ap (λ b. cond b (is_flat P.declarations x) true) own)
    ∙ all_at (λ (y : Variable). cond (belongs_to p y.owner) (is_flat P.declarations y) true) P.declarations.vars v x covers is

-- a result variable is no array
pub answer_single : (D : Declarations) (p : ℕ) (x : Variable) → is_answer_of p x.owner ≡ true → is_flat D x ≡ true → (covers_type x.ty ≡ true) ⊎ (is_user x.ty ≡ true)
answer_single D p x is flat = by (flat_kinds D x flat)
  where
    no_array : (o : Owner) → is_answer_of p o ≡ true → covers_array_owner o ≡ true → ⊥
    no_array (owner.Answer q) h i = true≢false (sym i)
    no_array _ h i = true≢false (sym h)

    by : FlatKind D x → (covers_type x.ty ≡ true) ⊎ (is_user x.ty ≡ true)
    by (inl c) = inl c
    by (inr (inl a)) = absurd (no_array x.owner is a.owned)
    by (inr (inr u)) = inr (ap is_user u.is_type)

-- ---- variables of user types

-- a variable of a user type that a line of a procedure uses
pub record UsedGroup (P : Program) (p : ℕ) (v : VarId) (ty : Ty) : Type 0 where
  pub variable : Variable
  pub is_variable : slice_get P.declarations.vars v.0 ≡ Some variable
  pub owned : (is_module_variable P.declarations variable.owner ≡ true) ⊎ (belongs_to p variable.owner ≡ true)
  pub user_type : ℕ
  pub type_is : ty ≡ types.user user_type
  pub is_type : variable.ty ≡ types.user user_type
  pub covers : covers_user P.declarations user_type ≡ true
  pub plain : auto_class (slice_get P.declarations.vars v.0) ≡ None
  pub loud : is_loud P v.0 (Some variable) ≡ true
  pub flat : is_flat P.declarations variable ≡ true

same_user : (D : Declarations) (s t : Ty) → is_user s ≡ true → is_same_type s t ≡ true → covers_group_type D t ≡ true
    → (k : ℕ) × (s ≡ types.user k) × (t ≡ types.user k) × (covers_user D k ≡ true)
same_user D (types.user a) (types.user b) u h c =
    let e : a ≡ b = eqb-true a b h in
    (a, refl, ap types.user (sym e), subst (λ n. covers_user D n ≡ true) (sym e) c)
same_user D (types.user a) _ u h c = absurd (true≢false (sym h))
same_user D _ t u h c = absurd (true≢false (sym u))

group_in : (P : Program) (p : ℕ) (v : VarId) (ty : Ty) (o : Option Variable) → slice_get P.declarations.vars v.0 ≡ o → is_user ty ≡ true
    → not (is_class_member P.declarations o) ≡ true → covers_some_group P.declarations p v.0 ty o ≡ true → is_loud P v.0 o ≡ true
    → is_flat_in P.declarations o ≡ true → UsedGroup P p v ty
group_in P p v ty None is user out h loud flat = absurd (true≢false (sym h))
group_in P p v ty (Some x) is user out h loud flat =
    let D : Declarations = P.declarations in
    let a = both_true (is_reached D p v.0 x.name x.owner) (is_same_type ty x.ty && covers_group_variable D x) h in
    let b = both_true (is_same_type ty x.ty) (covers_group_variable D x) a.1 in
    let c = both_true (covers_owner x.owner) (covers_group_type D x.ty && not x.auto) b.1 in
    let d = both_true (covers_group_type D x.ty) (not x.auto) c.1 in
    let k = same_user D ty x.ty user b.0 d.0 in
    record {
      variable = x;
      is_variable = is;
      owned = owner_reached D p v.0 x.name x.owner out a.0 c.0;
      user_type = k.0;
      type_is = k.1;
      is_type = k.2;
      covers = k.3;
      plain = ap auto_class is ∙ ap (λ t. cond t (class_in x.ty) None) (not_true x.auto d.1);
      loud = loud;
      flat = flat;
    }

pub group_use_is : (P : Program) (p : ℕ) (mentions : List Mention) (v : VarId) (ty : Ty) → is_user ty ≡ true
    → (covers_group_use P p mentions v ty && is_loud_variable P v) && (stands_outside P.declarations v && is_flat_in P.declarations (slice_get P.declarations.vars v.0)) ≡ true → UsedGroup P p v ty
group_use_is P p mentions v ty user h =
    let D : Declarations = P.declarations in
    let o = slice_get D.vars v.0 in
    let used = both_true (covers_group_use P p mentions v ty && is_loud_variable P v) (stands_outside D v && is_flat_in D o) h in
    let stands = both_true (stands_outside D v) (is_flat_in D o) used.1 in
    let a = both_true (covers_group_use P p mentions v ty) (is_loud_variable P v) used.0 in
    let b = both_true (list_any (is_mention_of v) mentions) (covers_some_group D p v.0 ty o) a.0 in
    group_in P p v ty o refl user stands.0 b.1 a.1 stands.1
