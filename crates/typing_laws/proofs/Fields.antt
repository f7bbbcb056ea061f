-- Places of user types, and the scalars that are fields of such: where they stand, what is read there, and fields as arguments by reference.
use Rattle.std.proofs.Common.{◌≡◌, refl, sym, ap, ◌∙◌, subst, ℕ, zero, suc, Bool, true, false, cond, not, ◌&&◌, ◌||◌, eqb-true, true≢false, List, [], ◌∷◌, map, Option, Some, None}
use Rattle.std.specs.Prelude.{option_map, slice_get}
use Rattle.std.specs.List.{list_any}
use Rattle.up_base.proofs.Tests.{both_true}
use Rattle.vb_tree.specs.BoundTree as types
use Rattle.vb_tree.specs.BoundTree.{Ty}
use Rattle.vb_tree.specs.declared.declared.VarId.{VarId}
use Rattle.bound_tree.specs.declared.body.Mention.{Mention}
use Rattle.bound_tree.specs.declared.declared.TypeDecl.{TypeDecl}
use Rattle.bound_tree.specs.Tree.{Declarations, Expr, Program, Variable, field, typed, variable}
use Rattle.bound_tree.specs.Tree as tree
use Rattle.bound_facts.specs.Locks.{is_same_type}
use Rattle.bound_facts.specs.Members.{at_option, field_of, type_fields}
use Rattle.bound_facts.specs.Node.{auto_class, class_in, is_array_type, is_object_type, type_at, variable_number}
use Rattle.run_base.specs.Frames.{by_address}
use Rattle.run_base.specs.Outcomes.{after, gives, some_of, then}
use Rattle.run_base.specs.Positions.{Position, inner}
use Rattle.written_trees.specs.Arguments.{is_reference_owner}
use Rattle.vb6_run.specs.Expressions.{Context, at_address, argument_of, as_new, declared, field_parts, given_address, given_parts, goes_by_address, is_object_field, made_for, parts_of, value_in, value_of}
use Rattle.vb6_run.specs.Runnables.{variable_address}
use Rattle.vb6_run.specs.Shapes.{Shape, Shapes, group, simple}
use Rattle.vb6_run.specs.Store.{Address, Memory, constant, item, read, root}
use Rattle.vb6_run.specs.Values.{Value, scalar}
use Rattle.run_matches.specs.CoveredVariables.{covers_type, field_type_of, is_mention_of}
use Rattle.run_matches.specs.CoveredExprs.{Uses, covers_expr, covers_place, is_scalar_type, is_type}
use Rattle.run_matches.specs.Pledges.{type_of_shape}
use Rattle.run_matches.specs.Upgrades.{is_unknown, type_of_some}
use Rattle.run_matches.specs.UserTypes.{is_user}
use Rattle.typing_laws.specs.Calls.{SourceJob}
use Rattle.typing_laws.specs.Flat.{flat_uses, has_field_type, outer_uses}
use Rattle.typing_laws.specs.Frames.{Fills, Footprint, Ground, IsGiven, IsPlace, Stands, ground}
use Rattle.typing_laws.specs.Leaving.{Leaves}
use Rattle.typing_laws.specs.Plain.{AreShapesOf, Holds, IsShapeOf, scalar_shape, user_shape}
use Rattle.typing_laws.specs.Typed.{has_type}
use Rattle.typing_laws.proofs.Addresses.{root_read, simple_is}
use Rattle.typing_laws.proofs.Ends.{Ends, keeps_self}
use Rattle.typing_laws.proofs.Expressions.{Fits, IsTyped, or_true, value_read, variable_is}
use Rattle.typing_laws.proofs.Flat.{FieldUsed, InnerUsed, field_used, group_used, inner_used, place_user}
use Rattle.typing_laws.proofs.Found.{IsFieldAt}
use Rattle.typing_laws.proofs.Held.{Single, single_of, table_of}
use Rattle.typing_laws.proofs.Places.{not_none, some_is}
use Rattle.typing_laws.proofs.Plain.{same_as}
use Rattle.typing_laws.proofs.UserTypes.{FieldShape, field_at, field_stands, shape_type}
use Rattle.typing_laws.proofs.Uses.{PlaceOf, UsedGroup, flat_place, group_use_is}

-- ---- declarations of fields

-- a user type with its fields
record IsGroup (D : Declarations) (t : ℕ) (d : Shape) : Type 0 where
  declaration : TypeDecl
  shapes : Shapes
  is : d ≡ group t shapes
  declares : slice_get D.types t ≡ Some declaration
  fits : AreShapesOf D declaration.fields shapes

group_of : (D : Declarations) (t : ℕ) (d : Shape) → IsShapeOf D (types.user t) d → IsGroup D t d
group_of D _ _ (user_shape t d fs is of) = record { declaration = d; shapes = fs; is = refl; declares = is; fits = of }
group_of D t _ (scalar_shape ty c) = absurd (true≢false (sym c))

mapped_at : (vs : List VarId) (k v : ℕ) → slice_get (map (λ (f : VarId). f.0) vs) k ≡ Some v → (f : VarId) × (slice_get vs k ≡ Some f) × (f.0 ≡ v)
mapped_at [] k v e = absurd (not_none e)
mapped_at (f ∷ vs) zero v e = (f, refl, some_is e)
mapped_at (f ∷ vs) (suc k) v e = mapped_at vs k v e

-- a field with its declaration
pub record IsField (D : Declarations) (t k : ℕ) (ty : Ty) : Type 0 where
  pub number : ℕ
  pub variable : Variable
  pub declares : field_of D (types.user t) k ≡ Some number
  pub is_variable : slice_get D.vars number ≡ Some variable
  pub is_type : variable.ty ≡ ty

-- the type of a field that is mentioned
mentioned : (D : Declarations) (mentions : List Mention) (t k : ℕ) (ty : Ty) (o : Option ℕ) → field_of D (types.user t) k ≡ o → field_type_of D mentions o ≡ Some ty
    → IsField D t k ty
mentioned D mentions t k ty None is e = absurd (not_none e)
mentioned D mentions t k ty (Some v) is e =
    by (list_any (is_mention_of (record { 0 = v })) mentions && not (is_unknown (type_of_some (slice_get D.vars v)))) e
  where
    of_variable : (o : Option Variable) → slice_get D.vars v ≡ o → type_of_some o ≡ Some ty → IsField D t k ty
    of_variable None at i = absurd (not_none i)
    of_variable (Some x) at i = record { number = v; variable = x; declares = is; is_variable = at; is_type = some_is i }

    by : (b : Bool) → cond b (type_of_some (slice_get D.vars v)) None ≡ Some ty → IsField D t k ty
    by true i = of_variable (slice_get D.vars v) refl i
    by false i = absurd (not_none i)

some_type : (ty : Ty) (o : Option Ty) → is_type ty o ≡ true → (f : Ty) × (o ≡ Some f) × (is_same_type ty f ≡ true)
some_type ty None h = absurd (true≢false (sym h))
some_type ty (Some f) h = (f, refl, h)

some_scalar : (o : Option Ty) → is_scalar_type o ≡ true → (f : Ty) × (o ≡ Some f) × (covers_type f ≡ true)
some_scalar None h = absurd (true≢false (sym h))
some_scalar (Some f) h = (f, refl, h)

pub same_users : (s t : Ty) → is_user s ≡ true → is_same_type s t ≡ true → s ≡ t
same_users (types.user a) (types.user b) u h = ap types.user (eqb-true a b h)
same_users (types.user a) _ u h = absurd (true≢false (sym h))
same_users _ t u h = absurd (true≢false (sym u))

scalar_no_class : (ty : Ty) → covers_type ty ≡ true → class_in ty ≡ None
scalar_no_class (types.class c) h = absurd (true≢false (sym h))
scalar_no_class _ h = refl

user_no_class : (ty : Ty) → is_user ty ≡ true → class_in ty ≡ None
user_no_class (types.class c) h = absurd (true≢false (sym h))
user_no_class _ h = refl

no_element : (t : ℕ) (h : _) → Holds (types.array (types.user t) 0) h → ⊥
no_element t h k = true≢false (sym (table_of (types.user t) 0 h k).covers)

no_object_type : (ty : Ty) → is_user ty ≡ true → is_object_type ty ≡ false
no_object_type (types.user t) h = refl
no_object_type _ h = absurd (true≢false (sym h))

module _ (C : Context) (F : Footprint) (mentions : List Mention) where
  abbrev D : Declarations
  D = declared C

  abbrev K : Ground
  K = ground (declared C) F

  abbrev P : Program
  P = C.runnable.program

  abbrev uses : Uses
  uses = flat_uses C.runnable.program C.procedure mentions

  abbrev all_uses : Uses
  all_uses = outer_uses C.runnable.program C.procedure mentions

  -- where an expression of a type stands
  pub record IsPlaced (e : Expr) (ty : Ty) (w : Memory) : Type 0 where
    pub shape : Shape
    pub position : Position
    pub is : parts_of C e w ≡ gives [] (at_address (root shape position)) w
    pub fits : IsShapeOf D ty shape
    pub fills : Fills K w position ty shape

  field_type_is : (ty of : Ty) (t k : ℕ) (s : Ty) → of ≡ types.user t → IsField D t k s
      → has_type ty (variable_number D.vars (field_of D of k)) ≡ is_same_type ty s
  field_type_is ty of t k s is f =
      ap (λ y. has_type ty (variable_number D.vars (field_of D y k))) is ∙ ap (λ o. has_type ty (variable_number D.vars o)) f.declares
      ∙ ap (has_type ty) f.is_variable ∙ ap (is_same_type ty) f.is_type

  -- a field of a place
  field_placed : (ty : Ty) (e : Expr) (k t : ℕ) (w : Memory) → type_at e ≡ types.user t → IsPlaced e (types.user t) w → (f : Ty) → IsField D t k f → class_in f ≡ None
      → IsPlaced (typed ty (field e k)) f w
  field_placed ty e k t w of base f h no_class =
      let g : IsGroup D t base.shape = group_of D t base.shape base.fits in
      let at : slice_get (map (λ (v : VarId). v.0) g.declaration.fields) k ≡ Some h.number =
      sym (ap (λ o. at_option (type_fields o) k) g.declares) ∙ h.declares in
      let m = mapped_at g.declaration.fields k h.number at in
      let s : FieldShape D m.0 g.shapes k = field_at D g.declaration.fields g.shapes k m.0 g.fits m.1 in
      let one : s.variable ≡ h.variable = some_is (sym s.is_variable ∙ ap (λ n. slice_get D.vars n) m.2 ∙ h.is_variable) in
      let ty_is : s.variable.ty ≡ f = ap (λ (x : Variable). x.ty) one ∙ h.is_type in
      let q : Position = base.position in
      let a : Address = root s.shape (inner q k) in
      let there : Fills K w (inner q k) (type_of_shape s.shape) s.shape =
      field_stands K w g.shapes q k s.shape (subst (λ d. Fills K w q (types.user t) d) g.is base.fills).1 s.stands in
      let plain : auto_class (variable_number D.vars (field_of D (type_at e) k)) ≡ None =
      ap (λ y. auto_class (variable_number D.vars (field_of D y k))) of ∙ ap (λ o. auto_class (variable_number D.vars o)) h.declares
      ∙ ap auto_class h.is_variable ∙ ap (λ c. cond h.variable.auto c None) (ap class_in h.is_type ∙ no_class) ∙ none_of h.variable.auto in
      record {
        shape = s.shape;
        position = inner q k;
        is =
            ap (λ r. then (then r (field_parts C e k (type_at e))) (as_new C (field e k))) (base.is ∙ ap (λ d. gives [] (at_address (root d q)) w) g.is)
            ∙ ap (λ y. then (after [] (field_parts C e k y (at_address (root (group t g.shapes) q)) w)) (as_new C (field e k))) of
            ∙ ap (λ o. then (after [] (after [] (some_of (option_map (λ d. root d (inner q k)) o) (λ b w. gives [] (at_address b) w) w))) (as_new C (field e k))) s.stands
            ∙ ap (λ c. after [] (made_for C c (at_address a) w)) plain;
        fits = subst (λ y. IsShapeOf D y s.shape) ty_is s.fits;
        fills = subst (λ y. Fills K w (inner q k) y s.shape) (shape_type D s.variable.ty s.shape s.fits s.no_array ∙ ty_is) there;
      }
    where
      none_of : (b : Bool) → cond {A = Option ℕ} b None None ≡ None
      none_of true = refl
      none_of false = refl

  -- a variable of a user type
  variable_placed : (w : Memory) → Fits C F w → (ty : Ty) (x : VarId) (qualified : Bool) → UsedGroup P C.procedure x ty → IsPlaced (typed ty (variable x qualified)) ty w
  variable_placed w fits ty x qualified u =
      let p : PlaceOf P F C.frame w x.0 u.variable = flat_place P F C.procedure C.frame w fits.sound fits.own x.0 u.variable u.is_variable u.owned u.flat in
      by p.0 p.1 p.2
    where
      same : u.variable.ty ≡ ty
      same = u.is_type ∙ sym u.type_is

      by : (a : Address) → variable_address D C.frame x.0 ≡ Some a → IsPlace P F w x.0 u.variable a → IsPlaced (typed ty (variable x qualified)) ty w
      by (root d q) is h = record {
        shape = d;
        position = q;
        is = variable_is C ty x qualified w (root d q) is u.plain;
        fits = subst (λ t. IsShapeOf D t d) same h.0;
        fills = subst (λ t. Fills K w q t d) same h.1;
      }
      by (item e q j path) is h =
          absurd (no_element u.user_type (w.held q) (subst (λ t. Holds (types.array t 0) (w.held q)) u.is_type h.1.2.holds))
      by (constant y) is h = absurd (true≢false (sym u.loud ∙ h.0))

  pub place_ends : (e : Expr) → covers_place uses e ≡ true → (w : Memory) → Fits C F w → IsPlaced e (type_at e) w
  place_ends (typed ty (variable x qualified)) covers w fits =
      variable_placed w fits ty x qualified
      (group_use_is P C.procedure mentions x ty (place_user all_uses (typed ty (variable x qualified)) covers) (group_used all_uses ty x qualified covers))
  place_ends (typed ty (field e k)) covers w fits =
      let i : InnerUsed all_uses ty e k = inner_used all_uses ty e k covers in
      let user : is_user ty ≡ true = place_user all_uses (typed ty (field e k)) covers in
      let s = some_type ty (uses.field_type i.user_type k) i.field in
      let same : ty ≡ s.0 = same_users ty s.0 user s.2 in
      let f : IsField D i.user_type k s.0 = mentioned D mentions i.user_type k s.0 (field_of D (types.user i.user_type) k) refl s.1 in
      subst (λ t. IsPlaced (typed ty (field e k)) t w) (sym same)
      (field_placed ty e k i.user_type w i.of (subst (λ t. IsPlaced e t w) i.of (place_ends e i.place w fits)) s.0 f
      (ap class_in (sym same) ∙ user_no_class ty user))
  place_ends (typed ty _) covers w fits = absurd (true≢false (sym covers))

  scalar_at : (ty s : Ty) (e : Expr) (k : ℕ) (w : Memory) → ty ≡ s → covers_type s ≡ true → IsPlaced (typed ty (field e k)) s w → IsFieldAt C F ty e k w
  scalar_at ty s e k w same c p = record {
    position = p.position;
    is = p.is ∙ ap (λ d. gives [] (at_address (root d p.position)) w) (simple_is s p.shape c p.fits ∙ ap simple (sym same));
    stands = subst (λ t. Stands K w p.position t) (sym same) p.fills.0;
  }

  -- a scalar field
  pub field_place : (w : Memory) → Fits C F w → (ty : Ty) (e : Expr) (k : ℕ) → covers_expr uses (typed ty (field e k)) ≡ true
      → has_field_type D (typed ty (field e k)) ≡ true → IsFieldAt C F ty e k w
  field_place w fits ty e k covers typing =
      let u : FieldUsed all_uses e k = field_used all_uses ty e k covers in
      let s = some_scalar (uses.field_type u.user_type k) u.scalar in
      let f : IsField D u.user_type k s.0 = mentioned D mentions u.user_type k s.0 (field_of D (types.user u.user_type) k) refl s.1 in
      let has : is_same_type ty s.0 ≡ true =
      sym (field_type_is ty (type_at e) u.user_type k s.0 u.of f) ∙ typing in
      let same : ty ≡ s.0 = same_as ty s.0 s.2 has in
      let p : IsPlaced (typed ty (field e k)) s.0 w =
      field_placed ty e k u.user_type w u.of (subst (λ t. IsPlaced e t w) u.of (place_ends e u.place w fits)) s.0 f (scalar_no_class s.0 s.2) in
      scalar_at ty s.0 e k w same s.2 p

  -- ---- what is done with a field

  pub field_value : (X : SourceJob → Memory → Type 0) (w : Memory) (ty : Ty) (e : Expr) (k : ℕ) → covers_type ty ≡ true → IsFieldAt C F ty e k w
      → Ends K (IsTyped ty) (Leaves C X (typed ty (field e k)) w) w (value_of C (typed ty (field e k)) w)
  field_value X w ty e k c f =
      let one : Single ty (w.held f.position) = single_of ty (w.held f.position) c f.stands.holds in
      let a : Address = root (simple ty) f.position in
      subst (λ r. Ends K (IsTyped ty) (Leaves C X (typed ty (field e k)) w) w r)
      (sym (ap (λ r. then r (value_in C (typed ty (field e k)))) f.is
      ∙ ap (λ r. after [] r) (value_read C ty (field e k) one.value a w (root_read K w ty f.position one.value one.holds one.plain) one.plain)))
      (keeps_self K w, (one.value, refl, one.plain))

  -- no field of a place is one of an object
  pub place_no_object : (e : Expr) → covers_place uses e ≡ true → is_object_field e ≡ false
  place_no_object (typed ty (variable x qualified)) h = refl
  place_no_object (typed ty (field e k)) h =
      let i : InnerUsed all_uses ty e k = inner_used all_uses ty e k h in
      ap (λ b. b || is_object_field e) (no_object_type (type_at e) (place_user all_uses e i.place)) ∙ place_no_object e i.place
  place_no_object (typed ty _) h = absurd (true≢false (sym h))

  pub field_given : (X : SourceJob → Memory → Type 0) (w : Memory) (y : Variable) (ty : Ty) (e : Expr) (k : ℕ) (quiet : Bool) → covers_expr uses (typed ty (field e k)) ≡ true
      → IsFieldAt C F ty e k w → ty ≡ y.ty → is_reference_owner y.owner ≡ true
      → Ends K (λ v g. IsGiven K v (Some y) g) (Leaves C X (typed ty (field e k)) w) w (argument_of C quiet (tree.by_reference (typed ty (field e k))) w)
  field_given X w y ty e k quiet covers f same reference =
      let d : Expr = typed ty (field e k) in
      let c : covers_type ty ≡ true = (both_true (covers_type ty) _ covers).0 in
      let u : FieldUsed all_uses e k = field_used all_uses ty e k covers in
      let a : Address = root (simple ty) f.position in
      let by : goes_by_address d ≡ true =
      ap (λ b. is_array_type ty || not (b || is_object_field e)) (no_object_type (type_at e) (place_user all_uses e u.place))
      ∙ ap (λ b. is_array_type ty || not b) (place_no_object e u.place) ∙ or_true (is_array_type ty) in
      subst (λ r. Ends K (λ v g. IsGiven K v (Some y) g) (Leaves C X d w) w r)
      (sym (ap (λ r. then r (given_parts C quiet d (goes_by_address d))) f.is ∙ ap (λ b. after [] (given_parts C quiet d b (at_address a) w)) by))
      (by_quiet quiet a
      (reference, subst (λ t. IsShapeOf D t (simple ty)) same (scalar_shape ty c), (subst (λ t. Stands K w f.position t) same f.stands, tt))
      (let one : Single ty (w.held f.position) = single_of ty (w.held f.position) c f.stands.holds in
      (scalar ty one.value, root_read K w ty f.position one.value one.holds one.plain)))
    where
      by_quiet : (quiet : Bool) (a : Address) → IsGiven K w (Some y) (by_address a) → (x : Value) × (read a w ≡ gives [] x w)
          → Ends K (λ v g. IsGiven K v (Some y) g) (Leaves C X (typed ty (field e k)) w) w (after [] (after [] (given_address quiet a w)))
      by_quiet false a good r = (keeps_self K w, good)
      by_quiet true a good r =
          subst (λ o. Ends K (λ v g. IsGiven K v (Some y) g) (Leaves C X (typed ty (field e k)) w) w (after [] (after [] (then o (λ x w. gives [] (by_address a) w)))))
          (sym r.1) (keeps_self K w, good)
