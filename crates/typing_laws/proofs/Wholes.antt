-- User types as wholes: what is read of a place that is filled, and what is stored there.
use Rattle.std.proofs.Common.{◌≡◌, ◌⊎◌, inl, inr, refl, sym, ap, ◌∙◌, subst, ℕ, zero, suc, ◌<◌, true, false, true≢false, List, [], Some, eq-eqb, arith}
use Rattle.std.specs.Prelude.{length, slice_get}
use Rattle.vb_tree.specs.BoundTree as types
use Rattle.vb_tree.specs.BoundTree.{Ty}
use Rattle.vb_tree.specs.declared.declared.VarId.{VarId}
use Rattle.bound_tree.specs.declared.declared.TypeDecl.{TypeDecl}
use Rattle.bound_tree.specs.Tree.{Declarations}
use Rattle.bound_facts.specs.Node.{is_array_type}
use Rattle.run_base.specs.Outcomes.{after, gives, some_of, then}
use Rattle.run_base.specs.Positions.{Position, inner}
use Rattle.vb6_run.specs.Shapes.{Shape, Shapes, field_shapes, group, group_by, next_shape, simple, user_shape as declared_user, user_shapes}
use Rattle.vb6_run.specs.Store.{Held, Locked, Memory, all_gathered, both_from, fields_from, gathered, provided, put_single, root, single, single_in, store, store_all, value_if, with_held, write}
use Rattle.vb6_run.specs.Values.{Value, Values, are_makeable, elements, fields, if_of_shape, is_makeable, is_of_shape, next_value, no_values, scalar}
use Rattle.vb6_run.specs.Expressions.{type_shape}
use Rattle.run_matches.specs.CoveredVariables.{covers_type}
use Rattle.run_matches.specs.UserTypes.{is_user}
use Rattle.up_base.proofs.Tests.{and_true}
use Rattle.typing_laws.specs.Frames.{AreInside, Fills, Ground, Keeps, Stands}
use Rattle.typing_laws.specs.Plain.{AreShapesOf, AreWhole, IsShapeOf, IsValue, IsValueOf, IsWhole, array_shape, holds_scalar, next_field, no_fields, scalar_shape, user_shape}
use Rattle.typing_laws.proofs.Callees.{index_less}
use Rattle.typing_laws.proofs.Held.{Single, single_of}
use Rattle.typing_laws.proofs.Places.{are_inside_by, at, keeps_changed, some_is}
use Rattle.typing_laws.proofs.Ends.{keeps_self, keeps_then}
use Rattle.typing_laws.proofs.Plain.{is_covered, self}
use Rattle.typing_laws.proofs.UserTypes.{shape_type}

-- ---- one shape of a type

module _ (D : Declarations) where
  mutual
    pub one_shape : (ty : Ty) (d e : Shape) → is_array_type ty ≡ false → IsShapeOf D ty d → IsShapeOf D ty e → d ≡ e
    one_shape _ _ _ flat (scalar_shape ty c) (scalar_shape ty2 c2) = refl
    one_shape _ _ _ flat (array_shape e rank bounds c) other = absurd (true≢false flat)
    one_shape _ _ _ flat (scalar_shape ty c) (array_shape e rank bounds c2) = absurd (true≢false flat)
    one_shape _ _ _ flat (scalar_shape ty c) (user_shape t d fs is of) = absurd (true≢false (sym c))
    one_shape _ _ _ flat (user_shape t d fs is of) (scalar_shape ty2 c2) = absurd (true≢false (sym c2))
    one_shape _ _ _ flat (user_shape t d fs is of) (user_shape t2 e gs at2 of2) =
        ap (group t) (same_fields d.fields fs gs of (subst (λ (z : TypeDecl). AreShapesOf D z.fields gs) (some_is (sym at2 ∙ is)) of2))

    same_fields : (vs : List VarId) (fs gs : Shapes) → AreShapesOf D vs fs → AreShapesOf D vs gs → fs ≡ gs
    same_fields _ _ _ no_fields no_fields = refl
    same_fields _ _ _ (next_field v vs x s fs is flat of rest) (next_field v2 vs2 y t gs at2 flat2 of2 rest2) =
        let one : y ≡ x = some_is (sym at2 ∙ is) in
        ap (λ d. next_shape d fs) (one_shape x.ty s t flat of (subst (λ (z : _). IsShapeOf D z t) (ap (λ (z : _). z.ty) one) of2))
        ∙ ap (λ ds. next_shape t ds) (same_fields vs fs gs rest rest2)

-- the shape of a user type that is declared
pub declared_group : (D : Declarations) (t : ℕ) (d : TypeDecl) → slice_get D.types t ≡ Some d → (fs : Shapes) × (user_shapes D t ≡ group t fs)
declared_group D t d is = by (length D.types) (index_less D.types t d is)
  where
    by : (n : ℕ) → t < n → (fs : Shapes) × (declared_user D n t ≡ group t fs)
    by zero l = absurd (omega (arith, l))
    by (suc n) l = (field_shapes D (λ u. declared_user D n u) d.fields, ap (λ o. group_by D (λ u. declared_user D n u) t o) is)

-- ---- reading

module _ (K : Ground) (w : Memory) where
  abbrev pub IsRead : Shape → Position → Type 0
  IsRead d q = (x : Value) × (gathered d q w.held ≡ Some x) × IsWhole d x

  abbrev AreRead : Shapes → Position → ℕ → Type 0
  AreRead fs q k = (xs : Values) × (all_gathered fs q k w.held ≡ Some xs) × AreWhole fs xs

  mutual
    pub whole_read : (ty : Ty) (d : Shape) → is_array_type ty ≡ false → IsShapeOf K.declarations ty d → (q : Position) → Fills K w q ty d → IsRead d q
    whole_read _ _ flat (array_shape e rank bounds c) q f = absurd (true≢false flat)
    whole_read _ _ flat (scalar_shape ty c) q f =
        let one : Single ty (w.held q) = single_of ty (w.held q) c f.0.holds in
        (scalar ty one.value, ap (single_in ty) one.holds ∙ ap (λ b. value_if b (scalar ty one.value)) (self ty c), (one.value, refl, one.plain))
    whole_read _ _ flat (user_shape t d fs is of) q f =
        let r : AreRead fs q 0 = parts_read d.fields fs of q 0 f.1 in
        (fields t r.0, ap (fields_from t) r.1, (refl, r.2))

    parts_read : (vs : List VarId) (fs : Shapes) → AreShapesOf K.declarations vs fs → (q : Position) (k : ℕ) → AreInside K w fs q k → AreRead fs q k
    parts_read _ _ no_fields q k h = (no_values, refl, tt)
    parts_read _ _ (next_field v vs x s fs is flat of rest) q k h =
        let one : IsRead s (inner q k) =
        whole_read x.ty s flat of (inner q k) (subst (λ t. Stands K w (inner q k) t) (shape_type K.declarations x.ty s of flat) h.0, h.1) in
        let more : AreRead fs q (suc k) = parts_read vs fs rest q (suc k) h.2 in (
          next_value one.0 more.0,
          ap (λ o. both_from o (all_gathered fs q (suc k) w.held)) one.1 ∙ ap (λ o. both_from (Some one.0) o) more.1,
          (one.2, more.2),
        )

-- ---- storing

module _ (K : Ground) (locked : Locked) where
  abbrev pub IsStored : Value → Position → Memory → Type 0
  IsStored x q w = (v : Memory) × (store locked x q w ≡ gives [] tt v) × Keeps K w v

  abbrev AreStored : Values → Position → ℕ → Memory → Type 0
  AreStored xs q k w = (v : Memory) × (store_all locked xs q k w ≡ gives [] tt v) × Keeps K w v

  scalar_stored : (ty : Ty) → (x : Value) → IsWhole (simple ty) x → (q : Position) (w : Memory) → Stands K w q ty → IsStored x q w
  scalar_stored ty x p q w s =
      let c = is_covered ty p.0 p.2 in
      let one : Single ty (w.held q) = single_of ty (w.held q) c s.holds in (
        with_held q (single ty p.0) w,
        ap (λ y. store locked y q w) p.1 ∙ ap (λ (h : Held). put_single h q ty p.0 w) one.holds
            ∙ ap (λ b. provided b (λ m. gives [] tt (with_held q (single ty p.0) m)) w) (self ty c),
        keeps_changed K w q ty (single ty p.0) s (holds_scalar ty p.0 p.2),
      )

  mutual
    pub whole_stored : (ty : Ty) (d : Shape) → is_array_type ty ≡ false → IsShapeOf K.declarations ty d → (x : Value) → IsWhole d x → (q : Position) (w : Memory)
        → Fills K w q ty d → IsStored x q w
    whole_stored _ _ flat (array_shape e rank bounds c) x p q w f = absurd (true≢false flat)
    whole_stored _ _ flat (scalar_shape ty c) x p q w f = scalar_stored ty x p q w f.0
    whole_stored _ _ flat (user_shape t d fs is of) (fields u xs) p q w f = parts_stored d.fields fs of xs p.1 q 0 w f.1
    whole_stored _ _ flat (user_shape t d fs is of) (scalar ty z) p q w f = absurd p
    whole_stored _ _ flat (user_shape t d fs is of) (elements e dims xs) p q w f = absurd p

    parts_stored : (vs : List VarId) (fs : Shapes) → AreShapesOf K.declarations vs fs → (xs : Values) → AreWhole fs xs → (q : Position) (k : ℕ) (w : Memory)
        → AreInside K w fs q k → AreStored xs q k w
    parts_stored _ _ no_fields no_values p q k w h = (w, refl, keeps_self K w)
    parts_stored _ _ no_fields (next_value x xs) p q k w h = absurd p
    parts_stored _ _ (next_field v vs y s fs is flat of rest) no_values p q k w h = absurd p
    parts_stored _ _ (next_field v vs y s fs is flat of rest) (next_value x xs) p q k w h =
        let one : IsStored x (inner q k) w =
        whole_stored y.ty s flat of x p.0 (inner q k) w (subst (λ t. Stands K w (inner q k) t) (shape_type K.declarations y.ty s of flat) h.0, h.1) in
        let m : Memory = one.0 in
        let more : AreStored xs q (suc k) m =
        parts_stored vs fs rest xs p.1 q (suc k) m (are_inside_by K K w m q.root (λ path t z. one.2.places (at q.root path) t z) fs q.path (suc k) h.2) in (
          more.0,
          ap (λ r. then r (λ (u : Unit {0}) w. store_all locked xs q (suc k) w)) one.1 ∙ ap (λ r. after [] r) more.1,
          keeps_then K w m more.0 one.2 more.2,
        )

-- ---- values of a type

pub of_scalar : (D : Declarations) (ty : Ty) (x : Value) → IsValue ty x → IsValueOf D ty x
of_scalar D ty x h = (simple ty, scalar_shape ty (is_covered ty h.0 h.2), h)

pub scalar_of : (D : Declarations) (ty : Ty) (x : Value) → covers_type ty ≡ true → IsValueOf D ty x → IsValue ty x
scalar_of D ty x c v = by ty v.0 v.1 c v.2
  where
    by : (ty : Ty) (d : Shape) → IsShapeOf D ty d → covers_type ty ≡ true → IsWhole d x → IsValue ty x
    by _ _ (scalar_shape ty e) c p = p
    by _ _ (array_shape e rank bounds f) c p = absurd (true≢false (sym c))
    by _ _ (user_shape t d fs is of) c p = absurd (true≢false (sym c))

-- a scalar, or of a user type
pub value_kind : (D : Declarations) (ty : Ty) (x : Value) → IsValueOf D ty x → IsValue ty x ⊎ (is_user ty ≡ true)
value_kind D ty x v = by ty v.0 v.1 v.2
  where
    by : (ty : Ty) (d : Shape) → IsShapeOf D ty d → IsWhole d x → IsValue ty x ⊎ (is_user ty ≡ true)
    by _ _ (scalar_shape ty e) p = inl p
    by _ _ (array_shape e rank bounds f) p = absurd p
    by _ _ (user_shape t d fs is of) p = inr refl

pub no_array_user : (ty : Ty) → is_user ty ≡ true → is_array_type ty ≡ false
no_array_user (types.user t) h = refl
no_array_user _ h = absurd (true≢false (sym h))

pub no_scalar_user : (ty : Ty) → covers_type ty ≡ true → is_user ty ≡ true → ⊥
no_scalar_user (types.user t) c h = true≢false (sym c)
no_scalar_user _ c h = true≢false (sym h)

-- a whole value passes for one of its user type
pub whole_fits : (D : Declarations) (ty : Ty) (d : Shape) (x : Value) → IsShapeOf D ty d → is_user ty ≡ true → IsWhole d x → is_of_shape (type_shape D ty) x ≡ true
whole_fits D _ _ (fields u xs) (user_shape t d fs is of) user p =
    let g = declared_group D t d is in
    ap (λ s. is_of_shape s (fields u xs)) g.1 ∙ eq-eqb t u (sym p.0)
whole_fits D _ _ (scalar ty z) (user_shape t d fs is of) user p = absurd p
whole_fits D _ _ (elements e dims xs) (user_shape t d fs is of) user p = absurd p
whole_fits D _ _ x (scalar_shape ty c) user p = absurd (no_scalar_user ty c user)
whole_fits D _ _ x (array_shape e rank bounds c) user p = absurd (true≢false (sym user))

-- it is written where such a variable stands
pub whole_written : (K : Ground) (locked : Locked) (w : Memory) (ty : Ty) (d : Shape) → IsShapeOf K.declarations ty d → is_user ty ≡ true → (x : Value) → IsWhole d x
    → (q : Position) → Fills K w q ty d → (v : Memory) × (write locked x (root d q) w ≡ gives [] tt v) × Keeps K w v
whole_written K locked w _ _ (user_shape t d fs is of) user (fields u xs) p q f =
    let s : IsStored K locked (fields u xs) q w =
    whole_stored K locked (types.user t) (group t fs) refl (user_shape t d fs is of) (fields u xs) p q w f in
    (s.0, ap (λ b. some_of (if_of_shape b (fields u xs)) (λ y m. store locked y q m) w) (eq-eqb t u (sym p.0)) ∙ s.1, s.2)
whole_written K locked w _ _ (user_shape t d fs is of) user (scalar ty z) p q f = absurd p
whole_written K locked w _ _ (user_shape t d fs is of) user (elements e dims xs) p q f = absurd p
whole_written K locked w _ _ (array_shape e rank bounds c) user x p q f = absurd (true≢false (sym user))
whole_written K locked w _ _ (scalar_shape ty c) user x p q f = absurd (no_scalar_user ty c user)

mutual
  pub whole_makeable : (D : Declarations) (ty : Ty) (d : Shape) → is_array_type ty ≡ false → IsShapeOf D ty d → is_makeable d ≡ true
  whole_makeable D _ _ flat (scalar_shape ty c) = refl
  whole_makeable D _ _ flat (array_shape e rank bounds c) = absurd (true≢false flat)
  whole_makeable D _ _ flat (user_shape t d fs is of) = parts_makeable D d.fields fs of

  parts_makeable : (D : Declarations) (vs : List VarId) (fs : Shapes) → AreShapesOf D vs fs → are_makeable fs ≡ true
  parts_makeable D _ _ no_fields = refl
  parts_makeable D _ _ (next_field v vs x s fs is flat of rest) =
      and_true (is_makeable s) (are_makeable fs) (whole_makeable D x.ty s flat of) (parts_makeable D vs fs rest)
