-- Runs of covered procedures keep well-typed stores well typed.
use Rattle.std.proofs.Common.{◌≡◌, ◌⊎◌, inl, inr, refl, sym, ap, ◌∙◌, subst, ℕ, suc, ◌<◌, ℤ, Bool, true, false, true≢false, List, [], ◌∷◌, Option, Some, None}
use Rattle.std.specs.Prelude.{slice_get}
use Rattle.vb_tree.specs.BoundTree.{Ty}
use Rattle.vb_tree.specs.BoundTree as types
use Rattle.vb_tree.specs.declared.declared.VarId.{VarId}
use Rattle.vb_tree.specs.declared.value.Value6.{Value6}
use Rattle.vb_tree.specs.declared.value.Value6.TheVariants as v
use Rattle.bound_tree.specs.Tree.{Procedure, Variable}
use Rattle.bound_facts.specs.Locks.{is_same_type}
use Rattle.run_base.specs.Machines.{enters}
use Rattle.run_base.specs.Outcomes.{Outcome, gives, raises, spent, outside}
use Rattle.run_base.specs.Positions.{Root, shared, made, field, Position, whole, inner}
use Rattle.vb6_run.specs.Programs.{run6}
use Rattle.vb6_run.specs.Shapes.{Shape, simple, group, array, endless, Shapes, no_shapes, next_shape, is_same_shape, variable_shape}
use Rattle.vb6_run.specs.Store.{Held, Memory, SourceGiven, blank, single, table}
use Rattle.vb6_run.specs.Values.{Dimension, Value, Values, next_value, scalar}
use Rattle.run_matches.specs.CoveredVariables.{covers_type}
use Rattle.run_matches.specs.Maps.{IsMade, Map, mark, root_variable}
use Rattle.run_matches.specs.Typed.{AllHeld, AreOf, EachOf, EndsIn, FieldsHeld, IsHeld, IsObjectOf, IsOf, IsScalar, IsSized, SourceTyped, held_parts, held_single, held_table, next_each, next_of, none_each, none_of, of_elements, of_fields, of_scalar}
use Rattle.run_matches.specs.Upgrades.{Upgrade, runnable_of}
use Rattle.typing_laws.specs.Calls.{IsReady, SourceJob}
use Rattle.typing_laws.specs.Frames.{AreGiven, AreInside, Fills, Ground, IsBlankStatic, IsPartOf, IsSound, Keeps, MayStand, Stands, anywhere, footprint_of, ground, is_static, shared_place}
use Rattle.typing_laws.specs.Flat.{is_flat}
use Rattle.typing_laws.specs.Leaving.{started}
use Rattle.typing_laws.specs.Plain.{AreShapesOf, EachPlain, Holds, IsShapeOf, array_shape, holds_array, holds_parts, holds_scalar, next_field, next_plain, no_fields, none_plain, scalar_shape, user_shape}
use Rattle.typing_laws.specs.Results.{IsRunResult}
use Rattle.typing_laws.proofs.Ends.{keeps_then}
use Rattle.typing_laws.proofs.Held.{Single, Table, parts_of, single_of, table_of}
use Rattle.typing_laws.proofs.Made.{shape_of_variable}
use Rattle.typing_laws.proofs.Places.{held_blank, keeps_same, some_is}
use Rattle.typing_laws.proofs.Plain.{is_covered, plain_of, same_as, scalar_of, self}
use Rattle.typing_laws.proofs.Runs.{run_result, sound_within}
use Rattle.typing_laws.proofs.UserTypes.{shape_type}

-- ---- values by objects that are the same

module _ (w u : Memory) (objects : u.next_object ≡ w.next_object) (classes : u.class_of ≡ w.class_of) where
  object_of : (c : Option ℕ) (o : ℕ) → IsObjectOf w c o → IsObjectOf u c o
  object_of None o h = subst (λ n. o < n) (sym objects) h
  object_of (Some c) o h = (subst (λ n. o < n) (sym objects) h.0, subst (λ (f : ℕ → Option ℕ). f o ≡ Some c) (sym classes) h.1)

  scalar_in : (ty : Ty) (x : Value6) → IsScalar w ty x → IsScalar u ty x
  scalar_in (types.class c) (v.Object o) h = object_of (Some c) o h
  scalar_in types.object (v.Object o) h = object_of None o h
  scalar_in _ _ h = h

  mutual
    value_in : (d : Shape) (x : Value) → IsOf w d x → IsOf u d x
    value_in _ _ (of_scalar ty x h) = of_scalar ty x (scalar_in ty x h)
    value_in _ _ (of_fields t fs xs h) = of_fields t fs xs (values_in fs xs h)
    value_in _ _ (of_elements e f bounds dims xs same size h) = of_elements e f bounds dims xs same size (each_in e xs h)

    values_in : (fs : Shapes) (xs : Values) → AreOf w fs xs → AreOf u fs xs
    values_in _ _ none_of = none_of
    values_in _ _ (next_of d rest x xs h more) = next_of d rest x xs (value_in d x h) (values_in rest xs more)

    each_in : (e : Shape) (xs : Values) → EachOf w e xs → EachOf u e xs
    each_in _ _ (none_each e) = none_each e
    each_in _ _ (next_each e x xs h more) = next_each e x xs (value_in e x h) (each_in e xs more)

  held_in : (d : Shape) (h : Held) → IsHeld w d h → IsHeld u d h
  held_in _ _ (held_single ty x h) = held_single ty x (scalar_in ty x h)
  held_in _ _ (held_table e f bounds dims xs same size h) = held_table e f bounds dims xs same size (each_in e xs h)
  held_in _ _ (held_parts t fs) = held_parts t fs

-- ---- arrays of scalars

-- elements of a scalar type
each_plain : (s : Memory) (e : Ty) (xs : Values) → covers_type e ≡ true → EachOf s (simple e) xs → EachPlain e xs
each_plain s e _ c (none_each d) = none_plain e
each_plain s e _ c (next_each d x xs h more) = first x h (each_plain s e xs c more)
  where
    first : (x : Value) → IsOf s (simple e) x → EachPlain e xs → EachPlain e (next_value x xs)
    first _ (of_scalar ty z i) rest = next_plain e z xs (plain_of s e z c i) rest

each_of : (s : Memory) (e : Ty) (xs : Values) → EachPlain e xs → EachOf s (simple e) xs
each_of s _ _ (none_plain e) = none_each (simple e)
each_of s _ _ (next_plain e z xs p more) = next_each (simple e) (scalar e z) xs (of_scalar e z (scalar_of s e z p)) (each_of s e xs more)

-- the elements of an array are scalars of a covered type
abbrev IsCoveredElement : Shape → Type 0
IsCoveredElement (simple ty) = covers_type ty ≡ true
IsCoveredElement _ = ⊥

same_element : (ty e : Ty) → is_same_type ty e ≡ true → covers_type e ≡ true → covers_type ty ≡ true
same_element ty e same c = ap covers_type (same_as ty e c same) ∙ c

element_covered : (d : Shape) (e : Ty) → is_same_shape d (simple e) ≡ true → covers_type e ≡ true → IsCoveredElement d
element_covered (simple ty) e same c = same_element ty e same c
element_covered (group t fs) e same c = true≢false (sym same)
element_covered (array d bounds) e same c = true≢false (sym same)
element_covered endless e same c = true≢false (sym same)

standing_table : (t : Ty) (d f : Shape) (dims : List Dimension) (xs : Values) → is_same_shape d f ≡ true → Holds t (table f dims xs) → IsCoveredElement d
standing_table _ d _ _ _ same (holds_array e rank dims xs c n p) = element_covered d e same c

-- ---- what stays

not_single : (ty : Ty) (x : Value6) → single ty x ≡ blank → ⊥
not_single ty x e = cc e

-- a scalar that stands is of its own type
standing_single : (t ty : Ty) (x : Value6) → Holds t (single ty x) → covers_type ty ≡ true
standing_single _ _ _ (holds_scalar ty z p) = is_covered ty z p

module _ (K : Ground) (w u : Memory) (keeps : Keeps K w u) (sound : IsSound K w) where
  -- where nothing of a covered type stands
  same_there : (q : Position) → IsMade (mark w) q.root → ((ty : Ty) → Stands K w q ty → ⊥) → (w.held q ≡ blank → ⊥) → u.held q ≡ w.held q
  same_there q m s b = keeps.others q m s (λ z. b z.is_blank)

  by_same : (d : Shape) (q : Position) → IsHeld w d (w.held q) → u.held q ≡ w.held q → IsHeld u d (u.held q)
  by_same d q h e = held_in w u keeps.objects keeps.classes d (u.held q) (subst (λ z. IsHeld w d z) (sym e) h)

  single_held : (ty : Ty) (q : Position) → covers_type ty ≡ true → Stands K u q ty → IsHeld u (simple ty) (u.held q)
  single_held ty q c s =
      let one : Single ty (u.held q) = single_of ty (u.held q) c s.holds in
      subst (λ z. IsHeld u (simple ty) z) (sym one.holds) (held_single ty one.value (scalar_of u ty one.value one.plain))

  table_held : (e : Ty) (rank : ℕ) (bounds : List (ℤ × ℤ)) (q : Position) → Stands K u q (types.array e rank) → IsHeld u (array (simple e) bounds) (u.held q)
  table_held e rank bounds q s =
      let t : Table e (u.held q) = table_of e rank (u.held q) s.holds in
      subst (λ z. IsHeld u (array (simple e) bounds) z) (sym t.holds)
      (held_table (simple e) (simple e) bounds t.dims t.values (self e t.covers) t.sized (each_of u e t.values t.plain))

  group_held : (t : ℕ) (fs : Shapes) (q : Position) → Stands K u q (types.user t) → IsHeld u (group t fs) (u.held q)
  group_held t fs q s = subst (λ z. IsHeld u (group t fs) z) (sym (parts_of t (u.held q) s.holds)) (held_parts t fs)

  mutual
    -- a variable that fills its place is held there
    filled_held : (ty : Ty) (d : Shape) → IsShapeOf K.declarations ty d → (q : Position) → Fills K u q ty d → AllHeld u d q
    filled_held _ _ (scalar_shape ty c) q f = single_held ty q c f.0
    filled_held _ _ (array_shape e rank bounds c) q f = table_held e rank bounds q f.0
    filled_held _ _ (user_shape t d fs is of) q f = (group_held t fs q f.0, parts_held d.fields fs of q 0 f.1)

    parts_held : (vs : List VarId) (fs : Shapes) → AreShapesOf K.declarations vs fs → (q : Position) (k : ℕ) → AreInside K u fs q k → FieldsHeld u fs q k
    parts_held _ _ no_fields q k h = tt
    parts_held _ _ (next_field v vs x s fs is flat of rest) q k h = (
      filled_held x.ty s of (inner q k) (subst (λ t. Stands K u (inner q k) t) (shape_type K.declarations x.ty s of flat) h.0, h.1),
      parts_held vs fs rest q (suc k) h.2,
    )

  single_later : (ty : Ty) (x : Value6) (q : Position) → IsMade (mark w) q.root → w.held q ≡ single ty x → IsScalar w ty x → IsHeld u (simple ty) (u.held q)
  single_later ty x q m e h = by (covers_type ty) refl (K.footprint q) refl
    where
      filled : w.held q ≡ blank → ⊥
      filled b = not_single ty x (sym e ∙ b)

      held : IsHeld w (simple ty) (w.held q)
      held = subst (λ z. IsHeld w (simple ty) z) (sym e) (held_single ty x h)

      by : (c : Bool) → covers_type ty ≡ c → (f : Bool) → K.footprint q ≡ f → IsHeld u (simple ty) (u.held q)
      by true c true f =
          single_held ty q c
          (keeps.places q ty (record { holds = subst (λ z. Holds ty z) (sym e) (holds_scalar ty x (plain_of w ty x c h)); made = m; allowed = f }))
      by true c false f = by_same (simple ty) q held (same_there q m (λ t s. true≢false (sym s.allowed ∙ f)) filled)
      by false c f is =
          by_same (simple ty) q held
          (same_there q m (λ t s. true≢false (sym (standing_single t ty x (subst (λ z. Holds t z) e s.holds)) ∙ c)) filled)

  -- an array whose elements are scalars of a covered type, or no such array
  table_later : (d f : Shape) (bounds : List (ℤ × ℤ)) (dims : List Dimension) (xs : Values) (q : Position) → IsMade (mark w) q.root → w.held q ≡ table f dims xs
      → is_same_shape d f ≡ true → IsSized dims xs → EachOf w d xs → IsHeld u (array d bounds) (u.held q)
  table_later d f bounds dims xs q m e same size each = by d f e same each
    where
      filled : w.held q ≡ blank → ⊥
      filled b = absurd (cc (sym e ∙ b))

      stays : (d f : Shape) → w.held q ≡ table f dims xs → is_same_shape d f ≡ true → EachOf w d xs → ((t : Ty) → Stands K w q t → ⊥) → IsHeld u (array d bounds) (u.held q)
      stays d f e same each n =
          by_same (array d bounds) q (subst (λ z. IsHeld w (array d bounds) z) (sym e) (held_table d f bounds dims xs same size each)) (same_there q m n filled)

      no_element : (d f : Shape) → w.held q ≡ table f dims xs → is_same_shape d f ≡ true → (t : Ty) → Stands K w q t → IsCoveredElement d
      no_element d f e same t s = standing_table t d f dims xs same (subst (λ z. Holds t z) e s.holds)

      scalars : (ty e : Ty) → w.held q ≡ table (simple e) dims xs → is_same_type ty e ≡ true → EachOf w (simple ty) xs → (c : Bool) → covers_type ty ≡ c
          → (f : Bool) → K.footprint q ≡ f → IsHeld u (array (simple ty) bounds) (u.held q)
      scalars ty e is same each false c f g =
          stays (simple ty) (simple e) is same each (λ t s. true≢false (sym (no_element (simple ty) (simple e) is same t s) ∙ c))
      scalars ty e is same each true c false g = stays (simple ty) (simple e) is same each (λ t s. true≢false (sym s.allowed ∙ g))
      scalars ty e is same each true c true g =
          let one : e ≡ ty = second ty e c same in
          let holds : Holds (types.array ty 0) (w.held q) =
          subst (λ z. Holds (types.array ty 0) z) (sym (is ∙ ap (λ (t : Ty). table (simple t) dims xs) one))
          (holds_array ty 0 dims xs c size (each_plain w ty xs c each)) in
          table_held ty 0 bounds q (keeps.places q (types.array ty 0) (record { holds = holds; made = m; allowed = g }))
        where
          second : (s t : Ty) → covers_type s ≡ true → is_same_type s t ≡ true → t ≡ s
          second types.boolean types.boolean c h = refl
          second types.byte types.byte c h = refl
          second types.integer types.integer c h = refl
          second types.long types.long c h = refl
          second types.currency types.currency c h = refl
          second types.str types.str c h = refl
          second _ _ c h = cc

      by : (d f : Shape) → w.held q ≡ table f dims xs → is_same_shape d f ≡ true → EachOf w d xs → IsHeld u (array d bounds) (u.held q)
      by (simple ty) (simple e) is same each = scalars ty e is same each (covers_type ty) refl (K.footprint q) refl
      by (group t fs) f is same each = stays (group t fs) f is same each (λ t2 s. no_element (group t fs) f is same t2 s)
      by (array d others) f is same each = stays (array d others) f is same each (λ t s. no_element (array d others) f is same t s)
      by endless f is same each = absurd (true≢false (sym same))
      by (simple ty) _ is same each = absurd (true≢false (sym same))

  here : (d : Shape) (h : Held) (q : Position) → IsMade (mark w) q.root → w.held q ≡ h → IsHeld w d h → IsHeld u d (u.held q)
  here _ _ q m e (held_single ty x h) = single_later ty x q m e h
  here _ _ q m e (held_table d f bounds dims xs same size h) = table_later d f bounds dims xs q m e same size h
  here _ _ q m e (held_parts t fs) = by (K.footprint q) refl
    where
      by : (f : Bool) → K.footprint q ≡ f → IsHeld u (group t fs) (u.held q)
      by true f =
          group_held t fs q (keeps.places q (types.user t) (record { holds = subst (λ z. Holds (types.user t) z) (sym e) (holds_parts t); made = m; allowed = f }))
      by false f =
          by_same (group t fs) q (subst (λ z. IsHeld w (group t fs) z) (sym e) (held_parts t fs))
          (same_there q m (λ ty s. true≢false (sym s.allowed ∙ f)) (λ b. absurd (cc (sym e ∙ b))))

  mutual
    all_in : (d : Shape) (q : Position) → IsMade (mark w) q.root → AllHeld w d q → AllHeld u d q
    all_in (simple ty) q m h = here (simple ty) (w.held q) q m refl h
    all_in (group t fs) q m h = (here (group t fs) (w.held q) q m refl h.0, fields_in fs q 0 m h.1)
    all_in (array e bounds) q m h = here (array e bounds) (w.held q) q m refl h
    all_in endless q m h = here endless (w.held q) q m refl h

    fields_in : (fs : Shapes) (q : Position) (k : ℕ) → IsMade (mark w) q.root → FieldsHeld w fs q k → FieldsHeld u fs q k
    fields_in no_shapes q k m h = tt
    fields_in (next_shape d rest) q k m h = (all_in d (inner q k) m h.0, fields_in rest q (suc k) m h.1)

  -- ---- what holds nothing

  abbrev number_at : Root → ℕ
  number_at (shared []) = 0
  number_at (shared (n ∷ more)) = suc n
  number_at (made n) = 0
  number_at (field o key) = 0

  abbrev more_at : Root → Bool
  more_at (shared []) = false
  more_at (shared (n ∷ [])) = false
  more_at (shared (n ∷ k ∷ more)) = true
  more_at (made n) = false
  more_at (field o key) = false

  root_of_part : (v : ℕ) (ty : Ty) (q : Position) → IsPartOf v ty q → q.root ≡ shared (v ∷ [])
  root_of_part v ty q (inl e) = ap (λ (p : Position). p.root) e
  root_of_part v ty q (inr h) = h.1

  -- a Static may be made now
  abbrev Later : ℕ → Root → Type 0
  Later x r = (u.held (whole r) ≡ blank) ⊎ AllHeld u (variable_shape K.declarations x) (whole r)

  stays_blank : (x : ℕ) (r : Root) → IsMade (mark w) r → w.held (whole r) ≡ blank → (IsBlankStatic K w (whole r) → ⊥) → Later x r
  stays_blank x r m e b = inl (keeps.others (whole r) m (λ ty s. held_blank ty (w.held (whole r)) s.holds e) b ∙ e)

  no_number : (k : ℕ) → 0 ≡ suc k → ⊥
  no_number k e = cc e

  static_later : (k : ℕ) → w.held (shared_place k) ≡ blank → (o : Option Variable) → slice_get K.declarations.vars k ≡ o → Later k (shared (k ∷ []))
  static_later k e None is =
      stays_blank k (shared (k ∷ [])) tt e (λ z. absurd (cc (sym is ∙ ap (λ n. slice_get K.declarations.vars n) (same_number k z) ∙ z.is_variable)))
    where
      same_number : (k : ℕ) (z : IsBlankStatic K w (shared_place k)) → k ≡ z.number
      same_number k z = let n : suc k ≡ suc z.number = ap number_at (root_of_part z.number z.variable.ty (shared_place k) z.place) in cc n
  static_later k e (Some y) is = by (is_static y.owner) refl (is_flat K.declarations y) refl
    where
      same_variable : (z : IsBlankStatic K w (shared_place k)) → y ≡ z.variable
      same_variable z =
          let n : suc k ≡ suc z.number = ap number_at (root_of_part z.number z.variable.ty (shared_place k) z.place) in
          let i : k ≡ z.number = cc n in
          some_is (sym is ∙ ap (λ n. slice_get K.declarations.vars n) i ∙ z.is_variable)

      standing : is_flat K.declarations y ≡ true → MayStand K u k y → Later k (shared (k ∷ []))
      standing c (inl n) = inl n.whole
      standing c (inr f) =
          inr (filled_held y.ty (variable_shape K.declarations k) (shape_of_variable K.declarations k y is c) (shared_place k) f)

      by : (a : Bool) → is_static y.owner ≡ a → (c : Bool) → is_flat K.declarations y ≡ c → Later k (shared (k ∷ []))
      by true a true c = standing c (keeps.statics k y is a c (sound.statics k y is a c))
      by true a false c =
          stays_blank k (shared (k ∷ [])) tt e (λ z. true≢false (sym z.flat ∙ ap (is_flat K.declarations) (sym (same_variable z)) ∙ c))
      by false a b c =
          stays_blank k (shared (k ∷ [])) tt e (λ z. true≢false (sym z.static ∙ ap (λ (x : Variable). is_static x.owner) (sym (same_variable z)) ∙ a))

  blank_later : (m : Map) (x : ℕ) (r : Root) → IsMade (mark w) r → root_variable m r ≡ Some x → w.held (whole r) ≡ blank → Later x r
  blank_later m x (made n) i known e =
      stays_blank x (made n) i e (λ z. no_number z.number (ap number_at (root_of_part z.number z.variable.ty (whole (made n)) z.place)))
  blank_later m x (field o key) i known e =
      stays_blank x (field o key) i e (λ z. no_number z.number (ap number_at (root_of_part z.number z.variable.ty (whole (field o key)) z.place)))
  blank_later m x (shared []) i known e = absurd (cc known)
  blank_later m x (shared (k ∷ j ∷ more)) i known e = absurd (cc known)
  blank_later m x (shared (k ∷ [])) i known e =
      subst (λ n. Later n (shared (k ∷ []))) (some_is known) (static_later k e (slice_get K.declarations.vars k) refl)

-- ---- stores

stays_typed : (U : Upgrade) (K : Ground) (m : Map) (s u : Memory) → K.declarations ≡ U.program.declarations → IsSound K s
    → Keeps K s u → SourceTyped U m (mark s) s → SourceTyped U m (mark s) u
stays_typed U K m s u same sound keeps t = record { held = λ r x there known. by r x there known (t.held r x there known) }
  where
    by : (r : Root) (x : ℕ) → IsMade (mark s) r → root_variable m r ≡ Some x
        → (s.held (whole r) ≡ blank) ⊎ AllHeld s (variable_shape U.program.declarations x) (whole r)
        → (u.held (whole r) ≡ blank) ⊎ AllHeld u (variable_shape U.program.declarations x) (whole r)
    by r x there known (inl e) =
        subst (λ D. (u.held (whole r) ≡ blank) ⊎ AllHeld u (variable_shape D x) (whole r)) same (blank_later K s u keeps sound m x r there known e)
    by r x there known (inr a) = inr (all_in K s u keeps sound (variable_shape U.program.declarations x) (whole r) there a)

ends_typed : (U : Upgrade) (m : Map) (s : Memory) (x : Procedure) (gs : List SourceGiven) (job : SourceJob) (inputs : List (List ℕ)) (n : ℕ)
    (r : Outcome Memory (Option Value)) → IsSound (ground U.program.declarations anywhere) s → SourceTyped U m (mark s) s → IsRunResult (runnable_of U) (suc n) x gs job (started inputs n s) r
    → EndsIn (SourceTyped U m (mark s)) r
ends_typed U m s x gs job inputs n r sound t h = by r h
  where
    ends : (u : Memory) → Keeps (ground U.program.declarations (footprint_of (started inputs n s) gs)) (started inputs n s) u → SourceTyped U m (mark s) u
    ends u k =
        let K : Ground = ground U.program.declarations (footprint_of (started inputs n s) gs) in
        stays_typed U K m s u refl (sound_within U.program.declarations s gs sound) (keeps_then K s (started inputs n s) u (keeps_same K s (started inputs n s) refl refl refl refl) k) t

    by : (r : Outcome Memory (Option Value)) → IsRunResult (runnable_of U) (suc n) x gs job (started inputs n s) r → EndsIn (SourceTyped U m (mark s)) r
    by (gives o y u) h = ends u h.0
    by (raises o e u) h = ends u h
    by (spent o u) h = ends u h
    by (outside o) h = tt

pub run_keeps_types : (U : Upgrade) (p n : ℕ) (x : Procedure) (m : Map) (me : Option ℕ) (args : List SourceGiven) (inputs : List (List ℕ)) (s : Memory)
    → IsReady (runnable_of U) p → slice_get U.program.declarations.procs p ≡ Some x → IsSound (ground U.program.declarations anywhere) s
    → AreGiven (ground U.program.declarations anywhere) s x.params args → SourceTyped U m (mark s) s
    → EndsIn (SourceTyped U m (mark s)) (run6 (runnable_of U) p me args inputs n s)
run_keeps_types U p n x m me args inputs s ready is sound given t =
    ends_typed U m s x args (enters p me [] args) inputs n (run6 (runnable_of U) p me args inputs n s) sound t
    (run_result (runnable_of U) p n x me args inputs s ready is sound given)
