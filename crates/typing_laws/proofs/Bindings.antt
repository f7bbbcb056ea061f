-- What an entry binds: parameters, each at a place of its own, at what it is given by reference, or, if it is quiet, at a value.
use Rattle.std.proofs.Common.{◌≡◌, ◌⊎◌, inl, inr, refl, sym, ap, subst, ◌∙◌, ℕ, suc, ◌+◌, ◌≤◌, ◌<◌, Bool, true, false, cond, ◌||◌, nat_eq, List, [], ◌∷◌, ◌++◌, map, Option, Some, eq-eqb, eqb-true, true≢false, arith}
use Rattle.std.specs.Prelude.{slice_get}
use Rattle.std.specs.List.{list_all, list_any}
use Rattle.std.specs.Map.{lookup}
use Rattle.up_base.proofs.Lists.{all_first, all_rest}
use Rattle.vb_tree.specs.BoundTree.{Ty}
use Rattle.vb_tree.specs.declared.declared.Owner.{Owner}
use Rattle.vb_tree.specs.declared.declared.Owner.TheVariants as owner
use Rattle.vb_tree.specs.declared.declared.VarId.{VarId}
use Rattle.bound_tree.specs.Tree.{Variable, Declarations, Program}
use Rattle.run_base.specs.Frames.{by_value, by_address}
use Rattle.run_base.specs.Outcomes.{after, gives, then, some_of}
use Rattle.run_base.specs.Positions.{Position, made, whole}
use Rattle.written_trees.specs.Arguments.{is_reference_owner}
use Rattle.vb6_run.specs.Programs.{Bindings, bound_to, parameters, temporary}
use Rattle.vb6_run.specs.Runnables.{Runnable, declarations_of}
use Rattle.vb6_run.specs.Shapes.{Shape, simple, is_same_shape, part_shape, variable_shape}
use Rattle.vb6_run.specs.Store.{Address, root, item, constant, single, Memory, SourceGiven, is_address_of, is_some_shape, laid, make, make_with, provided, with_held, write}
use Rattle.vb6_run.specs.Values.{Value, is_makeable, kept_as, scalar, first_scalar}
use Rattle.run_matches.specs.CoveredVariables.{covers_type, is_loud}
use Rattle.run_matches.specs.Covered.{is_parameter_of}
use Rattle.typing_laws.specs.Flat.{has_flat_variables, is_flat, is_flat_parameter}
use Rattle.typing_laws.specs.Frames.{AreGiven, Fills, Footprint, Ground, IsGiven, IsPlace, IsSound, Keeps, Stands, ground}
use Rattle.typing_laws.specs.Plain.{Holds, IsShapeOf, IsValue, IsValueOf, IsWhole, array_shape, holds_scalar, scalar_shape, user_shape}
use Rattle.run_matches.specs.UserTypes.{is_user}
use Rattle.typing_laws.proofs.Laid.{keeps_laid, laid_fills, user_filled, user_is}
use Rattle.typing_laws.proofs.Wholes.{no_array_user, no_scalar_user, one_shape, value_kind, whole_makeable, whole_written}
use Rattle.typing_laws.proofs.Addresses.{place_later, root_written, simple_is}
use Rattle.typing_laws.proofs.Ends.{Ends, fills_later, keeps_self, keeps_then, sound_later, then_ends}
use Rattle.typing_laws.proofs.Held.{Single, single_of, table_of}
use Rattle.typing_laws.proofs.Made.{shape_of_variable}
use Rattle.typing_laws.proofs.Places.{at, keeps_changed, keeps_made, made_next, some_is, stands_changed, stands_made}
use Rattle.typing_laws.proofs.Plain.{first_plain, is_covered, is_kept, self}
use Rattle.typing_laws.proofs.Procedures.{Parameter, parameter_of}
use Rattle.typing_laws.proofs.Values.{given_later}

-- ---- variables of a frame

module _ (P : Program) (F : Footprint) where
  abbrev G : Ground
  G = ground P.declarations F

  abbrev pub Stood : Memory → (variable : ℕ) → Variable → Option Address → Type 0
  Stood w v x o = (a : Address) × (o ≡ Some a) × IsPlace P F w v x a

  pub stood_later : (w u : Memory) (v : ℕ) (x : Variable) (o : Option Address) → Keeps G w u → Stood w v x o → Stood u v x o
  stood_later w u v x o k s = (s.0, s.1, place_later P F w u v x s.0 k s.2)

  -- those of a list stand, and what isn't found there is looked for behind it
  pub record Bound (w : Memory) (ks : List ℕ) (bs : Bindings) : Type 0 where
    pub before :
        (v : ℕ) (x : Variable) → list_any (nat_eq v) ks ≡ true → slice_get P.declarations.vars v ≡ Some x → is_flat P.declarations x ≡ true → (others : Bindings)
        → Stood w v x (lookup (nat_eq v) (bs ++ others))
    pub behind :
        (v : ℕ) (x : Variable) → slice_get P.declarations.vars v ≡ Some x → is_flat P.declarations x ≡ true → (others : Bindings)
        → Stood w v x (lookup (nat_eq v) (bs ++ others)) ⊎ (lookup (nat_eq v) (bs ++ others) ≡ lookup (nat_eq v) others)

  pub no_bound : (w : Memory) → Bound w [] []
  no_bound w = record { before = λ v x h. absurd (true≢false (sym h)); behind = λ v x is c others. inr refl }

  pub bound_later : (w u : Memory) (ks : List ℕ) (bs : Bindings) → Keeps G w u → Bound w ks bs → Bound u ks bs
  bound_later w u ks bs k b = record {
    before = λ v x h is c others. stood_later w u v x (lookup (nat_eq v) (bs ++ others)) k (b.before v x h is c others);
    behind = λ v x is c others. by v x others (b.behind v x is c others);
  }
    where
      by : (v : ℕ) (x : Variable) (others : Bindings) → Stood w v x (lookup (nat_eq v) (bs ++ others)) ⊎ (lookup (nat_eq v) (bs ++ others) ≡ lookup (nat_eq v) others)
          → Stood u v x (lookup (nat_eq v) (bs ++ others)) ⊎ (lookup (nat_eq v) (bs ++ others) ≡ lookup (nat_eq v) others)
      by v x others (inl s) = inl (stood_later w u v x (lookup (nat_eq v) (bs ++ others)) k s)
      by v x others (inr e) = inr e

  -- one more at the front
  pub bound_more : (w : Memory) (k : ℕ) (y : Variable) (ks : List ℕ) (a : Address) (bs : Bindings) → slice_get P.declarations.vars k ≡ Some y
      → IsPlace P F w k y a → Bound w ks bs → Bound w (k ∷ ks) ((k, a) ∷ bs)
  bound_more w k y ks a bs is there b = record {
    before = λ v x h at c others. first v x others at (nat_eq v k) refl (λ e. b.before v x (sym (ap (λ t. t || list_any (nat_eq v) ks) e) ∙ h) at c others);
    behind = λ v x at c others. second v x others at (nat_eq v k) refl (b.behind v x at c others);
  }
    where
      here : (v : ℕ) (x : Variable) (others : Bindings) → slice_get P.declarations.vars v ≡ Some x → nat_eq v k ≡ true
          → Stood w v x (cond (nat_eq v k) (Some a) (lookup (nat_eq v) (bs ++ others)))
      here v x others at e =
          let same : v ≡ k = eqb-true v k e in
          let one : y ≡ x = some_is (sym is ∙ ap (λ n. slice_get P.declarations.vars n) (sym same) ∙ at) in (
            a,
            ap (λ t. cond t (Some a) (lookup (nat_eq v) (bs ++ others))) e,
            subst (λ n. IsPlace P F w n x a) (sym same) (subst (λ (z : Variable). IsPlace P F w k z a) one there),
          )

      elsewhere : (v : ℕ) (x : Variable) (others : Bindings) → nat_eq v k ≡ false → Stood w v x (lookup (nat_eq v) (bs ++ others))
          → Stood w v x (cond (nat_eq v k) (Some a) (lookup (nat_eq v) (bs ++ others)))
      elsewhere v x others e s = (s.0, ap (λ t. cond t (Some a) (lookup (nat_eq v) (bs ++ others))) e ∙ s.1, s.2)

      first : (v : ℕ) (x : Variable) (others : Bindings) → slice_get P.declarations.vars v ≡ Some x → (t : Bool) → nat_eq v k ≡ t
          → (nat_eq v k ≡ false → Stood w v x (lookup (nat_eq v) (bs ++ others))) → Stood w v x (lookup (nat_eq v) (((k, a) ∷ bs) ++ others))
      first v x others at true e rest = here v x others at e
      first v x others at false e rest = elsewhere v x others e (rest e)

      second : (v : ℕ) (x : Variable) (others : Bindings) → slice_get P.declarations.vars v ≡ Some x → (t : Bool) → nat_eq v k ≡ t
          → Stood w v x (lookup (nat_eq v) (bs ++ others)) ⊎ (lookup (nat_eq v) (bs ++ others) ≡ lookup (nat_eq v) others)
          → Stood w v x (lookup (nat_eq v) (((k, a) ∷ bs) ++ others)) ⊎ (lookup (nat_eq v) (((k, a) ∷ bs) ++ others) ≡ lookup (nat_eq v) others)
      second v x others at true e rest = inl (here v x others at e)
      second v x others at false e (inl s) = inl (elsewhere v x others e s)
      second v x others at false e (inr s) = inr (ap (λ t. cond t (Some a) (lookup (nat_eq v) (bs ++ others))) e ∙ s)

  -- ---- places of their own

  abbrev pub Placed : ℕ → Variable → Memory → Address → Type 0
  Placed k x w a = IsPlace P F w k x a

  -- one for a variable, unless it is an array past the limits
  pub made_ends : (E : Type 0) (k : ℕ) (x : Variable) (w : Memory) → G.footprint (whole (made w.next)) ≡ true
      → (is_user x.ty ≡ true → (path : List ℕ) → G.footprint (at (made w.next) path) ≡ true) → slice_get P.declarations.vars k ≡ Some x
      → is_flat P.declarations x ≡ true → (is_makeable (variable_shape P.declarations k) ≡ false → E)
      → Ends G (Placed k x) E w (make (variable_shape P.declarations k) w)
  made_ends E k x w allowed parts_allowed is flat out = by (is_makeable s) refl
    where
      s : Shape
      s = variable_shape P.declarations k

      w1 : Memory
      w1 = record w { next = suc w.next }

      last_made : w.next < suc w.next
      last_made = omega arith

      by : (b : Bool) → is_makeable s ≡ b
          → Ends G (Placed k x) E w (then (provided b (λ v. gives [] (tt {0}) (laid s (whole (made w.next)) v)) w1) (λ (u : Unit {0}) v. gives [] (root s (whole (made w.next))) v))
      by false e = out e
      by true e =
          (keeps_laid G w s, (shape_of_variable P.declarations k x is flat, laid_fills G k x is flat e (made w.next) w1 last_made allowed parts_allowed))

  made_with_ends : (E : Type 0) (k : ℕ) (y : Variable) (s : Shape) (x : Value) (w : Memory) → G.footprint (whole (made w.next)) ≡ true → s ≡ simple y.ty → IsValue y.ty x
      → Ends G (Placed k y) E w (make_with s x w)
  made_with_ends E k y s x w allowed is p =
      let ty : Ty = y.ty in
      let a = root (simple ty) (whole (made w.next)) in
      let h = single ty (first_scalar ty) in
      let w1 : Memory = made_next h w in
      let first : Holds ty h = holds_scalar ty (first_scalar ty) (first_plain ty (is_covered ty p.0 p.2)) in
      let last : Holds ty (single ty p.0) = holds_scalar ty p.0 p.2 in
      let there : Stands G w1 (whole (made w.next)) ty = stands_made G w ty h first allowed in
      let one : Single ty (w1.held (whole (made w.next))) = single_of ty (w1.held (whole (made w.next))) (is_covered ty p.0 p.2) there.holds in
      let w2 : Memory = with_held (whole (made w.next)) (single ty p.0) w1 in
      let J = λ (b : Address) (v : Memory). then (write [] x b v) (λ (u : Unit {0}) m. gives [] b m) in
      let made_is : make s w ≡ gives [] a w1 = ap (λ d. make d w) is in
      let put : write [] (scalar ty p.0) a w1 ≡ gives [] tt w2 =
      root_written G w1 ty [] p.0 p.2 (whole (made w.next)) one.value one.holds in
      subst (λ r. Ends G (Placed k y) E w r)
      (sym (ap (λ r. then r J) made_is ∙ ap (λ z. after [] (then (write [] z a w1) (λ (u : Unit {0}) m. gives [] a m))) p.1
      ∙ ap (λ r. after [] (then r (λ (u : Unit {0}) m. gives [] a m))) put)) (
        keeps_then G w w1 w2 (keeps_made G w ty h first allowed) (keeps_changed G w1 (whole (made w.next)) ty (single ty p.0) there last),
        (scalar_shape ty (is_covered ty p.0 p.2), (stands_changed G w1 (whole (made w.next)) ty (single ty p.0) there last, tt)),
      )

  -- a place of its own for a user type that is given as a value
  pub made_whole_ends : (E : Type 0) (k : ℕ) (y : Variable) (s : Shape) (x : Value) (w : Memory)
      → ((path : List ℕ) → G.footprint (at (made w.next) path) ≡ true) → is_user y.ty ≡ true → IsShapeOf P.declarations y.ty s → IsValueOf P.declarations y.ty x
      → Ends G (Placed k y) E w (make_with s x w)
  made_whole_ends E k y s x w allowed user shape h =
      let ty : Ty = y.ty in
      let q : Position = whole (made w.next) in
      let flat = no_array_user ty user in
      let w1 : Memory = record w { next = suc w.next } in
      let w2 : Memory = laid s q w1 in
      let t = user_is ty user in
      let there : Fills G w2 q ty s =
      subst (λ z. Fills G w2 q z s) (sym t.1)
      (user_filled G t.0 s (made w.next) w1 (subst (λ z. IsShapeOf P.declarations z s) t.1 shape) (let l : w.next < suc w.next = omega arith in l) allowed) in
      let put = whole_written G [] w2 ty s shape user x (subst (λ d. IsWhole d x) (one_shape P.declarations ty h.0 s flat h.1 shape) h.2) q there in
      let J = λ (b : Address) (v : Memory). then (write [] x b v) (λ (u : Unit {0}) m. gives [] b m) in
      subst (λ r. Ends G (Placed k y) E w r)
      (sym (ap (λ b. then (then (provided b (λ v. gives [] (tt {0}) (laid s q v)) w1) (λ (u : Unit {0}) v. gives [] (root s q) v)) J) (whole_makeable P.declarations ty s flat shape)
      ∙ ap (λ r. after [] (then r (λ (u : Unit {0}) m. gives [] (root s q) m))) put.1))
      (keeps_then G w w2 put.0 (keeps_laid G w s) put.2, (shape, fills_later G w2 put.0 put.2 q ty s there))

-- ---- parameters

self_le : (n : ℕ) → n ≤ n
self_le n = omega arith

pub all_given : (K : Ground) (w u : Memory) (vs : List VarId) (gs : List SourceGiven) → Keeps K w u → AreGiven K w vs gs → AreGiven K u vs gs
all_given K w u [] [] k h = tt
all_given K w u (v ∷ vs) (g ∷ gs) k h = (given_later K w u (slice_get K.declarations.vars v.0) g k h.0, all_given K w u vs gs k h.1)
all_given K w u [] (g ∷ gs) k h = h
all_given K w u (v ∷ vs) [] k h = h

shapes_same : {D : Declarations} (ty : Ty) (s d : Shape) → IsShapeOf D ty s → IsShapeOf D ty d → is_same_shape s d ≡ true
shapes_same _ _ _ (scalar_shape ty c) (scalar_shape ty2 d) = self ty c
shapes_same _ _ _ (array_shape e rank bounds c) (array_shape f rank2 others d) = self e c
shapes_same _ _ _ (scalar_shape ty c) (array_shape f rank2 others d) = absurd (true≢false (sym c))
shapes_same _ _ _ (array_shape e rank bounds c) (scalar_shape ty2 d) = absurd (true≢false (sym d))
shapes_same _ _ _ (user_shape t d fs is of) (user_shape s e gs at in_) = eq-eqb t t refl
shapes_same _ _ _ (user_shape t d fs is of) (scalar_shape ty2 c) = absurd (true≢false (sym c))
shapes_same _ _ _ (scalar_shape ty c) (user_shape t d fs is of) = absurd (true≢false (sym c))

first_place : (i : ℕ) → i + 0 ≡ i
first_place i = omega arith

next_place : (i j : ℕ) → i + suc j ≡ suc i + j
next_place i j = omega arith

module _ (R : Runnable) (p : ℕ) (variables : has_flat_variables R.program p ≡ true) (F : Footprint) (E : Type 0) where
  abbrev D : Declarations
  D = declarations_of R

  abbrev K : Ground
  K = ground (declarations_of R) F

  abbrev Good : ℕ → Variable → Memory → Address → Type 0
  Good k x w a = IsPlace R.program F w k x a

  -- a loud parameter runs as none that is quiet
  abbrev pub RunsLoud : (quiet : Bool) → (variable : ℕ) → Variable → Type 0
  RunsLoud quiet k x = is_loud R.program k (Some x) ≡ true → quiet ≡ false

  -- a value for a quiet parameter
  quiet_value : (k : ℕ) (y : Variable) (s : Shape) (x : Value) (w : Memory) → RunsLoud true k y → s ≡ simple y.ty → IsValue y.ty x
      → Ends K (Good k y) E w (some_of (kept_as s x) (λ x w. gives [] (constant x) w) w)
  quiet_value k y s x w loud is p =
      let kept : kept_as s x ≡ Some x = ap (λ d. kept_as d x) is ∙ ap (λ z. kept_as (simple y.ty) z) p.1 ∙ is_kept y.ty p.0 p.2 ∙ ap (λ z. Some z) (sym p.1) in
      subst (λ o. Ends K (Good k y) E w (some_of o (λ x w. gives [] (constant x) w) w)) (sym kept)
      (keeps_self K w, (not_loud (is_loud R.program k (Some y)) refl, p))
    where
      not_loud : (b : Bool) → is_loud R.program k (Some y) ≡ b → b ≡ false
      not_loud false e = refl
      not_loud true e = absurd (true≢false (loud e))

  -- a user type, which runs as none that is quiet
  whole_value : (k : ℕ) (y : Variable) (o : Owner) (x : Value) (s : Shape) (quiet : Bool) (w : Memory) → ((path : List ℕ) → K.footprint (at (made w.next) path) ≡ true)
      → is_parameter_of p o ≡ true → quiet ≡ false → is_user y.ty ≡ true → IsShapeOf D y.ty s → IsValueOf D y.ty x → Ends K (Good k y) E w (bound_to quiet o s (by_value x) w)
  whole_value k y (owner.Value q) x s quiet w allowed is loud user shape v = made_whole_ends R.program F E k y s x w allowed user shape v
  whole_value k y (owner.Reference q) x s quiet w allowed is loud user shape v =
      subst (λ b. Ends K (Good k y) E w (temporary b s x w)) (sym loud) (made_whole_ends R.program F E k y s x w allowed user shape v)
  whole_value k y (owner.Module q) x s quiet w allowed is loud user shape v = absurd (true≢false (sym is))
  whole_value k y (owner.Local q) x s quiet w allowed is loud user shape v = absurd (true≢false (sym is))
  whole_value k y (owner.Static q) x s quiet w allowed is loud user shape v = absurd (true≢false (sym is))
  whole_value k y (owner.Answer q) x s quiet w allowed is loud user shape v = absurd (true≢false (sym is))
  whole_value k y (owner.Field q) x s quiet w allowed is loud user shape v = absurd (true≢false (sym is))

  same_value : (k : ℕ) (y : Variable) (o : Owner) (x : Value) (s : Shape) (quiet : Bool) (w : Memory) → K.footprint (whole (made w.next)) ≡ true → is_parameter_of p o ≡ true
      → RunsLoud quiet k y → s ≡ simple y.ty → IsValue y.ty x → Ends K (Good k y) E w (bound_to quiet o s (by_value x) w)
  same_value k y (owner.Value q) x s quiet w allowed is loud is_shape v = made_with_ends R.program F E k y s x w allowed is_shape v
  same_value k y (owner.Reference q) x s true w allowed is loud is_shape v = quiet_value k y s x w loud is_shape v
  same_value k y (owner.Reference q) x s false w allowed is loud is_shape v = made_with_ends R.program F E k y s x w allowed is_shape v
  same_value k y (owner.Module q) x s quiet w allowed is loud is_shape v = absurd (true≢false (sym is))
  same_value k y (owner.Local q) x s quiet w allowed is loud is_shape v = absurd (true≢false (sym is))
  same_value k y (owner.Static q) x s quiet w allowed is loud is_shape v = absurd (true≢false (sym is))
  same_value k y (owner.Answer q) x s quiet w allowed is loud is_shape v = absurd (true≢false (sym is))
  same_value k y (owner.Field q) x s quiet w allowed is loud is_shape v = absurd (true≢false (sym is))

  by_reference : (k : ℕ) (y : Variable) (o : Owner) (s : Shape) (a : Address) (quiet : Bool) (w : Memory) → is_reference_owner o ≡ true
      → is_address_of s a ≡ true → Good k y w a → Ends K (Good k y) E w (bound_to quiet o s (by_address a) w)
  by_reference k y (owner.Reference n) s a quiet w is same good =
      subst (λ b. Ends K (Good k y) E w (provided b (λ w. gives [] a w) w)) (sym same) (keeps_self K w, good)
  by_reference k y (owner.Value n) s a quiet w is same good = absurd (true≢false (sym is))
  by_reference k y (owner.Module n) s a quiet w is same good = absurd (true≢false (sym is))
  by_reference k y (owner.Local n) s a quiet w is same good = absurd (true≢false (sym is))
  by_reference k y (owner.Static n) s a quiet w is same good = absurd (true≢false (sym is))
  by_reference k y (owner.Answer n) s a quiet w is same good = absurd (true≢false (sym is))
  by_reference k y (owner.Field n) s a quiet w is same good = absurd (true≢false (sym is))

  one_bound : (k : ℕ) (y : Variable) (s : Shape) (g : SourceGiven) (quiet : Bool) (w : Memory) → K.footprint (whole (made w.next)) ≡ true
      → (is_user y.ty ≡ true → (path : List ℕ) → K.footprint (at (made w.next) path) ≡ true) → is_parameter_of p y.owner ≡ true
      → (covers_type y.ty ≡ true) ⊎ (is_loud R.program k (Some y) ≡ true) → RunsLoud quiet k y → IsShapeOf D y.ty s → IsGiven K w (Some y) g
      → Ends K (Good k y) E w (bound_to quiet y.owner s g w)
  one_bound k y s (by_value x) quiet w allowed parts_allowed is kind loud shape h = by (value_kind D y.ty x h)
    where
      silent : is_user y.ty ≡ true → (covers_type y.ty ≡ true) ⊎ (is_loud R.program k (Some y) ≡ true) → quiet ≡ false
      silent user (inl c) = absurd (no_scalar_user y.ty c user)
      silent user (inr l) = loud l

      by : IsValue y.ty x ⊎ (is_user y.ty ≡ true) → Ends K (Good k y) E w (bound_to quiet y.owner s (by_value x) w)
      by (inl v) = same_value k y y.owner x s quiet w allowed is loud (simple_is y.ty s (is_covered y.ty v.0 v.2) shape) v
      by (inr user) = whole_value k y y.owner x s quiet w (parts_allowed user) is (silent user kind) user shape h
  one_bound k y s (by_address (root d q)) quiet w allowed parts_allowed is kind loud shape h =
      by_reference k y y.owner s (root d q) quiet w h.0 (shapes_same y.ty s d shape h.1) (h.1, h.2)
  one_bound k y s (by_address (item e q j path)) quiet w allowed parts_allowed is kind loud shape h =
      let c : covers_type y.ty ≡ true = (table_of y.ty 0 (w.held q) h.1.2.holds).covers in
      by_reference k y y.owner s (item e q j path) quiet w h.0
      (ap (λ (d : Shape). is_some_shape s (part_shape path d)) h.1.0 ∙ ap (λ (z : List ℕ). is_some_shape s (part_shape z (simple y.ty))) h.1.1
      ∙ ap (λ d. is_same_shape d (simple y.ty)) (simple_is y.ty s c shape) ∙ self y.ty c)
      (h.0, h.1)
  one_bound k y s (by_address (constant x)) quiet w allowed parts_allowed is kind loud shape h = absurd h

  pub parameters_end : (place : ℕ) (vs : List VarId) (gs : List SourceGiven) (w : Memory) → IsSound K w → list_all (is_flat_parameter R.program p) vs ≡ true
      → ((j : ℕ) (v : VarId) → slice_get vs j ≡ Some v → is_loud R.program v.0 (slice_get D.vars v.0) ≡ true → R.quiet p (place + j) ≡ false) → AreGiven K w vs gs
      → Ends K (λ u bs. Bound R.program F u (map (λ (v : VarId). v.0) vs) bs) E w (parameters R p place vs gs w)
  parameters_end place [] [] w sound c loud h = (keeps_self K w, no_bound R.program F w)
  parameters_end place [] (g ∷ gs) w sound c loud h = absurd h
  parameters_end place (v ∷ vs) [] w sound c loud h = absurd h
  parameters_end place (v ∷ vs) (g ∷ gs) w sound c loud h =
      let y : Parameter R.program p v = parameter_of R.program p v variables (all_first (is_flat_parameter R.program p) v vs c) in
      let s : Shape = variable_shape D v.0 in
      let shape : IsShapeOf D y.variable.ty s = shape_of_variable D v.0 y.variable y.is_variable y.flat in
      let Q = λ (u : Memory) (bs : Bindings). Bound R.program F u (map (λ (z : VarId). z.0) (v ∷ vs)) bs in
      let first : RunsLoud (R.quiet p place) v.0 y.variable =
      λ l. ap (λ n. R.quiet p n) (sym (first_place place)) ∙ loud 0 v refl (ap (λ o. is_loud R.program v.0 o) y.is_variable ∙ l) in
      then_ends K (Good v.0 y.variable) Q E w (some_of (slice_get K.declarations.vars v.0) (λ x w. bound_to (R.quiet p place) x.owner s g w) w)
      (λ a u. then (parameters R p (suc place) vs gs u) (λ rest m. gives [] ((v.0, a) ∷ rest) m))
      (subst (λ o. Ends K (Good v.0 y.variable) E w (some_of o (λ x w. bound_to (R.quiet p place) x.owner s g w) w)) (sym y.is_variable)
      (one_bound v.0 y.variable s g (R.quiet p place) w (sound.fresh w.next (self_le w.next))
      (λ user path. sound.fresh_parts v.0 y.variable y.is_variable user w.next path (self_le w.next)) y.is_parameter y.loud first shape
      (subst (λ o. IsGiven K w o g) y.is_variable h.0)))
      (λ o a u one k there.
      then_ends K (λ m bs. Bound R.program F m (map (λ (z : VarId). z.0) vs) bs) Q E u (parameters R p (suc place) vs gs u) (λ rest m. gives [] ((v.0, a) ∷ rest) m)
      (parameters_end (suc place) vs gs u (sound_later K w u k sound) (all_rest (is_flat_parameter R.program p) v vs c)
      (λ j z at l. ap (λ n. R.quiet p n) (sym (next_place place j)) ∙ loud (suc j) z at l) (all_given K w u vs gs k h.1))
      (λ o2 rest m two l b. (
        keeps_self K m,
        bound_more R.program F m v.0 y.variable (map (λ (z : VarId). z.0) vs) a rest y.is_variable (place_later R.program F u m v.0 y.variable a l there) b,
      )))
