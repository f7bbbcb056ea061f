-- The places that parameters and a result variable have, with a first value or one that is given.
use Rattle.std.proofs.Common.{refl, Bool, false, true≢false, ap, ◌∙◌, ◌≡◌, ◌⊎◌, ⊎_elim, sym, subst, ℕ, true, not, ◌&&◌, Some, [], inl, inr, None, nat_eq, eqb-true}
use Rattle.up_base.proofs.Tests.{both_true}
use Rattle.vb_tree.specs.BoundTree as types
use Rattle.vb_tree.specs.BoundTree.{Ty}
use Rattle.bound_facts.specs.Locks.{is_same_type}
use Rattle.net_tree.specs.Types.{TypeName}
use Rattle.run_base.specs.Outcomes.{Outcome, gives, then}
use Rattle.run_base.specs.Positions.{made, whole}
use Rattle.vb6_run.specs.Shapes.{Shape, variable_shape, array, endless, group, simple, user_shapes}
use Rattle.vb6_run.specs.Store.{Address, Memory, make, make_with, root, write}
use Rattle.vb6_run.specs.Values.{Value, scalar, elements, fields, if_of_shape, is_typed, kept_as}
use Rattle.net_run.specs.Shapes as shape
use Rattle.net_run.specs.Store as net
use Rattle.net_run.specs.Values as net_value
use Rattle.run_matches.specs.Frames.{is_mirrored}
use Rattle.run_matches.specs.Addresses.{images, IsDeclaredShape, IsGivable}
use Rattle.run_matches.specs.Agreeing.{Agrees}
use Rattle.run_matches.specs.CoveredVariables.{covers_group_type, covers_owner, covers_type}
use Rattle.run_matches.specs.Likeness.{LikeV, scalar_word, SameShape}
use Rattle.run_matches.specs.Maps.{Below, World, mark}
use Rattle.run_matches.specs.Match.{MemoryMatch}
use Rattle.run_matches.specs.Pledges.{Later, Pledge, type_of_shape}
use Rattle.run_matches.specs.Upgrades.{Upgrade}
use Rattle.run_statements.specs.Frames.{HasRankOf, IsReadable, MadeMatch, IsGroup, type_shape}
use Rattle.agreeing_laws.specs.Promises.{Yields}
use Rattle.agreeing_laws.proofs.Agreeing.{agrees_weaker, agrees_yields, agrees_outside}
use Rattle.run_laws.specs.Entered.{LocalMatch}
use Rattle.run_laws.specs.Premises.{MakesAlike}
use Rattle.agreeing_laws.proofs.Outputs.{yields_after, yields_then}
use Rattle.run_laws.proofs.Locals.{new_place}
use Rattle.run_laws.proofs.LocalsMade.{makes_next}
use Rattle.run_laws.proofs.GroupDims.{group_unranked}
use Rattle.run_laws.proofs.Usable.{group_type_is}
use Rattle.run_statements.specs.Groups.{GroupMade, ValueMatch}
use Rattle.run_matches.specs.Kinds.{IsValueOf}
use Rattle.run_matches.specs.SoundShapes.{IsSoundShape}
use Rattle.agreeing_laws.proofs.UserShapes.{covered_type_of, declared_user}
use Rattle.memory_laws.proofs.GroupsMade.{group_shape, group_shape_is, make_with_none}

-- ---- values of other types

-- what a variable of a user type keeps is a value of it, where that has all fields
user_kept : (U : Upgrade) (p i t : ℕ) (s : Shape) → type_of_shape s ≡ types.user t → IsSoundShape U s → IsDeclaredShape U s → (x : Value) → IsGivable U p i x
    → (kept_as s x ≡ None) ⊎ IsValueOf s x
user_kept U p i t (simple ty) of c whole x given = absurd (no_single c)
  where
    no_single : IsSoundShape U (simple ty) → ⊥
    no_single (inl h) = true≢false (sym (subst (λ z. covers_type z ≡ true) of h))
    no_single (inr k) = cc (sym of ∙ k.2)
user_kept U p i t (group k fs) of c whole (scalar ty z) given = inl refl
user_kept U p i t (group k fs) of c whole (elements e dims xs) given = inl refl
user_kept U p i t (group k fs) of c whole (fields u xs) given = by (nat_eq k u) refl
  where
    by : (b : Bool) → nat_eq k u ≡ b → (kept_as (group k fs) (fields u xs) ≡ None) ⊎ IsValueOf (group k fs) (fields u xs)
    by true e =
        inr (subst (λ s. IsValueOf s (fields u xs)) whole
        (subst (λ (n : ℕ). IsValueOf (user_shapes U.program.declarations n) (fields u xs)) (sym (eqb-true k u e)) given))
    by false e = inl (ap (λ b. if_of_shape b (fields u xs)) e)
user_kept U p i t (array e bounds) of c whole x given = absurd c
user_kept U p i t endless of c whole x given = absurd c

-- and so is what a variable of a class keeps
group_kept : (U : Upgrade) (p i : ℕ) (ty : Ty) → covers_group_type U.program.declarations ty ≡ true → IsSoundShape U (type_shape U ty) → (x : Value)
    → IsGivable U p i x → (kept_as (type_shape U ty) x ≡ None) ⊎ IsValueOf (type_shape U ty) x
group_kept U p i (types.user t) h c x given =
    user_kept U p i t (user_shapes U.program.declarations t) (covered_type_of U.program.declarations t h) c (declared_user U t h) x given
group_kept U p i (types.class k) h c (scalar ty z) given = by (is_same_type (types.class k) ty) refl
  where
    by : (b : Bool) → is_same_type (types.class k) ty ≡ b → (kept_as (simple (types.class k)) (scalar ty z) ≡ None) ⊎ (ty ≡ types.class k)
    by true e = inr (sym (group_type_is (types.class k) ty refl e))
    by false e = inl (ap (λ b. if_of_shape (b && is_typed ty z) (scalar ty z)) e)
group_kept U p i (types.class k) h c (fields u xs) given = inl refl
group_kept U p i (types.class k) h c (elements e dims xs) given = inl refl
group_kept U p i _ h c x given = absurd (true≢false (sym h))

-- ---- making

makes_with_next : (s : Shape) (x : Value) (w : Memory) → Yields (λ (a : Address) (u : Memory). a ≡ root s (whole (made w.next))) (make_with s x w)
makes_with_next s x w = by (make s w) (makes_next s w)
  where
    Q : Address → Memory → Type 0
    Q a u = a ≡ root s (whole (made w.next))

    by : (r : Outcome Memory Address) → Yields Q r → Yields Q (then r (λ a v. then (write [] x a v) (λ u v. gives [] a v)))
    by (gives o a v) h = yields_after Q o (then (write [] x a v) (λ u v. gives [] a v)) (yields_then Q (write [] x a v) (λ u v. gives [] a v) (λ u v. h))
    by r h = tt

pub readable_type : (U : Upgrade) (v : ℕ) (r : IsReadable U v) → covers_type r.variable.ty ≡ true
readable_type U v r =
    (both_true (covers_type r.variable.ty) (not r.variable.auto)
    (both_true (covers_owner r.variable.owner) (covers_type r.variable.ty && not r.variable.auto) r.covers).1).0

abbrev pub Local : Upgrade → Pledge → (v : ℕ) → World → Address → net.Address → Type 0
Local U K v u a b = LocalMatch U K u v a b

module _ (U : Upgrade) (K : Pledge) (makes : MakesAlike U K) where
  own_local : (w : World) (v : ℕ) (ty : Ty) (t : TypeName) (r : Outcome Memory Address) (r' : Outcome net.Memory net.Address) → Below K.base (mark w.src)
      → Yields (λ (a : Address) (u : Memory). a ≡ root (variable_shape U.program.declarations v) (whole (made w.src.next))) r
      → Agrees U K w (MadeMatch U K v ty t) r r' → Agrees U K w (Local U K v) r r'
  own_local w v ty t r r' low y h =
      let s : Shape = variable_shape U.program.declarations v in
      let Q : Address → Memory → Type 0 = λ a u. a ≡ root s (whole (made w.src.next)) in
      agrees_weaker U K w (λ u a b. MadeMatch U K v ty t u a b × Q a u.src) (Local U K v) r r'
      (λ u a b l m. record {
        bound = images (not (is_mirrored U v)) a b m.0.same;
        ranked = subst (λ d. HasRankOf U v (net.shape_at d)) (sym m.0.target_shape.1) tt;
        standing = inl (record { place = m.0.place; own = new_place K w a s low m.1 });
      }) (agrees_yields U K w (MadeMatch U K v ty t) Q r r' y h)

  -- a variable with its first value
  pub local_is_made : (w : World) (v : ℕ) (r : IsReadable U v) (t : TypeName) → scalar_word r.variable.ty ≡ Some t → Below K.base (mark w.src)
      → MemoryMatch U w
      → Agrees U K w (Local U K v) (make (variable_shape U.program.declarations v) w.src)
      (net.made_with (shape.scalar t) (shape.default_of (shape.scalar t)) w.net)
  local_is_made w v r t e low h =
      let s : Shape = variable_shape U.program.declarations v in
      own_local w v r.variable.ty t (make s w.src) (net.made_with (shape.scalar t) (shape.default_of (shape.scalar t)) w.net) low (makes_next s w.src)
      (makes.scalars w v r t e h)

  -- a variable with a value that is given
  pub value_is_made : (w0 w : World) (v : ℕ) (r : IsReadable U v) (t : TypeName) (x : Value) (y : net_value.Value) → scalar_word r.variable.ty ≡ Some t
      → Below K.base (mark w.src) → Later U K w0 w → LikeV U w0 x y
      → Agrees U K w (Local U K v) (make_with (variable_shape U.program.declarations v) x w.src) (net.made_with (shape.scalar t) y w.net)
  value_is_made w0 w v r t x y e low l like =
      let s : Shape = variable_shape U.program.declarations v in
      own_local w v r.variable.ty t (make_with s x w.src) (net.made_with (shape.scalar t) y w.net) low (makes_with_next s x w.src)
      (makes.scalars_given w0 w v r t x y e l like)

  -- so it is with a variable of a user type or of a class
  own_group : (w : World) (v : ℕ) (ty : Ty) (r : IsGroup U v ty) (d : shape.Shape) (z : Outcome Memory Address) (z' : Outcome net.Memory net.Address)
      → SameShape U (variable_shape U.program.declarations v) d → Below K.base (mark w.src)
      → Yields (λ (a : Address) (u : Memory). a ≡ root (variable_shape U.program.declarations v) (whole (made w.src.next))) z
      → Agrees U K w (GroupMade U K v d) z z' → Agrees U K w (Local U K v) z z'
  own_group w v ty r d z z' same low y h =
      let s : Shape = variable_shape U.program.declarations v in
      let Q : Address → Memory → Type 0 = λ a u. a ≡ root s (whole (made w.src.next)) in
      agrees_weaker U K w (λ u a b. GroupMade U K v d u a b × Q a u.src) (Local U K v) z z'
      (λ u a b later m. record {
        bound = images (not (is_mirrored U v)) a b m.0.same;
        ranked = subst (λ e. HasRankOf U v (net.shape_at e)) (sym m.0.target_shape.1) (group_unranked U v ty r d same);
        standing = inl (record { place = m.0.place; own = new_place K w a s low m.1 });
      }) (agrees_yields U K w (GroupMade U K v d) Q z z' y h)

  pub group_is_made : (w : World) (v : ℕ) (ty : Ty) (r : IsGroup U v ty) (d : shape.Shape) → SameShape U (variable_shape U.program.declarations v) d
      → Below K.base (mark w.src) → MemoryMatch U w
      → Agrees U K w (Local U K v) (make (variable_shape U.program.declarations v) w.src) (net.made_with d (shape.default_of d) w.net)
  group_is_made w v ty r d same low h =
      let s : Shape = variable_shape U.program.declarations v in
      own_group w v ty r d (make s w.src) (net.made_with d (shape.default_of d) w.net) same low (makes_next s w.src) (makes.groups w v ty r d same h)

  group_is_given : (w0 w : World) (v : ℕ) (ty : Ty) (r : IsGroup U v ty) (d : shape.Shape) (x : Value) (y : net_value.Value)
      → SameShape U (variable_shape U.program.declarations v) d → Below K.base (mark w.src) → Later U K w0 w
      → ValueMatch U (variable_shape U.program.declarations v) w0 x y
      → Agrees U K w (Local U K v) (make_with (variable_shape U.program.declarations v) x w.src) (net.made_with d y w.net)
  group_is_given w0 w v ty r d x y same low l like =
      let s : Shape = variable_shape U.program.declarations v in
      own_group w v ty r d (make_with s x w.src) (net.made_with d y w.net) same low (makes_with_next s x w.src)
      (makes.groups_given w0 w v ty r d x y same l like)

  -- a value of another type makes none
  group_none : (w : World) (v : ℕ) (ty : Ty) (r : IsGroup U v ty) (d : shape.Shape) (x : Value) (y : net_value.Value) → kept_as (type_shape U ty) x ≡ None
      → Agrees U K w (Local U K v) (make_with (variable_shape U.program.declarations v) x w.src) (net.made_with d y w.net)
  group_none w v ty r d x y none =
      subst (λ z. Agrees U K w (Local U K v) z (net.made_with d y w.net))
      (sym (make_with_none U (variable_shape U.program.declarations v) (group_shape U v ty r) w.src x
      (ap (λ s. kept_as s x) (group_shape_is U v ty r) ∙ none))) (agrees_outside U K w (Local U K v) (net.made_with d y w.net))

  pub group_value_agrees : (w0 w : World) (v : ℕ) (ty : Ty) (r : IsGroup U v ty) (p i : ℕ) (x : Value) (y : net_value.Value) → LikeV U w0 x y → IsGivable U p i x
      → Below K.base (mark w.src) → Later U K w0 w → (d : shape.Shape) → SameShape U (variable_shape U.program.declarations v) d
      → Agrees U K w (Local U K v) (make_with (variable_shape U.program.declarations v) x w.src) (net.made_with d y w.net)
  group_value_agrees w0 w v ty r p i x y like given low l d same =
      ⊎_elim (λ none. group_none w v ty r d x y none)
      (λ of. group_is_given w0 w v ty r d x y same low l (subst (λ s. IsValueOf s x) (sym (group_shape_is U v ty r)) of, like))
      (group_kept U p i ty r.covers r.sound x given)
