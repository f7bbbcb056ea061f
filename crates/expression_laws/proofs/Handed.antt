-- What gives a value and no place is given as that value where a reference is taken.
use Rattle.std.proofs.Common.{◌≡◌, refl, sym, subst, ◌∙◌, ℕ, suc, List, [], ◌∷◌, append-nil}
use Rattle.vb_tree.specs.BoundTree.{Ty}
use Rattle.run_base.specs.Frames.{by_value}
use Rattle.run_base.specs.Outcomes.{Outcome, gives, outside, raises, spent, then}
use Rattle.vb6_run.specs.Store.{Memory, SourceGiven}
use Rattle.vb6_run.specs.Values.{Value}
use Rattle.net_run.specs.Calls.{Arguments}
use Rattle.net_run.specs.Expressions as target
use Rattle.net_run.specs.Store as net
use Rattle.net_run.specs.Values as net_value
use Rattle.run_matches.specs.Addresses.{IsGivable, TakesValue}
use Rattle.run_matches.specs.Agreeing.{Agrees}
use Rattle.run_matches.specs.Likeness.{LikeV, Numbers, ValueLike, like_elements, like_fields, like_scalar}
use Rattle.run_matches.specs.Maps.{World}
use Rattle.run_matches.specs.Pledges.{Later, NetGiven, Pledge, arrays_in}
use Rattle.run_matches.specs.Match.{MemoryMatch}
use Rattle.run_matches.specs.Upgrades.{Upgrade}
use Rattle.run_statements.specs.Frames.{ScalarMatch}
use Rattle.agreeing_laws.specs.Promises.{Yields}
use Rattle.agreeing_laws.proofs.Agreeing.{agrees_gives, then_agrees}
use Rattle.agreeing_laws.proofs.Scalars.{scalar_later}
use Rattle.run_statements.specs.Arguments.{ArgumentsMatch, next_value}
use Rattle.expression_laws.proofs.Arguments.{no_arrays}
use Rattle.expression_laws.proofs.Handled.{Handed}
use Rattle.expression_laws.proofs.NoPlaces.{NoPlace}
use Rattle.expression_laws.proofs.Temporaries.{GoesAsValue, goes_as, goes_out}

-- values that match go on to, and hold no array
pub record Lasts (U : Upgrade) (K : Pledge) (q i : ℕ) (R : World → Value → net_value.Value → Type 0) : Type 0 where
  pub like : (w : World) (x : Value) (y : net_value.Value) → R w x y → LikeV U w x y
  pub later : (w u : World) (x : Value) (y : net_value.Value) → Later U K w u → R w x y → LikeV U u x y
  pub givable : (w : World) (x : Value) (y : net_value.Value) → R w x y → IsGivable U q i x
  pub no_arrays : (w : World) (x : Value) (y : net_value.Value) → R w x y → arrays_in y ≡ []

-- both sides give values that match
pub record HandedMatch (R : World → Value → net_value.Value → Type 0) (w : World) (g : SourceGiven) (h : NetGiven) : Type 0 where
  pub given : Value
  pub net_given : net_value.Value
  pub is_given : g ≡ by_value given
  pub is_net_given : h ≡ by_value net_given
  pub match : R w given net_given

-- what is given of a value
abbrev pub SourceHanded : Outcome Memory Value → Outcome Memory SourceGiven
SourceHanded r = then r (λ x w. gives [] (by_value x) w)

abbrev IsKnown : net_value.Value → Type 0
IsKnown net_value.unknown = ⊥
IsKnown (net_value.single y) = Unit {0}
IsKnown (net_value.fields ys) = Unit {0}

like_known : (U : Upgrade) (N : Numbers) (x : Value) (y : net_value.Value) → ValueLike U N x y → IsKnown y
like_known U N _ _ (like_scalar ty z y m) = tt
like_known U N _ _ (like_fields t xs ys m) = tt
like_known U N _ _ (like_elements e dims xs k m) = tt

module _ (U : Upgrade) (K : Pledge) (w : World) (R : World → Value → net_value.Value → Type 0)
    (like : (w : World) (x : Value) (y : net_value.Value) → R w x y → LikeV U w x y) where
  pub handed_agrees : (r : Outcome Memory Value) (z : Outcome net.Memory net.Address) → Agrees U K w R r (then z target.read)
      → Yields NoPlace z → Agrees U K w (HandedMatch R) (SourceHanded r) (Handed z)
  handed_agrees (gives o x s) (gives q (net.constant c y) t) h p =
      (h.0 ∙ sym (append-nil o), h.1, record { given = x; net_given = y; is_given = refl; is_net_given = refl; match = h.2 }, h.3)
  handed_agrees (gives o x s) (gives q net.nowhere t) h p = absurd (like_known U _ x net_value.unknown (like _ x net_value.unknown h.2))
  handed_agrees (gives o x s) (gives q (net.root d k) t) h p = absurd p
  handed_agrees (gives o x s) (gives q (net.item d k j path) t) h p = absurd p
  handed_agrees (gives o x s) (raises q e t) h p = absurd h
  handed_agrees (gives o x s) (spent q t) h p = absurd h
  handed_agrees (gives o x s) (outside q) h p = absurd h
  handed_agrees (raises o e s) (gives q a t) h p = absurd h
  handed_agrees (raises o e s) (raises q d t) h p = h
  handed_agrees (raises o e s) (spent q t) h p = absurd h
  handed_agrees (raises o e s) (outside q) h p = absurd h
  handed_agrees (spent o s) (gives q a t) h p = absurd h
  handed_agrees (spent o s) (raises q d t) h p = absurd h
  handed_agrees (spent o s) (spent q t) h p = h
  handed_agrees (spent o s) (outside q) h p = absurd h
  handed_agrees (outside o) (gives q a t) h p = h
  handed_agrees (outside o) (raises q d t) h p = h
  handed_agrees (outside o) (spent q t) h p = h
  handed_agrees (outside o) (outside q) h p = h

-- ---- arguments

module _ (U : Upgrade) (K : Pledge) (q i : ℕ) (takes : TakesValue U q i) (R : World → Value → net_value.Value → Type 0) (lasts : Lasts U K q i R) where
  given_later : (v u : World) (g : SourceGiven) (h : NetGiven) (xs : List SourceGiven) (ys : List NetGiven) → Later U K v u → HandedMatch R v g h
      → ArgumentsMatch U K q (suc i) u xs ys → ArgumentsMatch U K q i u (g ∷ xs) (h ∷ ys)
  given_later v u g h xs ys later m rest =
      subst (λ z. ArgumentsMatch U K q i u (z ∷ xs) (h ∷ ys)) (sym m.is_given)
      (subst (λ z. ArgumentsMatch U K q i u (by_value m.given ∷ xs) (z ∷ ys)) (sym m.is_net_given)
      (next_value i u m.given m.net_given xs ys (lasts.later v u m.given m.net_given later m.match) (lasts.givable v m.given m.net_given m.match) takes
      (lasts.no_arrays v m.given m.net_given m.match) rest))

  value_agrees : (w : World) (r : Outcome Memory Value) (r' : Outcome net.Memory net_value.Value) (t : Outcome net.Memory NetGiven) → GoesAsValue r t r'
      → Agrees U K w R r r' → Agrees U K w (HandedMatch R) (SourceHanded r) t
  value_agrees w r r' t (goes_as taken) first =
      subst (λ z. Agrees U K w (HandedMatch R) (SourceHanded r) z) (sym taken.goes)
      (handed_agrees U K w R lasts.like r taken.address (subst (λ z. Agrees U K w R r z) (sym taken.value) first) taken.no_place)
  value_agrees w r r' t (goes_out o rest is out) first =
      subst (λ z. Agrees U K w (HandedMatch R) (SourceHanded z) t) (sym is) (rest, out)

  -- one more argument, that both sides give as a value
  pub taken_agrees : (w : World) (r : Outcome Memory Value) (r' : Outcome net.Memory net_value.Value) (s : Outcome Memory SourceGiven)
      (t : Outcome net.Memory NetGiven) (rest : Memory → Outcome Memory (List SourceGiven)) (rest' : net.Memory → Outcome net.Memory Arguments)
      → s ≡ SourceHanded r → GoesAsValue r t r' → MemoryMatch U w → Agrees U K w R r r'
      → ((v : World) → Later U K w v → Agrees U K v (ArgumentsMatch U K q (suc i)) (rest v.src) (rest' v.net))
      → Agrees U K w (ArgumentsMatch U K q i) (then s (λ g w. then (rest w) (λ gs w. gives [] (g ∷ gs) w))) (then t (λ g w. then (rest' w) (λ gs w. gives [] (g ∷ gs) w)))
  taken_agrees w r r' s t rest rest' e taken start first more =
      let both : Agrees U K w (HandedMatch R) s t = subst (λ z. Agrees U K w (HandedMatch R) z t) (sym e) (value_agrees w r r' t taken first) in
      then_agrees U K w (HandedMatch R) (ArgumentsMatch U K q i) s t (λ g w. then (rest w) (λ gs w. gives [] (g ∷ gs) w))
      (λ g w. then (rest' w) (λ gs w. gives [] (g ∷ gs) w)) start both
      (λ g h v m l.
      then_agrees U K v (ArgumentsMatch U K q (suc i)) (ArgumentsMatch U K q i) (rest v.src) (rest' v.net) (λ gs w. gives [] (g ∷ gs) w) (λ gs w. gives [] (h ∷ gs) w) l.match
      (more v l) (λ xs ys u given later. agrees_gives U K u (ArgumentsMatch U K q i) (g ∷ xs) (h ∷ ys) later.match (given_later v u g h xs ys later m given)))

-- ---- scalars

pub scalar_lasts : (U : Upgrade) (K : Pledge) (q i : ℕ) (ty : Ty) → Lasts U K q i (ScalarMatch U ty)
scalar_lasts U K q i ty = record {
  like = λ w x y m. subst (λ z. LikeV U w z y) (sym m.1) m.2;
  later = λ w u x y l m. subst (λ z. LikeV U u z y) (sym m.1) (scalar_later U K w u ty m.0 y l m.2);
  givable = λ w x y m. subst (λ z. IsGivable U q i z) (sym m.1) tt;
  no_arrays = λ w x y m. no_arrays U w ty m.0 y m.2;
}
