-- What leads to a value, or to a call: a reference parameter is given the value as a temporary, for a call gives no place.
use Rattle.std.proofs.Common.{◌≡◌, ◌⊎◌, inl, inr, refl, sym, subst, Bool, true, false, true≢false, List, [], ℕ}
use Rattle.vb6_meaning.specs.Answers.{Answer}
use Rattle.vb6_meaning.specs.Answers as value
use Rattle.net_tree.specs.Tree.{Exp, Exps, call_of, paren, path}
use Rattle.net_tree.specs.Tree as tree
use Rattle.net_tree.specs.Types.{TypeName}
use Rattle.net_tree.specs.declared.declaration.NetPassing.{NetPassing}
use Rattle.net_tree.specs.declared.declaration.NetPassing.TheVariants as passing
use Rattle.net_tree.specs.declared.expression.OpN.TheVariants.{Bin, Un}
use Rattle.net_meaning.specs.declared.value.ValueN.{ValueN}
use Rattle.net_meaning.specs.Conversions.{coerce_net}
use Rattle.net_meaning.specs.Operators.{operate_net}
use Rattle.net_meaning.specs.WrittenRows.{cast_type}
use Rattle.run_base.specs.Outcomes.{Outcome, Output, after, gives, outside, raises, spent, then}
use Rattle.net_run.specs.Calls.{Arguments, passings_of, performed, value_answered}
use Rattle.net_run.specs.Expressions as target
use Rattle.net_run.specs.Making.{Jobs, created}
use Rattle.net_run.specs.Names.{Callee, Reached, Scope, at_address, at_element, at_field, called, found_at, named, path_start, starts, to_clone, to_library, to_procedure, to_property, to_support}
use Rattle.net_run.specs.Shapes as shape
use Rattle.net_run.specs.Store as net
use Rattle.net_run.specs.Values as net_value
use Rattle.run_matches.specs.Pledges.{NetGiven}
use Rattle.agreeing_laws.specs.Promises.{Yields}
use Rattle.expression_laws.proofs.NoPlaces.{NoPlace, performed_is}

-- ---- expressions

-- what is written by its outermost part as a value
abbrev pub is_valued : Exp → Bool
is_valued (tree.lit l) = true
is_valued tree.nothing = true
is_valued (tree.cast word e) = true
is_valued (tree.unary op e) = true
is_valued (tree.binary op e f) = true
is_valued (tree.new_object ty args) = true
is_valued e = false

abbrev pub IsNoProperty : Callee → Type 0
IsNoProperty (to_procedure object p) = Unit {0}
IsNoProperty (to_property object get set) = ⊥
IsNoProperty (to_support name) = Unit {0}
IsNoProperty (to_library names) = Unit {0}
IsNoProperty (to_clone s y) = Unit {0}

-- such a value, a call that is no property's, or what is seen where it is evaluated
pub data Handles (S : Scope) (Q : Exp → Type 0) : Exp → Type 0 where
  as_value : (e : Exp) → is_valued e ≡ true → Handles S Q e
  as_call : (c : Callee) (names : List (List ℕ)) (args : Exps) → path_start S true names ≡ starts (named c) [] → IsNoProperty c
      → Handles S Q (call_of (path names) args)
  as_seen : (e : Exp) → Q e → Handles S Q e

pub handles_map : (S : Scope) (Q R : Exp → Type 0) → ((e : Exp) → Q e → R e) → (e : Exp) → Handles S Q e → Handles S R e
handles_map S Q R f _ (as_value e h) = as_value e h
handles_map S Q R f _ (as_call c names args start plain) = as_call c names args start plain
handles_map S Q R f _ (as_seen e q) = as_seen e (f e q)

-- ---- what they lead to

abbrev pub IsHandled : Reached → net.Memory → Type 0
IsHandled (found_at (at_address (net.constant s y))) w = Unit {0}
IsHandled (found_at (at_address (net.root s q))) w = ⊥
IsHandled (found_at (at_address (net.item s k j names))) w = ⊥
IsHandled (found_at (at_address net.nowhere)) w = ⊥
IsHandled (found_at (at_element s a xs)) w = ⊥
IsHandled (found_at (at_field s y key)) w = ⊥
IsHandled (named c) w = IsNoProperty c
IsHandled (called c args) w = IsNoProperty c

pub yields_behind : (o : List Output) (r : Outcome net.Memory Reached) → Yields IsHandled r → Yields IsHandled (after o r)
yields_behind o (gives q r w) h = h
yields_behind o (raises q e w) h = tt
yields_behind o (spent q w) h = tt
yields_behind o (outside q) h = tt

pub yields_then : {A : Type 0} (r : Outcome net.Memory A) (k : A → net.Memory → Outcome net.Memory Reached) → ((a : A) (w : net.Memory) → Yields IsHandled (k a w))
    → Yields IsHandled (then r k)
yields_then (gives o a w) k h = yields_behind o (k a w) (h a w)
yields_then (raises o e w) k h = tt
yields_then (spent o w) k h = tt
yields_then (outside o) k h = tt

answer_value : (a : Answer ValueN) (w : net.Memory) → Yields IsHandled (target.as_reached (value_answered a w))
answer_value (value.gives x) w = tt
answer_value (value.raises e) w = tt
answer_value value.outside w = tt

one_value : (row : ValueN → Answer ValueN) (y : net_value.Value) (w : net.Memory)
    → Yields IsHandled (target.as_reached (target.on_single y (λ x w. value_answered (row x) w) w))
one_value row net_value.unknown w = tt
one_value row (net_value.single x) w = answer_value (row x) w
one_value row (net_value.fields ys) w = tt

two_values : (row : ValueN → ValueN → Answer ValueN) (u y : net_value.Value) (w : net.Memory)
    → Yields IsHandled (target.as_reached (target.on_single u (λ x w. target.on_single y (λ z w. value_answered (row x z) w) w) w))
two_values row net_value.unknown y w = tt
two_values row (net_value.single x) y w = one_value (row x) y w
two_values row (net_value.fields ys) y w = tt

-- what is given of an address
abbrev pub Handed : Outcome net.Memory net.Address → Outcome net.Memory NetGiven
Handed z = then z (λ a w. gives [] (target.given_by a) w)

module _ (S : Scope) (oracle : Jobs) where
  -- a new object is a value
  value_made : (s : shape.Shape) (r : Outcome net.Memory net_value.Value)
      → Yields IsHandled (target.as_reached (then r (λ y w. gives [] (net.constant s y) w)))
  value_made s (gives o y w) = tt
  value_made s (raises o e w) = tt
  value_made s (spent o w) = tt
  value_made s (outside o) = tt

  object_made : (s : shape.Shape) (w : net.Memory) → Yields IsHandled (target.as_reached (target.object_new S oracle s w))
  object_made (shape.class home) w = value_made (shape.class home) (created S.project oracle home w)
  object_made _ w = tt

  object_with : (ty : TypeName) (args : Exps) (w : net.Memory) → Yields IsHandled (target.as_reached (target.object_with S oracle ty args w))
  object_with ty tree.no_exps w = object_made (shape.shape_of S.project S.home ty) w
  object_with ty (tree.next_exp e args) w = tt

  pub paren_handled : (e : Exp) (w : net.Memory) → Yields IsHandled (target.reach S oracle false (paren e) w)
  paren_handled e w =
      yields_then (target.address_from S oracle (target.reach S oracle false e w))
      (λ a w. gives [] (found_at (at_address (net.constant (net.shape_at a) (net.looked_up a w)))) w) (λ a w. tt)

  valued : (e : Exp) → is_valued e ≡ true → (w : net.Memory) → Yields IsHandled (target.reach S oracle false e w)
  valued (tree.lit l) h w = tt
  valued tree.nothing h w = tt
  valued (tree.cast word e) h w =
      yields_then (target.value_from S oracle (target.reach S oracle false e w))
      (λ y w. target.as_reached (target.on_single y (λ x w. value_answered (coerce_net x (cast_type word)) w) w))
      (λ y w. one_value (λ x. coerce_net x (cast_type word)) y w)
  valued (tree.unary op e) h w =
      yields_then (target.value_from S oracle (target.reach S oracle false e w))
      (λ y w. target.as_reached (target.on_single y (λ x w. value_answered (operate_net (Un op) x x) w) w))
      (λ y w. one_value (λ x. operate_net (Un op) x x) y w)
  valued (tree.binary op e f) h w =
      yields_then (target.value_from S oracle (target.reach S oracle false e w))
      (λ u w. then (target.value_from S oracle (target.reach S oracle false f w)) (λ y w.
      target.as_reached (target.on_single u (λ x w. target.on_single y (λ z w. value_answered (operate_net (Bin op) x z) w) w) w)))
      (λ u w.
      yields_then (target.value_from S oracle (target.reach S oracle false f w))
      (λ y w. target.as_reached (target.on_single u (λ x w. target.on_single y (λ z w. value_answered (operate_net (Bin op) x z) w) w) w))
      (λ y w. two_values (λ x z. operate_net (Bin op) x z) u y w))
  valued (tree.new_object ty args) h w = object_with ty args w
  valued _ h w = absurd (true≢false (sym h))

  call_handled : (c : Callee) (names : List (List ℕ)) (args : Exps) → path_start S true names ≡ starts (named c) [] → IsNoProperty c → (w : net.Memory)
      → Yields IsHandled (target.reach S oracle false (call_of (path names) args) w)
  call_handled c names args start plain w =
      let modes = λ (m : List NetPassing) (w : net.Memory). target.args_of S oracle m args w in
      let values = λ (w : net.Memory). target.values_of S oracle args w in
      let give = λ (gs : Arguments) (w : net.Memory). gives [] (called c gs) w in
      subst (λ s. Yields IsHandled (then (target.started S oracle s w) (target.applied S oracle modes values))) (sym start)
      (yields_behind [] (then (modes (passings_of S.project c) w) give) (yields_then (modes (passings_of S.project c) w) give (λ gs w. plain)))

  pub handled : (Q : Exp → Type 0) (e : Exp) → Handles S Q e → (w : net.Memory) → Yields IsHandled (target.reach S oracle false e w) ⊎ Q e
  handled Q _ (as_value e h) w = inl (valued e h w)
  handled Q _ (as_call c names args start plain) w = inl (call_handled c names args start plain w)
  handled Q _ (as_seen e q) w = inr q

  -- ---- how they are given

  -- they go by what they give
  pub handled_given : (r : Outcome net.Memory Reached) → Yields IsHandled r → target.given S oracle passing.Reference r ≡ Handed (target.address_from S oracle r)
  handled_given (gives o (found_at p) w) h = refl
  handled_given (gives o (named (to_procedure object p)) w) h = refl
  handled_given (gives o (named (to_property object get set)) w) h = absurd h
  handled_given (gives o (named (to_support name)) w) h = refl
  handled_given (gives o (named (to_library names)) w) h = refl
  handled_given (gives o (named (to_clone s y)) w) h = refl
  handled_given (gives o (called (to_procedure object p) args) w) h = refl
  handled_given (gives o (called (to_property object get set) args) w) h = absurd h
  handled_given (gives o (called (to_support name) args) w) h = refl
  handled_given (gives o (called (to_library names) args) w) h = refl
  handled_given (gives o (called (to_clone s y) args) w) h = refl
  handled_given (raises o e w) h = refl
  handled_given (spent o w) h = refl
  handled_given (outside o) h = refl

  -- and that is no place
  behind_call : (o : List Output) (r : Outcome net.Memory net.Address) → Yields NoPlace r
      → Yields NoPlace (then (after o (then r (λ a w. gives [] (at_address a) w))) target.finished)
  behind_call o (gives q a w) h = h
  behind_call o (raises q e w) h = tt
  behind_call o (spent q w) h = tt
  behind_call o (outside q) h = tt

  pub handled_place : (r : Outcome net.Memory Reached) → Yields IsHandled r → Yields NoPlace (target.address_from S oracle r)
  handled_place (gives o (found_at (at_address (net.constant s y))) w) h = tt
  handled_place (gives o (found_at (at_address (net.root s q))) w) h = absurd h
  handled_place (gives o (found_at (at_address (net.item s k j names))) w) h = absurd h
  handled_place (gives o (found_at (at_address net.nowhere)) w) h = absurd h
  handled_place (gives o (found_at (at_element s a xs)) w) h = absurd h
  handled_place (gives o (found_at (at_field s y key)) w) h = absurd h
  handled_place (gives o (named c) w) h = behind_call o (performed S oracle c [] w) (performed_is S oracle c [] w)
  handled_place (gives o (called c args) w) h = behind_call o (performed S oracle c args w) (performed_is S oracle c args w)
  handled_place (raises o e w) h = tt
  handled_place (spent o w) h = tt
  handled_place (outside o) h = tt
