-- What a covered procedure is left with: a Sub gives nothing, a Function what its result variable holds.
use Rattle.std.proofs.Common.{◌≡◌, ◌⊎◌, inl, inr, refl, sym, ap, subst, ◌∙◌, ℕ, zero, suc, Bool, true, false, cond, not, ◌||◌, nat_eq, true≢false, Option, Some, None, option_map, List, [], ◌∷◌, ◌++◌, map, length, eq-eqb, eqb-true}
use Rattle.std.specs.Prelude.{slice_get}
use Rattle.std.specs.Map.{lookup}
use Rattle.std.proofs.lemmas.List.{length-map}
use Rattle.std.proofs.lemmas.Option.{slice_get-map}
use Rattle.up_base.proofs.Tests.{both_true, not_true}
use Rattle.up_base.specs.Names.{is_same_name}
use Rattle.bound_tree.specs.Tree.{Declarations, Procedure}
use Rattle.bound_facts.specs.Effects.{is_own_owner, is_own_variable}
use Rattle.net_tree.specs.Tree as net_tree
use Rattle.run_base.specs.Outcomes.{gives, some_of, then}
use Rattle.run_base.specs.Positions.{Position, made, whole}
use Rattle.vb6_run.specs.Programs.{answer_of, result_of}
use Rattle.vb6_run.specs.Runnables.{declared_address, owned_address, variable_address}
use Rattle.vb6_run.specs.Shapes.{Shape, array, endless, group, simple, user_shapes, variable_shape}
use Rattle.vb6_run.specs.Values.{Value, elements, fields, scalar}
use Rattle.vb6_run.specs.Store.{Address, Memory, SourceFrame, SourceGiven, read, root}
use Rattle.net_run.specs.Expressions as expressions
use Rattle.net_run.specs.Lines.{NetFrame}
use Rattle.net_run.specs.Members.{params_of}
use Rattle.net_run.specs.Members as members
use Rattle.net_run.specs.Names.{var_in}
use Rattle.net_run.specs.Program as target
use Rattle.net_run.specs.Program.{result_at, result_by, result_in}
use Rattle.net_run.specs.Store as net
use Rattle.net_run.specs.Values as net_value
use Rattle.written_trees.specs.Names.{variable_name_of}
use Rattle.run_matches.specs.Addresses.{Bound, IsDeclaredShape, Same, images, mirrored, same_item, same_root}
use Rattle.run_matches.specs.Agreeing.{Agrees, ResultMatch, HasAllFields, SentMatch}
use Rattle.run_matches.specs.CoveredVariables.{are_different, is_named_in}
use Rattle.run_matches.specs.Frames.{FrameMatch, HasPlace, SameVariable, declared_names, dim_name, frame_pledge, is_own_of, result_names, is_mirrored}
use Rattle.run_matches.specs.Kinds.{IsValueOf}
use Rattle.run_matches.specs.Maps.{Mark, World}
use Rattle.run_matches.specs.Match.{MemoryMatch}
use Rattle.run_matches.specs.Pledges.{NetGiven, Pledge, arrays_in}
use Rattle.run_matches.specs.Runs.{call_pledge}
use Rattle.run_matches.specs.SoundShapes.{IsSoundShape}
use Rattle.run_matches.specs.Upgrades.{Upgrade, runnable_of}
use Rattle.run_statements.specs.Groups.{ValueMatch}
use Rattle.run_statements.specs.Written.{WrittenProcedure}
use Rattle.agreeing_laws.proofs.Agreeing.{agrees_gives, agrees_outside, then_agrees}
use Rattle.run_laws.specs.Entered.{IsResult}
use Rattle.run_laws.specs.Premises.{GroupsAreReadBy}
use Rattle.expression_laws.proofs.Arguments.{loose_in_none, once_in_none}
use Rattle.expression_laws.proofs.GroupArguments.{value_without}
use Rattle.name_laws.proofs.Owns.{usable_sound}
use Rattle.run_laws.proofs.Covered.{CoveredProcedure, not_none, same_name, some_is}
use Rattle.run_laws.proofs.Heads.{HasAnswer, HasNone, a_result, answer_parts, no_result}
use Rattle.run_laws.proofs.Names.{names_in_code}
use Rattle.run_laws.proofs.Usable.{result_declared, result_exact, result_shape, result_usable}

-- ---- the variable at a place, where all names differ

name_at : {A : Type 0} (xs : List A) (n : A) (ys : List A) → slice_get (xs ++ n ∷ ys) (length xs) ≡ Some n
name_at [] n ys = refl
name_at (x ∷ xs) n ys = name_at xs n ys

not_among : (name : List ℕ) (ns : List (List ℕ)) (k : ℕ) (n : List ℕ) → is_named_in name ns ≡ false → slice_get ns k ≡ Some n → is_same_name name n ≡ false
not_among name [] k n h e = absurd (not_none e)
not_among name (m ∷ ns) zero n h e = by (is_same_name name m) h (ap (is_same_name name) (sym (some_is e)))
  where
    by : (b : Bool) → (b || is_named_in name ns) ≡ false → is_same_name name n ≡ b → is_same_name name n ≡ false
    by true z q = absurd (true≢false z)
    by false z q = q
not_among name (m ∷ ns) (suc k) n h e = not_among name ns k n (later (is_same_name name m) h) e
  where
    later : (b : Bool) → (b || is_named_in name ns) ≡ false → is_named_in name ns ≡ false
    later true z = absurd (true≢false z)
    later false z = z

entry_of : (vars : List (List ℕ × net.Address)) (ns : List (List ℕ)) (k : ℕ) (n : List ℕ) → map (λ (y : List ℕ × net.Address). y.0) vars ≡ ns
    → slice_get ns k ≡ Some n → (y : List ℕ × net.Address) × (slice_get vars k ≡ Some y) × (y.0 ≡ n)
entry_of vars ns k n e at = by (slice_get vars k) refl
  where
    found : option_map (λ (y : List ℕ × net.Address). y.0) (slice_get vars k) ≡ Some n
    found = sym (slice_get-map (λ (y : List ℕ × net.Address). y.0) vars k) ∙ ap (λ ms. slice_get ms k) e ∙ at

    by : (o : Option (List ℕ × net.Address)) → slice_get vars k ≡ o → (y : List ℕ × net.Address) × (slice_get vars k ≡ Some y) × (y.0 ≡ n)
    by None q = absurd (not_none (sym (ap (option_map (λ (y : List ℕ × net.Address). y.0)) q) ∙ found))
    by (Some y) q = (y, q, some_is (sym (ap (option_map (λ (y : List ℕ × net.Address). y.0)) q) ∙ found))

-- the first of a name is the one at its place
first_at : (vars : List (List ℕ × net.Address)) (k : ℕ) (y : List ℕ × net.Address) → are_different (map (λ (y : List ℕ × net.Address). y.0) vars) ≡ true
    → slice_get vars k ≡ Some y → var_in vars y.0 ≡ Some y.1
first_at [] k y h e = absurd (not_none e)
first_at (v ∷ vars) zero y h e =
    let is : v ≡ y = some_is e in
    ap (λ (z : List ℕ × net.Address). cond (is_same_name z.0 y.0) (Some z.1) (var_in vars y.0)) is
    ∙ ap (λ b. cond b (Some y.1) (var_in vars y.0)) (same_name y.0)
first_at (v ∷ vars) (suc k) y h e =
    let ns = map (λ (z : List ℕ × net.Address). z.0) vars in
    let both = both_true (not (is_named_in v.0 ns)) (are_different ns) h in
    let at : slice_get ns k ≡ Some y.0 = slice_get-map (λ (z : List ℕ × net.Address). z.0) vars k ∙ ap (option_map (λ (z : List ℕ × net.Address). z.0)) e in
    ap (λ b. cond b (Some v.1) (var_in vars y.0)) (not_among v.0 ns k y.0 (not_true (is_named_in v.0 ns) both.0) at)
    ∙ first_at vars k y both.1 e

-- ---- results

exact_is : (U : Upgrade) (K : Pledge) (w : World) (exact : Bool) (a : Address) (b : net.Address) → exact ≡ true → Bound U K w exact a b → Same U K w a b
exact_is U K w _ _ _ e (images exact a b same) = same
exact_is U K w _ _ _ e (mirrored a b m) = absurd (true≢false (sym e))

-- a value of a shape without an array is sent as it is
whole_value : (U : Upgrade) (s : Shape) → IsDeclaredShape U s → (x : Value) → IsValueOf s x → HasAllFields U x
whole_value U s declared (scalar ty z) of = tt
whole_value U s declared (elements e dims xs) of = tt
whole_value U (group t fs) declared (fields u xs) of =
    subst (λ (n : ℕ). IsValueOf (user_shapes U.program.declarations n) (fields u xs)) (sym of.0)
    (subst (λ s. IsValueOf s (fields u xs)) (sym declared) of)
whole_value U (simple ty) declared (fields u xs) of = absurd of
whole_value U (array e bounds) declared (fields u xs) of = absurd of
whole_value U endless declared (fields u xs) of = absurd of

value_sent : (U : Upgrade) (w : World) (s : Shape) (x : Value) (y : net_value.Value) → IsSoundShape U s → IsDeclaredShape U s → ValueMatch U s w x y
    → SentMatch U w x y
value_sent U w s x y c declared m =
    let none : arrays_in y ≡ [] = value_without U w s x y c m.0 m.1 in
    record {
      like = m.1;
      whole = whole_value U s declared x m.0;
      loose = λ k among. loose_in_none (arrays_in y) k none among;
      once = once_in_none (arrays_in y) none;
    }

module _ (U : Upgrade) (p : ℕ) (c : CoveredProcedure U.program p) (W : WrittenProcedure U p c.site c.procedure)
    (names : are_different (declared_names W.code) ≡ true) (base : Mark) (me : Option ℕ) (xs : List SourceGiven) (ys : List NetGiven)
    (reads : GroupsAreReadBy U (call_pledge U p base me xs ys)) where
  abbrev K : Pledge
  K = call_pledge U p base me xs ys

  abbrev D : Declarations
  D = U.program.declarations

  abbrev x : Procedure
  x = c.procedure

  source_is : (f : SourceFrame) (w : Memory) → result_of (runnable_of U) p f w ≡ answer_of (runnable_of U) f x.answer w
  source_is f w = ap (λ o. some_of o (λ y w. answer_of (runnable_of U) f y.answer w) w) c.is_procedure

  target_is : (g : NetFrame) (t : net.Memory) → target.result U.written W.number g t ≡ result_by W.code (members.result_of W.code) g t
  target_is g t = ap (λ o. result_in g o t) W.is_code

  -- a Sub gives nothing
  none_agrees : HasNone x → (w : World) (f : SourceFrame) (g : NetFrame) → MemoryMatch U w
      → Agrees U K w (ResultMatch U) (answer_of (runnable_of U) f x.answer w.src) (result_by W.code (members.result_of W.code) g w.net)
  none_agrees h w f g m =
      subst (λ a. Agrees U K w (ResultMatch U) (answer_of (runnable_of U) f a w.src) (result_by W.code (members.result_of W.code) g w.net)) (sym h.is_answer)
      (subst (λ r. Agrees U K w (ResultMatch U) (gives [] None w.src) (result_by W.code r g w.net)) (sym (no_result U p c.site x W h))
      (agrees_gives U K w (ResultMatch U) None None m tt))

  -- a line keeps the arrays that the call keeps
  of_call : (w : World) (f : SourceFrame) (a : Address) (b : net.Address) → Same U (frame_pledge U p w f) w a b → Same U K w a b
  of_call w f _ _ (same_root s d q sh m k) = same_root s d q sh m k
  of_call w f _ _ (same_item e s d q k j path keeps m has part sh) = same_item e s d q k j path keeps m has part sh

  module _ (h : HasAnswer D p x) (r : IsResult U h.id.0) (w : World) (f : SourceFrame) (g : NetFrame) (m : MemoryMatch U w) (F : FrameMatch U (frame_pledge U p w f) w p f g) where
    abbrev ns : List (List ℕ)
    ns = declared_names W.code

    -- the target finds its result variable behind the parameters
    abbrev params : List (List ℕ)
    params = map (λ (q : net_tree.Param). q.name) (params_of W.code)

    named_there : slice_get ns (length params) ≡ Some x.name
    named_there =
        ap (λ r. slice_get (params ++ (result_names r ++ map dim_name W.code.procedure.prologue)) (length params)) (a_result U p c.site x W h)
        ∙ name_at params x.name (map dim_name W.code.procedure.prologue)

    there : (y : List ℕ × net.Address) × (slice_get g.vars (length params) ≡ Some y) × (y.0 ≡ x.name)
    there = entry_of g.vars ns (length params) x.name (names_in_code U p c.site x W g F.names) named_there

    first_there : var_in g.vars x.name ≡ Some there.0.1
    first_there =
        subst (λ n. var_in g.vars n ≡ Some there.0.1) there.2
        (first_at g.vars (length params) there.0
        (subst (λ ks. are_different ks ≡ true) (sym (names_in_code U p c.site x W g F.names)) names) there.1)

    target_gives : (t : net.Memory) → result_by W.code (members.result_of W.code) g t ≡ gives [] (Some (net.looked_up there.0.1 t)) t
    target_gives t =
        ap (λ r. result_by W.code r g t) (a_result U p c.site x W h)
        ∙ ap (λ k. result_at (slice_get g.vars k) t) (sym (length-map (params_of W.code) (λ (q : net_tree.Param). q.name)))
        ∙ ap (λ o. result_at o t) there.1

    -- the source's by its number
    address_is : variable_address D f h.id.0 ≡ lookup (nat_eq h.id.0) f.vars
    address_is = ap (declared_address D f h.id.0) h.is_variable ∙ ap (owned_address D f h.id.0) h.owner

    own_owner : is_own_owner p h.variable.owner ≡ true
    own_owner = ap (is_own_owner p) h.owner ∙ eq-eqb h.of.0 p (sym (eqb-true p h.of.0 h.own))

    is_own : is_own_of U p h.id.0 ≡ true
    is_own = ap (is_own_variable p) h.is_variable ∙ own_owner

    found_agrees : (o : Option Address) → lookup (nat_eq h.id.0) f.vars ≡ o
        → Agrees U K w (ResultMatch U) (some_of o (λ a w. then (read a w) (λ x w. gives [] (Some x) w)) w.src) (gives [] (Some (net.looked_up there.0.1 w.net)) w.net)
    found_agrees None e = agrees_outside U K w (ResultMatch U) (gives [] (Some (net.looked_up there.0.1 w.net)) w.net)
    found_agrees (Some a) e =
        let s : Shape = variable_shape D h.id.0 in
        let sound : IsSoundShape U s = result_shape U h.id.0 r in
        let b : SameVariable U (frame_pledge U p w f) w h.id.0 a g = F.vars h.id.0 a e (usable_sound U h.id.0 (result_usable U h.id.0 r)) in
        let place : HasPlace U w h.id.0 a = F.own h.id.0 a e is_own in
        let q : Position = whole (made place.place) in
        let name : var_in g.vars x.name ≡ Some b.address =
        subst (λ n. var_in g.vars n ≡ Some b.address) (ap variable_name_of h.is_variable ∙ h.name) b.found in
        let same_address : there.0.1 ≡ b.address = some_is (sym first_there ∙ name) in
        let same : Same U K w (root s q) b.address =
        subst (λ z. Same U K w z b.address) place.stands
        (of_call w f a b.address
        (exact_is U (frame_pledge U p w f) w (not (is_mirrored U h.id.0)) a b.address (ap not (result_exact U h.id.0 p is_own r)) b.bound)) in
        subst (λ z. Agrees U K w (ResultMatch U) (then (read a w.src) (λ x w. gives [] (Some x) w)) (gives [] (Some (net.looked_up z w.net)) w.net)) (sym same_address)
        (subst (λ z. Agrees U K w (ResultMatch U) (then (read z w.src) (λ x w. gives [] (Some x) w)) (gives [] (Some (net.looked_up b.address w.net)) w.net))
        (sym place.stands)
        (then_agrees U K w (ValueMatch U s) (ResultMatch U) (read (root s q) w.src) (expressions.read b.address w.net) (λ x w. gives [] (Some x) w)
        (λ y t. gives [] (Some y) t) m (reads w s q b.address sound m same)
        (λ v y u n later.
        agrees_gives U K u (ResultMatch U) (Some v) (Some y) later.match (value_sent U u s v y sound (result_declared U h.id.0 r) n))))

    -- a Function gives what it holds
    some_agrees : Agrees U K w (ResultMatch U) (answer_of (runnable_of U) f x.answer w.src) (result_by W.code (members.result_of W.code) g w.net)
    some_agrees =
        subst (λ a. Agrees U K w (ResultMatch U) (answer_of (runnable_of U) f a w.src) (result_by W.code (members.result_of W.code) g w.net)) (sym h.is_answer)
        (subst (λ z. Agrees U K w (ResultMatch U) (answer_of (runnable_of U) f (Some h.id) w.src) z) (sym (target_gives w.net))
        (subst
        (λ o. Agrees U K w (ResultMatch U) (some_of o (λ a w. then (read a w) (λ x w. gives [] (Some x) w)) w.src)
        (gives [] (Some (net.looked_up there.0.1 w.net)) w.net)) (sym address_is) (found_agrees (lookup (nat_eq h.id.0) f.vars) refl)))

  by_answer : HasNone x ⊎ HasAnswer D p x → ((h : HasAnswer D p x) → IsResult U h.id.0) → (w : World) (f : SourceFrame) (g : NetFrame) → MemoryMatch U w
      → FrameMatch U (frame_pledge U p w f) w p f g
      → Agrees U K w (ResultMatch U) (answer_of (runnable_of U) f x.answer w.src) (result_by W.code (members.result_of W.code) g w.net)
  by_answer (inl h) readable w f g m F = none_agrees h w f g m
  by_answer (inr h) readable w f g m F = some_agrees h (readable h) w f g m F

  pub results_agree : ((h : HasAnswer D p x) → IsResult U h.id.0) → (w : World) (f : SourceFrame) (g : NetFrame) → MemoryMatch U w → FrameMatch U (frame_pledge U p w f) w p f g
      → Agrees U K w (ResultMatch U) (result_of (runnable_of U) p f w.src) (target.result U.written W.number g w.net)
  results_agree readable w f g m F =
      subst (λ z. Agrees U K w (ResultMatch U) z (target.result U.written W.number g w.net)) (sym (source_is f w.src))
      (subst (λ z. Agrees U K w (ResultMatch U) (answer_of (runnable_of U) f x.answer w.src) z) (sym (target_is g w.net))
      (by_answer (answer_parts D p x c.result) readable w f g m F))
