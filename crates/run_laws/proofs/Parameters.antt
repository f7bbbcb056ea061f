-- The parameters and the result variable of an entry are made on both sides.
use Rattle.line_laws.proofs.Standing.{whole_stands}
use Rattle.vb_tree.specs.declared.declared.Owner.{Owner}
use Rattle.std.proofs.Common.{◌≡◌, refl, sym, ap, subst, ◌∙◌, ℕ, suc, Bool, true, false, not, ◌&&◌, true≢false, Option, Some, List, [], ◌∷◌, ◌++◌, inl, inr, cond, ◌+◌, arith, ◌⊎◌, ◌||◌}
use Rattle.std.specs.Prelude.{slice_get}
use Rattle.std.specs.List.{list_all}
use Rattle.up_base.proofs.Lists.{all_first, all_rest}
use Rattle.vb_tree.specs.BoundTree.{Ty}
use Rattle.vb_tree.specs.declared.declared.Owner.TheVariants as owner
use Rattle.vb_tree.specs.declared.declared.ProcId.{ProcId}
use Rattle.vb_tree.specs.declared.declared.VarId.{VarId}
use Rattle.bound_tree.specs.Tree.{Declarations, Variable}
use Rattle.bound_facts.specs.Effects.{params_at, is_own_owner, is_own_variable}
use Rattle.bound_facts.specs.Facts.{Known, is_quiet, is_quiet_owner, is_quiet_variable}
use Rattle.bound_facts.specs.Node.{is_array_type}
use Rattle.net_tree.specs.declared.declaration.NetPassing.{NetPassing}
use Rattle.net_tree.specs.declared.declaration.NetPassing.TheVariants as passing
use Rattle.net_tree.specs.Types.{TypeName}
use Rattle.run_base.specs.Frames.{by_address, by_value}
use Rattle.run_base.specs.Outcomes.{Outcome, after, gives, some_of, then, outside}
use Rattle.run_base.specs.Positions.{whole}
use Rattle.vb6_run.specs.Programs.{bound_to, parameters, temporary}
use Rattle.vb6_run.specs.Shapes.{Shape, array, simple, variable_shape}
use Rattle.vb6_run.specs.Store.{Address, Memory, SourceGiven, constant, is_address_of, make_with, provided}
use Rattle.vb6_run.specs.Values.{Value, elements, fields, scalar}
use Rattle.net_run.specs.Program as target
use Rattle.net_run.specs.Shapes as shape
use Rattle.net_run.specs.Store as net
use Rattle.net_run.specs.Values as net_value
use Rattle.written_trees.specs.Arguments.{is_property}
use Rattle.written_trees.specs.Heads as heads
use Rattle.written_trees.specs.Facts.{is_array_variable}
use Rattle.written_trees.specs.Names.{Scope}
use Rattle.written_trees.specs.Prologues.{is_static}
use Rattle.run_matches.specs.Addresses.{ArgsMatch, Bound, IsPlain, IsTarget, IsTypedAs, Mirrors, Same, address_args, images, mirrored, no_args, source_bound, target_bound, value_args, GivesWhole, IsElement, IsVariable, IsWhole, is_element, IsGivable, SuitsParameter, TakesAddresses, TakesValue}
use Rattle.run_matches.specs.Agreeing.{Agrees}
use Rattle.run_matches.specs.Callees.{own_of_some, parameter_owns}
use Rattle.run_matches.specs.CoveredVariables.{covers_type, is_loud, is_loud_owner, is_scalar_or_loud, takes_value_by}
use Rattle.run_matches.specs.Covered.{covers_parameter, is_parameter_of, is_relied_id}
use Rattle.run_matches.specs.Frames.{GivenPlace, StandsAs, is_own_of, is_mirrored, is_scalar_in}
use Rattle.run_matches.specs.Likeness.{LikeV, scalar_word}
use Rattle.run_matches.specs.Maps.{Below, World, mark}
use Rattle.run_matches.specs.Match.{MemoryMatch, StoreMatch}
use Rattle.run_matches.specs.Pledges.{Later, NetGiven, Pledge}
use Rattle.run_matches.specs.Sites.{own_variable}
use Rattle.run_matches.specs.Upgrades.{Upgrade, is_array_id, is_quiet_id, parameter_rank, rank_of_id, runnable_of, takes_array, home_of}
use Rattle.run_statements.specs.Frames.{HasRankOf, IsArray, IsReadable, IsGroup}
use Rattle.row_laws.proofs.Composing.{then_assoc, then_gives}
use Rattle.agreeing_laws.proofs.Agreeing.{agrees_gives, agrees_outside, agrees_weaker, right_alone, then_agrees}
use Rattle.agreeing_laws.proofs.Lasting.{later_from, weaker_self}
use Rattle.agreeing_laws.proofs.Made.{below_then}
use Rattle.agreeing_laws.proofs.Moves.{address_later}
use Rattle.line_laws.proofs.Bounds as bounds
use Rattle.line_laws.proofs.Bounds.{plain_later}
use Rattle.memory_laws.proofs.Making.{readable_shape}
use Rattle.memory_laws.proofs.Quiet.{QuietMatch, source_is_bound, target_is_bound, values_bound}
use Rattle.run_laws.specs.Entered.{IsTaken, LocalMatch, LocalsMatch, next_variable, no_locals}
use Rattle.run_laws.proofs.Covered.{some_is}
use Rattle.run_laws.proofs.Usable.{array_shape_is}
use Rattle.run_laws.proofs.Dims.{WordOf, word_of}
use Rattle.run_laws.proofs.Given.{IsNoElements, given_place, made_none, rank_for, value_bound, value_taken, scalar_declared}
use Rattle.run_laws.proofs.Heads.{Parameter, parameter_is}
use Rattle.run_laws.proofs.Locals.{local_later}
use Rattle.run_laws.specs.Premises.{GroupsAreWritten, MakesAlike, LoudAreSeen}
use Rattle.run_laws.proofs.ParametersMade.{Local, group_value_agrees, readable_type, value_is_made}
use Rattle.run_laws.proofs.ParameterTypes.{ParamWritten, param_written, passing_as}
use Rattle.name_laws.proofs.Owns.{no_scalar}

none_more : (i : ℕ) → i ≡ i + 0
none_more i = omega arith

one_more : (i j : ℕ) → suc i + j ≡ i + suc j
one_more i j = omega arith

-- a parameter is no Static
never_static : (p : ℕ) (o : Owner) → is_parameter_of p o ≡ true → is_static o ≡ false
never_static p (owner.Static q) h = absurd (true≢false (sym h))
never_static p _ h = refl

-- a variable is no element
whole_of : (U : Upgrade) (a : Address) → IsVariable U a → IsWhole a
whole_of U a (inl p) = ap is_element p.stands
whole_of U a (inr (inl k)) = ap is_element k.stands
whole_of U a (inr (inr k)) = ap is_element k.stands

of_scalars_is : (U : Upgrade) (a : Address) → IsTarget U a → IsWhole a ⊎ IsElement a
of_scalars_is U a (inl v) = inl (whole_of U a v)
of_scalars_is U a (inr x) = inr x

-- ---- quiet parameters

-- a parameter is a scalar, an array, or of a user type or a class
abbrev pub AreParameters : Upgrade → (p : ℕ) → Type 0
AreParameters U p = (v : VarId) → Parameter U.program p v → IsTaken U v.0

-- a quiet one takes a reference
quiet_reference : (F : Known) (o : Owner) (b : Bool) → (is_quiet_owner F o && not b) ≡ true → (id : ProcId) × (o ≡ owner.Reference id)
quiet_reference F (owner.Reference id) b h = (id, refl)
quiet_reference F _ b h = absurd (true≢false (sym h))

-- ---- one parameter

module _ (U : Upgrade) (p : ℕ) (groups : GroupsAreWritten U) (S : Scope) (same : S.declarations ≡ U.program.declarations) (facts : S.facts ≡ U.facts) (home : ℕ)
    (here : home_of U S.file ≡ Some home) (part : Bool) (is_part : is_property U.program.declarations p ≡ part) (loud : LoudAreSeen U) where
  abbrev D : Declarations
  D = U.program.declarations

  abbrev ps : List VarId
  ps = params_at (slice_get D.procs p)

  abbrev Written : (v : VarId) → Parameter U.program p v → Type 1
  Written v q = ParamWritten U p groups S same facts home here part v q

  abbrev param : (v : VarId) (q : Parameter U.program p v) → IsTaken U v.0 → Written v q
  param v q u = param_written U p groups S same facts home here part v q u

  -- an array is one where it is taken
  array_there : (v : VarId) (i : ℕ) (element : Ty) → IsArray U v.0 element → slice_get ps i ≡ Some v → takes_array U.program.declarations p i ≡ true
  array_there v i element r at =
      ap (is_array_id D) at ∙ ap is_array_variable r.known.is_variable ∙ ap is_array_type r.is_array

  rank_there : (v : VarId) (i : ℕ) → slice_get ps i ≡ Some v → parameter_rank U p i ≡ U.facts.rank v.0
  rank_there v i at = ap (rank_of_id U) at

  -- what the source binds to it
  bound_is : (v : VarId) (q : Parameter U.program p v) (quiet : Bool) (g : SourceGiven) (w : Memory)
      → some_of (slice_get D.vars v.0) (λ x w. bound_to quiet x.owner (variable_shape D v.0) g w) w
      ≡ bound_to quiet q.variable.owner (variable_shape D v.0) g w
  bound_is v q quiet g w = ap (λ o. some_of o (λ x w. bound_to quiet x.owner (variable_shape D v.0) g w) w) q.is_variable

  owns_is : (v : VarId) (q : Parameter U.program p v) (vs : List VarId) → parameter_owns D (v ∷ vs) ≡ own_variable v.0 q.variable ∷ parameter_owns D vs
  owns_is v q vs = ap (λ o. own_of_some v.0 o ++ parameter_owns D vs) q.is_variable

  module _ (K : Pledge) (holder : Option ℕ) (makes : MakesAlike U K) (w0 : World) (start : StoreMatch U w0)
      (readable : AreParameters U p) where
    -- the variables of parameters
    abbrev pub Parameters : List VarId → World → List (ℕ × Address) → List (List ℕ × net.Address) → Type 0
    Parameters vs u ks bs = LocalsMatch U K holder u (parameter_owns D vs) ks bs

    abbrev Rest : List VarId → (i : ℕ) → List SourceGiven → List NetGiven → Type 0
    Rest vs i xs ys =
        (w : World) → Later U K w0 w → Below K.base (mark w.src) → MemoryMatch U w
        → Agrees U K w (Parameters vs) (parameters (runnable_of U) p i vs xs w.src) (target.parameters U.written home (heads.params_of S part vs) ys w.net)

    -- the source's first parameter is bound, then the others
    abbrev source_from : (v : VarId) → Outcome Memory Address → (i : ℕ) → List VarId → List SourceGiven → Outcome Memory (List (ℕ × Address))
    source_from v r i vs xs = then r (λ a w. then (parameters (runnable_of U) p i vs xs w) (λ rest w. gives [] ((v.0, a) ∷ rest) w))

    -- the parameters stand at their places
    first_there : (i : ℕ) (v : VarId) (vs : List VarId) → ((j : ℕ) → slice_get ps (i + j) ≡ slice_get (v ∷ vs) j) → slice_get ps i ≡ Some v
    first_there i v vs there = ap (λ n. slice_get ps n) (none_more i) ∙ there 0

    rest_there : (i : ℕ) (v : VarId) (vs : List VarId) → ((j : ℕ) → slice_get ps (i + j) ≡ slice_get (v ∷ vs) j) → (j : ℕ)
        → slice_get ps (suc i + j) ≡ slice_get vs j
    rest_there i v vs there j = ap (λ n. slice_get ps n) (one_more i j) ∙ there (suc j)

    -- one parameter
    module _ (v : VarId) (q : Parameter U.program p v) (i : ℕ) (at : slice_get ps i ≡ Some v) (vs : List VarId) where
      abbrev s : Shape
      s = variable_shape D v.0

      quiet_at : (runnable_of U).quiet p i ≡ is_quiet D U.known v.0
      quiet_at = ap (is_quiet_id D U.known) at

      -- what both bind to it
      abbrev BoundHere : World → IsTaken U v.0 → (quiet : Bool) → Owner → NetPassing → SourceGiven → NetGiven → Type 0
      BoundHere w u quiet o z g h =
          Agrees U K w (Local U K v.0) (bound_to quiet o s g w.src)
          (target.parameter_by z (param v q u).written h w.net)

      -- how the target takes it
      abbrev passed : NetPassing
      passed = passing_as part q.variable.owner

      -- an address goes to no part of a property
      passed_by : (id : ProcId) → q.variable.owner ≡ owner.Reference id → TakesAddresses U p → passed ≡ passing.Reference
      passed_by id is takes =
          ap (passing_as part) is ∙ ap (λ b. cond b passing.Value passing.Reference) (sym is_part ∙ takes)

      -- what is bound to a parameter by reference is no variable of the procedure's own
      foreign : (id : ProcId) → q.variable.owner ≡ owner.Reference id → (n : ℕ) → is_own_of U n v.0 ≡ false
      foreign id is n = ap (is_own_variable n) q.is_variable ∙ ap (is_own_owner n) is

      -- a scalar
      module _ (r : IsReadable U v.0) where
        abbrev joined : r.variable ≡ q.variable
        joined = some_is (sym r.is_variable ∙ q.is_variable)

        abbrev m : WordOf q.variable.ty
        m = word_of q.variable.ty (subst (λ (z : Variable). covers_type z.ty ≡ true) joined (readable_type U v.0 r))

        word : scalar_word r.variable.ty ≡ Some m.word
        word = ap (λ (z : Variable). scalar_word z.ty) joined ∙ m.is_word

        shaped : variable_shape D v.0 ≡ simple r.variable.ty
        shaped = readable_shape U v.0 r

        -- a value makes a place of its own
        scalar_agrees : (w : World) (x : Value) (y : net_value.Value) → LikeV U w0 x y → Later U K w0 w → Below K.base (mark w.src)
            → BoundHere w (inl r) false q.variable.owner passed (by_value x) (by_value y)
        unfolding param_written
        scalar_agrees w x y like l low =
            subst (λ z. Agrees U K w (Local U K v.0) z (target.parameter_by passed (shape.scalar m.word) (by_value y) w.net))
            (sym (value_bound p q.variable.owner q.parameter s x w.src))
            (subst (λ z. Agrees U K w (Local U K v.0) (make_with s x w.src) z) (sym (value_taken passed (shape.scalar m.word) y w.net))
            (value_is_made U K makes w0 w v.0 r m.word x y word low l like))

        module _ (quiet : is_quiet D U.known v.0 ≡ true) (id : ProcId) (is : q.variable.owner ≡ owner.Reference id) where
          mirrors_value : is_mirrored U v.0 ≡ true
          mirrors_value = ap (λ b. b && is_scalar_in (slice_get D.vars v.0)) quiet ∙ (ap is_scalar_in r.is_variable ∙ readable_type U v.0 r)

          -- a quiet one stands for values
          quiet_local : (t : TypeName) (u : World) (a : Address) (b : net.Address) → QuietMatch U K t u a b → LocalMatch U K u v.0 a b
          quiet_local t u a b n = record {
            bound = subst (λ t. Bound U K u (not t) a b) (sym mirrors_value) (mirrored a b n.mirrors);
            ranked = subst (λ d. HasRankOf U v.0 d) (sym n.shape_is) tt;
            standing =
                inr (record { given = record { of_scalars = inl n.whole; whole = λ relied. n.whole; place = λ exact. absurd (true≢false (sym mirrors_value ∙ exact)) }; plain = n.plain; foreign = foreign id is });
          }

          quiet_agrees : (w : World) (z : Outcome Memory Address) (z' : Outcome net.Memory net.Address)
              → Agrees U K w (QuietMatch U K m.word) z z'
              → Agrees U K w (Local U K v.0) z z'
          quiet_agrees w z z' h =
              agrees_weaker U K w (QuietMatch U K m.word) (Local U K v.0) z z'
              (λ u a b l n. quiet_local m.word u a b n) h

          -- values on both sides
          quiet_value : (w : World) (x : Value) (y : net_value.Value) → LikeV U w0 x y → Later U K w0 w
              → BoundHere w (inl r) true (owner.Reference id) passed (by_value x) (by_value y)
          unfolding param_written
          quiet_value w x y like l =
              subst (λ z. Agrees U K w (Local U K v.0) (temporary true s x w.src) z) (sym (value_taken passed (shape.scalar m.word) y w.net))
              (quiet_agrees w (temporary true s x w.src) (net.made_with (shape.scalar m.word) y w.net)
              (subst (λ d. Agrees U K w (QuietMatch U K m.word) (temporary true d x w.src)
              (net.made_with (shape.scalar m.word) y w.net)) (sym shaped)
              (values_bound U K r.variable.ty m.word (readable_type U v.0 r) word w0 w x y l like)))

          -- a value on the source's side alone
          target_agrees : (w : World) (x : Value) (b : net.Address) → Mirrors U K w0 (constant x) b → IsTypedAs U x (net.shape_at b) → Later U K w0 w
              → BoundHere w (inl r) true (owner.Reference id) passing.Reference (by_value x) (by_address b)
          unfolding param_written
          target_agrees w x b mirrors typed l =
              let z' = cond (shape.is_same_shape (net.shape_at b) (shape.scalar m.word)) (gives [] b w.net) (outside []) in
              quiet_agrees w (temporary true s x w.src) z'
              (subst (λ d. Agrees U K w (QuietMatch U K m.word) (temporary true d x w.src) z') (sym shaped)
              (target_is_bound U K r.variable.ty m.word (readable_type U v.0 r) word w0 w b start l x mirrors typed))

          -- a value on the target's side alone
          source_agrees : (w : World) (a : Address) (k : shape.Shape) (y : net_value.Value) → Mirrors U K w0 a (net.constant k y) → IsVariable U a → IsPlain U w a
              → Later U K w0 w → BoundHere w (inl r) true (owner.Reference id) passed (by_address a) (by_value y)
          unfolding param_written
          source_agrees w a k y mirrors at plain l =
              subst (λ z. Agrees U K w (Local U K v.0) (provided (is_address_of s a) (λ w. gives [] a w) w.src) z)
              (sym (value_taken passed (shape.scalar m.word) y w.net)) (by (is_address_of s a) refl)
            where
              by : (t : Bool) → is_address_of (variable_shape D v.0) a ≡ t
                  → Agrees U K w (Local U K v.0) (provided t (λ w. gives [] a w) w.src) (net.made_with (shape.scalar m.word) y w.net)
              by false e = agrees_outside U K w (Local U K v.0) (net.made_with (shape.scalar m.word) y w.net)
              by true e =
                  let place : GivenPlace U v.0 a = given_place U v.0 (inl r) a (inl at) (scalar_declared U v.0 r a at e) e in
                  quiet_agrees w (gives [] a w.src) (net.made_with (shape.scalar m.word) y w.net)
                  (source_is_bound U K r.variable.ty m.word (readable_type U v.0 r) word w0 w a k y start l mirrors (
                    place.position,
                    whole_stands r.variable.ty a place.position (whole_of U a at) (subst (λ d. StandsAs d a place.position) shaped place.stands),
                  ) plain)

      -- variables on both sides
      address_agrees : (u : IsTaken U v.0) (id : ProcId) → q.variable.owner ≡ owner.Reference id → (quiet : Bool) (w : World) (a : Address) (b : net.Address)
          → Same U K w0 a b → IsTarget U a → GivesWhole U p i a → IsPlain U w0 a → SuitsParameter U p i a b → Later U K w0 w
          → MemoryMatch U w
          → BoundHere w u quiet (owner.Reference id) passing.Reference (by_address a) (by_address b)
      address_agrees u id is quiet w a b alike target whole plain suits l h = by (is_address_of s a) refl
        where
          by : (t : Bool) → is_address_of (variable_shape D v.0) a ≡ t
              → Agrees U K w (Local U K v.0) (provided t (λ w. gives [] a w) w.src)
              (cond (shape.is_same_shape (net.shape_at b) (param v q u).written) (gives [] b w.net) (outside []))
          by false e =
              agrees_outside U K w (Local U K v.0)
              (cond (shape.is_same_shape (net.shape_at b) (param v q u).written) (gives [] b w.net) (outside []))
          by true e =
              let place : GivenPlace U v.0 a = given_place U v.0 u a target suits.1.0 e in
              let rank : HasRankOf U v.0 (net.shape_at b) = rank_for U p i v.0 (net.shape_at b) (rank_there v i at) suits.0 in
              let taken : shape.is_same_shape (net.shape_at b) (param v q u).written ≡ true =
              (param v q u).taken K w0 a b place.position alike place.stands rank in
              subst (λ t. Agrees U K w (Local U K v.0) (gives [] a w.src) (cond t (gives [] b w.net) (outside []))) (sym taken)
              (agrees_gives U K w (Local U K v.0) a b h
              (record {
                bound = images (not (is_mirrored U v.0)) a b (address_later U K w0 w a b l alike);
                ranked = rank;
                standing =
                    inr (record {
                      given = record {
                        of_scalars = of_scalars_is U a target;
                        whole = λ relied. whole (ap (is_relied_id U.program) at ∙ relied);
                        place = λ exact. place;
                      };
                      plain = plain_later U w0 w a l.extends (λ z k. bounds.same_made U K w0 a b alike z k) plain;
                      foreign = foreign id is;
                    });
              }))

      -- then the others
      next_agrees : (u : IsTaken U v.0) (g : SourceGiven) (h : NetGiven) (xs : List SourceGiven) (ys : List NetGiven)
          → Rest vs (suc i) xs ys → (w : World) → Later U K w0 w → Below K.base (mark w.src) → MemoryMatch U w
          → BoundHere w u ((runnable_of U).quiet p i) q.variable.owner passed g h
          → Agrees U K w (Parameters (v ∷ vs)) (parameters (runnable_of U) p i (v ∷ vs) (g ∷ xs) w.src)
          (target.parameters U.written home (heads.params_of S part (v ∷ vs)) (h ∷ ys) w.net)
      next_agrees u g h xs ys rest w l low start_w bound_here =
          let n : Written v q = param v q u in
          let R = Parameters (v ∷ vs) in
          let name = q.variable.name in
          let others = heads.params_of S part vs in
          let z = bound_to ((runnable_of U).quiet p i) q.variable.owner s g w.src in
          let z' = target.parameter_by passed n.written h w.net in
          let from = λ (x : Outcome net.Memory (List ℕ × net.Address)).
          then x (λ b t. then (target.parameters U.written home others ys t) (λ bs t. gives [] (b ∷ bs) t)) in
          subst (λ x. Agrees U K w R (source_from v x (suc i) vs xs) (target.parameters U.written home (heads.params_of S part (v ∷ vs)) (h ∷ ys) w.net))
          (sym (bound_is v q ((runnable_of U).quiet p i) g w.src))
          (subst (λ x. Agrees U K w R (source_from v z (suc i) vs xs) (target.parameters U.written home (x ++ others) (h ∷ ys) w.net)) (sym n.is_param)
          (subst (λ x. Agrees U K w R (source_from v z (suc i) vs xs)
          (from (then (target.parameter_by passed x h w.net) (λ a t. gives [] (name, a) t)))) (sym n.shaped)
          (subst (λ x. Agrees U K w R (source_from v z (suc i) vs xs) x)
          (sym (then_assoc z' (λ a t. gives [] (name, a) t) (λ b t. then (target.parameters U.written home others ys t) (λ bs t. gives [] (b ∷ bs) t))))
          (then_agrees U K w (Local U K v.0) R z z'
          (λ a w. then (parameters (runnable_of U) p (suc i) vs xs w) (λ rest w. gives [] ((v.0, a) ∷ rest) w))
          (λ b t. after [] (then (target.parameters U.written home others ys t) (λ bs t. gives [] ((name, b) ∷ bs) t))) start_w bound_here
          (λ a b u n later.
          right_alone U K u R (then (parameters (runnable_of U) p (suc i) vs xs u.src) (λ rest w. gives [] ((v.0, a) ∷ rest) w))
          (then (target.parameters U.written home others ys u.net) (λ bs t. gives [] ((name, b) ∷ bs) t))
          (then_agrees U K u (Parameters vs) R (parameters (runnable_of U) p (suc i) vs xs u.src) (target.parameters U.written home others ys u.net)
          (λ rest w. gives [] ((v.0, a) ∷ rest) w) (λ bs t. gives [] ((name, b) ∷ bs) t) later.match
          (rest u (later_from U K K w0 w u start (weaker_self w0 K) l later) (below_then K.base (mark w.src) (mark u.src) low later.grows) later.match)
          (λ ks bs z ms more.
          agrees_gives U K z R ((v.0, a) ∷ ks) ((name, b) ∷ bs) more.match
          (subst (λ os. LocalsMatch U K holder z os ((v.0, a) ∷ ks) ((name, b) ∷ bs)) (sym (owns_is v q vs))
          (next_variable v.0 q.variable a (name, b) (parameter_owns D vs) ks bs (never_static p q.variable.owner q.parameter) refl
          (local_later U K u z v.0 a b later.match more n) ms)))))))))

      -- an address at a parameter that takes a value
      first_outside : (id : ProcId) → q.variable.owner ≡ owner.Value id → (a : Address) (xs : List SourceGiven) (w : World)
          (r' : Outcome net.Memory (List (List ℕ × net.Address)))
          → Agrees U K w (Parameters (v ∷ vs)) (parameters (runnable_of U) p i (v ∷ vs) (by_address a ∷ xs) w.src) r'
      first_outside id is a xs w r' =
          subst (λ z. Agrees U K w (Parameters (v ∷ vs)) (source_from v z (suc i) vs xs) r')
          (sym (bound_is v q ((runnable_of U).quiet p i) (by_address a) w.src
          ∙ ap (λ o. bound_to ((runnable_of U).quiet p i) o (variable_shape D v.0) (by_address a) w.src) is))
          (agrees_outside U K w (Parameters (v ∷ vs)) r')

      by_reference_here : (runnable_of U).quiet p i ≡ true → (id : ProcId) × (q.variable.owner ≡ owner.Reference id)
      by_reference_here is =
          quiet_reference U.known q.variable.owner (U.known.touched v.0)
          (sym (ap (λ o. is_quiet_variable U.known o && not (U.known.touched v.0)) q.is_variable) ∙ (sym quiet_at ∙ is))

      one_loud : (x : Variable) → covers_type x.ty ≡ false → is_scalar_or_loud U.program v.0 (Some x) ≡ true → is_loud U.program v.0 (Some x) ≡ true
      one_loud x other h = sym (ap (λ b. b || is_loud_owner U.program v.0 x.owner) other) ∙ h

      -- what is no scalar and may be given a value is no quiet one
      other_exact : (x : Variable) → slice_get D.vars v.0 ≡ Some x → covers_type x.ty ≡ false → TakesValue U p i → (runnable_of U).quiet p i ≡ false
      other_exact x is other takes =
          quiet_at
          ∙ loud v.0
          (ap (is_loud U.program v.0) is
          ∙ one_loud x other (sym (ap (is_scalar_or_loud U.program v.0) is) ∙ (sym (ap (takes_value_by U.program) at) ∙ takes)))

      array_exact : (e : Ty) → IsArray U v.0 e → TakesValue U p i → (runnable_of U).quiet p i ≡ false
      array_exact e r = other_exact r.known.variable r.known.is_variable (ap covers_type r.is_array)

      group_exact : (ty : Ty) → IsGroup U v.0 ty → TakesValue U p i → (runnable_of U).quiet p i ≡ false
      group_exact ty r = other_exact r.known.variable r.known.is_variable (ap covers_type r.is_type ∙ no_scalar D ty r.covers)

      -- ---- one argument

      -- a value that is no array, at a parameter that is one
      none_agrees : (element : Ty) (r : IsArray U v.0 element) → TakesValue U p i → (x : Value) (w : World) (z' : Outcome net.Memory net.Address) → IsNoElements x
          → Agrees U K w (Local U K v.0) (bound_to ((runnable_of U).quiet p i) q.variable.owner s (by_value x) w.src) z'
      none_agrees element r takes x w z' n =
          let R = Local U K v.0 in
          subst (λ t. Agrees U K w R (bound_to t q.variable.owner s (by_value x) w.src) z') (sym (array_exact element r takes))
          (subst (λ z. Agrees U K w R z z') (sym (value_bound p q.variable.owner q.parameter s x w.src))
          (subst (λ d. Agrees U K w R (make_with d x w.src) z') (sym (array_shape_is U v.0 element r))
          (subst (λ z. Agrees U K w R z z') (then_gives (make_with (array (simple element) r.known.variable.bounds) x w.src))
          (made_none U K w R (simple element) r.known.variable.bounds x n (λ a w. gives [] a w) z'))))

      -- a value at a parameter of a user type or of a class: one of another type makes none
      group_first : (ty : Ty) (r : IsGroup U v.0 ty) (x : Value) (y : net_value.Value) → LikeV U w0 x y → IsGivable U p i x → TakesValue U p i → (w : World) → Later U K w0 w
          → Below K.base (mark w.src)
          → BoundHere w (inr (inr (ty, r))) ((runnable_of U).quiet p i) q.variable.owner passed (by_value x) (by_value y)
      group_first ty r x y like given takes w l low =
          let R = Local U K v.0 in
          let d : shape.Shape = (param v q (inr (inr (ty, r)))).written in
          let z' = target.parameter_by passed d (by_value y) w.net in
          subst (λ b. Agrees U K w R (bound_to b q.variable.owner s (by_value x) w.src) z') (sym (group_exact ty r takes))
          (subst (λ z. Agrees U K w R z z') (sym (value_bound p q.variable.owner q.parameter s x w.src))
          (subst (λ z. Agrees U K w R (make_with s x w.src) z) (sym (value_taken passed d y w.net))
          (group_value_agrees U K makes w0 w v.0 ty r p i x y like given low l d (param v q (inr (inr (ty, r)))).alike)))

      value_first : (u : IsTaken U v.0) (x : Value) (y : net_value.Value) → LikeV U w0 x y → IsGivable U p i x → TakesValue U p i → (w : World) → Later U K w0 w
          → Below K.base (mark w.src) → BoundHere w u ((runnable_of U).quiet p i) q.variable.owner passed (by_value x) (by_value y)
      value_first (inl r) x y like none takes w l low = by ((runnable_of U).quiet p i) refl
        where
          by : (t : Bool) → (runnable_of U).quiet p i ≡ t → BoundHere w (inl r) t q.variable.owner passed (by_value x) (by_value y)
          by false e = scalar_agrees r w x y like l low
          by true e =
              let o = by_reference_here e in
              subst (λ z. BoundHere w (inl r) true z passed (by_value x) (by_value y)) (sym o.1) (quiet_value r (sym quiet_at ∙ e) o.0 o.1 w x y like l)
      value_first (inr (inr r)) x y like given takes w l low = group_first r.0 r.1 x y like given takes w l low
      value_first (inr (inl r)) (scalar ty z) y like none takes w l low =
          none_agrees r.0 r.1 takes (scalar ty z) w (target.parameter_by passed (param v q (inr (inl r))).written (by_value y) w.net) tt
      value_first (inr (inl r)) (fields t zs) y like none takes w l low =
          none_agrees r.0 r.1 takes (fields t zs) w (target.parameter_by passed (param v q (inr (inl r))).written (by_value y) w.net) tt
      value_first (inr (inl r)) (elements e dims zs) y like none takes w l low = absurd (true≢false (sym (array_there v i r.0 r.1 at) ∙ none))

      address_first : (u : IsTaken U v.0) (a : Address) (b : net.Address) (xs : List SourceGiven) (ys : List NetGiven) → Same U K w0 a b → IsTarget U a
          → GivesWhole U p i a → IsPlain U w0 a → SuitsParameter U p i a b → Rest vs (suc i) xs ys → (w : World) → Later U K w0 w → Below K.base (mark w.src)
          → MemoryMatch U w → (o : Owner) → q.variable.owner ≡ o → is_parameter_of p o ≡ true
          → Agrees U K w (Parameters (v ∷ vs)) (parameters (runnable_of U) p i (v ∷ vs) (by_address a ∷ xs) w.src)
          (target.parameters U.written home (heads.params_of S part (v ∷ vs)) (by_address b ∷ ys) w.net)
      address_first u a b xs ys alike target_is whole plain suits rest w l low h (owner.Value id) is k =
          first_outside id is a xs w (target.parameters U.written home (heads.params_of S part (v ∷ vs)) (by_address b ∷ ys) w.net)
      address_first u a b xs ys alike target_is whole plain suits rest w l low h (owner.Reference id) is k =
          next_agrees u (by_address a) (by_address b) xs ys rest w l low h
          (subst (λ z. BoundHere w u ((runnable_of U).quiet p i) q.variable.owner z (by_address a) (by_address b)) (sym (passed_by id is suits.1.1))
          (subst (λ z. BoundHere w u ((runnable_of U).quiet p i) z passing.Reference (by_address a) (by_address b)) (sym is)
          (address_agrees u id is ((runnable_of U).quiet p i) w a b alike target_is whole plain suits l h)))
      address_first u a b xs ys alike target_is whole plain suits rest w l low h _ is k = absurd (true≢false (sym k))

      source_first : (u : IsTaken U v.0) (a : Address) (k : shape.Shape) (y : net_value.Value) → (runnable_of U).quiet p i ≡ true
          → TakesValue U p i → Mirrors U K w0 a (net.constant k y) → IsVariable U a → (w : World) → IsPlain U w a → Later U K w0 w
          → BoundHere w u ((runnable_of U).quiet p i) q.variable.owner passed (by_address a) (by_value y)
      source_first (inl r) a k y e value mirrors target_is w plain l =
          let o = by_reference_here e in
          subst (λ t. BoundHere w (inl r) t q.variable.owner passed (by_address a) (by_value y)) (sym e)
          (subst (λ z. BoundHere w (inl r) true z passed (by_address a) (by_value y)) (sym o.1)
          (source_agrees r (sym quiet_at ∙ e) o.0 o.1 w a k y mirrors target_is plain l))
      source_first (inr (inl r)) a k y e value mirrors target_is w plain l = absurd (true≢false (sym e ∙ array_exact r.0 r.1 value))
      source_first (inr (inr r)) a k y e value mirrors target_is w plain l = absurd (true≢false (sym e ∙ group_exact r.0 r.1 value))

      target_first : (u : IsTaken U v.0) (x : Value) (b : net.Address) → (runnable_of U).quiet p i ≡ true → TakesValue U p i → TakesAddresses U p → Mirrors U K w0 (constant x) b
          → IsTypedAs U x (net.shape_at b) → (w : World) → Later U K w0 w
          → BoundHere w u ((runnable_of U).quiet p i) q.variable.owner passed (by_value x) (by_address b)
      target_first (inl r) x b e value takes mirrors typed w l =
          let o = by_reference_here e in
          subst (λ t. BoundHere w (inl r) t q.variable.owner passed (by_value x) (by_address b)) (sym e)
          (subst (λ z. BoundHere w (inl r) true q.variable.owner z (by_value x) (by_address b)) (sym (passed_by o.0 o.1 takes))
          (subst (λ z. BoundHere w (inl r) true z passing.Reference (by_value x) (by_address b)) (sym o.1)
          (target_agrees r (sym quiet_at ∙ e) o.0 o.1 w x b mirrors typed l)))
      target_first (inr (inl r)) x b e value takes mirrors typed w l = absurd (true≢false (sym e ∙ array_exact r.0 r.1 value))
      target_first (inr (inr r)) x b e value takes mirrors typed w l = absurd (true≢false (sym e ∙ group_exact r.0 r.1 value))

    -- the parameters from one on
    pub parameters_agree : (vs : List VarId) → list_all (covers_parameter U.program p) vs ≡ true → (i : ℕ)
        → ((j : ℕ) → slice_get ps (i + j) ≡ slice_get vs j) → (xs : List SourceGiven) (ys : List NetGiven) → ArgsMatch U K w0 p i xs ys → Rest vs i xs ys
    parameters_agree [] h i there _ _ (no_args _) w l low m =
        agrees_gives U K w (Parameters []) [] [] m no_locals
    parameters_agree [] h i there _ ys (value_args _ x y xs others like none takes rest) w l low m =
        agrees_outside U K w (Parameters []) (target.parameters U.written home [] ys w.net)
    parameters_agree [] h i there _ ys (address_args _ a b xs others same target_is whole plain suits rest) w l low m =
        agrees_outside U K w (Parameters []) (target.parameters U.written home [] ys w.net)
    parameters_agree [] h i there _ ys (source_bound _ a s y xs others is value mirrors target_is made_there plain rest) w l low m =
        agrees_outside U K w (Parameters []) (target.parameters U.written home [] ys w.net)
    parameters_agree [] h i there _ ys (target_bound _ x b xs others is value takes mirrors typed rest) w l low m =
        agrees_outside U K w (Parameters []) (target.parameters U.written home [] ys w.net)
    parameters_agree (v ∷ vs) h i there _ ys (no_args _) w l low m =
        agrees_outside U K w (Parameters (v ∷ vs)) (target.parameters U.written home (heads.params_of S part (v ∷ vs)) ys w.net)
    parameters_agree (v ∷ vs) h i there _ _ (value_args _ x y xs ys like none takes rest) w l low m =
        let q : Parameter U.program p v = parameter_is U.program p v (all_first (covers_parameter U.program p) v vs h) in
        let at : slice_get ps i ≡ Some v = first_there i v vs there in
        next_agrees v q i at vs (readable v q) (by_value x) (by_value y) xs ys
        (parameters_agree vs (all_rest (covers_parameter U.program p) v vs h) (suc i) (rest_there i v vs there) xs ys rest) w l low m
        (value_first v q i at vs (readable v q) x y like none takes w l low)
    parameters_agree (v ∷ vs) h i there _ _ (address_args _ a b xs ys same target_is whole plain suits rest) w l low m =
        let q : Parameter U.program p v = parameter_is U.program p v (all_first (covers_parameter U.program p) v vs h) in
        address_first v q i (first_there i v vs there) vs (readable v q) a b xs ys same target_is whole plain suits
        (parameters_agree vs (all_rest (covers_parameter U.program p) v vs h) (suc i) (rest_there i v vs there) xs ys rest) w l low m
        q.variable.owner refl q.parameter
    parameters_agree (v ∷ vs) h i there _ _ (source_bound _ a s y xs ys is value mirrors target_is made_there plain rest) w l low m =
        let q : Parameter U.program p v = parameter_is U.program p v (all_first (covers_parameter U.program p) v vs h) in
        let at : slice_get ps i ≡ Some v = first_there i v vs there in
        next_agrees v q i at vs (readable v q) (by_address a) (by_value y) xs ys
        (parameters_agree vs (all_rest (covers_parameter U.program p) v vs h) (suc i) (rest_there i v vs there) xs ys rest) w l low m
        (source_first v q i at vs (readable v q) a s y is value mirrors target_is w (plain_later U w0 w a l.extends made_there plain) l)
    parameters_agree (v ∷ vs) h i there _ _ (target_bound _ x b xs ys is value takes mirrors typed rest) w l low m =
        let q : Parameter U.program p v = parameter_is U.program p v (all_first (covers_parameter U.program p) v vs h) in
        let at : slice_get ps i ≡ Some v = first_there i v vs there in
        next_agrees v q i at vs (readable v q) (by_value x) (by_address b) xs ys
        (parameters_agree vs (all_rest (covers_parameter U.program p) v vs h) (suc i) (rest_there i v vs there) xs ys rest) w l low m
        (target_first v q i at vs (readable v q) x b is value takes mirrors typed w l)
