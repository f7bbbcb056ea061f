-- The entry of a covered procedure makes frames that match.
use Rattle.std.proofs.Common.{◌≡◌, refl, sym, ap, subst, ◌∙◌, ℕ, ◌+◌, arith, Bool, true, false, nat_eq, Option, Some, None, option_map, List, [], ◌∷◌, ◌++◌, map, ◌⊎◌, inl, inr, true≢false, ⊎_elim}
use Rattle.std.specs.Prelude.{slice_get, ◌&&◌}
use Rattle.std.specs.List.{list_any, list_all}
use Rattle.written_trees.specs.Prologues.{is_static}
use Rattle.std.specs.Map.{lookup}
use Rattle.up_base.proofs.Lists.{all_first, all_rest}
use Rattle.vb_tree.specs.declared.declared.VarId.{VarId}
use Rattle.bound_tree.specs.Tree.{Declarations, Procedure, Variable}
use Rattle.bound_facts.specs.Effects.{params_at}
use Rattle.net_tree.specs.Tree as net_tree
use Rattle.net_tree.specs.Types.{TypeName}
use Rattle.run_base.specs.Frames.{first_frame}
use Rattle.run_base.specs.Outcomes.{Outcome, after, gives, some_of, then}
use Rattle.run_base.specs.Positions.{Root, made, whole}
use Rattle.vb6_run.specs.Programs.{answer_in, entered_as, entry, is_local_of, is_static_of, lay_statics, made_each, owned_from, parameters}
use Rattle.vb6_run.specs.Shapes.{variable_shape}
use Rattle.vb6_run.specs.Store.{Address, Locked, Memory, SourceFrame, SourceGiven, locked_by, make}
use Rattle.net_run.specs.Lines.{NetFrame}
use Rattle.net_run.specs.Members.{params_of, result_of}
use Rattle.net_run.specs.Names.{var_in, is_class, is_class_at}
use Rattle.net_run.specs.Program as target
use Rattle.net_run.specs.Program.{dims_made, enter, frame_made}
use Rattle.net_run.specs.Shapes as shape
use Rattle.net_run.specs.Store as net
use Rattle.written_trees.specs.Arguments.{is_property, is_property_at, is_property_kind}
use Rattle.written_trees.specs.Bodies.{inside_procedure}
use Rattle.written_trees.specs.Heads as heads
use Rattle.written_trees.specs.Names.{Scope, variable_name_of}
use Rattle.run_matches.specs.Addresses.{ArgsMatch, both_nothing, AllLocked, IsPlain, is_element}
use Rattle.run_matches.specs.Agreeing.{Agrees}
use Rattle.run_laws.proofs.Given.{stands_itself, locks_given, locks_joined}
use Rattle.run_matches.specs.CoveredVariables.{are_different, belongs_to}
use Rattle.run_matches.specs.CoveredLines.{covers_line}
use Rattle.run_matches.specs.Covered.{covers_parameter, covers_own}
use Rattle.run_matches.specs.Frames.{FrameMatch, HasNames, HasOwnObject, SameVariable, declared_names, dim_name, result_names, static_of, SameStatic, name_of, GivenAddress, frame_pledge, is_own_of, lines_of, stands_in, is_own_place, is_kept_from}
use Rattle.run_matches.specs.CleanLines.{or_none}
use Rattle.run_matches.specs.Callees.{answer_owns, own_of_some, parameter_owns}
use Rattle.run_matches.specs.Maps.{Below, Mark, World, mark}
use Rattle.run_matches.specs.Match.{MemoryMatch, StoreMatch}
use Rattle.run_matches.specs.Pledges.{IsOld, Later, NetGiven, Pledge}
use Rattle.run_matches.specs.Runs.{IsObject, call_pledge}
use Rattle.run_matches.specs.Sites.{Own, own_name, own_variable, owns_of, own_constant, local_numbers, static_number, static_numbers}
use Rattle.run_matches.specs.Upgrades.{Upgrade, home_of, runnable_of, is_auto}
use Rattle.run_statements.specs.Frames.{HasRankOf, IsUsable}
use Rattle.run_statements.specs.Kept.{OwnsAreKept, own_dim}
use Rattle.run_statements.specs.Written.{WrittenProcedure, site_scope}
use Rattle.row_laws.proofs.Composing.{then_assoc, then_gives}
use Rattle.agreeing_laws.proofs.Agreeing.{agrees_gives, right_alone, then_agrees}
use Rattle.agreeing_laws.proofs.Lasting.{later_then}
use Rattle.agreeing_laws.proofs.Made.{below_self, below_then}
use Rattle.agreeing_laws.proofs.Moves.{locks_later}
use Rattle.agreeing_laws.proofs.OwnObjects.{own_object_later}
use Rattle.agreeing_laws.proofs.Scalars.{object_later}
use Rattle.name_laws.proofs.FrameNames.{own_names, parameter_names}
use Rattle.name_laws.proofs.Lists.{Among, all_among, among_right, flat_among, map_append}
use Rattle.name_laws.proofs.Owned.{owned_is}
use Rattle.name_laws.proofs.Owns.{number_if, own_is}
use Rattle.run_laws.specs.Entered.{AllKeyed, AllSound, GivenVariable, IsHolder, IsResult, LocalsMatch, OwnPlace, RunMatch, StaticMatch, static_in, next_constant, next_static, next_variable, no_locals}
use Rattle.run_laws.specs.Premises.{ArraysHaveRanks, GetsAreFirst, GroupsAreWritten, MakesAlike, LoudAreSeen}
use Rattle.run_laws.proofs.Covered.{CoveredProcedure}
use Rattle.run_laws.proofs.Heads.{HasAnswer, HasNone, Parameter, a_result, answer_names, answer_parts, no_result, parameter_belongs, parameter_given, parameter_is}
use Rattle.run_laws.proofs.Names.{code_is}
use Rattle.run_laws.proofs.Pledged.{call_is_weaker, frame_with}
use Rattle.run_laws.proofs.Owns.{owns_sound}
use Rattle.run_laws.proofs.StaticPlaces.{HasHolder, holder_is, holder_later, if_declared}
use Rattle.run_laws.proofs.Passing.{passing_listed}
use Rattle.run_laws.proofs.Usable.{result_usable, taken_is, taken_usable}
use Rattle.run_laws.proofs.StaticOrder.{each_next, in_order, made_in_order, statics_laid}
use Rattle.run_laws.proofs.StaticKeys.{IsDeclaredOwn, StaticFound, all_keyed, static_found, static_there}
use Rattle.run_laws.proofs.Locals.{Found, listed_behind, local_found, local_later, local_listed, local_names, local_places, local_there, locals_later}
use Rattle.run_laws.proofs.LocalsMade.{Locals, locals_agree}
use Rattle.run_laws.proofs.Parameters.{AreParameters, Parameters, parameters_agree}
use Rattle.run_laws.proofs.ParametersMade.{Local}
use Rattle.run_laws.proofs.AnswerTypes.{AnswerTyped, answer_typed}
use Rattle.run_laws.proofs.ResultsMade.{ResultMade, result_made}
use Rattle.run_laws.proofs.Standing.{different_behind, made_object, module_in_is, nothing_by, nothing_kept, plain_place, ending_owns, static_declared, static_root_is, no_place_kept, none_kept_from}
use Rattle.up_base.proofs.Tests.{either}

none_before : (j : ℕ) → 0 + j ≡ j
none_before j = omega arith

module _ (U : Upgrade) (p : ℕ) (c : CoveredProcedure U.program p) (W : WrittenProcedure U p c.site c.procedure)
    (kept : OwnsAreKept U p c.site c.procedure W)
    (usable : (v : ℕ) (x : Variable) → slice_get U.program.declarations.vars v ≡ Some x → belongs_to p x.owner ≡ true
    → IsUsable U v) (answers : (h : HasAnswer U.program.declarations p c.procedure) → IsResult U h.id.0) (ranked : ArraysHaveRanks U)
    (groups : GroupsAreWritten U) (firsts : GetsAreFirst U) (loud : LoudAreSeen U) where
  abbrev D : Declarations
  D = U.program.declarations

  abbrev x : Procedure
  x = c.procedure

  -- a part of a property takes values
  abbrev part : Bool
  part = is_property_kind x.kind

  is_part : is_property U.program.declarations p ≡ part
  is_part = ap is_property_at c.is_procedure

  abbrev S : Scope
  S = inside_procedure (site_scope U c.site) p

  abbrev H : Scope
  H = site_scope U c.site

  -- what its lines declare, and all that its frame has
  abbrev os : List Own
  os = owns_of U.program.declarations c.site

  abbrev others : List Own
  others = answer_owns D x.answer ++ os

  abbrev pub all : List Own
  all = parameter_owns D x.params ++ others

  abbrev result : HasNone x ⊎ HasAnswer D p x
  result = answer_parts D p x c.result

  -- ---- all of it is sound

  sound_append : (ks bs : List Own) → AllSound U S ks → AllSound U S bs → AllSound U S (ks ++ bs)
  sound_append [] bs h k = k
  sound_append (a ∷ ks) bs h k = (h.0, sound_append ks bs h.1 k)

  pub parameter_sound : AreParameters U p
  parameter_sound v q =
      taken_is U v.0 q.variable q.is_variable (parameter_given p q.variable.owner q.parameter)
      (usable v.0 q.variable q.is_variable (parameter_belongs p q.variable.owner q.parameter))

  parameters_sound : (vs : List VarId) → list_all (covers_parameter U.program p) vs ≡ true → AllSound U S (parameter_owns D vs)
  parameters_sound [] h = tt
  parameters_sound (v ∷ vs) h =
      let q : Parameter U.program p v = parameter_is U.program p v (all_first (covers_parameter U.program p) v vs h) in
      sound_append (own_of_some v.0 (slice_get D.vars v.0)) (parameter_owns D vs)
      (subst (λ o. AllSound U S (own_of_some v.0 o)) (sym q.is_variable) ((taken_usable U v.0 (parameter_sound v q), q.is_variable), tt))
      (parameters_sound vs (all_rest (covers_parameter U.program p) v vs h))

  answers_sound : HasNone x ⊎ HasAnswer D p x → AllSound U S (answer_owns D x.answer)
  answers_sound (inl h) = subst (λ a. AllSound U S (answer_owns D a)) (sym h.is_answer) tt
  answers_sound (inr h) =
      subst (λ a. AllSound U S (answer_owns D a)) (sym h.is_answer)
      (subst (λ o. AllSound U S (own_of_some h.id.0 o)) (sym h.is_variable) ((result_usable U h.id.0 (answers h), h.is_variable), tt))

  pub all_sound : AllSound U S all
  all_sound =
      sound_append (parameter_owns D x.params) others (parameters_sound x.params c.params)
      (sound_append (answer_owns D x.answer) os (answers_sound result) (owns_sound U p c.site x W kept))

  -- ---- its names

  pub all_names : map own_name all ≡ declared_names W.code
  all_names =
      let ps = params_of W.code in
      let rest = result_names (result_of W.code) ++ map dim_name W.code.procedure.prologue in
      map_append own_name (parameter_owns D x.params) others
      ∙ ap (λ ns. ns ++ map own_name others) (parameter_names H part x.params ∙ ap (map (λ (q : net_tree.Param). q.name)) (sym W.params))
      ∙ ap (λ ns. map (λ (q : net_tree.Param). q.name) ps ++ ns)
      (map_append own_name (answer_owns D x.answer) os
      ∙ ap (λ ns. ns ++ map own_name os) (answer_names U p c.site x W result)
      ∙ ap (λ ns. result_names (result_of W.code) ++ ns) (sym (own_names S os) ∙ ap (map dim_name) (sym kept.prologue)))

  -- ---- under the pledge of a call

  covered_lines : list_all (covers_line U.program p) (lines_of U p) ≡ true
  covered_lines = subst (λ ls. list_all (covers_line U.program p) ls ≡ true) (sym (ap or_none c.are_lines)) c.covers

  module _ (base : Mark) (me : Option ℕ) (xs : List SourceGiven) (ys : List NetGiven) (makes : MakesAlike U (call_pledge U p base me xs ys))
      (locked : Locked) where
    abbrev K : Pledge
    K = call_pledge U p base me xs ys

    -- the frames that are made of their variables
    module _ (w u : World) (lat : Later U K w u) (obj : IsObject w me) (own : HasOwnObject U w p me) (env : Locked) (held : AllLocked U K w env) (low : Below base (mark w.src))
        (hold : HasHolder U w x c.site W.code me) (ks : List (ℕ × Address)) (bs : List (List ℕ × net.Address))
        (m : LocalsMatch U K hold.holder u all ks bs) where
      abbrev f : SourceFrame
      f = first_frame me env ks

      abbrev g : NetFrame
      g = first_frame (option_map w.map.objects me) tt bs

      found_at : (v : ℕ) (a : Address) → lookup (nat_eq v) ks ≡ Some a → Found U K u v a all bs
      found_at v a e = local_found U S K hold.holder u all ks bs m all_sound c.different v a e

      plain_of : (v : ℕ) (a : Address) → OwnPlace U K u v a ⊎ GivenVariable U u v a → is_auto U v ≡ false → IsPlain U u a
      plain_of v a (inl k) auto = plain_place U u v a k.place auto
      plain_of v a (inr k) auto = k.plain

      place_of : (v : ℕ) (a : Address) → OwnPlace U K u v a ⊎ GivenVariable U u v a → is_own_of U p v ≡ true → OwnPlace U K u v a
      place_of v a (inl k) own = k
      place_of v a (inr k) own = absurd (true≢false (sym own ∙ k.foreign p))

      given_of : (v : ℕ) (a : Address) → OwnPlace U K u v a ⊎ GivenVariable U u v a → GivenAddress U v a
      given_of v a (inl k) = record {
        of_scalars = inl (ap is_element k.place.stands);
        whole = λ relied. ap is_element k.place.stands;
        place = λ exact. record {
          position = whole (made k.place.place);
          stands = stands_itself (variable_shape U.program.declarations v) a (whole (made k.place.place)) k.place.stands;
          target = inl (inl (record { place = k.place.place; shape = variable_shape U.program.declarations v; path = []; stands = k.place.stands }));
        };
      }
      given_of v a (inr k) = k.given

      variable_at : (v : ℕ) (a : Address) → lookup (nat_eq v) ks ≡ Some a → SameVariable U K u v a g
      variable_at v a e =
          let z : Found U K u v a all bs = found_at v a e in
          record {
            address = z.address;
            found = ap (λ o. var_in bs (variable_name_of o)) z.is_variable ∙ z.found;
            bound = z.match.bound;
            ranked = λ element rank e. subst (λ d. HasRankOf U v d) e z.match.ranked;
            plain = plain_of v a z.match.standing;
          }

      static_match : (v : ℕ) (z : Variable) → Among os (own_variable v z) → is_static z.owner ≡ true → SameStatic U u v (static_in hold.holder v) g
      static_match v z own static =
          let there = among_right (parameter_owns D x.params) others (own_variable v z) (among_right (answer_owns D x.answer) os (own_variable v z) own) in
          let t : StaticFound U hold.holder u v z bs = static_found U K hold.holder u v z static all ks bs m c.different there in
          let named : name_of U v ≡ z.name = ap (λ o. variable_name_of o) (own_is D c.site (own_variable v z) own) in
          let s : StaticMatch U hold.holder u v t.address = t.match in
          record {
            written = s.written;
            found = ap (λ n. var_in bs n) named ∙ t.found ∙ ap (λ b. Some b) s.stands;
            same = s.same;
            is_matched = s.matched;
            ranked = s.ranked;
          }

      static_there_is : (v : ℕ) (r : Root) → static_of U p me v ≡ Some r → SameStatic U u v r g
      static_there_is v r e =
          let y = static_declared U p me v r (slice_get D.vars v) refl e in
          let z = static_there D p v y.0 os c.statics y.1 y.2 in
          subst (λ q. SameStatic U u v q g) (static_root_is U p x me hold.holder v r c.is_procedure (if_declared D c.site hold.source v z.0 z.1 z.2 v) y.3)
          (static_match v z.0 z.1 z.2)

      frames_match : FrameMatch U K u p f g
      frames_match = record {
        line = refl;
        handler = refl;
        active = refl;
        resume = refl;
        me = sym (object_later w u me lat.extends obj);
        me_made = made_object w u me lat.grows.objects obj;
        own_object = own_object_later U K w u p me lat own;
        names = subst (λ o. HasNames o g) (sym (code_is U p c.site x W)) (local_names U S K hold.holder u all ks bs m ∙ all_names);
        vars = λ v a e flag. variable_at v a e;
        statics = λ v r e flag. static_there_is v r e;
        own = λ v a e is. (place_of v a (found_at v a e).match.standing is).place;
        own_heads = λ h l a e is k. absurd (nothing_kept a k);
        kept = λ h. both_nothing;
        covered_heads = λ h l is covers. nothing_by ks l.source.form l.bindings.exprs;
        covered_withs = λ h l is covers with. no_place_kept U K u l.bindings.exprs;
        has_locals = λ v is.
            local_there U S K hold.holder u all ks bs m v
            (listed_behind v (parameter_owns D x.params) others
            (listed_behind v (answer_owns D x.answer) os
            (subst (λ ns. list_any (nat_eq v) ns ≡ true) (sym c.locals) (local_listed p v 0 v D.vars is (omega arith)))));
        has_passing = λ v is. local_there U S K hold.holder u all ks bs m v (passing_listed U.program p c v is);
        locks = locks_later U K w u env lat held;
        low = below_then base (mark w.src) (mark u.src) low lat.grows;
      }

      grown : Below base (mark u.src)
      grown = below_then base (mark w.src) (mark u.src) low lat.grows

      places_are_new : (n : ℕ) → is_own_place U p f n ≡ true → IsOld K (made n) → ⊥
      places_are_new n e =
          ⊎_elim (λ own. local_places U S K hold.holder u p all ks bs m n own) (λ kept. absurd (none_kept_from U p f n (λ h. refl) 1 (lines_of U p) kept))
          (either (list_any (λ (x : ℕ × Address). is_own_of U p x.0 && stands_in n x.1) ks) (is_kept_from U p f n 1 (lines_of U p)) e)

      run_match : RunMatch U K p me u f g
      run_match = record {
        same_object = refl;
        frames =
            frame_with U K (frame_pledge U p u f) u lat.match (call_is_weaker U p base me xs ys u f refl grown places_are_new) p f g
            (below_self (mark u.src)) frames_match;
        low = grown;
        places = places_are_new;
        given = λ v a e is. given_of v a (found_at v a e).match.standing;
      }

    -- ---- the Statics of the entry

    home : home_of U S.file ≡ Some W.code.home
    home = groups.homes p c.site c.is_site ∙ ap (λ k. Some k) (sym W.home)

    sound : AllSound U S os
    sound = owns_sound U p c.site x W kept

    -- it is written in a class where it stands in one
    written_class : is_class U.written W.code.home ≡ c.site.source_module.class
    written_class = ap (is_class U.written) W.home ∙ ap is_class_at (module_in_is U.written.modules c.site.home) ∙ ap is_class_at W.is_module

    holder_at : (w : World) → HasOwnObject U w p me → HasHolder U w x c.site W.code me
    holder_at w own = holder_is U w p x c.site W.code me c.is_procedure c.alike written_class own

    declared_own : (w : World) (hold : HasHolder U w x c.site W.code me) (o : Own) → Among os o
        → IsDeclaredOwn U p W.code (code_is U p c.site x W) S (option_map w.map.objects me) hold.net_holder o
    declared_own w hold (own_variable v y) m =
        let is : slice_get D.vars v ≡ Some y = own_is D c.site (own_variable v y) m in (
          is,
          λ static. (
            owned_is (is_static_of p) D.vars v y
                (subst (λ ns. Among ns v) c.statics (flat_among static_number os (own_variable v y) v m (number_if (is_static y.owner) v static))) is,
            if_declared D c.site hold.target v y m static,
          ),
          all_among (covers_own D p) os (own_variable v y) c.owns m,
        )
    declared_own w hold (own_constant d y) m = tt

    own_different : are_different (map own_name os) ≡ true
    own_different =
        different_behind (map own_name (answer_owns D x.answer)) (map own_name os)
        (different_behind (map own_name (parameter_owns D x.params)) (map own_name (answer_owns D x.answer) ++ map own_name os)
        (subst (λ ns. are_different ns ≡ true)
        (map_append own_name (parameter_owns D x.params) others
        ∙ ap (λ ns. map own_name (parameter_owns D x.params) ++ ns) (map_append own_name (answer_owns D x.answer) os)) c.different))

    keyed : (w : World) (hold : HasHolder U w x c.site W.code me) → AllKeyed U W.code (option_map w.map.objects me) hold.net_holder 0 os
    keyed w hold =
        all_keyed U p W.code (code_is U p c.site x W) S (option_map w.map.objects me) hold.net_holder [] os kept.prologue (λ o m. tt) own_different
        (declared_own w hold)

    -- they could as well be laid where they stand among the local variables
    ordered : (v : World) (hold : HasHolder U v x c.site W.code me) {A : Type 0} (G : List (ℕ × Address) → Memory → Outcome Memory A) (w : Memory)
        → then (made_each D (local_numbers os) w) (λ more w. then (lay_statics D me (Some x.module_number) (static_numbers os) w) (λ u w. G more w))
        ≡ then (made_in_order D hold.holder os w) G
    ordered v hold G w =
        ap (λ f. then (made_each D (local_numbers os) w) f)
        (λ i more v. then (statics_laid D x c.site me hold.holder hold.source v i) (λ u z. G more z))
        ∙ in_order D hold.holder os (ending_owns U S os sound) G w

    -- ---- the result variable and what the lines declare

    abbrev net_others : Option (List ℕ × TypeName) → Option ℕ → net.Memory → Outcome net.Memory (List (List ℕ × net.Address))
    net_others r to t =
        then (target.result_made U.written W.code.home r t) (λ own t.
        then (dims_made U.written W.code to 0 (map (own_dim S) os) t) (λ dims t. gives [] (own ++ dims) t))

    -- what the source makes behind its parameters
    abbrev source_others : List ℕ → (statics owned : List ℕ) → Memory → Outcome Memory (List (ℕ × Address))
    source_others answer statics owned w =
        then (made_each D (answer ++ owned) w) (λ more w. then (lay_statics D me (Some x.module_number) statics w) (λ u w. gives [] more w))

    abbrev all_others : Option VarId → Memory → Outcome Memory (List (ℕ × Address))
    all_others a w = source_others (answer_in a) (static_numbers os) (local_numbers os) w

    others_agree : (v : World) (hold : HasHolder U v x c.site W.code me) (w : World) → IsHolder w hold.holder hold.net_holder → HasNone x ⊎ HasAnswer D p x
        → Below base (mark w.src) → MemoryMatch U w
        → Agrees U K w (Locals U K hold.holder others) (all_others x.answer w.src) (net_others (result_of W.code) (option_map v.map.objects me) w.net)
    others_agree v hold w of (inl h) low start =
        let to = option_map v.map.objects me in
        let r = all_others None w.src in
        let r' = dims_made U.written W.code to 0 (map (own_dim S) os) w.net in
        subst (λ a. Agrees U K w (Locals U K hold.holder (answer_owns D a ++ os)) (all_others a w.src) (net_others (result_of W.code) to w.net))
        (sym h.is_answer)
        (subst (λ z. Agrees U K w (Locals U K hold.holder os) r (net_others z to w.net)) (sym (no_result U p c.site x W h))
        (right_alone U K w (Locals U K hold.holder os) r (then r' (λ dims t. gives [] dims t))
        (subst (λ z. Agrees U K w (Locals U K hold.holder os) r z) (sym (then_gives r'))
        (subst (λ z. Agrees U K w (Locals U K hold.holder os) z r')
        (sym (ordered v hold (λ more w. gives [] more w) w.src ∙ then_gives (made_in_order D hold.holder os w.src)))
        (locals_agree U K makes ranked groups S refl refl W.code home to hold.holder hold.net_holder w 0 os sound (keyed v hold) of low start)))))
    others_agree v hold w of (inr h) low start =
        let to = option_map v.map.objects me in
        let y : Variable = h.variable in
        let typed : AnswerTyped U H x h.variable.ty = answer_typed U c.site p x h c.joined c.is_procedure firsts in
        let M : ResultMade U groups c.site W.code.home home p x h typed K makes =
        result_made U groups c.site W.code.home home p x h typed K makes (answers h) in
        let s = variable_shape D h.id.0 in
        let ds = map (own_dim S) os in
        let R = Locals U K hold.holder (own_variable h.id.0 y ∷ os) in
        let made = net.made_with M.written (shape.default_of M.written) w.net in
        let rest = λ (own : List (List ℕ × net.Address)) (t : net.Memory). then (dims_made U.written W.code to 0 ds t) (λ dims t. gives [] (own ++ dims) t) in
        let all_made = all_others (Some h.id) w.src in
        let in_order_made =
        then (make s w.src) (λ a v. then (made_in_order D hold.holder os v) (λ more v. gives [] ((h.id.0, a) ∷ more) v)) in
        let reordered : all_made ≡ in_order_made =
        each_next D h.id.0 (local_numbers os) (λ more v. then (lay_statics D me (Some x.module_number) (static_numbers os) v) (λ u v. gives [] more v)) w.src
        ∙ ap (λ k. then (make s w.src) k) (λ i a z. ordered v hold (λ more z. gives [] ((h.id.0, a) ∷ more) z) z i) in
        subst (λ a. Agrees U K w (Locals U K hold.holder (answer_owns D a ++ os)) (all_others a w.src) (net_others (result_of W.code) to w.net))
        (sym h.is_answer)
        (subst (λ o. Agrees U K w (Locals U K hold.holder (own_of_some h.id.0 o ++ os)) all_made (net_others (result_of W.code) to w.net)) (sym h.is_variable)
        (subst (λ z. Agrees U K w R all_made (net_others z to w.net)) (sym (a_result U p c.site x W h))
        (subst (λ z. Agrees U K w R all_made (then (then (net.made_with z (shape.default_of z) w.net) (λ a t. gives [] ((x.name, a) ∷ []) t)) rest)) (sym M.shaped)
        (subst (λ z. Agrees U K w R all_made z) (sym (then_assoc made (λ a t. gives [] ((x.name, a) ∷ []) t) rest))
        (subst (λ z. Agrees U K w R z (then made (λ b t. after [] (then (dims_made U.written W.code to 0 ds t) (λ dims t. gives [] ((x.name, b) ∷ dims) t)))))
        (sym reordered)
        (then_agrees U K w (Local U K h.id.0) R (make s w.src) made
        (λ a s. then (made_in_order D hold.holder os s) (λ more s. gives [] ((h.id.0, a) ∷ more) s))
        (λ b t. after [] (then (dims_made U.written W.code to 0 ds t) (λ dims t. gives [] ((x.name, b) ∷ dims) t))) start
        (M.made w low start)
        (λ a b u n later.
        right_alone U K u R (then (made_in_order D hold.holder os u.src) (λ more s. gives [] ((h.id.0, a) ∷ more) s))
        (then (dims_made U.written W.code to 0 ds u.net) (λ dims t. gives [] ((x.name, b) ∷ dims) t))
        (then_agrees U K u (Locals U K hold.holder os) R (made_in_order D hold.holder os u.src) (dims_made U.written W.code to 0 ds u.net)
        (λ more s. gives [] ((h.id.0, a) ∷ more) s) (λ dims t. gives [] ((x.name, b) ∷ dims) t) later.match
        (locals_agree U K makes ranked groups S refl refl W.code home to hold.holder hold.net_holder u 0 os sound (keyed v hold)
        (holder_later U K w u hold.holder hold.net_holder later of) (below_then base (mark w.src) (mark u.src) low later.grows) later.match)
        (λ ks bs z ms more.
        agrees_gives U K z R ((h.id.0, a) ∷ ks) ((x.name, b) ∷ bs) more.match
        (next_variable h.id.0 y a (x.name, b) os ks bs (ap is_static h.owner) (sym h.name) (local_later U K u z h.id.0 a b later.match more n) ms))))))))))

    -- ---- the entries

    abbrev begun_frame : Option ℕ → Locked → List (ℕ × Address) → SourceFrame
    begun_frame me env vars = first_frame me env vars

    abbrev net_begun : Option ℕ → List (List ℕ × net.Address) → NetFrame
    net_begun to vars = first_frame to tt vars

    abbrev source_rest : List (ℕ × Address) → Memory → Outcome Memory SourceFrame
    source_rest params w =
        then (all_others x.answer w) (λ more w. gives [] (begun_frame me (locked_by xs ++ locked) (params ++ more)) w)

    source_entry : (w : Memory) → entered_as (runnable_of U) p me locked xs w ≡ then (parameters (runnable_of U) p 0 x.params xs w) source_rest
    source_entry w =
        let from = λ (statics owned : List ℕ) (w : Memory).
        then (parameters (runnable_of U) p 0 x.params xs w) (λ params w.
        then (made_each D (answer_in x.answer ++ owned) w) (λ more w.
        then (lay_statics D me (Some x.module_number) statics w) (λ u w. gives [] (begun_frame me (locked_by xs ++ locked) (params ++ more)) w))) in
        let made = λ (w : Memory). made_each D (answer_in x.answer ++ local_numbers os) w in
        let laid = λ (w : Memory). lay_statics D me (Some x.module_number) (static_numbers os) w in
        let grouped = λ (params : List (ℕ × Address)) (w : Memory).
        then_assoc (made w) (λ more w. then (laid w) (λ u w. gives [] more w)) (λ more w. gives [] (begun_frame me (locked_by xs ++ locked) (params ++ more)) w)
        ∙ ap (λ j. then (made w) j)
        (λ i more w. then_assoc (laid w) (λ u w. gives [] more w) (λ more w. gives [] (begun_frame me (locked_by xs ++ locked) (params ++ more)) w) i) in
        ap (λ o. some_of o (λ y w. entry (runnable_of U) p me locked xs y w) w) c.is_procedure
        ∙ ap (λ ss. from ss (owned_from (is_local_of p) 0 D.vars) w) (sym c.statics)
        ∙ ap (λ owned. from (static_numbers os) owned w) (sym c.locals)
        ∙ ap (λ k. then (parameters (runnable_of U) p 0 x.params xs w) k) (λ i params w. let e = sym (grouped params w) in e i)

    abbrev target_rest : Option ℕ → List (List ℕ × net.Address) → net.Memory → Outcome net.Memory NetFrame
    target_rest to params t = then (net_others (result_of W.code) to t) (λ more t. gives [] (net_begun to (params ++ more)) t)

    -- the result variable and the declarations together
    regrouped : (to : Option ℕ) (params : List (List ℕ × net.Address)) (dims : List net_tree.Dim) (t : net.Memory)
        → then (target.result_made U.written W.code.home (result_of W.code) t) (λ own t.
        then (dims_made U.written W.code to 0 dims t) (λ ds t. gives [] (net_begun to (params ++ (own ++ ds))) t))
        ≡ then (then (target.result_made U.written W.code.home (result_of W.code) t) (λ own t.
        then (dims_made U.written W.code to 0 dims t) (λ ds t. gives [] (own ++ ds) t))) (λ more t. gives [] (net_begun to (params ++ more)) t)
    regrouped to params dims t =
        let first = target.result_made U.written W.code.home (result_of W.code) t in
        let k = λ (more : List (List ℕ × net.Address)) (t : net.Memory). gives [] (net_begun to (params ++ more)) t in
        let pair = λ (own : List (List ℕ × net.Address)) (t : net.Memory). then (dims_made U.written W.code to 0 dims t) (λ ds t. gives [] (own ++ ds) t) in
        sym (then_assoc first pair k
        ∙ ap (λ j. then first j) (λ i own t. then_assoc (dims_made U.written W.code to 0 dims t) (λ ds t. gives [] (own ++ ds) t) k i))

    target_entry : (to : Option ℕ) (t : net.Memory)
        → enter U.written W.number to tt ys t
        ≡ then (target.parameters U.written W.code.home (heads.params_of H part x.params) ys t) (target_rest to)
    target_entry to t =
        let ps = λ (params : List net_tree.Param) (k : List (List ℕ × net.Address) → net.Memory → Outcome net.Memory NetFrame).
        then (target.parameters U.written W.code.home params ys t) k in
        ap (λ o. some_of o (frame_made U.written to ys) t) W.is_code
        ∙ ap (λ k. ps (params_of W.code) k) (λ i params t. regrouped to params W.code.procedure.prologue t i)
        ∙ ap (λ dims. ps (params_of W.code) (λ params t.
        then (then (target.result_made U.written W.code.home (result_of W.code) t) (λ own t.
        then (dims_made U.written W.code to 0 dims t) (λ ds t. gives [] (own ++ ds) t))) (λ more t. gives [] (net_begun to (params ++ more)) t))) kept.prologue
        ∙ ap (λ params. ps params (target_rest to)) W.params

    -- variables of both lists
    match_append : (holder : Option ℕ) (u : World) (ks bs : List Own) (ds es : List (ℕ × Address)) (gs hs : List (List ℕ × net.Address))
        → LocalsMatch U K holder u ks ds gs → LocalsMatch U K holder u bs es hs → LocalsMatch U K holder u (ks ++ bs) (ds ++ es) (gs ++ hs)
    match_append holder u _ bs _ es _ hs no_locals m = m
    match_append holder u _ bs _ es _ hs (next_variable v y a b os ds gs local name one rest) m =
        next_variable v y a b (os ++ bs) (ds ++ es) (gs ++ hs) local name one (match_append holder u os bs ds es gs hs rest m)
    match_append holder u _ bs _ es _ hs (next_static v y b os ds gs static name one rest) m =
        next_static v y b (os ++ bs) (ds ++ es) (gs ++ hs) static name one (match_append holder u os bs ds es gs hs rest m)
    match_append holder u _ bs _ es _ hs (next_constant k y b os ds gs name rest) m =
        next_constant k y b (os ++ bs) (ds ++ es) (gs ++ hs) name (match_append holder u os bs ds es gs hs rest m)

    pub entries_agree : (w0 w : World) → StoreMatch U w0 → ArgsMatch U K w0 p 0 xs ys → Later U K w0 w → IsObject w me → HasOwnObject U w p me → AllLocked U K w locked
        → Below base (mark w.src) → MemoryMatch U w
        → Agrees U K w (RunMatch U K p me) (entered_as (runnable_of U) p me locked xs w.src)
        (enter U.written W.number (option_map w.map.objects me) tt ys w.net)
    entries_agree w0 w start args l obj own held low h =
        let to = option_map w.map.objects me in
        let hold : HasHolder U w x c.site W.code me = holder_at w own in
        let R = RunMatch U K p me in
        let placed = λ (j : ℕ). ap (λ o. slice_get (params_at o) (0 + j)) c.is_procedure ∙ ap (λ n. slice_get x.params n) (none_before j) in
        let r = parameters (runnable_of U) p 0 x.params xs w.src in
        let r' = target.parameters U.written W.code.home (heads.params_of H part x.params) ys w.net in
        subst (λ z. Agrees U K w R z (enter U.written W.number to tt ys w.net)) (sym (source_entry w.src))
        (subst (λ z. Agrees U K w R (then r source_rest) z) (sym (target_entry to w.net))
        (then_agrees U K w (Parameters U p groups H refl refl W.code.home home part is_part loud K hold.holder makes w0 start parameter_sound x.params) R r r'
        source_rest (target_rest to) h
        (parameters_agree U p groups H refl refl W.code.home home part is_part loud K hold.holder makes w0 start parameter_sound x.params c.params 0 placed xs ys args
        w l low h)
        (λ ds gs u m later.
        then_agrees U K u (Locals U K hold.holder others) R (all_others x.answer u.src) (net_others (result_of W.code) to u.net)
        (λ more w. gives [] (begun_frame me (locked_by xs ++ locked) (ds ++ more)) w) (λ more t. gives [] (net_begun to (gs ++ more)) t) later.match
        (others_agree w hold u (holder_later U K w u hold.holder hold.net_holder later hold.is_holder) result
        (below_then base (mark w.src) (mark u.src) low later.grows) later.match)
        (λ es hs z n more.
        let lat : Later U K w z = later_then U K w u z h later more in
        agrees_gives U K z R (begun_frame me (locked_by xs ++ locked) (ds ++ es)) (net_begun to (gs ++ hs)) more.match
        (run_match w z lat obj own (locked_by xs ++ locked)
        (locks_joined U K w (locked_by xs) locked (locks_later U K w0 w (locked_by xs) l (locks_given U K w0 p 0 xs ys args)) held) low hold
        (ds ++ es) (gs ++ hs)
        (match_append hold.holder z (parameter_owns D x.params) others ds es gs hs
        (locals_later U K hold.holder u z (parameter_owns D x.params) ds gs later.match more m) n))))))
