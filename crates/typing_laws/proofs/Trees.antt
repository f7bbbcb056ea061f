-- The induction over expressions and their arguments.
use Rattle.std.proofs.Common.{false, ◌≡◌, refl, sym, ap, ◌∙◌, subst, ℕ, suc, ℤ, true, ◌&&◌, true≢false, List, [], ◌∷◌}
use Rattle.std.specs.Prelude.{slice_get, is_some}
use Rattle.std.specs.List.{list_all}
use Rattle.up_base.proofs.Lists.{all_first, all_rest}
use Rattle.up_base.proofs.Tests.{both_true}
use Rattle.vb_tree.specs.BoundTree.{Ty}
use Rattle.vb_tree.specs.BoundTree as types
use Rattle.vb_tree.specs.declared.declared.ProcId.{ProcId}
use Rattle.vb_tree.specs.declared.declared.VarId.{VarId}
use Rattle.bound_tree.specs.declared.body.Mention.{Mention}
use Rattle.bound_tree.specs.Tree.{Declarations, Procedure, Program, Variable, Expr, typed, Term, constant, variable, field, element, call, library, unary, binary, convert, new_object, me, with_object, err_number, err_raise, err_clear, is_same, loose, Object, no_object, of_object, Exprs, no_exprs, next_expr, Argument, Passed, no_passed, next_passed}
use Rattle.bound_tree.specs.Tree as tree
use Rattle.bound_facts.specs.Locks.{is_same_type}
use Rattle.bound_facts.specs.Node.{type_at}
use Rattle.bound_facts.specs.Nodes.{nodes, nodes_of_all, nodes_of_argument, nodes_of_passed}
use Rattle.net_meaning.specs.WrittenLiterals.{is_within, type_of_constant}
use Rattle.net_meaning.specs.WrittenRows.{write_operator, write_unary, write_conversion}
use Rattle.row_laws.specs.Constants.{is_literal}
use Rattle.run_base.specs.Outcomes.{gives, then}
use Rattle.vb6_run.specs.Expressions.{Context, declared, value_of, scalar_value, whole_number, indexes_of, argument_of, args_of, values_of}
use Rattle.vb6_run.specs.Store.{Memory}
use Rattle.run_matches.specs.CoveredVariables.{covers_type}
use Rattle.run_matches.specs.CoveredExprs.{Uses, covers_argument, covers_array, covers_expr, covers_exprs, covers_object, covers_operand, covers_operator, covers_passed, covers_term}
use Rattle.run_matches.specs.Covered.{suits_argument, suits_passed}
use Rattle.run_matches.specs.Formed.{are_formed, are_longs, has_elements, is_formed, is_formed_argument, is_row_of_call, is_row_of_one, is_row_of_two, passed_are_formed, types_of}
use Rattle.typing_laws.specs.Flat.{flat_uses, outer_uses, is_flat_parameter}
use Rattle.typing_laws.specs.Calls.{CallsAreSuited, CallsKeep, Each, IsSuited, SourceJob}
use Rattle.typing_laws.specs.Frames.{AreGiven, IsGiven}
use Rattle.typing_laws.specs.Leaving.{Leaves, ExprsLeave, PassedLeave, in_first, in_later, in_argument, behind_argument, passed_value}
use Rattle.typing_laws.specs.Typed.{are_typed, are_typed_passed, fits_call, fits_parameter, fits_parameters, is_typed, is_typed_argument, gives_what_it_has}
use Rattle.typing_laws.proofs.Callees.{both_each}
use Rattle.typing_laws.proofs.Ends.{Ends, ends_after, ends_weaker, keeps_self, then_ends}
use Rattle.typing_laws.proofs.Expressions.{Fits, IsScalarOf, IsTyped, binary_ends, convert_ends, fits_later, scalar_ends, term_ends, unary_ends, variable_ends, number_ends, same_ends}
use Rattle.typing_laws.proofs.Library.{ArePlain}
use Rattle.typing_laws.proofs.Plain.{Plain, constant_plain, long_value, same_as}
use Rattle.typing_laws.proofs.Procedures.{Parameter, parameter_of}
use Rattle.typing_laws.proofs.Flat.{array_named, no_object_covered, operand_nothing, variable_used}
use Rattle.typing_laws.proofs.Elements.{AreIndexes}
use Rattle.typing_laws.proofs.Fields.{field_place, field_value}
use Rattle.typing_laws.proofs.Found.{HasAddress, IsFieldAt, IsRight, element_value}
use Rattle.typing_laws.proofs.Values.{Callee, call_ends, call_value, callee_of, covered_type, given_later}
use Rattle.typing_laws.specs.Frames.{Footprint, Ground, ground}
use Rattle.typing_laws.proofs.Steps.{Called, StandFrom, all_longs, called_of, element_found, first_place, given_ends, library_right, long_then, longs_all, more_indexes, next_place, no_library, no_place}

module _ (C : Context) (F : Footprint) (X : SourceJob → Memory → Type 0) (calls : CallsKeep C F X) (mentions : List Mention) where
  abbrev D : Declarations
  D = declared C

  abbrev K : Ground
  K = ground (declared C) F

  abbrev uses : Uses
  uses = flat_uses C.runnable.program C.procedure mentions

  abbrev all_uses : Uses
  all_uses = outer_uses C.runnable.program C.procedure mentions

  abbrev Right : Expr → Memory → Type 0
  Right e w = IsRight C F X e w

  mutual
    right_ends : (e : Expr) → covers_expr uses e ≡ true → is_formed e ≡ true → is_typed D e ≡ true → CallsAreSuited C.runnable e → (w : Memory) → Fits C F w
        → Right e w
    right_ends (typed ty (constant x origin)) covers formed typing suited w fits =
        let c : covers_type ty ≡ true = (both_true (covers_type ty) true covers).0 in
        let all = both_true (is_same_type (type_of_constant x) ty) (is_within x && is_literal x) formed in
        let within = both_true (is_within x) (is_literal x) all.1 in
        let s : type_of_constant x ≡ ty = same_as (type_of_constant x) ty c all.0 in (
          term_ends C F ty (constant x origin) (Leaves C X (typed ty (constant x origin)) w) w refl
              (keeps_self K w, (x, refl, subst (λ t. Plain t x) s (constant_plain x within.0 (subst (λ t. covers_type t ≡ true) (sym s) c)))),
          tt,
        )
    right_ends (typed ty (variable x qualified)) covers formed typing suited w fits =
        (variable_ends C F X calls mentions w fits ty x qualified (variable_used uses ty x qualified covers) typing, tt)
    right_ends (typed ty (unary op e)) covers formed typing suited w fits =
        let both = both_true (covers_type ty) (covers_expr uses e) covers in
        let forms = both_true (is_row_of_one ty (write_unary op (type_at e))) (is_formed e) formed in (
          unary_ends C F X calls mentions w ty op e both.0 (covered_type C F X calls mentions e both.1) forms.0 (right_ends e both.1 forms.1 typing suited.1 w fits).0,
          tt,
        )
    right_ends (typed ty (binary op d e)) covers formed typing suited w fits =
        let both = both_true (covers_type ty) (covers_operator op && (covers_expr uses d && covers_expr uses e)) covers in
        let operator = both_true (covers_operator op) (covers_expr uses d && covers_expr uses e) both.1 in
        let operands = both_true (covers_expr uses d) (covers_expr uses e) operator.1 in
        let forms = both_true (is_row_of_two op ty (write_operator op (type_at d) (type_at e))) (is_formed d && is_formed e) formed in
        let inner = both_true (is_formed d) (is_formed e) forms.1 in
        let types = both_true (is_typed D d) (is_typed D e) typing in
        let parts = both_each (IsSuited C.runnable) (nodes d) (nodes e) suited.1 in (
          binary_ends C F X calls mentions w fits ty op d e both.0 (covered_type C F X calls mentions d operands.0) (covered_type C F X calls mentions e operands.1) operator.0
              forms.0 (λ v f. (right_ends d operands.0 inner.0 types.0 parts.0 v f).0) (λ v f. (right_ends e operands.1 inner.1 types.1 parts.1 v f).0),
          tt,
        )
    right_ends (typed ty (convert to e)) covers formed typing suited w fits =
        let both = both_true (covers_type ty) (covers_type to && covers_expr uses e) covers in
        let operand = both_true (covers_type to) (covers_expr uses e) both.1 in
        let forms = both_true (is_some (write_conversion (type_at e) to)) (is_formed e) formed in
        let types = both_true (is_same_type ty to) (is_typed D e) typing in (
          convert_ends C F X calls mentions w ty to e both.0 operand.0 (covered_type C F X calls mentions e operand.1) forms.0 (same_as ty to operand.0 types.0)
              (right_ends e operand.1 forms.1 types.1 suited.1 w fits).0,
          tt,
        )
    right_ends (typed ty (library f no_exprs)) covers formed typing suited w fits =
        absurd (no_library C F X calls mentions f ty (both_true (covers_type ty) (covers_term uses (library f no_exprs)) covers).1 (both_true (is_row_of_call f [] ty) true formed).0)
    right_ends (typed ty (library f (next_expr e rest))) covers formed typing suited w fits =
        let both = both_true (covers_type ty) (covers_term uses (library f (next_expr e rest))) covers in
        let forms = both_true (is_row_of_call f (types_of (next_expr e rest)) ty) (is_formed e && are_formed rest) formed in
        let inner = both_true (is_formed e) (are_formed rest) forms.1 in
        let types = both_true (is_typed D e) (are_typed D rest) typing in
        let parts = both_each (IsSuited C.runnable) (nodes e) (nodes_of_all rest) suited.1 in (
          term_ends C F ty (library f (next_expr e rest)) (Leaves C X (typed ty (library f (next_expr e rest))) w) w refl
              (library_right C F X calls mentions w fits ty f e rest both.0 both.1 forms.0 (λ c v g. (right_ends e c inner.0 types.0 parts.0 v g).0)
              (λ c v g. values_end rest c inner.1 types.1 parts.1 v g)),
          tt,
        )
    right_ends (typed ty (call q qualified no_object args)) covers formed typing suited w fits =
        let both = both_true (covers_type ty) (uses.gives q.0 && covers_passed uses args) covers in
        let given = both_true (uses.gives q.0) (covers_passed uses args) both.1 in
        let types = both_true (are_typed_passed D args) (fits_call D ty args (slice_get D.procs q.0)) typing in
        let callee : Callee C q.0 ty args = callee_of C q.0 ty args (suited.0.ready q.0 refl) types.1 in
        let x : Procedure = callee.parts.head.procedure in
        let L = Leaves C X (typed ty (call q qualified no_object args)) w in (
          term_ends C F ty (call q qualified no_object args) L w refl
              (call_value C F X calls mentions w ty (call q qualified no_object args) x L both.0 callee.same
              (sym (ap gives_what_it_has callee.parts.head.is_procedure) ∙ callee.parts.gives)
              (call_ends C F X calls mentions w fits ty q qualified args callee
              (passed_end q.0 (called_of C q.0 ty args callee) x.params 0 (λ j. ap (λ n. slice_get x.params n) (no_place j)) callee.parts.params args given.1 formed
              types.0 callee.fits suited.0.suits suited.1 w fits))),
          tt,
        )
    right_ends (typed ty (call q qualified (of_object e) args)) covers formed typing suited w fits =
        let both = both_true (covers_type ty) (uses.gives q.0 && (covers_object uses e && covers_passed uses args)) covers in
        let given = both_true (uses.gives q.0) (covers_object uses e && covers_passed uses args) both.1 in
        absurd (no_object_covered all_uses e (both_true (covers_object uses e) (covers_passed uses args) given.1).0)
    right_ends (typed ty (field e i)) covers formed typing suited w fits =
        let f : IsFieldAt C F ty e i w = field_place C F mentions w fits ty e i covers suited.0.field in
        (field_value C F mentions X w ty e i (both_true (covers_type ty) (covers_term uses (field e i)) covers).0 f, f)
    right_ends (typed ty (element a indexes)) covers formed typing suited w fits =
        let both = both_true (covers_type ty) (covers_array uses a && covers_exprs uses indexes) covers in
        let operands = both_true (covers_array uses a) (covers_exprs uses indexes) both.1 in
        let forms = both_true (has_elements (type_at a) ty) (are_longs (types_of indexes) && are_formed indexes) formed in
        let inner = both_true (are_longs (types_of indexes)) (are_formed indexes) forms.1 in
        let types = both_true (is_typed D a) (are_typed D indexes) typing in
        let parts = both_each (IsSuited C.runnable) (nodes a) (nodes_of_all indexes) suited.1 in
        let found : HasAddress C F X (typed ty (element a indexes)) w =
        element_found C F X calls mentions w fits ty a indexes both.0 (array_named uses a operands.0) forms.0 inner.0
        (indexes_end indexes operands.1 inner.1 types.1 parts.1 (longs_all (types_of indexes) inner.0) w fits) in
        (element_value C F X ty a indexes w both.0 found, found)
    right_ends (typed ty (new_object class)) covers formed typing suited w fits = absurd (true≢false (sym (both_true (covers_type ty) false covers).1))
    right_ends (typed ty me) covers formed typing suited w fits = absurd (true≢false (sym (both_true (covers_type ty) false covers).1))
    right_ends (typed ty (with_object r)) covers formed typing suited w fits = absurd (true≢false (sym formed))
    right_ends (typed ty err_number) covers formed typing suited w fits =
        (number_ends C F X w ty (same_as types.long ty (both_true (covers_type ty) true covers).0 formed), tt)
    right_ends (typed ty (err_raise e)) covers formed typing suited w fits = absurd (true≢false (sym (both_true (covers_type ty) false covers).1))
    right_ends (typed ty err_clear) covers formed typing suited w fits = absurd (true≢false (sym (both_true (covers_type ty) false covers).1))
    right_ends (typed ty (is_same d e)) covers formed typing suited w fits =
        let both = both_true (covers_type ty) (covers_operand uses d && covers_operand uses e) covers in
        let operands = both_true (covers_operand uses d) (covers_operand uses e) both.1 in
        let forms = both_true (is_same_type types.boolean ty) (is_formed d && is_formed e) formed in (
          same_ends C F X w ty d e (same_as types.boolean ty both.0 forms.0) (operand_nothing all_uses d operands.0) (operand_nothing all_uses e operands.1),
          tt,
        )
    right_ends (typed ty (loose e rules)) covers formed typing suited w fits = absurd (true≢false (sym formed))

    indexes_end : (es : Exprs) → covers_exprs uses es ≡ true → are_formed es ≡ true → are_typed D es ≡ true → Each (IsSuited C.runnable) (nodes_of_all es)
        → all_longs (types_of es) ≡ true → (w : Memory) → Fits C F w → Ends K (λ v zs. AreIndexes es zs) (ExprsLeave C X es w) w (indexes_of C es w)
    indexes_end no_exprs covers formed typing suited longs w fits = (keeps_self K w, tt)
    indexes_end (next_expr e rest) covers formed typing suited longs w fits =
        let operands = both_true (covers_expr uses e) (covers_exprs uses rest) covers in
        let inner = both_true (is_formed e) (are_formed rest) formed in
        let typings = both_true (is_typed D e) (are_typed D rest) typing in
        let parts = both_each (IsSuited C.runnable) (nodes e) (nodes_of_all rest) suited in
        let long = both_true (is_same_type types.long (type_at e)) (all_longs (types_of rest)) longs in
        let More = λ (z : ℤ) (v : Memory). then (indexes_of C rest v) (λ zs u. gives [] (z ∷ zs) u) in
        let L : Type 0 = ExprsLeave C X (next_expr e rest) w in
        let Q = λ (v : Memory) (zs : List ℤ). AreIndexes (next_expr e rest) zs in
        subst (λ r. Ends K Q L w r) (sym (long_then C F X calls mentions e w More))
        (then_ends K (IsScalarOf (type_at e)) Q L w (scalar_value C e w) (λ x v. then (whole_number x v) More)
        (ends_weaker K (IsScalarOf (type_at e)) (Leaves C X e w) L w (scalar_value C e w) (in_first e rest w)
        (scalar_ends C F e (type_at e) (Leaves C X e w) w (right_ends e operands.0 inner.0 typings.0 parts.0 w fits).0))
        (λ o x v one k p.
        let z = long_value (type_at e) x p (sym (same_as types.long (type_at e) (covered_type C F X calls mentions e operands.0) long.0)) in
        subst (λ y. Ends K Q L v (then (whole_number y v) More)) (sym z.1)
        (ends_after K Q L v [] (More z.0 v)
        (then_ends K (λ u zs. AreIndexes rest zs) Q L v (indexes_of C rest v) (λ zs u. gives [] (z.0 ∷ zs) u)
        (ends_weaker K (λ u zs. AreIndexes rest zs) (ExprsLeave C X rest v) L v (indexes_of C rest v) (in_later e rest w v o x one)
        (indexes_end rest operands.1 inner.1 typings.1 parts.1 long.1 v (fits_later C F w v k fits)))
        (λ o2 zs u two l q. (keeps_self K u, more_indexes z.0 zs))))))

    pub values_end : (es : Exprs) → covers_exprs uses es ≡ true → are_formed es ≡ true → are_typed D es ≡ true → Each (IsSuited C.runnable) (nodes_of_all es)
        → (w : Memory) → Fits C F w → Ends K (λ v xs. ArePlain (types_of es) xs) (ExprsLeave C X es w) w (values_of C es w)
    values_end no_exprs covers formed typing suited w fits = (keeps_self K w, tt)
    values_end (next_expr e rest) covers formed typing suited w fits =
        let operands = both_true (covers_expr uses e) (covers_exprs uses rest) covers in
        let inner = both_true (is_formed e) (are_formed rest) formed in
        let types = both_true (is_typed D e) (are_typed D rest) typing in
        let parts = both_each (IsSuited C.runnable) (nodes e) (nodes_of_all rest) suited in
        then_ends K (IsScalarOf (type_at e)) (λ v xs. ArePlain (types_of (next_expr e rest)) xs) (ExprsLeave C X (next_expr e rest) w) w (scalar_value C e w)
        (λ x v. then (values_of C rest v) (λ xs u. gives [] (x ∷ xs) u))
        (ends_weaker K (IsScalarOf (type_at e)) (Leaves C X e w) (ExprsLeave C X (next_expr e rest) w) w (scalar_value C e w) (in_first e rest w)
        (scalar_ends C F e (type_at e) (Leaves C X e w) w (right_ends e operands.0 inner.0 types.0 parts.0 w fits).0))
        (λ o x v one k p.
        then_ends K (λ u xs. ArePlain (types_of rest) xs) (λ v xs. ArePlain (types_of (next_expr e rest)) xs) (ExprsLeave C X (next_expr e rest) w) v (values_of C rest v)
        (λ xs u. gives [] (x ∷ xs) u)
        (ends_weaker K (λ u xs. ArePlain (types_of rest) xs) (ExprsLeave C X rest v) (ExprsLeave C X (next_expr e rest) w) v (values_of C rest v)
        (in_later e rest w v o x one) (values_end rest operands.1 inner.1 types.1 parts.1 v (fits_later C F w v k fits)))
        (λ o2 xs u two l q. (keeps_self K u, (p, q))))

    passed_end : (q : ℕ) (k : Called C q) (vs : List VarId) (i : ℕ) → StandFrom C F X calls mentions k.procedure i vs → list_all (is_flat_parameter C.runnable.program q) vs ≡ true
        → (args : Passed) → covers_passed uses args ≡ true → passed_are_formed args ≡ true → are_typed_passed D args ≡ true → fits_parameters D vs args ≡ true
        → suits_passed D q i args ≡ true → Each (IsSuited C.runnable) (nodes_of_passed args) → (w : Memory) → Fits C F w
        → Ends K (λ v gs. AreGiven K v vs gs) (PassedLeave C X q i args w) w (args_of C q i args w)
    passed_end q k [] i stand params no_passed covers formed typing fit suit suited w fits = (keeps_self K w, tt)
    passed_end q k [] i stand params (next_passed a rest) covers formed typing fit suit suited w fits = absurd (true≢false (sym fit))
    passed_end q k (p ∷ vs) i stand params no_passed covers formed typing fit suit suited w fits = absurd (true≢false (sym fit))
    passed_end q k (p ∷ vs) i stand params (next_passed a rest) covers formed typing fit suit suited w fits =
        let cs = both_true (covers_argument uses a) (covers_passed uses rest) covers in
        let fs = both_true (is_formed_argument a) (passed_are_formed rest) formed in
        let ts = both_true (is_typed_argument D a) (are_typed_passed D rest) typing in
        let gs = both_true (fits_parameter a (slice_get D.vars p.0)) (fits_parameters D vs rest) fit in
        let ss = both_true (suits_argument D q i a) (suits_passed D q (suc i) rest) suit in
        let ns = both_each (IsSuited C.runnable) (nodes_of_argument a) (nodes_of_passed rest) suited in
        let y : Parameter C.runnable.program q p =
        parameter_of C.runnable.program q p k.variables (all_first (is_flat_parameter C.runnable.program q) p vs params) in
        let L : Type 0 = PassedLeave C X q i (next_passed a rest) w in
        then_ends K (λ v g. IsGiven K v (slice_get D.vars p.0) g) (λ v gs. AreGiven K v (p ∷ vs) gs) L w (argument_of C (C.runnable.quiet q i) a w)
        (λ g v. then (args_of C q (suc i) rest v) (λ gs u. gives [] (g ∷ gs) u))
        (ends_weaker K (λ v g. IsGiven K v (slice_get D.vars p.0) g) (Leaves C X (passed_value a) w) L w (argument_of C (C.runnable.quiet q i) a w)
        (in_argument q i a rest w)
        (given_ends C F X calls mentions q i k p y (ap (λ j. slice_get k.procedure.params j) (sym (first_place i)) ∙ sym (stand 0)) a cs.0 ts.0 gs.0 ss.0 w fits
        (passed_right a fs.0 ts.0 ns.0 w fits)))
        (λ o g v one l good.
        then_ends K (λ u hs. AreGiven K u vs hs) (λ v gs. AreGiven K v (p ∷ vs) gs) L v (args_of C q (suc i) rest v) (λ hs u. gives [] (g ∷ hs) u)
        (ends_weaker K (λ u hs. AreGiven K u vs hs) (PassedLeave C X q (suc i) rest v) L v (args_of C q (suc i) rest v) (behind_argument q i a rest w v o g one)
        (passed_end q k vs (suc i) (λ j. stand (suc j) ∙ ap (λ n. slice_get k.procedure.params n) (next_place i j))
        (all_rest (is_flat_parameter C.runnable.program q) p vs params) rest cs.1 fs.1 ts.1 gs.1 ss.1 ns.1 v (fits_later C F w v l fits)))
        (λ o2 hs u two m more. (keeps_self K u, (given_later K v u (slice_get D.vars p.0) g m good, more))))

    passed_right : (a : Argument) → is_formed_argument a ≡ true → is_typed_argument D a ≡ true → Each (IsSuited C.runnable) (nodes_of_argument a)
        → (w : Memory) → Fits C F w → covers_expr uses (passed_value a) ≡ true → Right (passed_value a) w
    passed_right (tree.by_value e) formed typing suited w fits c = right_ends e c formed typing suited w fits
    passed_right (tree.by_reference e) formed typing suited w fits c = right_ends e c formed typing suited w fits

  pub value_ends : (e : Expr) → covers_expr uses e ≡ true → is_formed e ≡ true → is_typed D e ≡ true → CallsAreSuited C.runnable e → (w : Memory) → Fits C F w
      → Ends K (IsTyped (type_at e)) (Leaves C X e w) w (value_of C e w)
  value_ends e covers formed typing suited w fits = (right_ends e covers formed typing suited w fits).0

  -- where an element is
  pub address_ends : (e : Expr) → covers_expr uses e ≡ true → is_formed e ≡ true → is_typed D e ≡ true → CallsAreSuited C.runnable e → (w : Memory) → Fits C F w
      → HasAddress C F X e w
  address_ends e covers formed typing suited w fits = (right_ends e covers formed typing suited w fits).1

  -- the arguments of a call
  pub call_args_end : (ty : Ty) (q : ProcId) (args : Passed) (callee : Callee C q.0 ty args) → covers_passed uses args ≡ true → passed_are_formed args ≡ true
      → are_typed_passed D args ≡ true → suits_passed D q.0 0 args ≡ true → Each (IsSuited C.runnable) (nodes_of_passed args) → (w : Memory) → Fits C F w
      → Ends K (λ v gs. AreGiven K v callee.parts.head.procedure.params gs) (PassedLeave C X q.0 0 args w) w (args_of C q.0 0 args w)
  call_args_end ty q args callee covers formed typing suit suited w fits =
      let x : Procedure = callee.parts.head.procedure in
      passed_end q.0 (called_of C q.0 ty args callee) x.params 0 (λ j. ap (λ n. slice_get x.params n) (no_place j)) callee.parts.params args covers formed
      typing callee.fits suit suited w fits
