-- Covered expressions do the same as what is written for them.
use Rattle.run_matches.specs.Keeping.{given_types, given_by}
use Rattle.expression_laws.proofs.Giving.{giving}
use Rattle.std.proofs.Common.{◌≡◌, inr, ◌∙◌, refl, sym, ap, subst, ℕ, suc, ◌+◌, ◌≤◌, length, true, false, true≢false, ◌&&◌, ◌||◌, List, [], ◌∷◌, inl, ◌++◌}
use Rattle.std.specs.Prelude.{cond, is_some, not, slice_get}
use Rattle.vb_tree.specs.BoundTree as types
use Rattle.vb_tree.specs.BoundTree.{Ty}
use Rattle.vb6_meaning.specs.Values.{operate}
use Rattle.bound_tree.specs.Tree.{Expr, typed, constant, variable, field, element, call, library, unary, binary, convert, new_object, me, with_object, err_number, err_raise, err_clear, is_same, loose, Exprs, no_exprs, next_expr, by_value, by_reference, Passed, no_passed, next_passed}
use Rattle.bound_facts.specs.Effects.{params_at}
use Rattle.bound_facts.specs.Locks.{is_same_type}
use Rattle.bound_facts.specs.Node.{type_at}
use Rattle.bound_facts.specs.Nodes.{nodes_of_passed}
use Rattle.up_base.proofs.Tests.{by_test}
use Rattle.net_tree.specs.declared.declaration.NetPassing.{NetPassing}
use Rattle.net_tree.specs.declared.declaration.NetPassing.TheVariants as passing
use Rattle.net_meaning.specs.declared.value.ValueN.TheVariants as net_scalar
use Rattle.net_meaning.specs.WrittenRows.{write_operator, write_unary, write_conversion}
use Rattle.run_base.specs.Outcomes.{Outcome, then, answered}
use Rattle.vb6_run.specs.Expressions as source
use Rattle.vb6_run.specs.Expressions.{Context}
use Rattle.vb6_run.specs.Forms.{SourceLine}
use Rattle.vb6_run.specs.Store.{SourceCalls, SourceFrame}
use Rattle.net_run.specs.Expressions as target
use Rattle.net_run.specs.Lines.{NetFrame, NetLine, scope_of}
use Rattle.net_run.specs.Making.{Jobs}
use Rattle.net_run.specs.Members.{Code}
use Rattle.net_run.specs.Names as net_names
use Rattle.net_run.specs.Store as net
use Rattle.net_run.specs.Values as net_value
use Rattle.written_trees.specs.Arguments.{argument_exp, has_address, is_conversion, is_copied, is_property, kept, takes_reference}
use Rattle.written_trees.specs.Exprs.{exp_of, index_at, indexes_of, is_bare, passed_of}
use Rattle.written_trees.specs.Library.{low_at}
use Rattle.written_trees.specs.Names.{Scope}
use Rattle.run_matches.specs.Addresses.{TakesAddresses}
use Rattle.run_matches.specs.Agreeing.{Agrees}
use Rattle.run_matches.specs.CoveredVariables.{covers_type, takes_value_at}
use Rattle.run_matches.specs.CoveredExprs.{Uses, covers_array, covers_bounded, covers_exprs, covers_library, is_bound, covers_operand, covers_operator, covers_expr, covers_group, covers_passed, covers_place, covers_receiver, is_giving, is_passable, is_variable}
use Rattle.run_matches.specs.Covered.{is_referred, suits_array, suits_group, takes_address, suits_passed, hands_argument, hands_passed, is_group_field, is_item, is_type_at}
use Rattle.run_matches.specs.IndexArguments.{goes_as_index, hands_index, is_seen_quiet}
use Rattle.run_matches.specs.UserTypes.{is_group_type}
use Rattle.run_matches.specs.Likeness.{are_same}
use Rattle.run_matches.specs.Maps.{World}
use Rattle.run_matches.specs.Match.{MemoryMatch}
use Rattle.run_matches.specs.Pledges.{Pledge, Later, is_inward, still}
use Rattle.run_matches.specs.Upgrades.{Upgrade, runnable_of}
use Rattle.run_matches.specs.Runs.{CallsAgree}
use Rattle.run_statements.specs.Fitting.{FitsPassed}
use Rattle.run_statements.specs.Frames.{AllCalled, AllCalledAll, AllCalledFor, Demands, demands, ScalarMatch, PlainMatch, IsOpen, context_of, AreReadable, passing_at, passing_by, IsOne, type_shape}
use Rattle.run_statements.specs.Groups.{ValueMatch}
use Rattle.run_statements.specs.Objects.{ClassesAreWritten}
use Rattle.run_statements.specs.Ways.{passings_by}
use Rattle.run_statements.specs.Written.{Passes}
use Rattle.row_laws.proofs.Stated as rows
use Rattle.run_matches.specs.Formed.{are_formed, are_longs, has_elements, types_of, is_row_of_one, is_row_of_two, passed_are_formed, is_formed}
use Rattle.agreeing_laws.proofs.Agreeing.{agrees_gives}
use Rattle.agreeing_laws.proofs.Still.{still_more}
use Rattle.agreeing_laws.proofs.StillCalls.{passed_in_still}
use Rattle.run_statements.specs.Arguments.{ArgumentsMatch, no_arguments}
use Rattle.expression_laws.specs.Calls.{Stands}
use Rattle.expression_laws.proofs.Types.{both_true, covered_type, covered_typed}
use Rattle.expression_laws.proofs.Checks.{TermMatch, term_agrees, plain_agrees}
use Rattle.expression_laws.proofs.Conversions.{formed_constant, constant_agrees, conversion_agrees}
use Rattle.expression_laws.proofs.Arguments.{stands_later, stands_still}
use Rattle.expression_laws.proofs.Calls.{no_copy}
use Rattle.expression_laws.proofs.CallValues.{call_gives, call_value}
use Rattle.expression_laws.proofs.GroupArguments.{group_goes, grouped}
use Rattle.expression_laws.proofs.FieldReferences.{field_passed}
use Rattle.expression_laws.proofs.Is.{is_agrees}
use Rattle.expression_laws.proofs.MemberValues.{field_agrees, group_field_agrees, group_variable_agrees, me_agrees}
use Rattle.expression_laws.proofs.NewValues.{new_agrees}
use Rattle.expression_laws.proofs.Nothings.{nothing_agrees, nothing_converted, operand_agrees, operand_reference}
use Rattle.expression_laws.specs.Statements.{ParametersAreSound}
use Rattle.expression_laws.proofs.Handed.{scalar_lasts, taken_agrees}
use Rattle.expression_laws.proofs.Handled.{Handles}
use Rattle.expression_laws.proofs.Library.{by_either, library_agrees}
use Rattle.expression_laws.proofs.IndexRows.{index_is_row}
use Rattle.expression_laws.proofs.Elements.{IndexesLike, index_agrees, next_agrees}
use Rattle.expression_laws.proofs.ElementValues.{element_agrees, element_value}
use Rattle.expression_laws.proofs.ErrNumbers.{err_number_agrees}
use Rattle.expression_laws.proofs.IndexReferences.{nothing_changes, variable_as_index}
use Rattle.expression_laws.proofs.References.{IsPassed, conversion_passed, or_true, further, here, passed_by, reference_agrees, scalar_passed, suited, handed_value}
use Rattle.expression_laws.proofs.Temporaries.{conversion_as_value, conversion_given, conversion_goes, value_goes}
use Rattle.expression_laws.proofs.Variables.{variable_agrees}
use Rattle.expression_laws.proofs.Seen.{IsSeen}
use Rattle.expression_laws.proofs.Withs.{HavePlaces, places_later, places_promised}
use Rattle.expression_laws.proofs.WrittenValues.{exp_handles, group_handles}
use Rattle.expression_laws.proofs.RowsAgree.{any_same}
use Rattle.expression_laws.proofs.Operators.{binary_agrees, formed_held, same_operator, same_unary, typed_binary, typed_unary, unary_agrees}
use Rattle.expression_laws.proofs.ArrayUses.{AllLead, AllLong, all_long, bounded_by, from_none, in_two, in_two_more, indexed_by}
use Rattle.expression_laws.proofs.ItemArguments.{ItemAgrees, item_passed}
use Rattle.expression_laws.proofs.Callees.{called_as_written}
use Rattle.expression_laws.proofs.CallsGiven.{from_first}
use Rattle.expression_laws.proofs.PlacedCalls.{call_placed}

one_left : (xs ys : List Ty) (t : Ty) → IsOne xs t → IsOne (xs ++ ys) t
one_left [] ys t o = absurd o
one_left (x ∷ xs) ys t (inl e) = inl e
one_left (x ∷ xs) ys t (inr o) = inr (one_left xs ys t o)

one_right : (xs ys : List Ty) (t : Ty) → IsOne ys t → IsOne (xs ++ ys) t
one_right [] ys t o = o
one_right (x ∷ xs) ys t o = inr (one_right xs ys t o)

module _ (U : Upgrade) (p : ℕ) (f : SourceFrame) (g : NetFrame) (oracle : SourceCalls) (net_oracle : Jobs)
    (l : SourceLine) (k : NetLine) (c : Code) (T : Scope) (uses : Uses) (same_declarations : T.declarations ≡ U.program.declarations)
    (opened : IsOpen (scope_of U.written c g k)) (readable : AreReadable U T uses) (leads : AllLead (scope_of U.written c g k) T uses)
    (agree : CallsAgree U (Passes U) oracle net_oracle) (sound : ParametersAreSound U) (classes : ClassesAreWritten U) where
  abbrev C : Context
  C = context_of U oracle p f l

  abbrev S : net_names.Scope
  S = scope_of U.written c g k

  abbrev written : Expr → World → Outcome net.Memory net_value.Value
  written e w = target.value_of S net_oracle (exp_of T e) w.net

  abbrev Have : Pledge → World → Type 0
  Have K w = HavePlaces U p f g oracle net_oracle l k c T uses K w

  abbrev Asked : Pledge → Demands
  Asked K = demands U K p l k (scope_of U.written c g k) T

  -- what is written for a value without an address
  abbrev Written : World → Expr → Type 0
  Written w e = has_address T.declarations (kept e) ≡ false → Handles S (IsSeen C S net_oracle w e) (exp_of T e)

  -- a parameter that is seen to be quiet is so
  abbrev QuietAt : ℕ → Type 0
  QuietAt q = (i : ℕ) → is_seen_quiet U.program q i ≡ true → ((runnable_of U).quiet q i ≡ true) × (is_inward U q ≡ true)

  handles : (K : Pledge) (e : Expr) (w : World) → MemoryMatch U w → Have K w → Stands U K w p f g → AllCalled (Asked K) e → covers_expr uses e ≡ true
      → is_formed e ≡ true → Written w e
  handles K e w start have stands can covers formed none =
      exp_handles U K p f g oracle net_oracle l k c T uses same_declarations opened readable w start have agree classes stands e can covers formed
      (ap (λ E. has_address E (kept e)) (sym same_declarations) ∙ none)

  handles_group : (K : Pledge) (e : Expr) (w : World) → MemoryMatch U w → Have K w → Stands U K w p f g → AllCalled (Asked K) e
      → covers_group uses e ≡ true → Written w e
  handles_group K e w start have stands can covers none =
      group_handles U K p f g oracle net_oracle l k c T uses same_declarations opened readable w start have agree classes stands e can covers
      (ap (λ E. has_address E (kept e)) (sym same_declarations) ∙ none)

  mutual
    pub expression_agrees : (K : Pledge) (e : Expr) (w : World) → MemoryMatch U w → Have K w → Stands U K w p f g → AllCalled (Asked K) e
        → covers_expr uses e ≡ true → is_formed e ≡ true → Agrees U K w (ScalarMatch U (type_at e)) (source.value_of C e w.src) (written e w)
    expression_agrees K (typed ty (constant x origin)) w start have stands can covers formed =
        let both = both_true (covers_type ty) true covers in
        term_agrees U K C ty ty (constant x origin) w (written (typed ty (constant x origin)) w) refl both.0 start
        (constant_agrees U K S net_oracle opened w ty x origin (formed_constant ty x origin both.0 formed) start)
    expression_agrees K (typed ty (variable v qualified)) w start have stands can covers formed =
        let both = both_true (covers_type ty) (uses.scalar v && uses.named v qualified) covers in
        let used = both_true (uses.scalar v) (uses.named v qualified) both.1 in
        variable_agrees U K p f g oracle net_oracle l k c T uses ty v qualified w same_declarations readable have.variables used.0 used.1 both.0 start
    expression_agrees K (typed ty (unary o e)) w start have stands can covers formed =
        let both = both_true (covers_type ty) (covers_expr uses e) covers in
        let forms = both_true (is_row_of_one ty (write_unary o (type_at e))) (is_formed e) formed in
        let type_is : covers_type (type_at e) ≡ true = covered_type uses e both.1 in
        term_agrees U K C ty ty (unary o e) w (written (typed ty (unary o e)) w) refl both.0 start
        (subst (λ q. Agrees U K w (TermMatch U ty) (then (source.scalar_value C e w.src) (λ z v. source.answer_as ty (operate q z z) v)) (written (typed ty (unary o e)) w))
        (sym (typed_unary (type_at e) o type_is))
        (unary_agrees U K S net_oracle o ty e (exp_of T e) (write_unary o (type_at e)) (source.scalar_value C e w.src) w both.0 forms.0
        (rows.unary_is_row o S net_oracle opened.support e (exp_of T e) net_scalar.Nothing (covered_typed (type_at e) type_is))
        (λ v z y m. same_unary (are_same v) o (type_at e) z z y net_scalar.Nothing (covered_typed (type_at e) type_is) m) start
        (plain_agrees U K C e (type_at e) w (written e w) start (expression_agrees K e w start have stands can both.1 forms.1))))
    expression_agrees K (typed ty (binary o d e)) w start have stands can covers formed =
        let both = both_true (covers_type ty) (covers_operator o && (covers_expr uses d && covers_expr uses e)) covers in
        let operator = both_true (covers_operator o) (covers_expr uses d && covers_expr uses e) both.1 in
        let operands = both_true (covers_expr uses d) (covers_expr uses e) operator.1 in
        let forms = both_true (is_row_of_two o ty (write_operator o (type_at d) (type_at e))) (is_formed d && is_formed e) formed in
        let inner = both_true (is_formed d) (is_formed e) forms.1 in
        let first_is : covers_type (type_at d) ≡ true = covered_type uses d operands.0 in
        let second_is : covers_type (type_at e) ≡ true = covered_type uses e operands.1 in
        term_agrees U K C ty ty (binary o d e) w (written (typed ty (binary o d e)) w) refl both.0 start
        (subst (λ q. Agrees U K w (TermMatch U ty)
        (then (source.scalar_value C d w.src) (λ z v. then (answered (source.left_operand q z) v) (λ z v.
        then (source.scalar_value C e v) (λ z' u. source.answer_as ty (operate (source.then_row q) z z') u))))
        (written (typed ty (binary o d e)) w)) (sym (typed_binary (type_at d) (type_at e) o first_is second_is))
        (binary_agrees U K S net_oracle o ty d e (exp_of T d) (exp_of T e) (write_operator o (type_at d) (type_at e)) (source.scalar_value C d w.src)
        (source.scalar_value C e) w both.0 forms.0
        (rows.operator_is_row o S net_oracle opened.support any_same d e (exp_of T d) (exp_of T e) (covered_typed (type_at d) first_is)
        (covered_typed (type_at e) second_is))
        (rows.literal_fits d S net_oracle T (formed_held d first_is inner.0)) (rows.literal_fits e S net_oracle T (formed_held e second_is inner.1))
        (λ v z z' y y' m m'.
        same_operator (are_same v) o operator.0 (type_at d) (type_at e) z z' y y' (covered_typed (type_at d) first_is) (covered_typed (type_at e) second_is) m m')
        start (plain_agrees U K C d (type_at d) w (written d w) start (expression_agrees K d w start have stands can.0 operands.0 inner.0))
        (λ v later.
        plain_agrees U K C e (type_at e) v (written e v) later.match
        (expression_agrees K e v later.match (places_later U p f g oracle net_oracle l k c T uses K w v start later have) (stands_later U K w v p f g later stands) can.1 operands.1 inner.1))))
    expression_agrees K (typed ty (convert to (typed from t))) w start have stands can covers formed =
        let both = both_true (covers_type ty) (covers_type to && covers_expr uses (typed from t)) covers in
        let operand = both_true (covers_type to) (covers_expr uses (typed from t)) both.1 in
        let forms = both_true (is_some (write_conversion from to)) (is_formed (typed from t)) formed in
        term_agrees U K C ty to (convert to (typed from t)) w (written (typed ty (convert to (typed from t))) w) refl both.0 start
        (conversion_agrees U K S net_oracle opened C from to t (exp_of T (typed from t)) w (covered_type uses (typed from t) operand.1) forms.1 forms.0 start
        (plain_agrees U K C (typed from t) from w (written (typed from t) w) start (expression_agrees K (typed from t) w start have stands can operand.1 forms.1)))
    expression_agrees K (typed ty (field e i)) w start have stands can covers formed =
        field_agrees U K p f g oracle net_oracle l k c T uses same_declarations readable w have start opened agree classes stands ty e i can covers
    expression_agrees K (typed ty (element e indexes)) w start have stands can covers formed =
        let both = both_true (covers_type ty) (covers_array uses e && covers_exprs uses indexes) covers in
        let inner = both_true (covers_array uses e) (covers_exprs uses indexes) both.1 in
        let forms = both_true (has_elements (type_at e) ty) (are_longs (types_of indexes) && are_formed indexes) formed in
        let rest = both_true (are_longs (types_of indexes)) (are_formed indexes) forms.1 in
        let longs = all_long (types_of indexes) rest.0 in
        element_value U K C ty both.0 e indexes S net_oracle w (target.reach S net_oracle false (exp_of T (typed ty (element e indexes))) w.net) start
        (element_agrees U K C e ty indexes w (target.reach S net_oracle false (exp_of T (typed ty (element e indexes))) w.net) start
        (indexed_by U p f g oracle net_oracle l k c T uses same_declarations opened readable leads K ty e indexes w start have.variables inner.0 forms.0 can.0
        (indexes_agree K e 0 indexes w (from_none (types_of indexes) longs.1) longs.0 start have stands can.1 inner.1 rest.1)))
    expression_agrees K (typed ty (call q qualified of args)) w start have stands can covers formed =
        let both = both_true (covers_type ty) (uses.gives q.0 && (covers_receiver uses of && covers_passed uses args)) covers in
        let called = both_true (uses.gives q.0) (covers_receiver uses of && covers_passed uses args) both.1 in
        let parts = both_true (covers_receiver uses of) (covers_passed uses args) called.1 in
        let giving_one : is_giving (slice_get U.program.declarations.procs q.0) ≡ true = readable.gives q.0 called.0 in
        call_value U K p f g oracle net_oracle l k c T agree ty q qualified of args can.0.number w start both.0
        (call_placed U p f g oracle net_oracle l k c T agree uses same_declarations readable opened classes K ty q qualified of args w start have stands can
        (is_bare T q.0 qualified of args) (called_as_written U S T q.0 qualified of args same_declarations can.0.way can.0.is_way giving_one) parts.0
        (λ v start_there there now asked.
        passed_agree (giving K (given_types args)) q.0 0 can.0.passes args (passings_by U.written can.0.way can.0.number) v
        (from_first U p f g oracle net_oracle l k c T agree K can.0) can.0.suits can.0.hands can.0.quiet start_there there now asked parts.1 formed can.0.ranks (λ t o. inr o)))
    expression_agrees K (typed ty (library function no_exprs)) w start have stands can covers formed =
        let args : Exprs = no_exprs in
        let both = both_true (covers_type ty) ((covers_library function && covers_exprs uses args) || (is_bound function && covers_bounded uses args)) covers in
        by_either (covers_library function && covers_exprs uses args) (is_bound function && covers_bounded uses args) both.1
        (λ values. library_agrees U K S net_oracle opened C T uses ty function args w start both.0 values formed tt)
        (λ bounds. bounded_by U p f g oracle net_oracle l k c T uses same_declarations opened readable K ty function args w start have.variables bounds formed)
    expression_agrees K (typed ty (library function (next_expr d no_exprs))) w start have stands can covers formed =
        let args : Exprs = (next_expr d no_exprs) in
        let both = both_true (covers_type ty) ((covers_library function && covers_exprs uses args) || (is_bound function && covers_bounded uses args)) covers in
        by_either (covers_library function && covers_exprs uses args) (is_bound function && covers_bounded uses args) both.1
        (λ values. library_agrees U K S net_oracle opened C T uses ty function args w start both.0 values formed ((λ v later h i. expression_agrees K d v later.match (places_later U p f g oracle net_oracle l k c T uses K w v start later have) (stands_later U K w v p f g later stands) can.1.0 h i), tt))
        (λ bounds. bounded_by U p f g oracle net_oracle l k c T uses same_declarations opened readable K ty function args w start have.variables bounds formed)
    expression_agrees K (typed ty (library function (next_expr d (next_expr e no_exprs)))) w start have stands can covers formed =
        let args : Exprs = (next_expr d (next_expr e no_exprs)) in
        let both = both_true (covers_type ty) ((covers_library function && covers_exprs uses args) || (is_bound function && covers_bounded uses args)) covers in
        by_either (covers_library function && covers_exprs uses args) (is_bound function && covers_bounded uses args) both.1
        (λ values. library_agrees U K S net_oracle opened C T uses ty function args w start both.0 values formed (
          (λ v later h i. expression_agrees K d v later.match (places_later U p f g oracle net_oracle l k c T uses K w v start later have) (stands_later U K w v p f g later stands) can.1.0 h i),
          ((λ v later h i. expression_agrees K e v later.match (places_later U p f g oracle net_oracle l k c T uses K w v start later have) (stands_later U K w v p f g later stands) can.1.1.0 h i), tt),
        ))
        (λ bounds. bounded_by U p f g oracle net_oracle l k c T uses same_declarations opened readable K ty function args w start have.variables bounds formed)
    expression_agrees K (typed ty (library function (next_expr d (next_expr e (next_expr x rest))))) w start have stands can covers formed =
        let args : Exprs = (next_expr d (next_expr e (next_expr x rest))) in
        let both = both_true (covers_type ty) ((covers_library function && covers_exprs uses args) || (is_bound function && covers_bounded uses args)) covers in
        by_either (covers_library function && covers_exprs uses args) (is_bound function && covers_bounded uses args) both.1
        (λ values. library_agrees U K S net_oracle opened C T uses ty function args w start both.0 values formed (
          (λ v later h i. expression_agrees K d v later.match (places_later U p f g oracle net_oracle l k c T uses K w v start later have) (stands_later U K w v p f g later stands) can.1.0 h i),
          (
            (λ v later h i. expression_agrees K e v later.match (places_later U p f g oracle net_oracle l k c T uses K w v start later have) (stands_later U K w v p f g later stands) can.1.1.0 h i),
            ((λ v later h i. expression_agrees K x v later.match (places_later U p f g oracle net_oracle l k c T uses K w v start later have) (stands_later U K w v p f g later stands) can.1.1.1.0 h i), tt),
          ),
        ))
        (λ bounds. bounded_by U p f g oracle net_oracle l k c T uses same_declarations opened readable K ty function args w start have.variables bounds formed)
    expression_agrees K (typed ty (new_object class)) w start have stands can covers formed = absurd (cc (both_true (covers_type ty) false covers).1)
    expression_agrees K (typed ty me) w start have stands can covers formed = absurd (cc (both_true (covers_type ty) false covers).1)
    expression_agrees K (typed ty (with_object root)) w start have stands can covers formed = absurd (cc formed)
    expression_agrees K (typed ty err_number) w start have stands can covers formed = err_number_agrees U K C S net_oracle opened.support T w start ty formed
    expression_agrees K (typed ty (err_raise e)) w start have stands can covers formed = absurd (cc (both_true (covers_type ty) false covers).1)
    expression_agrees K (typed ty err_clear) w start have stands can covers formed = absurd (cc (both_true (covers_type ty) false covers).1)
    expression_agrees K (typed ty (is_same d e)) w start have stands can covers formed =
        let both = both_true (covers_type ty) (covers_operand uses d && covers_operand uses e) covers in
        let operands = both_true (covers_operand uses d) (covers_operand uses e) both.1 in
        let forms = both_true (is_same_type types.boolean ty) (is_formed d && is_formed e) formed in
        let inner = both_true (is_formed d) (is_formed e) forms.1 in
        is_agrees U K C S net_oracle ty d e (exp_of T d) (exp_of T e) w forms.0 (operand_reference uses d operands.0) (operand_reference uses e operands.1) start
        (operand_agrees U K C S net_oracle T w start uses d operands.0 (λ h. group_agrees K d w start have stands can.0 h inner.0))
        (λ v later.
        operand_agrees U K C S net_oracle T v later.match uses e operands.1 (λ h.
        group_agrees K e v later.match (places_later U p f g oracle net_oracle l k c T uses K w v start later have) (stands_later U K w v p f g later stands) can.1 h inner.1))
    expression_agrees K (typed ty (loose e rules)) w start have stands can covers formed = absurd (cc formed)

    -- a user type or an object as a value
    pub group_agrees : (K : Pledge) (e : Expr) (w : World) → MemoryMatch U w → Have K w → Stands U K w p f g → AllCalled (Asked K) e
        → covers_group uses e ≡ true → is_formed e ≡ true
        → Agrees U K w (ValueMatch U (type_shape U (type_at e))) (source.value_of C e w.src) (written e w)
    group_agrees K (typed ty (variable v qualified)) w start have stands can covers formed =
        group_variable_agrees U K p f g oracle net_oracle l k c T uses same_declarations readable w have start opened agree classes stands ty v qualified can
        covers
    group_agrees K (typed ty (field d j)) w start have stands can covers formed =
        group_field_agrees U K p f g oracle net_oracle l k c T uses same_declarations readable w have start opened agree classes stands ty d j can covers
    group_agrees K (typed ty (new_object class)) w start have stands can covers formed =
        new_agrees U K p f g oracle net_oracle l k c T agree w start stands uses readable classes ty class can covers
    group_agrees K (typed ty me) w start have stands can covers formed =
        me_agrees U K p f g oracle net_oracle l k c T uses same_declarations readable w have start opened agree classes stands ty covers
    group_agrees K (typed ty (call q qualified of args)) w start have stands can covers formed =
        let both = both_true (uses.given ty) (uses.gives q.0 && (covers_receiver uses of && covers_passed uses args)) covers in
        let called = both_true (uses.gives q.0) (covers_receiver uses of && covers_passed uses args) both.1 in
        let parts = both_true (covers_receiver uses of) (covers_passed uses args) called.1 in
        let giving_one : is_giving (slice_get U.program.declarations.procs q.0) ≡ true = readable.gives q.0 called.0 in
        call_gives U K p f g oracle net_oracle l k c T agree ty q qualified of args can.0.number w start
        (grouped U T uses readable (typed ty (call q qualified of args)) covers)
        (call_placed U p f g oracle net_oracle l k c T agree uses same_declarations readable opened classes K ty q qualified of args w start have stands can
        (is_bare T q.0 qualified of args) (called_as_written U S T q.0 qualified of args same_declarations can.0.way can.0.is_way giving_one) parts.0
        (λ v start_there there now asked.
        passed_agree (giving K (given_types args)) q.0 0 can.0.passes args (passings_by U.written can.0.way can.0.number) v
        (from_first U p f g oracle net_oracle l k c T agree K can.0) can.0.suits can.0.hands can.0.quiet start_there there now asked parts.1 formed can.0.ranks (λ t o. inr o)))
    group_agrees K (typed ty (convert to e)) w start have stands can covers formed =
        nothing_agrees U K C S net_oracle T w start ty to e (nothing_converted (uses.given ty) ty to e covers)
    group_agrees K (typed ty _) w start have stands can covers formed = absurd (true≢false (sym covers))

    -- an element, as a place
    item_agrees : (K : Pledge) (e : Expr) (w : World) → MemoryMatch U w → Have K w → Stands U K w p f g → AllCalled (Asked K) e
        → covers_expr uses e ≡ true → is_formed e ≡ true → ItemAgrees U C S net_oracle T K w e
    item_agrees K (typed ty (element e indexes)) w start have stands can covers formed =
        let both = both_true (covers_type ty) (covers_array uses e && covers_exprs uses indexes) covers in
        let inner = both_true (covers_array uses e) (covers_exprs uses indexes) both.1 in
        let forms = both_true (has_elements (type_at e) ty) (are_longs (types_of indexes) && are_formed indexes) formed in
        let rest = both_true (are_longs (types_of indexes)) (are_formed indexes) forms.1 in
        let longs = all_long (types_of indexes) rest.0 in
        element_agrees U K C e ty indexes w (target.reach S net_oracle false (exp_of T (typed ty (element e indexes))) w.net) start
        (indexed_by U p f g oracle net_oracle l k c T uses same_declarations opened readable leads K ty e indexes w start have.variables inner.0 forms.0 can.0
        (indexes_agree K e 0 indexes w (from_none (types_of indexes) longs.1) longs.0 start have stands can.1 inner.1 rest.1))
    item_agrees K (typed ty _) w start have stands can covers formed = tt

    -- indexes from a dimension on
    pub indexes_agree : (K : Pledge) (a : Expr) (d : ℕ) (indexes : Exprs) (w : World) → d + length (types_of indexes) ≤ 2 → AllLong (types_of indexes) → MemoryMatch U w
        → Have K w → Stands U K w p f g → AllCalledAll (Asked K) indexes → covers_exprs uses indexes ≡ true → are_formed indexes ≡ true
        → Agrees U K w (λ u zs ys. IndexesLike (λ j. low_at T a j) d (length (types_of indexes)) zs ys) (source.indexes_of C indexes w.src)
        (target.values_of S net_oracle (indexes_of T a d indexes) w.net)
    indexes_agree K a d no_exprs w few longs start have stands can covers formed =
        agrees_gives U K w (λ u zs ys. IndexesLike (λ j. low_at T a j) d 0 zs ys) [] [] start (tt, refl)
    indexes_agree K a d (next_expr e rest) w few longs start have stands can covers formed =
        let both = both_true (covers_expr uses e) (covers_exprs uses rest) covers in
        let forms = both_true (is_formed e) (are_formed rest) formed in
        next_agrees U K C S net_oracle (λ j. low_at T a j) d (length (types_of rest)) e rest (index_at T a d (exp_of T e)) (indexes_of T a (suc d) rest) w start
        (index_agrees U K C S net_oracle e (low_at T a d) (index_at T a d (exp_of T e)) (exp_of T e) w
        (index_is_row S net_oracle opened.support T a d (exp_of T e) (in_two d (type_at e) (types_of rest) few)) start
        (subst (λ t. Agrees U K w (PlainMatch U t) (source.scalar_value C e w.src) (written e w)) longs.0
        (plain_agrees U K C e (type_at e) w (written e w) start (expression_agrees K e w start have stands can.0 both.0 forms.0))))
        (λ v later.
        indexes_agree K a (suc d) rest v (in_two_more d (type_at e) (types_of rest) few) longs.1 later.match (places_later U p f g oracle net_oracle l k c T uses K w v start later have)
        (stands_later U K w v p f g later stands) can.1 both.1 forms.1)

    -- arguments from a place on, as they are taken
    pub passed_agree : (K : Pledge) (q i : ℕ) (passes : Passes U q) (args : Passed) (modes : List NetPassing) (w : World)
        → ((n : ℕ) → passing_at modes n ≡ passing_by (takes_address U.program.declarations q (i + n))) → suits_passed U.program.declarations q i args ≡ true
        → hands_passed U.program q i args ≡ true → QuietAt q → MemoryMatch U w → Have K w → Stands U K w p f g → AllCalledFor (Asked K) args → covers_passed uses args ≡ true
        → passed_are_formed args ≡ true → FitsPassed U q i args → ((t : Ty) → IsOne (given_types args) t → K.keeps t)
        → Agrees U K w (ArgumentsMatch U K q i) (source.args_of C q i args w.src) (target.args_of S net_oracle modes (passed_of T q i args) w.net)
    passed_agree K q i passes no_passed modes w takes suits hands quiet start have stands can covers formed fits kept = agrees_gives U K w (ArgumentsMatch U K q i) [] [] start (no_arguments i w)
    passed_agree K q i passes (next_passed (by_reference e) rest) modes w takes suits hands quiet start have stands can covers formed fits kept =
        let D = U.program.declarations in
        let both = both_true ((is_passable uses e && covers_expr uses e) || (covers_array uses e || covers_place uses e)) (covers_passed uses rest) covers in
        let passed : IsPassed uses e = passed_by uses e both.0 in
        let fit = both_true (takes_reference D q i && (is_referred e && (suits_array D q i e && suits_group D q i e))) (suits_passed D q (suc i) rest) suits in
        let index = hands_index U.program q i (by_reference e) rest in
        let hand_first = both_true (hands_argument U.program q i (by_reference e)) (index && hands_passed U.program q (suc i) rest) hands in
        let hand_rest = both_true index (hands_passed U.program q (suc i) rest) hand_first.1 in
        let one = both_true (takes_reference D q i) (is_referred e && (suits_array D q i e && suits_group D q i e)) fit.0 in
        let referred = both_true (is_referred e) (suits_array D q i e && suits_group D q i e) one.1 in
        let types = both_true (suits_array D q i e) (suits_group D q i e) referred.1 in
        let forms = both_true (is_formed e) (passed_are_formed rest) formed in
        let next = λ (n : ℕ). takes (suc n) ∙ ap (λ m. passing_by (takes_address D q m)) (further i n) in
        let keep = λ (t : Ty) (o : IsOne (given_types rest) t). kept t (one_right (given_by (by_reference e)) (given_types rest) t o) in
        let as_taken : target.first_passing modes ≡ passing_by (takes_address D q i) = takes 0 ∙ ap (λ n. passing_by (takes_address D q n)) (here i) in
        by_test (is_property D q) (λ b. is_property D q ≡ b
        → Agrees U K w (ArgumentsMatch U K q i) (source.args_of C q i (next_passed (by_reference e) rest) w.src)
        (target.args_of S net_oracle modes (passed_of T q i (next_passed (by_reference e) rest)) w.net))
        (λ part is_part.
        let mode : target.first_passing modes ≡ passing.Value = as_taken ∙ ap (λ b. passing_by (not b && takes_reference D q i)) part in
        let goes : goes_as_index U.program q i (by_reference e) rest ≡ true =
        subst (λ b. cond b (goes_as_index U.program q i (by_reference e) rest) true ≡ true) part hand_rest.0 in
        by_test (is_conversion e) (λ b. is_conversion e ≡ b
        → Agrees U K w (ArgumentsMatch U K q i) (source.args_of C q i (next_passed (by_reference e) rest) w.src)
        (target.args_of S net_oracle modes (passed_of T q i (next_passed (by_reference e) rest)) w.net))
        (λ is_one any.
        let scalar : covers_expr uses e ≡ true = conversion_passed uses e passed is_one in
        let covered : covers_type (type_at e) ≡ true = covered_type uses e scalar in
        taken_agrees U K q i (handed_value U.program q i e is_one hand_first.0) (ScalarMatch U (type_at e)) (scalar_lasts U K q i (type_at e)) w (source.value_of C e w.src) (target.value_of S net_oracle (exp_of T e) w.net)
        (source.argument_of C ((runnable_of U).quiet q i) (by_reference e) w.src)
        (target.given S net_oracle (target.first_passing modes)
        (target.reach S net_oracle false (argument_exp T (takes_reference T.declarations q i) (by_reference e) (exp_of T e)) w.net))
        (source.args_of C q (suc i) rest) (target.args_of S net_oracle (target.rest_passings modes) (passed_of T q (suc i) rest))
        (conversion_given C ((runnable_of U).quiet q i) e w.src covered is_one)
        (conversion_as_value C S net_oracle T e (no_copy T.facts (type_at e) (is_copied e) covered) w (handles K e w start have stands can.0 scalar forms.0)
        (target.first_passing modes) (takes_reference T.declarations q i) covered mode is_one)
        start
        (expression_agrees K e w start have stands can.0 scalar forms.0)
        (λ v later.
        passed_agree K q (suc i) passes rest (target.rest_passings modes) v next fit.1 hand_rest.1 quiet later.match
        (places_later U p f g oracle net_oracle l k c T uses K w v start later have) (stands_later U K w v p f g later stands) can.1 both.1 forms.1 fits.1 keep))
        (λ none converts.
        variable_as_index U K p f g oracle net_oracle l k c T uses same_declarations readable q i part w ((runnable_of U).quiet q i) (target.first_passing modes)
        (takes_reference T.declarations q i) e rest (source.args_of C q (suc i) rest)
        (target.args_of S net_oracle (target.rest_passings modes) (passed_of T q (suc i) rest)) none goes (quiet i) refl mode passed start have.variables
        (λ nothing.
        passed_agree (still K w) q (suc i) passes rest (target.rest_passings modes) w next fit.1 hand_rest.1 quiet start
        (places_promised U p f g oracle net_oracle l k c T uses K (still K w) w start (still_more K w) have) (stands_still U K w start p f g stands)
        (passed_in_still U K p l k w (scope_of U.written c g k) T uses readable rest both.1
        (nothing_changes U T uses readable (nodes_of_passed rest) nothing) can.1)
        both.1 forms.1 fits.1 keep)) refl)
        (λ single apart.
        let addresses : TakesAddresses U q = single in
        let hand : (hands_argument U.program q i (by_reference e) ≡ true) × (hands_passed U.program q (suc i) rest ≡ true) = (hand_first.0, hand_rest.1) in
        let mode : target.first_passing modes ≡ passing.Reference =
        as_taken ∙ ap (λ b. passing_by (not b && takes_reference D q i)) single ∙ ap passing_by one.0 in
        by_test (is_variable e) (λ b. is_variable e ≡ b → (b || (is_conversion e || (is_item e || is_group_field e))) ≡ true
        → Agrees U K w (ArgumentsMatch U K q i) (source.args_of C q i (next_passed (by_reference e) rest) w.src)
        (target.args_of S net_oracle modes (passed_of T q i (next_passed (by_reference e) rest)) w.net))
        (λ yes is h.
        reference_agrees U K p f g oracle net_oracle l k c T uses same_declarations readable q i w ((runnable_of U).quiet q i) (target.first_passing modes)
        (takes_reference T.declarations q i) e (source.args_of C q (suc i) rest) (target.args_of S net_oracle (target.rest_passings modes) (passed_of T q (suc i) rest))
        mode is passed fits.0 types.0 hand.0 addresses start have.variables
        (passed_agree K q (suc i) passes rest (target.rest_passings modes) w next fit.1 hand.1 quiet start have stands can.1 both.1 forms.1 fits.1 keep))
        (λ no is h.
        by_test (is_conversion e) (λ b. is_conversion e ≡ b → (b || (is_item e || is_group_field e)) ≡ true
        → Agrees U K w (ArgumentsMatch U K q i) (source.args_of C q i (next_passed (by_reference e) rest) w.src)
        (target.args_of S net_oracle modes (passed_of T q i (next_passed (by_reference e) rest)) w.net))
        (λ converts is_one any.
        let scalar : covers_expr uses e ≡ true = scalar_passed uses e passed is (ap (λ b. b || is_item e) is_one) in
        let covered : covers_type (type_at e) ≡ true = covered_type uses e scalar in
        taken_agrees U K q i (handed_value U.program q i e is_one hand.0) (ScalarMatch U (type_at e)) (scalar_lasts U K q i (type_at e)) w (source.value_of C e w.src) (target.value_of S net_oracle (exp_of T e) w.net)
        (source.argument_of C ((runnable_of U).quiet q i) (by_reference e) w.src)
        (target.given S net_oracle (target.first_passing modes)
        (target.reach S net_oracle false (argument_exp T (takes_reference T.declarations q i) (by_reference e) (exp_of T e)) w.net))
        (source.args_of C q (suc i) rest) (target.args_of S net_oracle (target.rest_passings modes) (passed_of T q (suc i) rest))
        (conversion_given C ((runnable_of U).quiet q i) e w.src covered is_one)
        (conversion_goes C S net_oracle T e (no_copy T.facts (type_at e) (is_copied e) covered) w (handles K e w start have stands can.0 scalar forms.0)
        (target.first_passing modes) (takes_reference T.declarations q i) covered mode is_one)
        start
        (expression_agrees K e w start have stands can.0 scalar forms.0)
        (λ v later.
        passed_agree K q (suc i) passes rest (target.rest_passings modes) v next fit.1 hand.1 quiet later.match (places_later U p f g oracle net_oracle l k c T uses K w v start later have)
        (stands_later U K w v p f g later stands) can.1 both.1 forms.1 fits.1 keep))
        (λ other is_none left.
        by_test (is_item e) (λ b. is_item e ≡ b → (b || is_group_field e) ≡ true
        → Agrees U K w (ArgumentsMatch U K q i) (source.args_of C q i (next_passed (by_reference e) rest) w.src)
        (target.args_of S net_oracle modes (passed_of T q i (next_passed (by_reference e) rest)) w.net))
        (λ here item any.
        let scalar : covers_expr uses e ≡ true = scalar_passed uses e passed is (ap (λ b. is_conversion e || b) item ∙ or_true (is_conversion e)) in
        item_passed U C S net_oracle T K q i w ((runnable_of U).quiet q i) (target.first_passing modes) (takes_reference T.declarations q i) e
        (source.args_of C q (suc i) rest) (target.args_of S net_oracle (target.rest_passings modes) (passed_of T q (suc i) rest)) mode item (covered_type uses e scalar)
        (λ t o. kept t (one_left (given_by (by_reference e)) (given_types rest) t o)) hand.0 addresses start (item_agrees K e w start have stands can.0 scalar forms.0)
        (λ v later.
        passed_agree K q (suc i) passes rest (target.rest_passings modes) v next fit.1 hand.1 quiet later.match (places_later U p f g oracle net_oracle l k c T uses K w v start later have)
        (stands_later U K w v p f g later stands) can.1 both.1 forms.1 fits.1 keep))
        (λ none no_item is_field.
        field_passed U K p f g oracle net_oracle l k c T uses same_declarations readable q i w start have ((runnable_of U).quiet q i) (target.first_passing modes)
        (takes_reference T.declarations q i) (source.args_of C q (suc i) rest)
        (target.args_of S net_oracle (target.rest_passings modes) (passed_of T q (suc i) rest)) mode addresses
        (passed_agree K q (suc i) passes rest (target.rest_passings modes) w next fit.1 hand.1 quiet start have stands can.1 both.1 forms.1 fits.1 keep)
        e is_field passed can.0) refl left) refl h) refl referred.0) refl
    passed_agree K q i passes (next_passed (by_value e) rest) modes w takes suits hands quiet start have stands can covers formed fits kept =
        let D = U.program.declarations in
        let both = both_true (covers_expr uses e || covers_group uses e) (covers_passed uses rest) covers in
        let forms = both_true (is_formed e) (passed_are_formed rest) formed in
        let fit = both_true (suits_group D q i e) (suits_passed D q (suc i) rest) suits in
        let index = hands_index U.program q i (by_value e) rest in
        let first = both_true (takes_value_at U.program q i) (index && hands_passed U.program q (suc i) rest) hands in
        let hand : (takes_value_at U.program q i ≡ true) × (hands_passed U.program q (suc i) rest ≡ true) =
        (first.0, (both_true index (hands_passed U.program q (suc i) rest) first.1).1) in
        let keep = λ (t : Ty) (o : IsOne (given_types rest) t). kept t (one_right (given_by (by_value e)) (given_types rest) t o) in
        let next = λ (n : ℕ). takes (suc n) ∙ ap (λ m. passing_by (takes_address D q m)) (further i n) in
        let mode : target.first_passing modes ≡ passing_by (takes_address D q i) = takes 0 ∙ ap (λ n. passing_by (takes_address D q n)) (here i) in
        let more = λ (v : World) (later : Later U K w v).
        passed_agree K q (suc i) passes rest (target.rest_passings modes) v next fit.1 hand.1 quiet later.match (places_later U p f g oracle net_oracle l k c T uses K w v start later have)
        (stands_later U K w v p f g later stands) can.1 both.1 forms.1 fits.1 keep in
        by_either (covers_expr uses e) (covers_group uses e) both.0
        (λ scalar.
        taken_agrees U K q i hand.0 (ScalarMatch U (type_at e)) (scalar_lasts U K q i (type_at e)) w (source.value_of C e w.src) (target.value_of S net_oracle (exp_of T e) w.net)
        (source.argument_of C ((runnable_of U).quiet q i) (by_value e) w.src)
        (target.given S net_oracle (target.first_passing modes)
        (target.reach S net_oracle false (argument_exp T (takes_reference T.declarations q i) (by_value e) (exp_of T e)) w.net))
        (source.args_of C q (suc i) rest) (target.args_of S net_oracle (target.rest_passings modes) (passed_of T q (suc i) rest)) refl
        (value_goes C S net_oracle T e (no_copy T.facts (type_at e) (is_copied e) (covered_type uses e scalar)) w
        (handles K e w start have stands can.0 scalar forms.0) (takes_address D q i) (target.first_passing modes) (takes_reference T.declarations q i) mode
        (λ addressed. ap (λ E. takes_reference E q i) same_declarations ∙ (both_true (not (is_property D q)) (takes_reference D q i) addressed).1))
        start (expression_agrees K e w start have stands can.0 scalar forms.0) more)
        (λ of_group.
        let is_group = grouped U T uses readable e of_group in
        group_goes U K p f g oracle net_oracle l k c T uses same_declarations readable w start q i ((runnable_of U).quiet q i) (target.first_passing modes) e
        (source.args_of C q (suc i) rest) (target.args_of S net_oracle (target.rest_passings modes) (passed_of T q (suc i) rest)) mode hand.0
        (sound q i (type_at e) passes is_group
        (suited (is_group_type (type_at e)) (is_type_at D (type_at e) (slice_get (params_at (slice_get D.procs q)) i)) is_group fit.0))
        (handles_group K e w start have stands can.0 of_group)
        (group_agrees K e w start have stands can.0 of_group forms.0) more)
