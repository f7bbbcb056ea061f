-- Which lines are covered, by themselves and in their blocks.
use Rattle.std.specs.Prelude.{ℕ, pos, negsuc, Bool, true, false, not, ◌&&◌, ◌||◌, nat_eq, Option, Some, None, is_some, List, [], ◌∷◌, ◌++◌, length, slice_get}
use Rattle.std.specs.List.{list_all}
use Rattle.vb_tree.specs.BoundTree as types
use Rattle.vb_tree.specs.BoundTree.{Ty}
use Rattle.vb_tree.specs.declared.bound.LibCall.{LibCall}
use Rattle.vb_tree.specs.declared.bound.LibCall.TheVariants as lib
use Rattle.vb_tree.specs.declared.declared.Owner.{Owner}
use Rattle.vb_tree.specs.declared.declared.Owner.TheVariants as owner
use Rattle.vb_tree.specs.declared.expression.BinOp.{BinOp}
use Rattle.vb_tree.specs.declared.expression.BinOp.TheVariants as b
use Rattle.vb_tree.specs.declared.form_parts.Label6.{Label6}
use Rattle.vb_tree.specs.Tree.{CaseItem, Form}
use Rattle.vb_tree.specs.Tree as source
use Rattle.bound_tree.specs.Labels.{Label, label_of}
use Rattle.bound_tree.specs.Labels as mark
use Rattle.bound_tree.specs.Tree.{Variable, Program, Expr, typed, Term, variable, field, element, call, library, err_raise, err_clear, with_object, Object, no_object, of_object, Argument, by_value, by_reference, Passed, no_passed, next_passed}
use Rattle.bound_tree.specs.Tree as tree
use Rattle.bound_tree.specs.declared.expression.Root.{Root}
use Rattle.bound_tree.specs.declared.expression.Root.TheVariants as at
use Rattle.bound_facts.specs.Folded.{folded}
use Rattle.bound_facts.specs.Locks.{is_same_type}
use Rattle.bound_facts.specs.Node.{type_at, root}
use Rattle.bound_facts.specs.Nodes.{nodes, nodes_of_object, nodes_of_passed}
use Rattle.bound_facts.specs.Parts.{Extent, Resize, resizes, line_uses}
use Rattle.run_base.specs.Machines.{nth_line}
use Rattle.vb6_run.specs.Forms.{SourceLine}
use Rattle.vb6_run.specs.Programs.{is_local_of}
use Rattle.run_matches.specs.Formed.{is_formed}
use Rattle.run_matches.specs.CoveredExprs.{Uses, are_still, count_passed, is_calm, is_calm_object, is_literal_value, is_auto_use, is_new, keeps_object, keeps_order, is_changeable, covers_place, covers_expr, is_variable, covers_value, covers_term, covers_receiver, covers_passed, covers_array, uses_in, covers_group, covers_object}
use Rattle.run_matches.specs.CoveredVariables.{covers_group_type, covers_type}
use Rattle.run_matches.specs.UserTypes.{is_class_type, is_user}
use Rattle.bound_tree.specs.Targets.{with_round}

-- ---- lines

abbrev pub is_ordered_in : Uses → Ty → (target : Term) → (value : Expr) → Bool
is_ordered_in uses ty (element a indexes) e = is_same_type ty (type_at e) && keeps_order uses indexes e
is_ordered_in uses ty t e = false

-- an element of the type of the value, before which its indexes may be evaluated
abbrev pub is_ordered : Uses → (target value : Expr) → Bool
is_ordered uses (typed ty t) e = is_ordered_in uses ty t e

abbrev pub is_member_ordered_in : Uses → (target : Term) → (value : Expr) → Bool
is_member_ordered_in uses (field d k) e = is_class_type (type_at d) && keeps_object uses d e
is_member_ordered_in uses t e = false

-- a variable of an object that may be known before the value
abbrev pub is_member_ordered : Uses → (target value : Expr) → Bool
is_member_ordered uses (typed ty t) e = is_member_ordered_in uses t e

-- a user type is assigned as a whole
abbrev pub covers_copy : Uses → (target value : Expr) → Bool
covers_copy uses to e =
    is_user (type_at to) && (is_changeable uses to && (is_same_type (type_at to) (type_at e) && (covers_place uses to && covers_group uses e)))

abbrev pub is_receiver_ordered : Uses → Object → (value : Expr) → Bool
is_receiver_ordered uses no_object e = true
is_receiver_ordered uses (of_object d) e = is_class_type (type_at d) && keeps_object uses d e

abbrev pub is_with_term : Term → Bool
is_with_term (with_object r) = true
is_with_term t = false

abbrev pub is_object : Object → Bool
is_object no_object = true
is_object (of_object d) = is_class_type (type_at d)

-- an object that is the same whatever still expression is evaluated, and that no With keeps, or none
abbrev pub is_calm_receiver : Uses → Object → Bool
is_calm_receiver uses no_object = true
is_calm_receiver uses (of_object (typed ty t)) = is_calm_object uses (typed ty t) && not (is_with_term t)

-- constants, variables and conversions, of which variables alone go by reference
abbrev pub is_calm_argument : Uses → Argument → Bool
is_calm_argument uses (by_value e) = covers_type (type_at e) && is_calm uses e
is_calm_argument uses (by_reference e) = covers_type (type_at e) && (is_variable e && is_calm uses e)

abbrev pub are_calm_passed : Uses → Passed → Bool
are_calm_passed uses no_passed = true
are_calm_passed uses (next_passed a rest) = is_calm_argument uses a && are_calm_passed uses rest

-- The value changes nothing. It is constant, or the object and the indexes are known before it, or it is calm, and they change nothing.
abbrev pub are_parts_ordered : Uses → Object → Passed → (value : Expr) → Bool
are_parts_ordered uses of args e =
    (is_object of && are_still uses (nodes e))
    && (is_literal_value e
    || ((is_calm_receiver uses of && are_calm_passed uses args) || (is_calm uses e && are_still uses (nodes_of_object of ++ nodes_of_passed args))))

-- without indexes the value may do more, where there is no object
abbrev pub is_property_ordered : Uses → Object → Passed → (value : Expr) → Bool
is_property_ordered uses of no_passed e = is_receiver_ordered uses of e
is_property_ordered uses of (next_passed a rest) e = are_parts_ordered uses of (next_passed a rest) e

abbrev pub covers_property_term : Uses → (target : Term) → (value : Expr) → Bool
covers_property_term uses (call p qualified of args) e =
    (uses.takes p.0 (count_passed args) (type_at e) && is_property_ordered uses of args e)
    && (covers_receiver uses of && (covers_passed uses args && (covers_expr uses e || covers_group uses e)))
covers_property_term uses t e = false

-- a property takes a value of its type; its object and its indexes may be known before the value
abbrev pub covers_property : Uses → (target value : Expr) → Bool
covers_property uses (typed ty t) e = is_same_type ty (type_at e) && covers_property_term uses t e

abbrev pub covers_stored : Uses → (target value : Expr) → Bool
covers_stored uses to e =
    ((is_changeable uses to || (is_ordered uses to e || is_member_ordered uses to e)) && (covers_expr uses to && covers_expr uses e)) || covers_copy uses to e

-- an assignment to a variable, a field, an element or a property
abbrev pub covers_store : Uses → List Expr → Bool
covers_store uses (to ∷ e ∷ []) = covers_stored uses to e || covers_property uses to e
covers_store uses es = false

abbrev pub is_auto_target_in : Uses → Ty → Term → Bool
is_auto_target_in uses ty (variable v qualified) = uses.auto v ty && uses.named v qualified
is_auto_target_in uses ty t = false

-- an As New variable, of which no object is made where it is set
abbrev pub is_auto_target : Uses → Expr → Bool
is_auto_target uses (typed ty t) = is_auto_target_in uses ty t

-- a Set of a variable
abbrev pub covers_set_variable : Uses → (target value : Expr) → Bool
covers_set_variable uses to e =
    (is_changeable uses to && (is_same_type (type_at to) (type_at e) && (covers_place uses to && covers_group uses e)))
    || (is_auto_target uses to && (is_same_type (type_at to) (type_at e) && covers_group uses e))

-- a Set of a variable of an object
abbrev pub covers_set_member : Uses → (target value : Expr) → Bool
covers_set_member uses to e =
    is_member_ordered uses to e && (is_same_type (type_at to) (type_at e) && (covers_object uses to && covers_group uses e))

abbrev pub covers_set : Uses → List Expr → Bool
covers_set uses (to ∷ e ∷ []) = (is_class_type (type_at to) && (covers_set_variable uses to e || covers_set_member uses to e)) || covers_property uses to e
covers_set uses es = false

-- a condition, or what a Select Case compares: one expression
abbrev pub covers_condition : Uses → List Expr → Bool
covers_condition uses (e ∷ []) = covers_expr uses e
covers_condition uses es = false

abbrev pub is_comparison : BinOp → Bool
is_comparison b.Equal = true
is_comparison b.NotEqual = true
is_comparison b.Less = true
is_comparison b.Greater = true
is_comparison b.LessEqual = true
is_comparison b.GreaterEqual = true
is_comparison o = false

-- the items of a Case: values, ranges and comparisons
abbrev pub covers_items : Uses → List CaseItem → List Expr → Bool
covers_items uses [] [] = true
covers_items uses (source.case_value y ∷ items) (e ∷ es) = covers_expr uses e && covers_items uses items es
covers_items uses (source.case_range y z ∷ items) (d ∷ e ∷ es) = covers_expr uses d && (covers_expr uses e && covers_items uses items es)
covers_items uses (source.case_is o y ∷ items) (e ∷ es) = is_comparison o && (covers_expr uses e && covers_items uses items es)
covers_items uses items es = false

abbrev pub is_counter : Ty → Bool
is_counter types.integer = true
is_counter types.long = true
is_counter ty = false

-- the counter of a For: a variable of type Integer or Long
abbrev pub covers_counter : Uses → Expr → Bool
covers_counter uses e = is_variable e && (is_counter (type_at e) && covers_expr uses e)

-- a step of the type of the counter, or none
abbrev pub covers_step : Uses → Ty → List Expr → Bool
covers_step uses ty [] = true
covers_step uses ty (s ∷ []) = covers_value uses ty s
covers_step uses ty es = false

-- the expressions of a For: start, limit and step have the type of the counter
abbrev pub covers_counting : Uses → List Expr → Bool
covers_counting uses (e ∷ start ∷ limit ∷ es) =
    covers_counter uses e && (covers_value uses (type_at e) start && (covers_value uses (type_at e) limit && covers_step uses (type_at e) es))
covers_counting uses es = false

-- a word, or a number that isn't negative
abbrev pub covers_label : Label → Bool
covers_label (mark.word name) = true
covers_label (mark.number (pos n)) = true
covers_label (mark.number (negsuc n)) = false

abbrev pub is_box : LibCall → Bool
is_box lib.MsgBox = true
is_box _ = false

-- a call of MsgBox
abbrev pub covers_box : Uses → Term → Bool
covers_box uses (library f args) = is_box f && covers_term uses (library f args)
covers_box uses t = false

-- a call, also of MsgBox, and of Err.Raise or Err.Clear
abbrev pub covers_called_in : Uses → Term → Bool
covers_called_in uses (call p qualified of args) = uses.gives p.0 && (covers_receiver uses of && covers_passed uses args)
covers_called_in uses (library f args) = covers_box uses (library f args)
covers_called_in uses (err_raise e) = covers_expr uses e
covers_called_in uses err_clear = true
covers_called_in uses t = false

abbrev pub covers_called : Uses → Expr → Bool
covers_called uses (typed ty t) = covers_called_in uses t

-- one such call
abbrev pub covers_call : Uses → List Expr → Bool
covers_call uses (e ∷ []) = covers_called uses e
covers_call uses es = false

-- a lower bound that is a constant, or none
abbrev pub covers_low : Uses → Option Expr → Bool
covers_low uses None = true
covers_low uses (Some e) = is_some (folded e) && covers_expr uses e

-- bounds of one dimension: the upper one is a Long
abbrev pub covers_extent : Uses → Extent → Bool
covers_extent uses x = covers_low uses x.0 && covers_value uses types.long x.1

-- an array that is made anew; its elements are kept in one dimension alone
abbrev pub covers_resize : Uses → (preserve : Bool) → Resize → Bool
covers_resize uses preserve r =
    covers_array uses r.array && (list_all (covers_extent uses) r.extents && (not preserve || nat_eq (length r.extents) 1))

abbrev pub covers_resizes : Uses → (preserve : Bool) → List Resize → Bool
covers_resizes uses preserve rs = list_all (covers_resize uses preserve) rs

-- an array that is erased
abbrev pub covers_erased : Uses → List Expr → Bool
covers_erased uses (e ∷ []) = covers_array uses e
covers_erased uses es = false

-- a With on a place of a user type, on an object that is kept, or on a new one
abbrev pub covers_with : Uses → List Expr → Bool
covers_with uses (e ∷ []) =
    (is_user (type_at e) && covers_place uses e)
    || (is_class_type (type_at e) && ((not (is_auto_use uses e) && covers_object uses e) || (is_new e && covers_group uses e)))
covers_with uses es = false

-- assignments to variables, Set, calls, Debug.Print, If, Select Case, For, Do, While, With, labels, GoTo, On Error, Resume, Exit, ReDim and Erase
abbrev pub covers_form : Uses → Form → List Expr → Bool
covers_form uses (source.assign target value) es = covers_store uses es
covers_form uses (source.set target value) es = covers_set uses es
covers_form uses (source.call callee) es = covers_call uses es
covers_form uses (source.invoke callee args) es = covers_call uses es
covers_form uses (source.debug_print items ended) es = list_all (covers_expr uses) es
covers_form uses (source.if_head e) es = covers_condition uses es
covers_form uses (source.line_if e) es = covers_condition uses es
covers_form uses (source.else_if e) es = covers_condition uses es
covers_form uses source.else_line es = true
covers_form uses source.end_if es = true
covers_form uses (source.select e) es = covers_condition uses es
covers_form uses (source.case_line items) es = covers_items uses items es
covers_form uses source.case_else es = true
covers_form uses source.end_select es = true
covers_form uses (source.for_head counter start limit step) es = covers_counting uses es
covers_form uses (source.for_each name suffix e) es = false
covers_form uses (source.next name) es = true
covers_form uses source.do_head es = true
covers_form uses (source.do_while e) es = covers_condition uses es
covers_form uses (source.do_until e) es = covers_condition uses es
covers_form uses source.loop es = true
covers_form uses (source.loop_while e) es = covers_condition uses es
covers_form uses (source.loop_until e) es = covers_condition uses es
covers_form uses (source.while_head e) es = covers_condition uses es
covers_form uses source.wend es = true
covers_form uses (source.with_head e) es = covers_with uses es
covers_form uses source.end_with es = true
covers_form uses (source.goto l) es = covers_label (label_of l)
covers_form uses (source.label l) es = covers_label (label_of l)
covers_form uses (source.on_error_goto l) es = covers_label (label_of l)
covers_form uses source.on_error_goto_zero es = true
covers_form uses source.on_error_resume_next es = true
covers_form uses source.resume es = true
covers_form uses source.resume_next es = true
covers_form uses (source.resume_at l) es = covers_label (label_of l)
covers_form uses (source.exit kind) es = true
covers_form uses (source.redim preserve items) es = covers_resizes uses preserve (resizes items es)
covers_form uses (source.erase target) es = covers_erased uses es
covers_form uses (source.opaque tokens) es = false
covers_form uses (source.attribute tokens) es = false
covers_form uses source.option_explicit es = false
covers_form uses (source.option_base low) es = false
covers_form uses (source.option_compare compare) es = false
covers_form uses source.option_private_module es = false
covers_form uses (source.def_type word ranges) es = false
covers_form uses (source.variables word declarators) es = false
covers_form uses (source.constants visibility items) es = false
covers_form uses (source.type_head visibility name suffix) es = false
covers_form uses (source.field name suffix bounds ty) es = false
covers_form uses source.end_type es = false
covers_form uses (source.enum_head visibility name suffix) es = false
covers_form uses (source.enum_member name suffix value) es = false
covers_form uses source.end_enum es = false
covers_form uses (source.sub_head signature) es = false
covers_form uses (source.function_head signature result) es = false
covers_form uses (source.get_head signature result) es = false
covers_form uses (source.let_head signature) es = false
covers_form uses (source.set_head signature) es = false
covers_form uses source.end_sub es = false
covers_form uses source.end_function es = false
covers_form uses source.end_property es = false
covers_form uses (source.static_head kind signature result) es = false
covers_form uses (source.event_variables word declarators) es = false

-- a code line of a procedure, whose expressions are well formed
abbrev pub covers_line : Program → (procedure : ℕ) → tree.Line → Bool
covers_line P p l = covers_form (uses_in P p l.bindings.mentions) l.source.form l.bindings.exprs && list_all is_formed l.bindings.exprs

-- ---- lines in their blocks

abbrev pub is_local_in : (procedure : ℕ) → Option Variable → Bool
is_local_in p None = false
is_local_in p (Some x) = is_local_of p x.owner

-- a parameter or the result variable
abbrev pub is_passing_of : (procedure : ℕ) → Owner → Bool
is_passing_of p (owner.Value q) = nat_eq p q.0
is_passing_of p (owner.Reference q) = nat_eq p q.0
is_passing_of p (owner.Answer q) = nat_eq p q.0
is_passing_of p _ = false

abbrev pub is_passing_in : (procedure : ℕ) → Option Variable → Bool
is_passing_in p None = false
is_passing_in p (Some x) = is_passing_of p x.owner

abbrev pub is_local_term : Program → (procedure : ℕ) → Term → Bool
is_local_term P p (variable v qualified) = is_local_in p (slice_get P.declarations.vars v.0)
is_local_term P p t = false

abbrev pub is_local : Program → (procedure : ℕ) → Expr → Bool
is_local P p (typed ty t) = is_local_term P p t

-- a For whose counter is a local variable
abbrev pub counts_local : Program → (procedure : ℕ) → Form → List Expr → Bool
counts_local P p (source.for_head counter start limit step) (e ∷ es) = is_local P p e
counts_local P p f es = false

-- a Select Case of the type of all these
abbrev pub chooses_among : List Expr → Form → List Expr → Bool
chooses_among es (source.select d) (e ∷ []) = list_all (λ (x : Expr). is_same_type (type_at e) (type_at x)) es
chooses_among es f ds = false

-- A For counts in a local variable, a Next closes such a For, and a Case has values of the type of its Select Case; these heads are covered.
abbrev pub covers_part : Program → (procedure : ℕ) → Form → List Expr → Option tree.Line → Bool
covers_part P p (source.for_head counter start limit step) es head = counts_local P p (source.for_head counter start limit step) es
covers_part P p (source.case_line items) es None = false
covers_part P p (source.case_line items) es (Some m) = covers_line P p m && chooses_among es m.source.form m.bindings.exprs
covers_part P p (source.next name) es None = false
covers_part P p (source.next name) es (Some m) = covers_line P p m && counts_local P p m.source.form m.bindings.exprs
covers_part P p f es head = true

abbrev pub head_line : List tree.Line → Option ℕ → Option tree.Line
head_line lines None = None
head_line lines (Some h) = nth_line lines h

abbrev pub is_with : Form → Bool
is_with (source.with_head e) = true
is_with f = false

abbrev pub is_same_root : Root → Root → Bool
is_same_root (at.Variable v) (at.Variable u) = nat_eq v.0 u.0
is_same_root at.Object at.Object = true
is_same_root at.Temporary at.Temporary = true
is_same_root r s = false

abbrev pub keeps_by : List Expr → Ty → Root → Bool
keeps_by (e ∷ []) ty r = is_same_type ty (type_at e) && is_same_root r (root e)
keeps_by es ty r = false

-- the With is covered, and keeps what the line takes it for, of a covered user type or class
abbrev pub keeps_with : Program → (procedure : ℕ) → Option tree.Line → Ty → Root → Bool
keeps_with P p None ty r = false
keeps_with P p (Some m) ty r =
    covers_line P p m && (is_with m.source.form && (keeps_by m.bindings.exprs ty r && covers_group_type P.declarations ty))

abbrev pub is_within_with : Program → (procedure : ℕ) → Option tree.Line → Expr → Bool
is_within_with P p m (typed ty (with_object r)) = keeps_with P p m ty r
is_within_with P p m (typed ty t) = true

-- what a line uses of the With round it is of the type that the With keeps
abbrev pub covers_within : Program → (procedure : ℕ) → Option tree.Line → tree.Line → Bool
covers_within P p m l = list_all (is_within_with P p m) (line_uses l)

abbrev pub covers_in_block : Program → (procedure : ℕ) → List tree.Line → SourceLine → Bool
covers_in_block P p lines l =
    covers_part P p l.form.source.form l.form.bindings.exprs (head_line lines l.aims.own)
    && covers_within P p (head_line lines (with_round l.aims)) l.form

-- ---- jumps

-- the label that a line jumps to, or may jump to after an error
abbrev pub jump_of : Form → Option Label6
jump_of (source.goto l) = Some l
jump_of (source.on_error_goto l) = Some l
jump_of (source.resume_at l) = Some l
jump_of _ = None

-- goes on where an error was, at that line or behind it
abbrev pub resumes : Form → Bool
resumes source.resume = true
resumes source.resume_next = true
resumes _ = false

-- a line that is a label is a covered one
abbrev pub has_sound_label_in : Form → Bool
has_sound_label_in (source.label l) = covers_label (label_of l)
has_sound_label_in _ = true

abbrev pub has_sound_label : tree.Line → Bool
has_sound_label l = has_sound_label_in l.source.form
