-- Which procedures and lines are proved to do the same. What isn't covered is translated all the same.
use Rattle.run_matches.specs.Keeping.{keeps_given}
use Rattle.std.specs.Prelude.{◌≡◌, ℕ, suc, Bool, true, false, cond, not, ◌&&◌, ◌||◌, nat_eq, Option, Some, None, is_some, List, [], ◌∷◌, map, slice_get, nat_lt}
use Rattle.std.specs.Cmp.Lexicographic.{pointwise}
use Rattle.std.specs.List.{list_all, list_any, Contains}
use Rattle.vb_tree.specs.BoundTree as types
use Rattle.vb_tree.specs.BoundTree.{Ty}
use Rattle.vb_tree.specs.declared.declared.Owner.{Owner}
use Rattle.vb_tree.specs.declared.declared.Owner.TheVariants as owner
use Rattle.vb_tree.specs.declared.declared.ProcKind.{ProcKind}
use Rattle.vb_tree.specs.declared.declared.ProcKind.TheVariants as kind
use Rattle.vb_tree.specs.declared.declared.VarId.{VarId}
use Rattle.vb_tree.specs.ProjectLines.{is_reserved}
use Rattle.vb_tree.specs.Tree.{Form, Module}
use Rattle.vb_tree.specs.Tree as source
use Rattle.bound_tree.specs.declared.body.Mention.{Mention}
use Rattle.bound_tree.specs.declared.marks.Marks.{Marks}
use Rattle.bound_tree.specs.RuleSets.{has}
use Rattle.bound_tree.specs.Tree.{Variable, Constant, Procedure, Declarations, Program, Expr, typed, Term, variable, element, Argument, by_value, by_reference, Passed, no_passed, next_passed, field, call, convert, new_object, Object, no_object, of_object}
use Rattle.bound_tree.specs.Tree as tree
use Rattle.bound_facts.specs.Calls.{Reaches, line_calls, count_procedures}
use Rattle.bound_facts.specs.Members.{class_files, initializer}
use Rattle.bound_facts.specs.Effects.{params_at}
use Rattle.bound_facts.specs.Locks.{is_same_type}
use Rattle.bound_facts.specs.Node.{type_at, auto_class, called, args_at, is_array_type}
use Rattle.bound_facts.specs.Parts.{line_uses}
use Rattle.run_base.specs.Machines.{nth_line}
use Rattle.up_base.specs.Names.{is_same_name}
use Rattle.written_trees.specs.Arguments.{is_conversion, is_property, is_property_kind, takes_reference}
use Rattle.written_trees.specs.Exprs.{has_none}
use Rattle.written_trees.specs.Facts.{set_at}
use Rattle.written_trees.specs.Heads.{is_function}
use Rattle.written_trees.specs.Prologues.{variables_of, constants_of, is_static}
use Rattle.vb6_run.specs.Forms.{SourceLine, body_of}
use Rattle.vb6_run.specs.Programs.{is_local_of, owned_from, answer_in, is_static_of}
use Rattle.vb6_run.specs.Runnables.{is_class_file}
use Rattle.net_run.specs.Members.{is_same_flag}
use Rattle.written_trees.specs.Names.{first_name}
use Rattle.run_matches.specs.Callees.{frame_owns, is_found, is_once, names_in}
use Rattle.run_matches.specs.IndexArguments.{hands_index}
use Rattle.run_matches.specs.JoinedProperties.{is_empty, is_joined}
use Rattle.run_matches.specs.Shared.{others_differ}
use Rattle.run_matches.specs.Upgrades.{takes_array}
use Rattle.run_matches.specs.UserTypes.{is_group_type, is_user}
use Rattle.run_matches.specs.Sites.{Site, site_of, Own, own_variable, own_constant, own_name, owns_of, local_numbers, static_numbers, statement_of}
use Rattle.run_matches.specs.CoveredVariables.{takes_value_at, belongs_to, covers_class, covers_declared, has_extents, are_different, is_mention_of}
use Rattle.run_matches.specs.CoveredExprs.{is_element_term, is_number, is_variable, is_relied_on}
use Rattle.run_matches.specs.CoveredLines.{covers_line, covers_in_block, jump_of, resumes}

-- ---- procedures

-- Subs and Functions, and parts of properties that are written as one
abbrev pub covers_joined : Declarations → (procedure : ℕ) → Procedure → Bool
covers_joined D p x = cond (is_property_kind x.kind) (is_joined D p x) true

abbrev pub is_plain_kind : ProcKind → Bool
is_plain_kind kind.Sub = true
is_plain_kind kind.Function = true
is_plain_kind kind.Get = false
is_plain_kind kind.Let = false
is_plain_kind kind.Set = false

-- a Sub or a Function; the parts of a property aren't
abbrev pub is_plain : Option Procedure → Bool
is_plain None = false
is_plain (Some x) = is_plain_kind x.kind

abbrev pub is_value_of : (procedure : ℕ) → Owner → Bool
is_value_of p (owner.Value q) = nat_eq p q.0
is_value_of p _ = false

abbrev pub is_answer_of : (procedure : ℕ) → Owner → Bool
is_answer_of p (owner.Answer q) = nat_eq p q.0
is_answer_of p _ = false

abbrev pub is_value_in : (procedure : ℕ) → Option Variable → Bool
is_value_in p None = false
is_value_in p (Some x) = is_value_of p x.owner

abbrev pub is_parameter_of : (procedure : ℕ) → Owner → Bool
is_parameter_of p (owner.Value q) = nat_eq p q.0
is_parameter_of p (owner.Reference q) = nat_eq p q.0
is_parameter_of p _ = false

abbrev pub is_reference_owner_of : (procedure : ℕ) → Owner → Bool
is_reference_owner_of p (owner.Reference q) = nat_eq p q.0
is_reference_owner_of p _ = false

abbrev pub is_reference_in : (procedure : ℕ) → Option Variable → Bool
is_reference_in p None = false
is_reference_in p (Some x) = is_reference_owner_of p x.owner

abbrev pub is_parameter_in : (procedure : ℕ) → Option Variable → Bool
is_parameter_in p None = false
is_parameter_in p (Some x) = is_parameter_of p x.owner

-- parameters by value and by reference
abbrev pub covers_parameter : Program → (procedure : ℕ) → VarId → Bool
covers_parameter P p v = is_parameter_in p (slice_get P.declarations.vars v.0)

abbrev pub is_result_in : (procedure : ℕ) → Procedure → Option Variable → Bool
is_result_in p x None = false
is_result_in p x (Some y) = is_answer_of p y.owner && (is_same_type y.ty x.result && pointwise nat_eq y.name x.name)

abbrev pub has_answer : Declarations → (procedure : ℕ) → Procedure → Option VarId → Bool
has_answer D p x None = false
has_answer D p x (Some v) = is_result_in p x (slice_get D.vars v.0)

abbrev pub has_result : Declarations → (procedure : ℕ) → Procedure → ProcKind → Bool
has_result D p x kind.Sub = not (is_some x.answer)
has_result D p x kind.Function = has_answer D p x x.answer
has_result D p x kind.Get = has_answer D p x x.answer
has_result D p x kind.Let = not (is_some x.answer)
has_result D p x kind.Set = not (is_some x.answer)

-- a result variable of the name and type of the Function or the Get
abbrev pub covers_result : Declarations → (procedure : ℕ) → Procedure → Bool
covers_result D p x =
    has_result D p x x.kind
    && (pointwise nat_eq (map (λ (v : VarId). v.0) x.params) (owned_from (is_parameter_of p) 0 D.vars)
    && pointwise nat_eq (answer_in x.answer) (owned_from (is_answer_of p) 0 D.vars))

-- those whose parameters are covered
abbrev pub covers_head : Program → (procedure : ℕ) → Option Procedure → Bool
covers_head P p None = false
covers_head P p (Some x) =
    covers_joined P.declarations p x && (list_all (covers_parameter P p) x.params && covers_result P.declarations p x)

-- each variable of the procedure is covered, and each ReDim of the project gives extents
abbrev pub covers_variables : Program → (procedure : ℕ) → Bool
covers_variables P p =
    list_all (λ (x : Variable). cond (belongs_to p x.owner) (covers_declared P.declarations x) true) P.declarations.vars && has_extents P

-- all lines, also in their blocks
abbrev pub covers_body : Program → (procedure : ℕ) → Option (List tree.Line) → Bool
covers_body P p None = false
covers_body P p (Some lines) = list_all (covers_line P p) lines && list_all (covers_in_block P p lines) (body_of lines)

-- ---- names

abbrev pub is_free_name : List ℕ → Bool
is_free_name name = not (is_reserved name)

-- Nothing in the project is named UpgradeSupport, System or Microsoft. What is breaks U20 itself.
abbrev pub covers_names : Declarations → Bool
covers_names D =
    list_all (λ (m : Module). is_free_name m.name) D.project.modules
    && (list_all (λ (x : Variable). is_free_name x.name) D.vars
    && (list_all (λ (c : Constant). is_free_name c.name) D.consts && list_all (λ (q : Procedure). is_free_name q.name) D.procs))

abbrev pub covers_own : Declarations → (procedure : ℕ) → Own → Bool
covers_own D p (own_variable v x) = others_differ (is_static_of p) v x.name 0 D.vars
covers_own D p (own_constant c x) = belongs_to p x.owner && is_some x.value

-- its lines declare its variables, Statics under names of their own, and constants with values
abbrev pub covers_owns : Declarations → (procedure : ℕ) → List Own → Bool
covers_owns D p os =
    (pointwise nat_eq (local_numbers os) (owned_from (is_local_of p) 0 D.vars)
    && pointwise nat_eq (static_numbers os) (owned_from (is_static_of p) 0 D.vars))
    && list_all (covers_own D p) os

abbrev pub has_no_static : Own → Bool
has_no_static (own_variable v x) = not (is_static x.owner)
has_no_static (own_constant c x) = true

abbrev pub is_class_number : Declarations → Option Procedure → Bool
is_class_number D None = false
is_class_number D (Some q) = is_class_file D q.module_number

-- all that its frame has is named differently, and where it has Statics it stands in a class by the file of its module as by its place
abbrev pub covers_site : Declarations → (procedure : ℕ) → Option Site → Bool
covers_site D p None = false
covers_site D p (Some s) =
    (list_all has_no_static (owns_of D s) || is_same_flag (is_class_number D (slice_get D.procs p)) s.source_module.class)
    && (covers_owns D p (owns_of D s) && are_different (map own_name (frame_owns D (slice_get D.procs p) s)))

-- ---- what is called

-- procedures of the project, which are found by their names where they are called
abbrev pub covers_callee : Program → (procedure : ℕ) → Option Site → (callee : ℕ) → (qualified : Bool) → Bool
covers_callee P p None q qualified = false
covers_callee P p (Some s) q qualified =
    nat_lt q (count_procedures P)
    && is_found P.declarations (slice_get P.declarations.procs p) s (slice_get P.declarations.procs q) (site_of P.declarations q) qualified

abbrev pub is_method_site : Declarations → (class : ℕ) → Procedure → Option Site → Bool
is_method_site D c y None = false
is_method_site D c y (Some t) =
    (is_number y.module_number (slice_get (class_files D.project) c) && nat_eq t.source_module.file y.module_number)
    && (t.source_module.class && (pointwise nat_eq (first_name D (Some y)) y.name && is_once y.name (names_in D t.home)))

abbrev pub is_method_in : Declarations → (class callee : ℕ) → Option Procedure → Bool
is_method_in D c q None = false
is_method_in D c q (Some y) = is_method_site D c y (site_of D q)

abbrev pub is_method : Declarations → Ty → (callee : ℕ) → Bool
is_method D (types.class c) q = covers_class D c && is_method_in D c q (slice_get D.procs q)
is_method D ty q = false

-- procedures of the class of an object, which are found by their names there
abbrev pub covers_method : Program → (of : Expr) → (callee : ℕ) → Bool
covers_method P e q = nat_lt q (count_procedures P) && is_method P.declarations (type_at e) q

abbrev pub covers_called_for : Program → (procedure : ℕ) → Option Site → (callee : ℕ) → (qualified : Bool) → Object → Bool
covers_called_for P p s q qualified no_object = covers_callee P p s q qualified
covers_called_for P p s q qualified (of_object e) = covers_method P e q

abbrev pub covers_initializer : Program → (class : ℕ) → Option ℕ → Bool
covers_initializer P c None = true
covers_initializer P c (Some q) =
    is_plain (slice_get P.declarations.procs q) && (nat_lt q (count_procedures P) && is_method P.declarations (types.class c) q)

abbrev pub is_result_of : Option Procedure → Option Procedure → Bool
is_result_of None y = false
is_result_of (Some x) None = false
is_result_of (Some x) (Some y) = is_function x.kind && is_same_name x.name y.name

-- by its name alone, as it isn't in itself and where that names a result
abbrev pub stands_alone : Declarations → (procedure callee : ℕ) → (qualified : Bool) → Object → Bool
stands_alone D p q qualified no_object =
    not (nat_eq p q && not qualified) && not (is_result_of (slice_get D.procs p) (slice_get D.procs q))
stands_alone D p q qualified (of_object e) = true

-- a property without arguments is used by its name alone
abbrev pub covers_use_of : Declarations → (procedure callee : ℕ) → (qualified : Bool) → Object → Passed → Bool
covers_use_of D p q qualified of args = cond (is_property D q) (not (has_none args) || stands_alone D p q qualified of) true

abbrev pub covers_made_by : Program → (class : Option ℕ) → Bool
covers_made_by P None = true
covers_made_by P (Some c) = covers_initializer P c (initializer P.declarations c)

abbrev pub covers_node_term : Program → (procedure : ℕ) → Option Site → Term → Bool
covers_node_term P p s (call q qualified of args) =
    covers_called_for P p s q.0 qualified of && covers_use_of P.declarations p q.0 qualified of args
covers_node_term P p s (new_object c) = covers_initializer P c.0 (initializer P.declarations c.0)
covers_node_term P p s (variable v qualified) = covers_made_by P (auto_class (slice_get P.declarations.vars v.0))
covers_node_term P p s t = true

-- what a node calls is found by its name; so is the Class_Initialize of a new object, and of one that an As New variable makes
abbrev pub covers_node : Program → (procedure : ℕ) → Option Site → Expr → Bool
covers_node P p s (typed ty t) = covers_node_term P p s t

abbrev pub is_item : Expr → Bool
is_item (typed ty t) = is_element_term t

abbrev pub is_group_field_term : Term → Bool
is_group_field_term (field e k) = is_user (type_at e)
is_group_field_term t = false

-- a field of a user type
abbrev pub is_group_field : Expr → Bool
is_group_field (typed ty t) = is_group_field_term t

-- a variable, a conversion, which is a temporary, an element of an array, or a field of a user type
abbrev pub is_referred : Expr → Bool
is_referred e = is_variable e || (is_conversion e || (is_item e || is_group_field e))

-- an array goes to a parameter that takes one
abbrev pub suits_array : Declarations → (procedure place : ℕ) → Expr → Bool
suits_array D q i e = not (is_array_type (type_at e)) || takes_array D q i

abbrev pub is_parameter_type : Ty → Option Variable → Bool
is_parameter_type ty None = false
is_parameter_type ty (Some x) = is_same_type ty x.ty

abbrev pub is_type_at : Declarations → Ty → Option VarId → Bool
is_type_at D ty None = false
is_type_at D ty (Some v) = is_parameter_type ty (slice_get D.vars v.0)

-- a user type and an object go to a parameter of their type
abbrev pub suits_group : Declarations → (procedure place : ℕ) → Expr → Bool
suits_group D q i e = not (is_group_type (type_at e)) || is_type_at D (type_at e) (slice_get (params_at (slice_get D.procs q)) i)

-- what is written for it takes a reference too, but for a part of a property
abbrev pub takes_address : Declarations → (procedure place : ℕ) → Bool
takes_address D q i = not (is_property D q) && takes_reference D q i

-- a reference goes to a parameter that takes one
abbrev pub suits_argument : Declarations → (procedure place : ℕ) → Argument → Bool
suits_argument D q i (by_value e) = suits_group D q i e
suits_argument D q i (by_reference e) = takes_reference D q i && (is_referred e && (suits_array D q i e && suits_group D q i e))

abbrev pub suits_passed : Declarations → (procedure place : ℕ) → Passed → Bool
suits_passed D q i no_passed = true
suits_passed D q i (next_passed a rest) = suits_argument D q i a && suits_passed D q (suc i) rest

abbrev pub suits_callee : Declarations → Option ℕ → Passed → Bool
suits_callee D None args = true
suits_callee D (Some q) args = suits_passed D q 0 args

abbrev pub suits : Declarations → Expr → Bool
suits D e = suits_callee D (called e) (args_at e)

abbrev pub is_relied_id : Program → Option VarId → Bool
is_relied_id P None = false
is_relied_id P (Some v) = is_relied_on P v.0

-- What takes a parameter's place is relied on where the parameter is, which all lines of the program fulfil, and it is a value where the
-- parameter may be given one.
abbrev pub is_relied_at : Program → (procedure place : ℕ) → Bool
is_relied_at P q i = is_relied_id P (slice_get (params_at (slice_get P.declarations.procs q)) i)

abbrev pub hands_term : Program → (procedure place : ℕ) → Term → Bool
hands_term P q i (variable v qualified) = not (is_relied_at P q i) || is_relied_on P v.0
hands_term P q i (element a indexes) = not (is_relied_at P q i)
hands_term P q i (convert to e) = takes_value_at P q i
hands_term P q i t = true

abbrev pub hands_argument : Program → (procedure place : ℕ) → Argument → Bool
hands_argument P q i (by_value e) = takes_value_at P q i
hands_argument P q i (by_reference (typed ty t)) = hands_term P q i t

abbrev pub hands_passed : Program → (procedure place : ℕ) → Passed → Bool
hands_passed P q i no_passed = true
hands_passed P q i (next_passed a rest) = hands_argument P q i a && (hands_index P q i a rest && hands_passed P q (suc i) rest)

abbrev pub hands_callee : Program → Option ℕ → Passed → Bool
hands_callee P None args = true
hands_callee P (Some q) args = hands_passed P q 0 args && keeps_given P q args

abbrev pub hands : Program → Expr → Bool
hands P e = hands_callee P (called e) (args_at e)

-- what a line calls, with arguments that suit its parameters
abbrev pub covers_calls : Program → (procedure : ℕ) → tree.Line → Bool
covers_calls P p l =
    list_all (covers_node P p (site_of P.declarations p)) (line_uses l)
    && (list_all (suits P.declarations) (line_uses l) && list_all (hands P) (line_uses l))

abbrev pub covers_all_calls : Program → (procedure : ℕ) → Option (List tree.Line) → Bool
covers_all_calls P p None = false
covers_all_calls P p (Some lines) = list_all (covers_calls P p) lines

-- ---- the whole

-- names, its head, what it declares, its variables, all its lines and what they call
abbrev pub covers_procedure : Program → (procedure : ℕ) → Bool
covers_procedure P p =
    covers_all_calls P p (slice_get P.bodies p)
    && (covers_names P.declarations
    && (covers_head P p (slice_get P.declarations.procs p)
    && (covers_site P.declarations p (site_of P.declarations p) && (covers_variables P p && covers_body P p (slice_get P.bodies p)))))

-- ---- what is covered

-- the procedure and all that it reaches
abbrev pub IsCovered : Program → (procedure : ℕ) → Type 0
IsCovered P p = (q : ℕ) → Reaches P p q → covers_procedure P q ≡ true

abbrev pub has_three : List Expr → Bool
has_three [] = false
has_three (counter ∷ []) = false
has_three (counter ∷ start ∷ []) = false
has_three (counter ∷ start ∷ limit ∷ es) = true

-- a For has its counter and its limits; what replaces a For Each leads elsewhere
abbrev pub keeps_blocks_in : Form → List Expr → Bool
keeps_blocks_in (source.for_head counter start limit step) es = has_three es
keeps_blocks_in (source.for_each name suffix e) es = false
keeps_blocks_in _ es = true

abbrev pub keeps_blocks : tree.Line → Bool
keeps_blocks l = keeps_blocks_in l.source.form l.bindings.exprs

abbrev pub is_mentioned : List Mention → ℕ × Variable → Bool
is_mentioned mentions v = list_any (is_mention_of (record { 0 = v.0 })) mentions

-- a code line mentions the variables that it declares by using them first
abbrev pub covers_statement : Declarations → (file : ℕ) → Option ℕ → List Mention → Bool
covers_statement D file None mentions = false
covers_statement D file (Some n) mentions = list_all (is_mentioned mentions) (variables_of D file n) && is_empty (constants_of D file n)

-- the line of a number, counted from 1, and all that it enters
pub record IsCoveredLine (P : Program) (M : Marks) (p number : ℕ) : Type 0 where
  pub procedure : Procedure
  pub is_procedure : slice_get P.declarations.procs p ≡ Some procedure
  -- a part of a property is written as one with the others
  pub joined : covers_joined P.declarations p procedure ≡ true
  pub unparted : is_property_kind procedure.kind ≡ true → has (set_at M.heads p) 7 ≡ false
  pub lines : List tree.Line
  pub are_lines : slice_get P.bodies p ≡ Some lines
  pub line : tree.Line
  pub is_line : nth_line lines number ≡ Some line
  -- the blocks round it are kept
  pub blocks : list_all keeps_blocks lines ≡ true
  pub covers : covers_line P p line ≡ true
  -- no jump: the line of its label could be replaced, whose label is then missing
  pub stays : jump_of line.source.form ≡ None
  -- no Resume or Resume Next: the line of the error could be replaced
  pub no_resume : resumes line.source.form ≡ false
  -- a Case and a Next suit their block
  pub stands : (l : SourceLine) → nth_line (body_of lines) number ≡ Some l → covers_in_block P p lines l ≡ true
  pub site : Site
  pub is_site : site_of P.declarations p ≡ Some site
  pub declares : covers_statement P.declarations site.source_module.file (statement_of site number) line.bindings.mentions ≡ true
  pub names : covers_names P.declarations ≡ true
  pub calls : covers_calls P p line ≡ true
  pub entered : (q : ℕ) → Contains (line_calls P.declarations p line) (p, q) → IsCovered P q
