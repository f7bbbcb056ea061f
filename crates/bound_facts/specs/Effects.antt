-- What lines do to variables and to the outside.
use Rattle.std.specs.Prelude.{ℕ, ◌+◌, Bool, true, false, cond, not, ◌||◌, ◌&&◌, nat_eq, Option, Some, None, is_some, List, [], ◌∷◌, ◌++◌, slice_get, option_to_list}
use Rattle.std.specs.List.{flat_map, list_any}
use Rattle.vb_tree.specs.declared.declared.Owner.{Owner}
use Rattle.vb_tree.specs.declared.declared.Owner.TheVariants as owner
use Rattle.vb_tree.specs.declared.declared.VarId.{VarId}
use Rattle.vb_tree.specs.Tree.{Form, assign, erase, redim, debug_print, on_error_goto, on_error_goto_zero, on_error_resume_next, resume, resume_next, resume_at}
use Rattle.bound_tree.specs.declared.expression.Root.{Root}
use Rattle.bound_tree.specs.declared.expression.Root.TheVariants as at
use Rattle.bound_tree.specs.Tree.{Expr, typed, Argument, by_value, by_reference, Passed, no_passed, next_passed, Line, Variable, Procedure, Declarations, Program}
use Rattle.bound_facts.specs.Items.{project_items}
use Rattle.bound_facts.specs.Node.{type_at, called, created, asks, boxes, sets_error, root, root_variable, passed_root, variable_at, is_array_type, args_at}
use Rattle.bound_facts.specs.Parts.{line_stores, line_uses, first_of, stores}

-- ---- the four things that an inward procedure doesn't do

-- a variable of a procedure's own: a local that isn't static, its result variable, or a parameter that takes a value
abbrev pub is_own_owner : ℕ → Owner → Bool
is_own_owner i (owner.Local p) = nat_eq p.0 i
is_own_owner i (owner.Value p) = nat_eq p.0 i
is_own_owner i (owner.Answer p) = nat_eq p.0 i
is_own_owner i _ = false

abbrev pub is_own_variable : ℕ → Option Variable → Bool
is_own_variable i None = false
is_own_variable i (Some v) = is_own_owner i v.owner

-- an address outside of a procedure's own variables; what no variable holds lies in none
abbrev pub is_outside : List Variable → ℕ → Root → Bool
is_outside vars i (at.Variable v) = not (is_own_variable i (slice_get vars v.0))
is_outside vars i at.Object = true
is_outside vars i at.Temporary = false

abbrev pub changes_outside : List Variable → ℕ → Line → Bool
changes_outside vars i l = list_any (λ e. is_outside vars i (root e)) (line_stores l)

-- a line that prints or that has to do with the handling of errors
abbrev pub is_loud : Form → Bool
is_loud (debug_print items ended) = true
is_loud (on_error_goto l) = true
is_loud on_error_goto_zero = true
is_loud on_error_resume_next = true
is_loud resume = true
is_loud resume_next = true
is_loud (resume_at l) = true
is_loud _ = false

abbrev pub is_outward_node : Declarations → Expr → Bool
is_outward_node D e = is_some (created D e) || (asks e || (boxes e || sets_error e))

-- whether a line of procedure i does one of them
abbrev pub is_outward_line : Declarations → ℕ → Line → Bool
is_outward_line D i l = is_loud l.source.form || (changes_outside D.vars i l || list_any (is_outward_node D) (line_uses l))

abbrev pub outward_items : Declarations → ℕ → Line → List ℕ
outward_items D i l = cond (is_outward_line D i l) (i ∷ []) []

-- the procedures with such a line
abbrev pub outward : Program → List ℕ
outward P = project_items (outward_items P.declarations) P.bodies

-- ---- what is done to variables

abbrev pub stored_roots : Line → List ℕ
stored_roots l = flat_map (λ e. option_to_list (root_variable (root e))) (line_stores l)

abbrev pub passed_roots : Passed → List ℕ
passed_roots no_passed = []
passed_roots (next_passed a rest) = option_to_list (passed_root a) ++ passed_roots rest

abbrev pub touched_items : ℕ → Line → List ℕ
touched_items i l = stored_roots l ++ flat_map (λ e. passed_roots (args_at e)) (line_uses l)

-- the variables that are changed, or a part of which is, or that are passed on by reference
abbrev pub touched : Program → List ℕ
touched P = project_items touched_items P.bodies

-- what a line makes anew, erases or assigns whole
abbrev pub resized_stores : Form → List Expr → List Expr
resized_stores (redim preserve items) es = stores (redim preserve items) es
resized_stores (erase array) es = first_of es
resized_stores (assign target value) es = first_of es
resized_stores _ es = []

abbrev pub resized_variable : Expr → Option ℕ
resized_variable e = cond (is_array_type (type_at e)) (variable_at e) None

abbrev pub resized_items : ℕ → Line → List ℕ
resized_items i l = flat_map (λ e. option_to_list (resized_variable e)) (resized_stores l.source.form l.bindings.exprs)

-- the array variables that a line makes anew, erases or assigns whole
abbrev pub resized : Program → List ℕ
resized P = project_items resized_items P.bodies

-- ---- arguments and parameters

abbrev pub params_at : Option Procedure → List VarId
params_at None = []
params_at (Some p) = p.params

abbrev pub params_of : List Procedure → Option ℕ → List VarId
params_of procs None = []
params_of procs (Some p) = params_at (slice_get procs p)

abbrev pub pair_from : Option ℕ → ℕ → List (ℕ × ℕ)
pair_from None w = []
pair_from (Some v) w = (v, w) ∷ []

abbrev pub pass_pair : Option VarId → Argument → List (ℕ × ℕ)
pass_pair None a = []
pass_pair (Some w) (by_value e) = []
pass_pair (Some w) (by_reference e) = pair_from (variable_at e) w.0

-- to the parameters from the one with a number on
abbrev pub passes_from : List VarId → ℕ → Passed → List (ℕ × ℕ)
passes_from params i no_passed = []
passes_from params i (next_passed a rest) = pass_pair (slice_get params i) a ++ passes_from params (i + 1) rest

abbrev pub node_passes : List Procedure → Expr → List (ℕ × ℕ)
node_passes procs e = passes_from (params_of procs (called e)) 0 (args_at e)

abbrev pub passes_items : List Procedure → ℕ → Line → List (ℕ × ℕ)
passes_items procs i l = flat_map (node_passes procs) (line_uses l)

-- the pairs of a variable and a parameter to which it is given by reference
abbrev pub passes : Program → List (ℕ × ℕ)
passes P = project_items (passes_items P.declarations.procs) P.bodies
