-- How often variables are used, and how often they are named in what is written.
use Rattle.std.specs.Prelude.{◌≡◌, ℕ, ◌+◌, nat_eq, true, cond, Some, List, [], ◌∷◌, ◌++◌, slice_get, option_to_list, codes, Bool, not, ◌&&◌, ◌||◌, false, Option, None}
use Rattle.std.specs.List.{flat_map, list_any}
use Rattle.up_base.specs.Names.{is_same_name}
use Rattle.vb_tree.specs.declared.declared.Owner.TheVariants as owner
use Rattle.vb_tree.specs.BoundTree.{Ty}
use Rattle.vb_tree.specs.ProjectLines.{is_reserved}
use Rattle.vb_tree.specs.Tree.{Form, Module}
use Rattle.vb_tree.specs.Tree as source
use Rattle.bound_tree.specs.Tree.{Variable, Procedure, Declarations, Expr, typed, Term, constant, variable, field, element, call, library, unary, binary, convert, new_object, me, with_object, err_number, err_raise, err_clear, is_same, loose, Object, no_object, of_object, Exprs, no_exprs, next_expr, Argument, by_value, by_reference, Passed, no_passed, next_passed}
use Rattle.bound_facts.specs.Node.{called}
use Rattle.bound_facts.specs.Nodes.{nodes}
use Rattle.bound_facts.specs.Parts.{Extent, Resize, resizes}
use Rattle.net_tree.specs.Tree.{Exp, Exps, no_exps, next_exp}
use Rattle.net_tree.specs.Tree as net
use Rattle.written_trees.specs.Conversions.{one, two}
use Rattle.written_trees.specs.Lines.{print_name}
use Rattle.written_trees.specs.Names.{Path, Scope, is_standard_module, module_at, module_name, support, procedure_name, variable_name_of}
use Rattle.run_matches.specs.UserTypes.{is_group_type}
use Rattle.vb6_run.specs.Runnables.{is_class_file}
use Rattle.run_matches.specs.CoveredVariables.{belongs_to, is_reached}

-- ---- bound expressions

abbrev mutual
  -- how often an expression uses the variable of a number
  pub uses : ℕ → Expr → ℕ
  uses n (typed ty term) = term_uses n term

  pub term_uses : ℕ → Term → ℕ
  term_uses n (constant x origin) = 0
  term_uses n (variable v qualified) = cond (nat_eq n v.0) 1 0
  term_uses n (field e k) = uses n e
  term_uses n (element e indexes) = uses n e + exprs_uses n indexes
  term_uses n (call p qualified of args) = object_uses n of + passed_uses n args
  term_uses n (library f args) = exprs_uses n args
  term_uses n (unary o e) = uses n e
  term_uses n (binary o d e) = uses n d + uses n e
  term_uses n (convert to e) = uses n e
  term_uses n (new_object c) = 0
  term_uses n me = 0
  term_uses n (with_object root) = 0
  term_uses n err_number = 0
  term_uses n (err_raise e) = uses n e
  term_uses n err_clear = 0
  term_uses n (is_same d e) = uses n d + uses n e
  term_uses n (loose e rules) = 0

  pub object_uses : ℕ → Object → ℕ
  object_uses n no_object = 0
  object_uses n (of_object e) = uses n e

  pub exprs_uses : ℕ → Exprs → ℕ
  exprs_uses n no_exprs = 0
  exprs_uses n (next_expr e rest) = uses n e + exprs_uses n rest

  pub argument_uses : ℕ → Argument → ℕ
  argument_uses n (by_value e) = uses n e
  argument_uses n (by_reference e) = uses n e

  pub passed_uses : ℕ → Passed → ℕ
  passed_uses n no_passed = 0
  passed_uses n (next_passed a rest) = argument_uses n a + passed_uses n rest

-- ---- written expressions

-- whether a name may stand for something else where a path begins: for a module, the support module or the run-time library; what isn't
-- declared has none
abbrev pub is_outer : Declarations → List ℕ → Bool
is_outer D [] = true
is_outer D (c ∷ cs) = is_reserved (c ∷ cs) || list_any (λ (m : Module). is_same_name m.name (c ∷ cs)) D.project.modules

-- Whether a path is a name alone, and this one; letters are compared without case. Behind the name of a variable of a user type or a class
-- stand fields.
abbrev pub path_names : (fielded : Bool) → List ℕ → Path → ℕ
path_names fielded name [] = 0
path_names fielded name (n ∷ []) = cond (is_same_name n name) 1 0
path_names fielded name (n ∷ m ∷ more) = cond (fielded && is_same_name n name) 1 0

-- whether it is the name of a variable of a standard module behind that of the module, or alone inside of the module
abbrev pub shared_names : (fielded inside : Bool) → (of name : List ℕ) → Path → ℕ
shared_names fielded inside of name [] = 0
shared_names fielded inside of name (n ∷ []) = cond (inside && is_same_name n name) 1 0
shared_names fielded inside of name (o ∷ n ∷ []) =
    cond ((is_same_name o of && is_same_name n name) || (fielded && (inside && is_same_name o name))) 1 0
shared_names fielded inside of name (o ∷ n ∷ m ∷ more) =
    cond (fielded && ((is_same_name o of && is_same_name n name) || (inside && is_same_name o name))) 1 0

abbrev mutual
  -- how often a written expression names a variable that its paths name so often
  pub names : (Path → ℕ) → Exp → ℕ
  names count (net.lit l) = 0
  names count net.nothing = 0
  names count net.me = 0
  names count (net.path p) = count p
  names count (net.with_dot m) = 0
  names count (net.dot e m) = names count e
  names count (net.call_of e es) = names count e + exps_name count es
  names count (net.cast w e) = names count e
  names count (net.ctype e ty) = names count e
  names count (net.unary u e) = names count e
  names count (net.binary o a b) = names count a + names count b
  names count (net.paren e) = names count e
  names count (net.new_object ty es) = exps_name count es
  names count (net.new_array ty es) = exps_name count es
  names count (net.type_of e ty) = names count e

  pub exps_name : (Path → ℕ) → Exps → ℕ
  exps_name count no_exps = 0
  exps_name count (next_exp e es) = names count e + exps_name count es

-- the sum over items
abbrev pub total : {A : Type 0} → (A → ℕ) → List A → ℕ
total f [] = 0
total f (x ∷ xs) = f x + total f xs

-- ---- lines

-- no other variable of the procedure has its name
abbrev pub IsAlone : Declarations → (procedure variable : ℕ) → Variable → Type 0
IsAlone D p v x =
    (u : ℕ) (y : Variable) → slice_get D.vars u ≡ Some y → belongs_to p y.owner ≡ true → is_same_name y.name x.name ≡ true → u ≡ v

-- no other variable of a module has its name in a module of the same name
abbrev pub IsSharedAlone : Declarations → (variable file : ℕ) → Variable → Type 0
IsSharedAlone D v file x =
    (u : ℕ) (y : Variable) (f : ℕ) → slice_get D.vars u ≡ Some y → y.owner ≡ owner.Module f → is_same_name y.name x.name ≡ true
    → is_same_name (module_name D f) (module_name D file) ≡ true → u ≡ v

abbrev pub is_named_so : Declarations → List ℕ → Option ℕ → Bool
is_named_so D name None = false
is_named_so D name (Some q) = is_same_name (procedure_name D q) name

-- whether a node calls a procedure of the name
abbrev pub is_call_of : Declarations → List ℕ → Expr → Bool
is_call_of D name e = is_named_so D name (called e)

abbrev pub stands_elsewhere : Declarations → (of : List ℕ) → Option Procedure → Bool
stands_elsewhere D of None = true
stands_elsewhere D of (Some y) = is_standard_module (module_at D.project y.module_number) && not (is_same_name (module_name D y.module_number) of)

abbrev pub is_named_there : Declarations → (of name : List ℕ) → Option ℕ → Bool
is_named_there D of name None = false
is_named_there D of name (Some q) = is_same_name (procedure_name D q) name && not (stands_elsewhere D of (slice_get D.procs q))

-- whether a node calls a procedure of the name that stands in no standard module of another name
abbrev pub is_call_in : Declarations → (of name : List ℕ) → Expr → Bool
is_call_in D of name e = is_named_there D of name (called e)

abbrev pub is_group_named_in : Declarations → List ℕ → Ty → Term → Bool
is_group_named_in D name ty (variable v qualified) = is_group_type ty && is_same_name (variable_name_of (slice_get D.vars v.0)) name
is_group_named_in D name ty (call q qualified no_object no_passed) = is_group_type ty && is_same_name (procedure_name D q.0) name
is_group_named_in D name ty t = false

-- whether a node is a variable of a user type or a class that has the name, or a call of a procedure that gives such and has it
abbrev pub is_group_named : Declarations → List ℕ → Expr → Bool
is_group_named D name (typed ty t) = is_group_named_in D name ty t

-- a path that begins with the name of a variable of a user type or a class is that variable's
abbrev pub IsFirst : Declarations → Variable → Type 0
IsFirst D x = is_group_type x.ty ≡ true → is_outer D x.name ≡ false

abbrev pub stands_outside : Declarations → Option Procedure → Bool
stands_outside D None = false
stands_outside D (Some q) = not (is_class_file D q.module_number)

-- Expressions use each variable of the procedure, and, in a procedure of a standard module, each of a standard module to which names lead, as
-- often as written ones name it, where they call no procedure of its name: a result variable has that of its procedure. What has the name of a module breaks U20 itself; a variable
-- of a user type or a class with such a name, or a property that gives an object, might be taken for the module, since fields stand behind it.
pub record SameUses (S : Scope) (p : ℕ) (es : List Expr) (ws : List Exp) : Type 0 where
  pub own :
      (v : ℕ) (x : Variable) → slice_get S.declarations.vars v ≡ Some x → belongs_to p x.owner ≡ true → IsAlone S.declarations p v x
      → IsFirst S.declarations x → list_any (is_call_of S.declarations x.name) (flat_map nodes es) ≡ false
      → total (uses v) es ≡ total (names (path_names (is_group_type x.ty) x.name)) ws
  pub shared :
      (v : ℕ) (x : Variable) (file : ℕ) → slice_get S.declarations.vars v ≡ Some x → x.owner ≡ owner.Module file
      → stands_outside S.declarations (slice_get S.declarations.procs p) ≡ true
      → is_reached S.declarations p v x.name x.owner ≡ true → IsSharedAlone S.declarations v file x
      → IsFirst S.declarations x → list_any (is_call_in S.declarations (module_name S.declarations file) x.name) (flat_map nodes es) ≡ false
      → list_any (is_group_named S.declarations (module_name S.declarations file)) (flat_map nodes es) ≡ false
      → total (uses v) es ≡ total (names (shared_names (is_group_type x.ty) (nat_eq S.file file) (module_name S.declarations file) x.name)) ws

-- the expressions of an array that a ReDim makes anew, on both sides; a lower bound is a constant, which isn't written as it stands
abbrev pub extent_exprs : Extent → List Expr
extent_exprs x = option_to_list x.0 ++ x.1 ∷ []

abbrev pub resize_exprs : Resize → List Expr
resize_exprs r = r.array ∷ flat_map extent_exprs r.extents

abbrev pub listed : Exps → List Exp
listed no_exps = []
listed (next_exp e es) = e ∷ listed es

abbrev pub redim_exps : net.ReDimItem → List Exp
redim_exps r = r.array ∷ listed r.bounds

-- the expressions of an item of a Case
abbrev pub case_exps : net.CaseItem → List Exp
case_exps (net.case_value e) = e ∷ []
case_exps (net.case_range d e) = d ∷ e ∷ []
case_exps (net.case_is o e) = e ∷ []

-- a MsgBox is written as a call of Box, Err.Raise as one of Raise, Err.Clear as one of ErrClear, and a call of a procedure as one
abbrev pub CallCorresponds : Scope → (procedure : ℕ) → List Expr → net.Line → Type 0
CallCorresponds S p (typed ty (library f given) ∷ []) (net.call callee args) =
    (text : Exp) × (callee ≡ net.path (support (codes "Box"))) × (args ≡ one text) × SameUses S p (typed ty (library f given) ∷ []) (text ∷ [])
CallCorresponds S p (typed ty (call q qualified of given) ∷ []) (net.call callee args) =
    SameUses S p (typed ty (call q qualified of given) ∷ []) (net.call_of callee args ∷ [])
CallCorresponds S p (typed ty (err_raise e) ∷ []) (net.call callee args) =
    (number : Exp) × (callee ≡ net.path (support (codes "Raise"))) × (args ≡ one number) × SameUses S p (typed ty (err_raise e) ∷ []) (number ∷ [])
CallCorresponds S p (typed ty err_clear ∷ []) (net.call callee args) = (callee ≡ net.path (support (codes "ErrClear"))) × (args ≡ no_exps)
CallCorresponds S p _ w = ⊥

-- An assignment is written as one, or as a call of the function that evaluates the value before the target, and Debug.Print as a call of
-- PrintLine or, where it doesn't end the line, of PrintPart. A call is written as one, a ReDim as one of the same arrays, and an Erase as an
-- assignment to its array. What opens, parts or closes a block is written for one, a condition, the items of a Case and the expressions of a
-- For for theirs, and a line without expressions for one; which one that is the variant of its form says.
abbrev pub FormCorresponds : Scope → (procedure : ℕ) → Form → List Expr → net.Line → Type 0
FormCorresponds S p (source.assign target value) es (net.assign t v) = SameUses S p es (t ∷ v ∷ [])
FormCorresponds S p (source.assign target value) es (net.call callee args) =
    (ty : List ℕ) × (t : Exp) × (v : Exp) × (callee ≡ net.path (support (codes "Put" ++ ty))) × (args ≡ two v t) × SameUses S p es (t ∷ v ∷ [])
FormCorresponds S p (source.set target value) es (net.assign t v) = SameUses S p es (t ∷ v ∷ [])
FormCorresponds S p (source.debug_print items ended) es (net.call callee args) =
    (text : Exp) × (callee ≡ net.path (support (print_name ended))) × (args ≡ one text) × SameUses S p es (text ∷ [])
FormCorresponds S p (source.if_head condition) es (net.if_head e) = SameUses S p es (e ∷ [])
FormCorresponds S p (source.line_if condition) es (net.if_head e) = SameUses S p es (e ∷ [])
FormCorresponds S p (source.else_if condition) es (net.else_if e) = SameUses S p es (e ∷ [])
FormCorresponds S p source.else_line es net.else_line = Unit {0}
FormCorresponds S p source.end_if es net.end_if = Unit {0}
FormCorresponds S p (source.select value) es (net.select e) = SameUses S p es (e ∷ [])
FormCorresponds S p (source.case_line items) es (net.case_line ws) = SameUses S p es (flat_map case_exps ws)
FormCorresponds S p source.case_else es net.case_else = Unit {0}
FormCorresponds S p source.end_select es net.end_select = Unit {0}
FormCorresponds S p (source.for_head counter start limit step) es (net.for_head c from to by) = SameUses S p es (c ∷ from ∷ to ∷ option_to_list by)
FormCorresponds S p (source.next name) es net.next = Unit {0}
FormCorresponds S p source.do_head es net.do_head = Unit {0}
FormCorresponds S p (source.do_while condition) es (net.do_while e) = SameUses S p es (e ∷ [])
FormCorresponds S p (source.do_until condition) es (net.do_until e) = SameUses S p es (e ∷ [])
FormCorresponds S p source.loop es net.loop = Unit {0}
FormCorresponds S p (source.loop_while condition) es (net.loop_while e) = SameUses S p es (e ∷ [])
FormCorresponds S p (source.loop_until condition) es (net.loop_until e) = SameUses S p es (e ∷ [])
FormCorresponds S p (source.while_head condition) es (net.while_head e) = SameUses S p es (e ∷ [])
FormCorresponds S p source.wend es net.end_while = Unit {0}
FormCorresponds S p (source.with_head object) es (net.with_head e) = SameUses S p es (e ∷ [])
FormCorresponds S p source.end_with es net.end_with = Unit {0}
FormCorresponds S p (source.goto l) es (net.goto m) = Unit {0}
FormCorresponds S p (source.label l) es (net.label m) = Unit {0}
FormCorresponds S p (source.on_error_goto l) es (net.on_error_goto m) = Unit {0}
FormCorresponds S p source.on_error_goto_zero es net.on_error_goto_zero = Unit {0}
FormCorresponds S p source.on_error_resume_next es net.on_error_resume_next = Unit {0}
FormCorresponds S p source.resume es net.resume = Unit {0}
FormCorresponds S p source.resume_next es net.resume_next = Unit {0}
FormCorresponds S p (source.resume_at l) es (net.resume_at m) = Unit {0}
FormCorresponds S p (source.exit kind) es (net.exit what) = Unit {0}
FormCorresponds S p (source.redim preserve items) es (net.redim kept ws) =
    (kept ≡ preserve) × SameUses S p (flat_map resize_exprs (resizes items es)) (flat_map redim_exps ws)
FormCorresponds S p (source.erase array) es (net.assign t v) = SameUses S p es (t ∷ v ∷ [])
FormCorresponds S p (source.call callee) es w = CallCorresponds S p es w
FormCorresponds S p (source.invoke callee args) es w = CallCorresponds S p es w
FormCorresponds S p _ es w = ⊥
