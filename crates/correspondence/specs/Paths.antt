-- The paths in written trees, from the left and from the first line on.
use Rattle.std.specs.Prelude.{◌≡◌, true, List, [], ◌∷◌, ◌++◌, Option, Some, None}
use Rattle.std.specs.List.{flat_map}
use Rattle.net_tree.specs.Tree.{CaseItem, Dim, Exp, Exps, Line, Member, Module, Procedure, ReDimItem, assign, binary, call, call_of, case_is, case_line, case_range, case_value, cast, const_member, constant, ctype, do_until, do_while, dot, else_if, for_head, if_head, lit, local, loop_until, loop_while, me, new_array, new_object, next_exp, no_exps, nothing, paren, path, proc, property, redim, select, static_local, type_of, unary, variable, while_head, with_dot, with_head}
use Rattle.net_tree.specs.Spelling.{is_same_text}
use Rattle.written_trees.specs.Names.{Path}
use Rattle.written_trees.specs.Supports.{function_name}
use Rattle.correspondence.specs.Lists.{In}

abbrev mutual
  pub paths_of_exp : Exp → List Path
  paths_of_exp (lit l) = []
  paths_of_exp nothing = []
  paths_of_exp me = []
  paths_of_exp (path names) = names ∷ []
  paths_of_exp (with_dot name) = []
  paths_of_exp (dot e name) = paths_of_exp e
  paths_of_exp (call_of e args) = paths_of_exp e ++ paths_of_exps args
  paths_of_exp (cast w e) = paths_of_exp e
  paths_of_exp (ctype e t) = paths_of_exp e
  paths_of_exp (unary o e) = paths_of_exp e
  paths_of_exp (binary o a b) = paths_of_exp a ++ paths_of_exp b
  paths_of_exp (paren e) = paths_of_exp e
  paths_of_exp (new_object t args) = paths_of_exps args
  paths_of_exp (new_array t bounds) = paths_of_exps bounds
  paths_of_exp (type_of e t) = paths_of_exp e

  pub paths_of_exps : Exps → List Path
  paths_of_exps no_exps = []
  paths_of_exps (next_exp e more) = paths_of_exp e ++ paths_of_exps more

abbrev pub paths_of_option : Option Exp → List Path
paths_of_option None = []
paths_of_option (Some e) = paths_of_exp e

abbrev pub paths_of_case : CaseItem → List Path
paths_of_case (case_value e) = paths_of_exp e
paths_of_case (case_range a b) = paths_of_exp a ++ paths_of_exp b
paths_of_case (case_is o e) = paths_of_exp e

abbrev pub paths_of_redim : ReDimItem → List Path
paths_of_redim r = paths_of_exp r.array ++ paths_of_exps r.bounds

abbrev pub paths_of_counting : (counter from to : Exp) → Option Exp → List Path
paths_of_counting counter from to step = paths_of_exp counter ++ (paths_of_exp from ++ (paths_of_exp to ++ paths_of_option step))

abbrev pub paths_of_line : Line → List Path
paths_of_line (assign target value) = paths_of_exp target ++ paths_of_exp value
paths_of_line (call callee arguments) = paths_of_exp callee ++ paths_of_exps arguments
paths_of_line (if_head condition) = paths_of_exp condition
paths_of_line (else_if condition) = paths_of_exp condition
paths_of_line (select value) = paths_of_exp value
paths_of_line (case_line items) = flat_map paths_of_case items
paths_of_line (for_head counter from to step) = paths_of_counting counter from to step
paths_of_line (do_while condition) = paths_of_exp condition
paths_of_line (do_until condition) = paths_of_exp condition
paths_of_line (loop_while condition) = paths_of_exp condition
paths_of_line (loop_until condition) = paths_of_exp condition
paths_of_line (while_head condition) = paths_of_exp condition
paths_of_line (with_head object) = paths_of_exp object
paths_of_line (redim preserve items) = flat_map paths_of_redim items
paths_of_line _ = []

abbrev pub paths_of_dim : Dim → List Path
paths_of_dim (local v) = paths_of_option v.value
paths_of_dim (static_local v) = paths_of_option v.value
paths_of_dim (constant c) = paths_of_exp c.value

abbrev pub paths_of_procedure : Procedure → List Path
paths_of_procedure p = flat_map paths_of_dim p.prologue ++ flat_map paths_of_line p.lines

abbrev pub paths_of_part : Option Procedure → List Path
paths_of_part None = []
paths_of_part (Some p) = paths_of_procedure p

abbrev pub paths_of_member : Member → List Path
paths_of_member (variable visibility v) = paths_of_option v.value
paths_of_member (const_member visibility c) = paths_of_exp c.value
paths_of_member (property p) = paths_of_part p.get ++ paths_of_part p.set
paths_of_member (proc p) = paths_of_procedure p
paths_of_member _ = []

abbrev pub paths_of_module : Module → List Path
paths_of_module m = flat_map paths_of_member m.members

-- ---- functions of the support module

-- a path that begins with the name of a module names a function of it
abbrev pub NamesFunction : Module → Path → Type 0
NamesFunction m [] = Unit {0}
NamesFunction m (name ∷ []) = Unit {0}
NamesFunction m (outer ∷ name ∷ more) =
    is_same_text outer m.name ≡ true → (f : Procedure) × In (proc f) m.members × (function_name f ≡ name) × (more ≡ [])

abbrev pub Each : {A : Type 0} → (A → Type 0) → List A → Type 0
Each P [] = Unit {0}
Each P (x ∷ xs) = P x × Each P xs
