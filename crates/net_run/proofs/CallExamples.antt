-- Runs that are computed: procedures, structures, objects, With, Static, and the order in which things are evaluated.
use Rattle.std.proofs.Common.{◌≡◌, refl, ℕ, List, [], ◌∷◌, map, codes, Some, None}
use Rattle.std.specs.Fmt.{digits}
use Rattle.net_tree.specs.declared.expression.NetBin.TheVariants as op
use Rattle.net_tree.specs.declared.line.NetExit.TheVariants as exits
use Rattle.net_tree.specs.FlatLines.{procedures_of}
use Rattle.net_tree.specs.Tree as net
use Rattle.net_tree.specs.Tree.{Exp, no_exps, next_exp, Member, Module, Project}
use Rattle.net_tree.specs.Types as t
use Rattle.net_tree.specs.Types.{TypeName}
use Rattle.net_run.specs.Members.{codes_of}
use Rattle.net_run.specs.Program.{program_runs}
use Rattle.net_run.proofs.Writing.{name, behind, int, short, text, one, two, calls, with_support, plus, below, let_be, support_line, say, say_number, line_text, named_as, dim, dim_array, field, sub, sub_new, function, property, structure, class, value_param, ref_param, project, puts, lines, lines_then, left_meaning}

abbrev a : Exp
a = name (codes "a")

abbrev n : Exp
n = name (codes "n")

abbrev v : Exp
v = name (codes "v")

abbrev p : Exp
p = name (codes "p")

abbrev q : Exp
q = name (codes "q")

abbrev element : Exp → Exp → Exp
element of i = net.call_of of (one i)

-- ---- procedures

-- `Bump` adds 1 to what it is given by reference; `Fact` calls itself
abbrev bump : Member
bump = sub (codes "Bump") (ref_param (codes "n") t.integer ∷ []) [] (let_be n (plus n (int 1)) ∷ [])

abbrev fact : Member
fact = function (codes "Fact") (value_param (codes "n") t.integer ∷ []) t.integer []
    (net.if_head (below n (int 2))
    ∷ let_be (name (codes "fact")) (int 1)
    ∷ net.exit exits.Function
    ∷ net.end_if
    ∷ let_be (name (codes "Fact")) (net.binary op.Mul n (calls (name (codes "Fact")) (one (net.binary op.Sub n (int 1)))))
    ∷ [])

abbrev bumps : Exp → net.Line
bumps e = net.call (name (codes "Bump")) (one e)

procedures : puts
    (project
    (sub (codes "Main") [] (dim (codes "a") t.integer ∷ dim_array (codes "v") t.integer (int 1) ∷ [])
    (let_be a (int 5)
    ∷ bumps a
    ∷ bumps (net.paren a)
    ∷ say_number a
    ∷ bumps (element v (int 1))
    ∷ bumps (element v a)
    ∷ [])
    ∷ bump ∷ []) [] [])
    (lines_then (codes "6" ∷ []) 9)
unfolding digits
procedures = refl

functions : puts
    (project (sub (codes "Main") [] [] (say_number (calls (behind (codes "Main1") (codes "Fact")) (one (int 3))) ∷ []) ∷ fact ∷ []) [] [])
    (lines (codes "6" ∷ []))
unfolding digits
functions = refl

-- a reference argument of another type than its parameter's
other_type : left_meaning (program_runs
    (project (sub (codes "Main") [] (dim (codes "a") t.short ∷ []) (bumps a ∷ []) ∷ bump ∷ []) [] []) 90 0 [])
    ≡ Some []
other_type = refl

-- an Exit Sub clears the Err number; reaching the last line doesn't
err_cleared : puts
    (project
    (sub (codes "Main") [] []
    (net.on_error_resume_next
    ∷ support_line (codes "Raise") (one (int 5))
    ∷ net.call (name (codes "Ends")) no_exps
    ∷ say_number (with_support (codes "ErrNumber") no_exps)
    ∷ net.call (name (codes "Leaves")) no_exps
    ∷ say_number (with_support (codes "ErrNumber") no_exps)
    ∷ [])
    ∷ sub (codes "Ends") [] [] []
    ∷ sub (codes "Leaves") [] [] (net.exit exits.Sub ∷ [])
    ∷ []) [] [])
    (lines (codes "5" ∷ codes "0" ∷ []))
unfolding digits
err_cleared = refl

-- a Static is made once
statics : puts
    (project
    (sub (codes "Main") [] [] (net.call (name (codes "Count")) no_exps ∷ net.call (name (codes "count")) no_exps ∷ [])
    ∷ sub (codes "Count") []
    (net.static_local (named_as (codes "c") t.integer None) ∷ net.constant (record { name = codes "k"; ty = t.integer; value = int 2 }) ∷ [])
    (let_be (name (codes "c")) (plus (name (codes "c")) (name (codes "k"))) ∷ say_number (name (codes "c")) ∷ [])
    ∷ []) [] [])
    (lines (codes "2" ∷ codes "4" ∷ []))
unfolding digits
statics = refl

-- ---- orders: `F` prints F and gives 5, `G` prints G and gives 1

abbrev loud : List ℕ → (ty : TypeName) → Exp → Member
loud of ty e = function of [] ty [] (say (text of) ∷ let_be (name of) e ∷ [])

abbrev f : Exp
f = calls (name (codes "F")) no_exps

abbrev g : Exp
g = calls (name (codes "G")) no_exps

abbrev orders : net.Line → Project
orders l = project
    (sub (codes "Main") [] (dim_array (codes "v") t.short (int 1) ∷ []) (l ∷ [])
    ∷ loud (codes "F") t.integer (int 5)
    ∷ loud (codes "G") t.short (short 1)
    ∷ []) [] []

-- the parts of the target come first, and its index is checked at the store
target_first : puts (orders (let_be (element v f) g)) (lines_then (codes "F" ∷ codes "G" ∷ []) 9)
target_first = refl

-- a Put evaluates the value first
value_first : puts (orders (support_line (codes "PutShort") (two g (element v f)))) (lines_then (codes "G" ∷ codes "F" ∷ []) 9)
value_first = refl

-- ---- structures, in which arrays are shared unless they are copied

abbrev point_type : TypeName
point_type = t.named (codes "Pt" ∷ [])

abbrev foreign_type : TypeName
foreign_type = t.named (codes "Main1" ∷ codes "Pt" ∷ [])

abbrev point : Member
point = structure (codes "Pt")
    (net.field (codes "X") t.short ∷ net.field_comment (codes "items") ∷ net.field (codes "Items") (t.array_of t.short 1) ∷ [])

abbrev new_point : Member
new_point = function (codes "New1") [] foreign_type (dim (codes "r") foreign_type ∷ [])
    (let_be (behind (codes "r") (codes "Items")) (net.new_array t.short (one (int 2))) ∷ let_be (name (codes "New1")) (name (codes "r")) ∷ [])

abbrev copy_point : Member
copy_point = function (codes "Copy1") (value_param (codes "x") foreign_type ∷ []) foreign_type
    (net.local (named_as (codes "r") foreign_type (Some (name (codes "x")))) ∷ [])
    (let_be (behind (codes "r") (codes "Items"))
    (net.ctype (net.call_of (net.path (codes "x" ∷ codes "Items" ∷ codes "Clone" ∷ [])) no_exps) (t.array_of t.short 1))
    ∷ let_be (name (codes "Copy1")) (name (codes "r"))
    ∷ [])

abbrev dim_point : List ℕ → net.Dim
dim_point of = net.local (named_as of point_type (Some (with_support (codes "New1") no_exps)))

abbrev items : List ℕ → Exp → Exp
items of i = element (behind of (codes "Items")) i

structures : puts
    (project
    (sub (codes "Main") [] (dim_point (codes "p") ∷ dim_point (codes "q") ∷ [])
    (let_be (behind (codes "p") (codes "X")) (short 1)
    ∷ let_be (items (codes "p") (int 0)) (short 5)
    ∷ let_be q p
    ∷ let_be (behind (codes "q") (codes "X")) (short 2)
    ∷ let_be (items (codes "q") (int 0)) (short 6)
    ∷ say_number (behind (codes "p") (codes "X"))
    ∷ say_number (items (codes "p") (int 0))
    ∷ let_be q (with_support (codes "Copy1") (one p))
    ∷ let_be (items (codes "q") (int 0)) (short 7)
    ∷ say_number (items (codes "p") (int 0))
    ∷ say_number (items (codes "q") (int 0))
    ∷ say_number (items (codes "q") (int 3))
    ∷ [])
    ∷ point ∷ []) [] (new_point ∷ copy_point ∷ []))
    (lines_then (codes "1" ∷ codes "6" ∷ codes "6" ∷ codes "7" ∷ []) 9)
unfolding digits
structures = refl

-- a With on a structure: on a variable, and on what a function gives, which is a place of its own
withs_on_structures : puts
    (project
    (sub (codes "Main") [] (dim_point (codes "p") ∷ [])
    (net.with_head p
    ∷ let_be (net.with_dot (codes "X")) (short 4)
    ∷ let_be (element (net.with_dot (codes "Items")) (int 1)) (short 3)
    ∷ net.end_with
    ∷ say_number (behind (codes "p") (codes "X"))
    ∷ say_number (items (codes "p") (int 1))
    ∷ net.with_head (calls (name (codes "Give")) (one p))
    ∷ let_be (net.with_dot (codes "X")) (short 9)
    ∷ say_number (net.with_dot (codes "X"))
    ∷ net.end_with
    ∷ say_number (behind (codes "p") (codes "X"))
    ∷ [])
    ∷ point
    ∷ function (codes "Give") (value_param (codes "x") point_type ∷ []) point_type [] (let_be (name (codes "Give")) (name (codes "x")) ∷ [])
    ∷ []) [] (new_point ∷ []))
    (lines (codes "4" ∷ codes "3" ∷ codes "9" ∷ codes "4" ∷ []))
unfolding digits
withs_on_structures = refl

-- ---- objects

abbrev node_type : TypeName
node_type = t.named (codes "Node" ∷ [])

-- a class with variables V and Kid, an Initialize that prints "made", a property `Item(i)` of V + i, a Sub and a Function
abbrev node : Module
node = class (codes "Node")
    (sub_new
    ∷ field (codes "V") t.integer
    ∷ field (codes "Kid") node_type
    ∷ sub (codes "Class_Initialize") [] [] (let_be (name (codes "V")) (int 10) ∷ say (text (codes "made")) ∷ [])
    ∷ property (codes "Item") (value_param (codes "i") t.integer ∷ []) t.integer
    (let_be (name (codes "Item")) (plus (name (codes "V")) (name (codes "i"))) ∷ [])
    (codes "x")
    (let_be (name (codes "V")) (net.binary op.Sub (name (codes "x")) (name (codes "i"))) ∷ [])
    ∷ sub (codes "Add") (ref_param (codes "k") t.integer ∷ []) [] (let_be (name (codes "k")) (plus (name (codes "k")) (name (codes "V"))) ∷ [])
    ∷ function (codes "Itself") [] node_type [] (let_be (name (codes "Itself")) net.me ∷ [])
    ∷ [])

abbrev with_node : List net.Dim → List net.Line → Project
with_node dims body = project (sub (codes "Main") [] (dim (codes "n") node_type ∷ dims) body ∷ []) (node ∷ []) []

abbrev new_node : net.Line
new_node = let_be n (net.new_object node_type no_exps)

-- procedures are numbered as the tree numbers them
numbered : map (λ c. c.procedure) (codes_of (with_node [] [])) ≡ procedures_of (with_node [] [])
numbered = refl

objects : puts
    (with_node (dim (codes "a") t.integer ∷ [])
    (new_node
    ∷ say_number (behind (codes "n") (codes "V"))
    ∷ say_number (element (behind (codes "n") (codes "Item")) (int 5))
    ∷ let_be (element (behind (codes "n") (codes "Item")) (int 1)) (int 20)
    ∷ let_be a (int 1)
    ∷ net.call (behind (codes "n") (codes "Add")) (one a)
    ∷ say_number a
    ∷ let_be (net.dot (with_support (codes "Auto_Node") (one (behind (codes "n") (codes "Kid")))) (codes "V")) (int 3)
    ∷ say_number (net.dot (with_support (codes "Auto_Node") (one (behind (codes "n") (codes "Kid")))) (codes "V"))
    ∷ say_number (net.dot (calls (behind (codes "n") (codes "Itself")) no_exps) (codes "V"))
    ∷ []))
    (lines (codes "made" ∷ codes "10" ∷ codes "15" ∷ codes "20" ∷ codes "made" ∷ codes "3" ∷ codes "19" ∷ []))
unfolding digits
objects = refl

-- a With on an object, and one on Nothing, which raises 91 at a use alone; its arguments are evaluated before that
withs_on_objects : puts
    (with_node (dim (codes "a") t.integer ∷ [])
    (new_node
    ∷ net.with_head n
    ∷ let_be n net.nothing
    ∷ let_be (net.with_dot (codes "V")) (int 4)
    ∷ net.call (net.with_dot (codes "Add")) (one a)
    ∷ net.end_with
    ∷ say_number a
    ∷ net.with_head n
    ∷ say (text (codes "head"))
    ∷ net.call (net.with_dot (codes "Add")) (one (net.binary op.IntDiv (int 1) (int 0)))
    ∷ net.end_with
    ∷ []))
    (lines_then (codes "made" ∷ codes "4" ∷ codes "head" ∷ []) 11)
unfolding digits
withs_on_objects = refl

-- a use of Nothing: of a variable as it is stored, and of a procedure
nothing_used : puts
    (with_node (dim (codes "a") t.integer ∷ [])
    (net.on_error_resume_next
    ∷ let_be (behind (codes "n") (codes "V")) (int 1)
    ∷ say_number (with_support (codes "ErrNumber") no_exps)
    ∷ net.on_error_goto_zero
    ∷ net.call (behind (codes "n") (codes "Add")) (one a)
    ∷ []))
    (lines_then (codes "91" ∷ []) 91)
unfolding digits
nothing_used = refl

-- a property that goes by reference stands in parentheses
property_given : puts
    (with_node []
    (new_node ∷ net.call (behind (codes "n") (codes "Add")) (one (net.paren (element (behind (codes "n") (codes "Item")) (int 1)))) ∷ []))
    (lines (codes "made" ∷ []))
property_given = refl

property_by_reference : left_meaning (program_runs
    (with_node []
    (new_node ∷ net.call (behind (codes "n") (codes "Add")) (one (element (behind (codes "n") (codes "Item")) (int 1))) ∷ [])) 90 0 [])
    ≡ Some (line_text (codes "made") ∷ [])
property_by_reference = refl
