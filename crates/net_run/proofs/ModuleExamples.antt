-- Runs that are computed: names in several modules, constants, user types inside of each other, and statics of classes.
use Rattle.std.proofs.Common.{◌≡◌, refl, ℕ, false, List, [], ◌∷◌, ◌++◌, codes, Some, None}
use Rattle.std.specs.Fmt.{digits}
use Rattle.net_tree.specs.declared.declaration.NetVisibility.TheVariants.{Public, Private}
use Rattle.net_tree.specs.declared.expression.NetBin.TheVariants as op
use Rattle.net_tree.specs.declared.line.NetExit.TheVariants as exits
use Rattle.net_tree.specs.declared.line.NetLabel.TheVariants as mark
use Rattle.net_tree.specs.Tree as net
use Rattle.net_tree.specs.Tree.{Exp, no_exps, next_exp, Member, Module, Project}
use Rattle.net_tree.specs.Types as t
use Rattle.net_tree.specs.Types.{TypeName}
use Rattle.run_base.specs.Outcomes.{outputs}
use Rattle.net_run.specs.Program.{program_runs}
use Rattle.net_run.proofs.Writing.{name, behind, int, text, one, calls, with_support, plus, equals, below, let_be, support_line, say, say_number, line_text, named_as, dim, dim_array, field, sub, function, property, structure, class, value_param, ref_param, project, puts, lines, lines_then, main_of}

abbrev standard : List ℕ → List Member → Module
standard a members = record { name = a; class = false; members = members }

abbrev element : Exp → Exp → Exp
element of i = net.call_of of (one i)

abbrev a : Exp
a = name (codes "a")

-- ---- a variable, a constant and an array of another module; a text with a unit that is no character of a literal

abbrev tab_text : Exp
tab_text = net.binary op.Concat (text (codes "a"))
    (calls (net.path (codes "Microsoft" ∷ codes "VisualBasic" ∷ codes "Strings" ∷ codes "ChrW" ∷ [])) (one (int 9)))

abbrev other : Module
other = standard (codes "Other")
    (net.member_comment (codes "a comment")
    ∷ field (codes "Total") t.integer
    ∷ net.const_member Public (record { name = codes "Tab"; ty = t.str; value = tab_text })
    ∷ net.variable Private (named_as (codes "Table") (t.array_of t.integer 1) (Some (net.new_array t.integer (one (int 1)))))
    ∷ sub (codes "Put") (value_param (codes "k") t.integer ∷ []) []
    (let_be (element (name (codes "table")) (int 1)) (name (codes "k"))
    ∷ let_be (name (codes "Total")) (plus (name (codes "total")) (element (name (codes "Table")) (int 1)))
    ∷ [])
    ∷ [])

foreign_names : puts
    (project
    (sub (codes "Main") [] []
    (net.call (behind (codes "other") (codes "put")) (one (int 3))
    ∷ net.call (behind (codes "Other") (codes "Put")) (one (int 4))
    ∷ say_number (behind (codes "Other") (codes "Total"))
    ∷ say (behind (codes "Other") (codes "Tab"))
    ∷ [])
    ∷ []) (other ∷ []) [])
    (lines (codes "7" ∷ (97 ∷ 9 ∷ []) ∷ []))
unfolding digits
foreign_names = refl

-- ---- an Outer holds an Inner, which holds a fixed string and an array; `New2` calls `New1`, and `Copy2` calls `Copy1`

abbrev named : List ℕ → TypeName
named of = t.named (codes "Main1" ∷ of ∷ [])

abbrev inner : Member
inner = structure (codes "Inner") (net.field (codes "Mark") t.str ∷ net.field (codes "Items") (t.array_of t.integer 1) ∷ [])

abbrev outer : Member
outer = structure (codes "Outer") (net.field (codes "K") t.integer ∷ net.field (codes "In") (t.named (codes "Inner" ∷ [])) ∷ [])

abbrev makes : List ℕ → TypeName → List net.Line → Member
makes of ty body = function of [] ty (dim (codes "r") ty ∷ []) (body ++ (let_be (name of) (name (codes "r")) ∷ []))

abbrev copies : List ℕ → TypeName → List net.Line → Member
copies of ty body = function of (value_param (codes "x") ty ∷ []) ty (net.local (named_as (codes "r") ty (Some (name (codes "x")))) ∷ [])
    (body ++ (let_be (name of) (name (codes "r")) ∷ []))

abbrev type_functions : List Member
type_functions =
    makes (codes "New1") (named (codes "Inner"))
    (let_be (behind (codes "r") (codes "Mark")) (calls (name (codes "FixNew")) (one (int 2)))
    ∷ let_be (behind (codes "r") (codes "Items")) (net.new_array t.integer (one (int 0)))
    ∷ [])
    ∷ copies (codes "Copy1") (named (codes "Inner"))
    (let_be (behind (codes "r") (codes "Items"))
    (net.ctype (calls (net.path (codes "x" ∷ codes "Items" ∷ codes "Clone" ∷ [])) no_exps) (t.array_of t.integer 1))
    ∷ [])
    ∷ makes (codes "New2") (named (codes "Outer")) (let_be (behind (codes "r") (codes "In")) (calls (name (codes "New1")) no_exps) ∷ [])
    ∷ copies (codes "Copy2") (named (codes "Outer"))
    (let_be (behind (codes "r") (codes "In")) (calls (name (codes "Copy1")) (one (behind (codes "x") (codes "In")))) ∷ [])
    ∷ []

abbrev in_items : List ℕ → Exp
in_items of = element (net.path (of ∷ codes "In" ∷ codes "Items" ∷ [])) (int 0)

abbrev dim_outer : List ℕ → net.Dim
dim_outer of = net.local (named_as of (t.named (codes "Outer" ∷ [])) (Some (with_support (codes "New2") no_exps)))

-- arguments by value are copied with `Copy2`; an array of structures begins with fields of their types
nested : puts
    (project
    (sub (codes "Main") [] (dim_outer (codes "p") ∷ dim_array (codes "v") (t.named (codes "Outer" ∷ [])) (int 1) ∷ [])
    (let_be (in_items (codes "p")) (int 5)
    ∷ net.call (name (codes "Change")) (one (with_support (codes "Copy2") (one (name (codes "p")))))
    ∷ say_number (in_items (codes "p"))
    ∷ net.call (name (codes "Change")) (one (name (codes "p")))
    ∷ say_number (in_items (codes "p"))
    ∷ say_number (net.path (codes "p" ∷ codes "K" ∷ []))
    ∷ say_number (equals (net.path (codes "p" ∷ codes "In" ∷ codes "Mark" ∷ [])) (with_support (codes "FixNew") (one (int 2))))
    ∷ let_be (net.dot (element (name (codes "v")) (int 1)) (codes "K")) (int 8)
    ∷ net.call (name (codes "Bump")) (one (net.dot (element (name (codes "v")) (int 1)) (codes "K")))
    ∷ say_number (net.dot (element (name (codes "v")) (int 1)) (codes "K"))
    ∷ [])
    ∷ sub (codes "Change") (value_param (codes "q") (t.named (codes "Outer" ∷ [])) ∷ []) []
    (let_be (in_items (codes "q")) (int 6) ∷ let_be (behind (codes "q") (codes "K")) (int 1) ∷ [])
    ∷ sub (codes "Bump") (ref_param (codes "n") t.integer ∷ []) [] (let_be (name (codes "n")) (plus (name (codes "n")) (int 1)) ∷ [])
    ∷ inner ∷ outer ∷ []) [] type_functions)
    (lines (codes "5" ∷ codes "6" ∷ codes "0" ∷ codes "True" ∷ codes "9" ∷ []))
unfolding digits
nested = refl

-- ---- a class: a Static in each object, a property that reads itself, a method that is called without an object, and Me behind a call of a
-- standard module

abbrev counter_type : TypeName
counter_type = t.named (codes "Counter" ∷ [])

abbrev counter : Module
counter = class (codes "Counter")
    (field (codes "Depth") t.integer
    ∷ function (codes "Tick") [] t.integer (net.static_local (named_as (codes "s") t.integer None) ∷ [])
    (let_be (name (codes "s")) (plus (name (codes "s")) (int 1)) ∷ let_be (name (codes "Tick")) (name (codes "s")) ∷ [])
    ∷ function (codes "Twice") [] t.integer []
    (let_be a (calls (name (codes "Tick")) no_exps)
    ∷ let_be (name (codes "Twice")) (plus a (calls (net.dot net.me (codes "Tick")) no_exps))
    ∷ [])
    ∷ field (codes "a") t.integer
    ∷ property (codes "Down") [] t.integer
    (net.if_head (below (name (codes "Depth")) (int 3))
    ∷ let_be (name (codes "Depth")) (plus (name (codes "Depth")) (int 1))
    ∷ let_be (name (codes "Down")) (plus (int 10) (calls (name (codes "Down")) no_exps))
    ∷ net.end_if
    ∷ [])
    (codes "x") (let_be (name (codes "Depth")) (name (codes "x")) ∷ [])
    ∷ [])

objects_apart : puts
    (project
    (sub (codes "Main") [] (dim (codes "m") counter_type ∷ dim (codes "n") counter_type ∷ [])
    (let_be (name (codes "m")) (net.new_object counter_type no_exps)
    ∷ let_be (name (codes "n")) (net.new_object counter_type no_exps)
    ∷ say_number (calls (behind (codes "m") (codes "Twice")) no_exps)
    ∷ say_number (calls (behind (codes "n") (codes "Tick")) no_exps)
    ∷ say_number (calls (behind (codes "m") (codes "Tick")) no_exps)
    ∷ let_be (behind (codes "m") (codes "Down")) (int 1)
    ∷ say_number (behind (codes "m") (codes "Down"))
    ∷ say_number (net.binary op.Is (name (codes "m")) (name (codes "n")))
    ∷ [])
    ∷ []) (counter ∷ []) [])
    (lines (codes "3" ∷ codes "1" ∷ codes "3" ∷ codes "20" ∷ codes "False" ∷ []))
unfolding digits
objects_apart = refl

-- ---- steps and lines that go back

-- six steps: the entry, one round of a Do, and two lines of the next
spent_in_loop : outputs (program_runs (main_of [] (net.do_head ∷ say (text (codes "x")) ∷ net.loop ∷ [])) 6 0 [])
    ≡ line_text (codes "x") ∷ line_text (codes "x") ∷ []
spent_in_loop = refl

-- `Resume L` and `Resume` behind an error: the line is tried again with another divisor
resumed : puts
    (main_of (dim (codes "a") t.integer ∷ [])
    (net.on_error_goto (mark.Word (codes "H"))
    ∷ say_number (net.binary op.IntDiv (int 6) a)
    ∷ support_line (codes "Raise") (one (int 7))
    ∷ say (text (codes "never"))
    ∷ net.label (mark.Word (codes "L"))
    ∷ say (text (codes "end"))
    ∷ net.exit exits.Sub
    ∷ net.label (mark.Word (codes "H"))
    ∷ net.if_head (equals (with_support (codes "ErrNumber") no_exps) (int 7))
    ∷ net.resume_at (mark.Word (codes "l"))
    ∷ net.end_if
    ∷ let_be a (int 2)
    ∷ net.resume
    ∷ []))
    (lines (codes "3" ∷ codes "end" ∷ []))
unfolding digits
resumed = refl

-- an error in a handler leaves the procedure, also behind a further On Error
raised_in_handler : puts
    (main_of []
    (net.on_error_goto (mark.Word (codes "H"))
    ∷ support_line (codes "Raise") (one (int 7))
    ∷ net.label (mark.Word (codes "H"))
    ∷ net.on_error_resume_next
    ∷ support_line (codes "Raise") (one (int 8))
    ∷ say (text (codes "never"))
    ∷ []))
    (lines_then [] 8)
raised_in_handler = refl
