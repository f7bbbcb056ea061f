-- A module as it is written, worked out by hand.
use Rattle.std.proofs.Common.{◌≡◌, ℕ, pos, false, List, [], ◌∷◌, codes, Some, None, refl}
use Rattle.std.specs.Fmt.{digits}
use Rattle.std.specs.List.{flat_map}
use Rattle.vb_tree.specs.BoundTree.{long, variant}
use Rattle.vb_tree.specs.declared.form_parts.VarWord.TheVariants as var_word
use Rattle.vb_tree.specs.declared.token.Suffix.TheVariants.{Absent}
use Rattle.vb_tree.specs.Tree.{Exp, Form, Line, Member, Node, Nodes, no_nodes, next_node, no_middles, Signature}
use Rattle.vb_tree.specs.Tree as source
use Rattle.bound_tree.specs.RuleSets.{has, none, with_rule, both}
use Rattle.bound_tree.specs.Tree.{Expr, Program}
use Rattle.bound_tree.specs.Tree as bound
use Rattle.net_tree.specs.Declarations.{member_text}
use Rattle.net_tree.specs.Spelling.{is_bracketed}
use Rattle.net_tree.proofs.WrittenLines.{text_of}
use Rattle.net_tree.specs.Tree as net
use Rattle.written_trees.specs.Facts.{Facts}
use Rattle.written_trees.specs.Order.{written_order}
use Rattle.written_trees.specs.Projects.{written_project, written_modules}
use Rattle.written_trees.proofs.Sample.{declarations_with, facts_with, breaks, at_line, var, the_n, int, as_type}

-- The source:
--
--     Private Type Basket ' head
--         Items() As Long ' items
--     End Type
--     Public n As Long, d As Double ' both
--     Sub Main() ' main
--         Dim i As Integer, a(1 To 10) As Integer, c As New Node, f As String * 3, v
--         Static p As Basket
--         For Each x In d ' each
--             x = 1
--         Next
--     End Sub ' end
--     Property Get Prop() As Long
--         Prop = n
--     End Property
--     ' between
--     Property Let prop(ByVal w As Long) ' let
--         n = w
--     End Property
--     ' last
abbrev any : Exp
any = source.me

abbrev line : ℕ → List ℕ → Form → Line
line n units form = record { place = at_line 1 n; text = units; form = form }

abbrev signature : List ℕ → Signature
signature name = record { visibility = None; name = name; suffix = Absent; params = [] }

abbrev simple : ℕ → Form → Node
simple n form = source.line (line n [] form)

abbrev only : Node → Nodes
only a = next_node a no_nodes

abbrev each_head : Line
each_head = line 8 (codes "For Each x In d") (source.for_each (codes "x") Absent any)

abbrev inner_line : Line
inner_line = line 9 [] (source.assign any any)

abbrev next_line : Line
next_line = line 10 [] (source.next None)

abbrev get_line : Line
get_line = line 13 [] (source.assign any any)

abbrev let_line : Line
let_line = line 17 [] (source.assign any any)

abbrev main_body : Nodes
main_body =
    next_node (simple 6 (source.variables var_word.Dim []))
    (next_node (simple 7 (source.variables var_word.Static [])) (only (source.block each_head (only (source.line inner_line)) no_middles next_line)))

abbrev members : List Member
members =
    source.group (line 1 (codes "Private Type Basket") (source.type_head None (codes "Basket") Absent)) (line 2 [] source.option_explicit ∷ []) (line 3 [] source.end_type)
    ∷ source.alone (line 4 (codes "Public n As Long, d As Double") (source.variables var_word.Public []))
    ∷ source.proc (line 5 [] (source.sub_head (signature (codes "Main")))) main_body (line 11 [] source.end_sub)
    ∷ source.proc (line 12 [] (source.get_head (signature (codes "Prop")) None)) (only (source.line get_line)) (line 14 [] source.end_property)
    ∷ source.proc (line 16 [] (source.let_head (signature (codes "prop")))) (only (source.line let_line)) (line 18 [] source.end_property)
    ∷ []

abbrev comments : List (ℕ × List ℕ)
comments =
    (1, codes " head") ∷ (2, codes " items") ∷ (4, codes " both") ∷ (5, codes " main") ∷ (8, codes " each") ∷ (11, codes " end")
    ∷ (15, codes " between") ∷ (16, codes " let") ∷ (19, codes " last") ∷ []

abbrev bound_line : Line → List Expr → bound.Line
bound_line l es = record { source = l; bindings = record { exprs = es; rules = none; mentions = [] } }

abbrev program : Program
program = record {
  declarations = declarations_with members comments;
  bodies =
      (bound_line each_head [] ∷ bound_line inner_line (var 16 variant ∷ as_type variant (int (pos 1)) ∷ []) ∷ bound_line next_line [] ∷ [])
      ∷ (bound_line get_line (var 14 long ∷ the_n ∷ []) ∷ [])
      ∷ (bound_line let_line (the_n ∷ var 15 long ∷ []) ∷ [])
      ∷ [] ∷ [] ∷ [];
}

-- the head of the For Each breaks rule 4
abbrev facts : Facts
facts = facts_with (breaks 4 ∷ [])

abbrev text_in : List net.Module → List ℕ
text_in [] = []
text_in (m ∷ ms) = flat_map member_text m.members

main_module : text_in (written_modules program facts) ≡ text_of (
    codes "    ' head"
    ∷ codes "    Public Structure Basket"
    ∷ codes "        ' items"
    ∷ codes "        Public Items() As Integer"
    ∷ codes "    End Structure"
    ∷ codes "    ' both"
    ∷ codes "    'UPGRADE U01: Public n As Long, d As Double"
    ∷ codes "    Public n As Integer"
    ∷ codes "    Public d As Object"
    ∷ codes "    ' main"
    ∷ codes "    Public Sub Main()"
    ∷ codes "        Dim i As Short"
    ∷ codes "        Dim a() As Short = New Short(9) {}"
    ∷ codes "        Dim c As Node"
    ∷ codes "        Dim f As String = UpgradeSupport.FixNew(3)"
    ∷ codes "        Dim v As Object"
    ∷ codes "        Static p As Basket = UpgradeSupport.New1()"
    ∷ codes "        Dim x As Object"
    ∷ codes "        Dim _f1 As Integer"
    ∷ codes "        ' each"
    ∷ codes "        'UPGRADE U04: For Each x In d"
    ∷ codes "        For _f1 = 1 To UpgradeSupport.NotUpgraded(4)"
    ∷ codes "            x = CObj(1S)"
    ∷ codes "        Next"
    ∷ codes "        ' end"
    ∷ codes "    End Sub"
    ∷ codes "    Public Property Prop() As Integer"
    ∷ codes "        Get"
    ∷ codes "            Prop = n"
    ∷ codes "        End Get"
    ∷ codes "        ' let"
    ∷ codes "        Set(ByVal w As Integer)"
    ∷ codes "            n = w"
    ∷ codes "        End Set"
    ∷ codes "    End Property"
    ∷ codes "    ' between"
    ∷ codes "    ' last"
    ∷ [])
unfolding digits is_bracketed none has both with_rule lib.Utf8.encode
main_module = refl

starts : (written_project program facts).main ≡ Some (codes "Main1")
starts = refl

is_no_library : (written_project program facts).library ≡ false
is_no_library = refl

-- the procedures of the source in the order of the written ones: Node and Other have no members here
order : written_order program facts ≡ Some 0 ∷ Some 1 ∷ Some 2 ∷ []
unfolding has none
order = refl
