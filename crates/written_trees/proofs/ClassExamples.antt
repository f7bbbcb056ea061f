-- A class as it is written, worked out by hand.
use Rattle.std.proofs.Common.{◌≡◌, ℕ, pos, negsuc, true, List, [], ◌∷◌, codes, Some, None, refl}
use Rattle.std.specs.Fmt.{digits}
use Rattle.std.specs.List.{flat_map}
use Rattle.vb_tree.specs.BoundTree.{integer, long, nothing}
use Rattle.vb_tree.specs.declared.declared.Owner.TheVariants as owner
use Rattle.vb_tree.specs.declared.declared.ProcKind.TheVariants as kind
use Rattle.vb_tree.specs.declared.form_parts.Visibility.TheVariants as seen
use Rattle.vb_tree.specs.declared.project.ProjectKind.TheVariants.{OleDll}
use Rattle.vb_tree.specs.declared.token.Suffix.TheVariants.{Absent}
use Rattle.vb_tree.specs.declared.value.Value6.TheVariants as v
use Rattle.vb_tree.specs.Tree.{Line, Member, no_nodes, next_node}
use Rattle.vb_tree.specs.Tree as source
use Rattle.bound_tree.specs.RuleSets.{has, none, with_rule, both}
use Rattle.bound_tree.specs.Tree.{Constant, Declarations, Procedure, Program}
use Rattle.net_tree.specs.Declarations.{member_text}
use Rattle.net_tree.specs.Spelling.{is_bracketed}
use Rattle.net_tree.proofs.WrittenLines.{text_of}
use Rattle.net_tree.specs.Tree as net
use Rattle.written_trees.specs.Facts.{Facts}
use Rattle.written_trees.specs.Order.{written_order}
use Rattle.written_trees.specs.Projects.{written_project, written_modules}
use Rattle.written_trees.proofs.Sample.{at_line, breaks, declared, facts_with, int, as_type, module_of, procedure, var, var_id, proc_id}

-- The source:
--
--     Public Const K = -5
--     Enum Kinds ' kinds
--         Small
--     End Enum
--     Private Sub class_initialize()
--     End Sub
--     Property Get A() As Long
--         A = 1
--     End Property
--     Friend Property Let A(ByVal v As Integer)
--     End Property
abbrev line : ℕ → List ℕ → source.Form → Line
line n units form = record { place = at_line 1 n; text = units; form = form }

abbrev signature : source.Signature
signature = record { visibility = None; name = codes "A"; suffix = Absent; params = [] }

abbrev get_line : Line
get_line = line 8 [] (source.assign source.me source.me)

abbrev members : List Member
members =
    source.alone (line 1 [] (source.constants (Some seen.Public) []))
    ∷ source.group (line 2 (codes "Enum Kinds") (source.enum_head None (codes "Kinds") Absent)) (line 3 [] (source.enum_member (codes "Small") Absent None) ∷ []) (line 4 [] source.end_enum)
    ∷ source.proc (line 5 [] (source.sub_head signature)) no_nodes (line 6 [] source.end_sub)
    ∷ source.proc (line 7 (codes "Property Get A() As Long") (source.get_head signature None)) (next_node (source.line get_line) no_nodes) (line 9 [] source.end_property)
    ∷ source.proc (line 10 (codes "Friend Property Let A(ByVal v As Integer)") (source.let_head signature)) no_nodes (line 11 [] source.end_property)
    ∷ []

abbrev constant_k : Constant
constant_k = record { name = codes "K"; place = at_line 1 1; statement = 0; owner = owner.Module 1; ty = integer; value = Some (v.Int (negsuc 4)) }

abbrev private_sub : Procedure
private_sub = record (procedure (codes "class_initialize") 1 4 kind.Sub [] nothing None 0) { visibility = seen.Private }

abbrev friend_let : Procedure
friend_let = record (procedure (codes "A") 1 9 kind.Let (var_id 1 ∷ []) nothing None 1) { visibility = seen.Friend }

abbrev declarations : Declarations
declarations = record {
  project = record { file = record { kind = OleDll; startup = None; entries = []; dropped = [] }; modules = module_of 1 (codes "Node") true members ((2, codes " kinds") ∷ []) ∷ [] };
  names = [];
  vars = declared (codes "A") 1 6 (owner.Answer (proc_id 1)) long ∷ declared (codes "v") 1 9 (owner.Value (proc_id 2)) integer ∷ [];
  consts = constant_k ∷ [];
  procs = private_sub ∷ procedure (codes "A") 1 6 kind.Get [] long (Some (var_id 0)) 1 ∷ friend_let ∷ [];
  types = [];
  enums = [];
  defaults = [];
}

abbrev program : Program
program = record {
  declarations = declarations;
  bodies =
      []
      ∷ (record { source = get_line; bindings = record { exprs = var 0 long ∷ as_type long (int (pos 1)) ∷ []; rules = none; mentions = [] } } ∷ [])
      ∷ [] ∷ [];
}

-- the parts of the property don't fit together, and a class has no Enum
abbrev facts : Facts
facts = record (facts_with []) {
  marks = record { lines = []; heads = none ∷ breaks 7 ∷ breaks 7 ∷ []; vars = []; consts = []; types = []; enums = breaks 4 ∷ [] };
}

abbrev text_in : List net.Module → List ℕ
text_in [] = []
text_in (m ∷ ms) = flat_map member_text m.members

the_class : text_in (written_modules program facts) ≡ text_of (
    codes "    Public Sub New()"
    ∷ codes "        Class_Initialize()"
    ∷ codes "    End Sub"
    ∷ codes "    Public Const K As Short = &HFFFBS"
    ∷ codes "    ' kinds"
    ∷ codes "    'UPGRADE U04: Enum Kinds"
    ∷ codes "    Private Sub class_initialize()"
    ∷ codes "    End Sub"
    ∷ codes "    'UPGRADE U07: Property Get A() As Long"
    ∷ codes "    Public Function _Get_A() As Integer"
    ∷ codes "        A = 1"
    ∷ codes "    End Function"
    ∷ codes "    'UPGRADE U07: Friend Property Let A(ByVal v As Integer)"
    ∷ codes "    Friend Sub _Let_A(ByVal v As Short)"
    ∷ codes "    End Sub"
    ∷ [])
unfolding digits is_bracketed none has both with_rule lib.Utf8.encode
the_class = refl

starts_nowhere : (written_project program facts).main ≡ None
starts_nowhere = refl

-- Sub New is none of the source's procedures
order : written_order program facts ≡ None ∷ Some 0 ∷ Some 1 ∷ Some 2 ∷ []
unfolding has none both with_rule
order = refl
