-- How small projects are written down in examples, and how a run ends.
use Rattle.std.proofs.Common.{◌≡◌, ℕ, pos, negsuc, true, false, List, [], ◌∷◌, ◌++◌, map, codes, Option, Some, None}
use Rattle.net_tree.specs.declared.declaration.NetClose.TheVariants.{EndSub, EndFunction, EndGet, EndSet}
use Rattle.net_tree.specs.declared.declaration.NetPassing.TheVariants as passing
use Rattle.net_tree.specs.declared.declaration.NetVisibility.TheVariants.{Public}
use Rattle.net_tree.specs.declared.expression.CastWord.TheVariants as word
use Rattle.net_tree.specs.declared.expression.NetBin.TheVariants as op
use Rattle.net_tree.specs.Tree as net
use Rattle.net_tree.specs.Tree.{Exp, Exps, no_exps, next_exp, Line, Dim, Member, Module, Project, Param}
use Rattle.net_tree.specs.Types as t
use Rattle.net_tree.specs.Types.{TypeName}
use Rattle.run_base.specs.Outcomes.{Output, printed, Outcome, gives, raises, spent, outside}
use Rattle.net_run.specs.Program.{program_runs}

-- ---- expressions

abbrev pub name : List ℕ → Exp
name a = net.path (a ∷ [])

abbrev pub behind : List ℕ → List ℕ → Exp
behind a b = net.path (a ∷ b ∷ [])

abbrev pub int : ℕ → Exp
int k = net.lit (net.integer (pos k) false)

abbrev pub short : ℕ → Exp
short k = net.lit (net.short (pos k) false)

abbrev pub text : List ℕ → Exp
text s = net.lit (net.str s)

-- the extent of an empty array
abbrev pub no_extent : Exp
no_extent = net.lit (net.integer (negsuc 0) false)

abbrev pub one : Exp → Exps
one a = next_exp a no_exps

abbrev pub two : Exp → Exp → Exps
two a b = next_exp a (one b)

abbrev pub three : Exp → Exp → Exp → Exps
three a b c = next_exp a (two b c)

abbrev pub calls : Exp → Exps → Exp
calls a args = net.call_of a args

abbrev pub with_support : List ℕ → Exps → Exp
with_support f args = net.call_of (behind (codes "UpgradeSupport") f) args

abbrev pub plus : Exp → Exp → Exp
plus a b = net.binary op.Add a b

abbrev pub equals : Exp → Exp → Exp
equals a b = net.binary op.Equal a b

abbrev pub below : Exp → Exp → Exp
below a b = net.binary op.Less a b

-- ---- lines

abbrev pub let_be : Exp → Exp → Line
let_be a e = net.assign a e

abbrev pub support_line : List ℕ → Exps → Line
support_line f args = net.call (behind (codes "UpgradeSupport") f) args

abbrev pub say : Exp → Line
say e = support_line (codes "PrintLine") (one e)

abbrev pub say_number : Exp → Line
say_number e = say (net.cast word.CStr e)

-- ---- declarations

abbrev pub named_as : List ℕ → TypeName → Option Exp → net.Variable
named_as a ty e = record { name = a; ty = ty; value = e }

abbrev pub dim : List ℕ → TypeName → Dim
dim a ty = net.local (named_as a ty None)

abbrev pub dim_array : List ℕ → TypeName → (extent : Exp) → Dim
dim_array a ty e = net.local (named_as a (t.array_of ty 1) (Some (net.new_array ty (one e))))

abbrev pub field : List ℕ → TypeName → Member
field a ty = net.variable Public (named_as a ty None)

abbrev pub value_param : List ℕ → TypeName → Param
value_param a ty = record { passing = passing.Value; name = a; ty = ty }

abbrev pub ref_param : List ℕ → TypeName → Param
ref_param a ty = record { passing = passing.Reference; name = a; ty = ty }

abbrev pub sub : List ℕ → List Param → List Dim → List Line → Member
sub a params dims lines = net.proc (record { head = net.sub Public a params; prologue = dims; lines = lines; close = EndSub })

abbrev pub function : List ℕ → List Param → TypeName → List Dim → List Line → Member
function a params ty dims lines = net.proc (record { head = net.function Public a params ty; prologue = dims; lines = lines; close = EndFunction })

-- a class with a Class_Initialize has it called by its Sub New
abbrev pub sub_new : Member
sub_new = net.proc (record { head = net.sub_new; prologue = []; lines = net.call (name (codes "Class_Initialize")) no_exps ∷ []; close = EndSub })

abbrev pub property : List ℕ → List Param → TypeName → List Line → (value : List ℕ) → List Line → Member
property a params ty gets v sets = net.property (record {
  visibility = Public;
  name = a;
  params = params;
  ty = ty;
  get_comments = [];
  get = Some (record { head = net.get_part; prologue = []; lines = gets; close = EndGet });
  set_comments = [];
  set = Some (record { head = net.set_part v ty; prologue = []; lines = sets; close = EndSet });
})

abbrev pub structure : List ℕ → List net.Field → Member
structure a fs = net.structure (record { name = a; fields = fs })

abbrev pub project : List Member → List Module → (support : List Member) → Project
project members others support = record {
  library = false;
  main = Some (codes "Main1");
  note = None;
  modules = record { name = codes "Main1"; class = false; members = members } ∷ others;
  support = record { name = codes "UpgradeSupport"; class = false; members = support };
}

abbrev pub class : List ℕ → List Member → Module
class a members = record { name = a; class = true; members = members }

-- ---- runs

-- how a run ends: what it put out, and the number that it raised, if any; none where it needs more steps, and where it has no meaning
abbrev pub Ending : Type 0
Ending = List Output × Option ℕ

abbrev pub ending : {M A : Type 0} → Outcome M A → Option Ending
ending (gives o a w) = Some (o, None)
ending (raises o e w) = Some (o, Some e)
ending (spent o w) = None
ending (outside o) = None

-- what was put out before a run left its meaning
abbrev pub left_meaning : {M A : Type 0} → Outcome M A → Option (List Output)
left_meaning (gives o a w) = None
left_meaning (raises o e w) = None
left_meaning (spent o w) = None
left_meaning (outside o) = Some o

abbrev pub line_text : List ℕ → Output
line_text units = printed (units ++ 13 ∷ 10 ∷ [])

-- at most 90 steps of the first procedure of a project, from its start
abbrev pub runs : Project → List (List ℕ) → Option Ending
runs N inputs = ending (program_runs N 90 0 inputs)

abbrev pub puts : Project → Option Ending → Type 0
puts N e = runs N [] ≡ e

-- lines that are printed, and then the end of the first procedure
abbrev pub lines : List (List ℕ) → Option Ending
lines texts = Some (map line_text texts, None)

-- the same, and then a number that is raised
abbrev pub lines_then : List (List ℕ) → ℕ → Option Ending
lines_then texts e = Some (map line_text texts, Some e)

-- a project of one module in which Main alone runs
abbrev pub main_of : List Dim → List Line → Project
main_of dims body = project (sub (codes "Main") [] dims body ∷ []) [] []
