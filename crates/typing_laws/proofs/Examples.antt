-- A small procedure is well typed and isn't outside; with a use of another type it is neither.
use Rattle.std.proofs.Common.{◌≡◌, refl, ℕ, ℤ, pos, negsuc, Bool, true, false, List, [], ◌∷◌, ◌++◌, codes, Option, Some, None}
use Rattle.std.specs.Prelude.{slice_get}
use Rattle.std.specs.Fmt.{digits}
use Rattle.up_base.specs.declared.place.Place.{Place}
use Rattle.vb_tree.specs.BoundTree.{Ty, array, integer, long, nothing}
use Rattle.vb_tree.specs.declared.bound.LibCall.TheVariants as lib
use Rattle.vb_tree.specs.declared.bound.Op6.TheVariants.{Typed}
use Rattle.vb_tree.specs.declared.declared.Owner.TheVariants as owner
use Rattle.vb_tree.specs.declared.declared.ProcId.{ProcId}
use Rattle.vb_tree.specs.declared.declared.ProcKind.TheVariants as kind
use Rattle.vb_tree.specs.declared.declared.VarId.{VarId}
use Rattle.vb_tree.specs.declared.expression.BinOp.TheVariants as b
use Rattle.vb_tree.specs.declared.form_parts.Label6.TheVariants as label6
use Rattle.vb_tree.specs.declared.form_parts.VarWord.TheVariants as var_word
use Rattle.vb_tree.specs.declared.form_parts.Visibility.TheVariants as seen
use Rattle.vb_tree.specs.declared.project.ProjectKind.TheVariants.{Exe}
use Rattle.vb_tree.specs.declared.token.Suffix.TheVariants.{Absent}
use Rattle.vb_tree.specs.declared.value.Value6.TheVariants as v
use Rattle.vb_tree.specs.Tree.{Exp, Form, Nodes, no_nodes, next_node}
use Rattle.vb_tree.specs.Tree as source
use Rattle.vb6_meaning.specs.Answers as answer
use Rattle.vb6_meaning.specs.declared.number.NumberKind.TheVariants as kinds
use Rattle.vb6_meaning.specs.Numbers.{of_kind}
use Rattle.vb6_meaning.specs.Library.{call}
use Rattle.vb6_meaning.specs.Values.{operate}
use Rattle.bound_tree.specs.declared.body.Mention.TheVariants as mention
use Rattle.bound_tree.specs.declared.expression.Origin.TheVariants.{Literal}
use Rattle.bound_tree.specs.RuleSets.{none}
use Rattle.bound_tree.specs.Tree.{Variable, Procedure, Expr, typed, constant, variable, element, Exprs, no_exprs, next_expr, err_number, Line, Program}
use Rattle.run_base.specs.Frames.{by_value}
use Rattle.run_base.specs.Outcomes.{Outcome, gives, raises, spent, outside, outputs, printed}
use Rattle.vb6_run.specs.Expressions.{Context, term_parts}
use Rattle.vb6_run.specs.Programs.{empty_memory, run6}
use Rattle.vb6_run.specs.Runnables.{Runnable}
use Rattle.vb6_run.specs.Store.{Memory, set_err}
use Rattle.vb6_run.specs.Values.{scalar}
use Rattle.run_matches.specs.CoveredVariables.{is_loud}
use Rattle.run_matches.specs.Covered.{covers_procedure}
use Rattle.typing_laws.specs.Edges.{IsEdge, IsLibraryEdge, least_by_minus_one, number_past_127}
use Rattle.typing_laws.specs.Flat.{is_flat_procedure}
use Rattle.typing_laws.specs.Typed.{is_typed_line, is_typed_procedure}

-- Sub Main()
--     Dim i As Integer
--     i = 1
--     Debug.Print i
-- End Sub

abbrev pub place : Place
place = record { file = 1; line = 1 }

abbrev pub main : ProcId
main = record { 0 = 0 }

abbrev pub variable_i : Variable
variable_i = record {
  name = codes "i";
  place = place;
  statement = 1;
  owner = owner.Local main;
  ty = integer;
  named = integer;
  qualified = false;
  lettered = None;
  bounds = [];
  auto = false;
  preset = None;
}

abbrev pub procedure : Procedure
procedure = record {
  name = codes "Main";
  place = place;
  module_number = 1;
  kind = kind.Sub;
  visibility = seen.Public;
  params = [];
  result = nothing;
  answer = None;
  first = main;
}

abbrev pub line : Form → source.Line
line form = record { place = place; text = []; form = form }

abbrev pub any : Exp
any = source.me

abbrev pub id : VarId
id = record { 0 = 0 }

-- the use of i, which is bound as one of a type
abbrev use_as : Ty → Expr
use_as ty = typed ty (variable id false)

abbrev code : Form → List Expr → Line
code f es = record { source = line f; bindings = record { exprs = es; rules = none; mentions = mention.Var id ∷ [] } }

abbrev pub number : ℤ → Expr
number z = typed integer (constant (v.Int z) Literal)

abbrev lines : Ty → List Line
lines ty =
    code (source.assign any any) (use_as integer ∷ number (pos 1) ∷ [])
    ∷ code (source.debug_print [] false) (use_as ty ∷ [])
    ∷ []

abbrev pub body : Nodes
body =
    next_node (source.line (line (source.variables var_word.Dim [])))
    (next_node (source.line (line (source.assign any any))) (next_node (source.line (line (source.debug_print [] false))) no_nodes))

abbrev pub program_of : List Line → Program
program_of ls = record {
  declarations = record {
    project = record {
      file = record { kind = Exe; startup = Some (3, codes "Sub Main"); entries = []; dropped = [] };
      modules =
          record {
            file = 1;
            name = codes "Main1";
            class = false;
            members =
                source.proc (line (source.sub_head (record { visibility = None; name = codes "Main"; suffix = Absent; params = [] }))) body (line source.end_sub)
                ∷ [];
            comments = [];
          }
          ∷ [];
    };
    names = [];
    vars = variable_i ∷ [];
    consts = [];
    procs = procedure ∷ [];
    types = [];
    enums = [];
    defaults = [];
  };
  bodies = ls ∷ [];
}

abbrev program : Ty → Program
program ty = program_of (lines ty)

abbrev runs_lines : List Line → Runnable
runs_lines ls = record { program = program_of ls; quiet = λ p i. false; low = λ a d. pos 0 }

abbrev runnable : Ty → Runnable
runnable ty = runs_lines (lines ty)

abbrev pub is_outside : {A : Type 0} → Outcome Memory A → Bool
is_outside (gives o a w) = false
is_outside (raises o n w) = false
is_outside (spent o w) = false
is_outside (outside o) = true

-- ---- with the type of the variable

is_covered : covers_procedure (program integer) 0 ≡ true
is_covered = refl

is_flat_as_well : is_flat_procedure (program integer) 0 ≡ true
is_flat_as_well = refl

is_well_typed : is_typed_procedure (program integer) 0 ≡ true
is_well_typed = refl

prints_one : outputs (run6 (runnable integer) 0 None [] [] 9 empty_memory) ≡ printed (codes " 1 " ++ 13 ∷ 10 ∷ []) ∷ []
unfolding digits
prints_one = refl

is_inside : is_outside (run6 (runnable integer) 0 None [] [] 9 empty_memory) ≡ false
unfolding digits
is_inside = refl

-- ---- with another type it is covered all the same, but it has no meaning from there on

mistyped_covered : covers_procedure (program long) 0 ≡ true
mistyped_covered = refl

is_mistyped : is_typed_procedure (program long) 0 ≡ false
is_mistyped = refl

is_stuck : is_outside (run6 (runnable long) 0 None [] [] 9 empty_memory) ≡ true
is_stuck = refl

-- ---- arrays

-- the same with an array
--     Dim i(1 To 2) As Integer
abbrev with_array : List Line → Program
with_array ls =
    let P : Program = program_of ls in
    record P {
      declarations = record P.declarations { vars = record variable_i { ty = array integer 1; named = array integer 1; bounds = (pos 1, pos 2) ∷ [] } ∷ [] };
    }

abbrev runs_array : ℤ → List Line → Runnable
runs_array low ls = record { program = with_array ls; quiet = λ p i. false; low = λ a d. low }

abbrev array_i : Expr
array_i = typed (array integer 1) (variable id false)

abbrev long_number : ℤ → Expr
long_number z = typed long (constant (v.Long z) Literal)

abbrev at : Exprs → Expr
at indexes = typed integer (element array_i indexes)

abbrev one_index : ℤ → Exprs
one_index z = next_expr (long_number z) no_exprs

--     i(1) = 1
--     Debug.Print i(1)
abbrev fills : Exprs → List Line
fills indexes =
    code (source.assign any any) (at indexes ∷ number (pos 1) ∷ [])
    ∷ code (source.debug_print [] false) (at indexes ∷ [])
    ∷ []

array_covered : covers_procedure (with_array (fills (one_index (pos 1)))) 0 ≡ true
array_covered = refl

array_flat : is_flat_procedure (with_array (fills (one_index (pos 1)))) 0 ≡ true
array_flat = refl

array_typed : is_typed_procedure (with_array (fills (one_index (pos 1)))) 0 ≡ true
array_typed = refl

prints_element : outputs (run6 (runs_array (pos 1) (fills (one_index (pos 1)))) 0 None [] [] 9 empty_memory) ≡ printed (codes " 1 " ++ 13 ∷ 10 ∷ []) ∷ []
unfolding digits
prints_element = refl

-- an index out of bounds raises 9
abbrev raised_by : {A : Type 0} → Outcome Memory A → Option ℕ
raised_by (raises o n w) = Some n
raised_by _ = None

past_bounds : raised_by (run6 (runs_array (pos 1) (fills (one_index (pos 3)))) 0 None [] [] 9 empty_memory) ≡ Some 9
past_bounds = refl

-- but what another number of indexes does isn't known, nor what an array does with other lower bounds than its ties give it
two_indexes : is_outside (run6 (runs_array (pos 1) (fills (next_expr (long_number (pos 1)) (one_index (pos 1))))) 0 None [] [] 9 empty_memory) ≡ true
two_indexes = refl

other_bounds : is_outside (run6 (runs_array (pos 0) (fills (one_index (pos 1)))) 0 None [] [] 9 empty_memory) ≡ true
other_bounds = refl

-- a fixed array isn't erased
abbrev erases : List Line
erases = code (source.erase any) (array_i ∷ []) ∷ []

erases_flat : is_flat_procedure (with_array erases) 0 ≡ true
erases_flat = refl

erases_fixed_array : is_outside (run6 (runs_array (pos 1) erases) 0 None [] [] 9 empty_memory) ≡ true
erases_fixed_array = refl

-- ---- a quiet parameter

-- Sub Main(i As Integer)
--     Dim j As Integer
--     j = i
-- End Sub
abbrev quiet_program : Program
quiet_program =
    let P : Program = program_of (code (source.assign any any) (typed integer (variable (record { 0 = 1 }) false) ∷ use_as integer ∷ []) ∷ []) in
    record P {
      declarations = record P.declarations {
        vars = record variable_i { owner = owner.Reference main } ∷ record variable_i { name = codes "j" } ∷ [];
        procs = record procedure { params = id ∷ [] } ∷ [];
      };
    }

is_quiet : is_loud quiet_program 0 (slice_get quiet_program.declarations.vars 0) ≡ false
is_quiet = refl

-- it is bound to the value that it is given, which is read there
reads_value :
    is_outside (run6 (record { program = quiet_program; quiet = λ p i. true; low = λ a d. pos 0 }) 0 None (by_value (scalar integer (v.Int (pos 1))) ∷ []) [] 9 empty_memory)
    ≡ false
reads_value = refl

-- ---- a condition is a Boolean

is_no_test : is_typed_line (program integer).declarations (code (source.if_head any) (use_as integer ∷ [])) ≡ false
is_no_test = refl

-- ---- a For whose Next is reached without its head

--     GoTo inside
--     For i = 1 To 1
-- inside:
--     Next
abbrev loop : List Line
loop =
    code (source.for_head any any any None) (use_as integer ∷ number (pos 1) ∷ number (pos 1) ∷ [])
    ∷ code (source.label (label6.Word (codes "inside"))) []
    ∷ code (source.next None) []
    ∷ []

abbrev jump : Line
jump = code (source.goto (label6.Word (codes "inside"))) []

jumps_covered : covers_procedure (program_of (jump ∷ loop)) 0 ≡ true
jumps_covered = refl

jumps_typed : is_typed_procedure (program_of (jump ∷ loop)) 0 ≡ true
jumps_typed = refl

jumps_in : is_outside (run6 (runs_lines (jump ∷ loop)) 0 None [] [] 9 empty_memory) ≡ true
jumps_in = refl

goes_through : is_outside (run6 (runs_lines loop) 0 None [] [] 9 empty_memory) ≡ false
goes_through = refl

-- ---- edges

greatest_number : (C : Context) → is_outside (term_parts C long err_number (set_err 65535 empty_memory)) ≡ false
greatest_number C = refl

no_number : (C : Context) → is_outside (term_parts C long err_number (set_err 65536 empty_memory)) ≡ true
no_number C = refl

division : operate (Typed b.IntDiv) (v.Int (negsuc 32767)) (v.Int (negsuc 0)) ≡ answer.outside
division = refl

at_the_edge : IsEdge b.IntDiv (v.Int (negsuc 32767)) (v.Int (negsuc 0))
at_the_edge = least_by_minus_one (of_kind kinds.Integer (negsuc 32767)) (of_kind kinds.Integer (negsuc 0)) refl refl refl refl refl

letter : call lib.Asc (v.Str (8364 ∷ []) ∷ []) ≡ answer.outside
letter = refl

past_the_edge : IsLibraryEdge lib.Asc (v.Str (8364 ∷ []) ∷ [])
past_the_edge = number_past_127 8364 [] refl
