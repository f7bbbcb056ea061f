-- A small procedure over a user type: its fields are assigned and read, and it is copied as a whole.
use Rattle.std.proofs.Common.{◌≡◌, refl, ℕ, pos, true, false, List, [], ◌∷◌, ◌++◌, codes, None}
use Rattle.std.specs.Fmt.{digits}
use Rattle.vb_tree.specs.BoundTree.{Ty, integer, long, user}
use Rattle.vb_tree.specs.declared.declared.Owner.{Owner}
use Rattle.vb_tree.specs.declared.declared.Owner.TheVariants as owner
use Rattle.vb_tree.specs.declared.form_parts.VarWord.TheVariants as var_word
use Rattle.vb_tree.specs.declared.token.Suffix.TheVariants.{Absent}
use Rattle.vb_tree.specs.Tree.{Form, Nodes, no_nodes, next_node}
use Rattle.vb_tree.specs.Tree as source
use Rattle.bound_tree.specs.declared.body.Mention.TheVariants as mention
use Rattle.bound_tree.specs.RuleSets.{none}
use Rattle.bound_tree.specs.Tree.{Variable, Expr, typed, variable, field, Line, Program}
use Rattle.run_base.specs.Frames.{by_value}
use Rattle.run_base.specs.Outcomes.{outputs, printed}
use Rattle.vb6_run.specs.Programs.{empty_memory, run6}
use Rattle.vb6_run.specs.Runnables.{Runnable}
use Rattle.vb6_run.specs.Values.{fields, next_value, no_values, scalar}
use Rattle.vb_tree.specs.declared.value.Value6.TheVariants as v
use Rattle.run_matches.specs.Covered.{covers_procedure}
use Rattle.typing_laws.specs.Flat.{is_flat_procedure}
use Rattle.typing_laws.specs.Typed.{is_typed_procedure}
use Rattle.typing_laws.proofs.Examples.{any, id, is_outside, line, main, number, place, procedure, program_of, variable_i}

-- Type Pair
--     x As Integer
-- End Type
--
-- Sub Main()
--     Dim i As Pair, j As Pair
--     i.x = 1
--     j = i
--     Debug.Print j.x
-- End Sub
abbrev field_x : Variable
field_x = record variable_i { name = codes "x"; statement = 1; owner = owner.Field (record { 0 = 0 }) }

abbrev pair_body : Nodes
pair_body =
    next_node (source.line (line (source.variables var_word.Dim [])))
    (next_node (source.line (line (source.assign any any)))
    (next_node (source.line (line (source.assign any any))) (next_node (source.line (line (source.debug_print [] false))) no_nodes)))

abbrev with_pair : List Line → Program
with_pair ls =
    let P : Program = program_of ls in
    record P {
      declarations = record P.declarations {
        project = record P.declarations.project {
          modules =
              record {
                file = 1;
                name = codes "Main1";
                class = false;
                members =
                    source.group (line (source.type_head None (codes "Pair") Absent)) (line (source.field (codes "x") Absent None (source.named [])) ∷ []) (line source.end_type)
                    ∷ source.proc (line (source.sub_head (record { visibility = None; name = codes "Main"; suffix = Absent; params = [] }))) pair_body (line source.end_sub)
                    ∷ [];
                comments = [];
              }
              ∷ [];
        };
        vars =
            record variable_i { statement = 4; ty = user 0; named = user 0 }
            ∷ field_x
            ∷ record variable_i { name = codes "j"; statement = 4; ty = user 0; named = user 0 }
            ∷ [];
        types = record { name = codes "Pair"; place = place; «module» = 1; fields = record { 0 = 1 } ∷ [] } ∷ [];
      };
    }

abbrev pair : ℕ → Expr
pair n = typed (user 0) (variable (record { 0 = n }) false)

-- the field of a variable, which is bound as one of a type
abbrev x_of : Expr → Ty → Expr
x_of e ty = typed ty (field e 0)

abbrev uses_all : Form → List Expr → Line
uses_all f es = record {
  source = line f;
  bindings = record { exprs = es; rules = none; mentions = mention.Var id ∷ mention.Var (record { 0 = 1 }) ∷ mention.Var (record { 0 = 2 }) ∷ [] };
}

abbrev copies : Ty → List Line
copies ty =
    uses_all (source.assign any any) (x_of (pair 0) integer ∷ number (pos 1) ∷ [])
    ∷ uses_all (source.assign any any) (pair 2 ∷ pair 0 ∷ [])
    ∷ uses_all (source.debug_print [] false) (x_of (pair 2) ty ∷ [])
    ∷ []

abbrev runs_pair : List Line → Runnable
runs_pair ls = record { program = with_pair ls; quiet = λ p i. false; low = λ a d. pos 0 }

is_covered : covers_procedure (with_pair (copies integer)) 0 ≡ true
is_covered = refl

is_flat : is_flat_procedure (with_pair (copies integer)) 0 ≡ true
is_flat = refl

is_well_typed : is_typed_procedure (with_pair (copies integer)) 0 ≡ true
is_well_typed = refl

prints_field : outputs (run6 (runs_pair (copies integer)) 0 None [] [] 9 empty_memory) ≡ printed (codes " 1 " ++ 13 ∷ 10 ∷ []) ∷ []
unfolding digits
prints_field = refl

-- a field that is bound as one of another type has no meaning, and isn't flat
is_mistyped : is_flat_procedure (with_pair (copies long)) 0 ≡ false
is_mistyped = refl

is_stuck : is_outside (run6 (runs_pair (copies long)) 0 None [] [] 9 empty_memory) ≡ true
is_stuck = refl

-- ---- as a parameter

-- the same with i as a parameter, by value or by reference
abbrev takes_pair : Owner → Program
takes_pair own =
    let P : Program = with_pair (copies integer) in
    record P {
      declarations = record P.declarations {
        vars =
            record variable_i { owner = own; statement = 3; ty = user 0; named = user 0 }
            ∷ field_x
            ∷ record variable_i { name = codes "j"; statement = 4; ty = user 0; named = user 0 }
            ∷ [];
        procs = record procedure { params = id ∷ [] } ∷ [];
      };
    }

value_flat : is_flat_procedure (takes_pair (owner.Value main)) 0 ≡ true
value_flat = refl

reference_flat : is_flat_procedure (takes_pair (owner.Reference main)) 0 ≡ true
reference_flat = refl

takes_value :
    outputs
    (run6 (record { program = takes_pair (owner.Value main); quiet = λ p i. false; low = λ a d. pos 0 }) 0 None
    (by_value (fields 0 (next_value (scalar integer (v.Int (pos 7))) no_values)) ∷ []) [] 9 empty_memory)
    ≡ printed (codes " 1 " ++ 13 ∷ 10 ∷ []) ∷ []
unfolding digits
takes_value = refl
