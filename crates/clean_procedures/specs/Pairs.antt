-- The arrows between points that have numbers, as pairs of these, in the order in which the code finds them.
use Rattle.std.specs.Prelude.{ℕ, suc, Option, Some, None, List, [], ◌∷◌, ◌++◌, map}
use Rattle.std.specs.List.{flat_map}
use Rattle.vb_tree.specs.BoundTree.{Ty, user}
use Rattle.vb_tree.specs.declared.declared.Owner.{Owner}
use Rattle.vb_tree.specs.declared.declared.Owner.TheVariants as owner
use Rattle.vb_tree.specs.declared.declared.VarId.{VarId}
use Rattle.bound_tree.specs.declared.body.Mention.{Mention}
use Rattle.bound_tree.specs.declared.body.Mention.TheVariants as mention
use Rattle.bound_tree.specs.declared.declared.TypeDecl.{TypeDecl}
use Rattle.bound_tree.specs.Tree.{Expr, Line, Variable, Constant, Procedure, Declarations, Program}
use Rattle.bound_facts.specs.Calls.{initializer_of}
use Rattle.bound_facts.specs.Clean.{Point, procedure, variable, constant, user_type}
use Rattle.bound_facts.specs.Items.{project_items}
use Rattle.bound_facts.specs.Locks.{user_in}
use Rattle.bound_facts.specs.Members.{initializer, terminator}
use Rattle.bound_facts.specs.Node.{called, created}
use Rattle.bound_facts.specs.Parts.{line_uses}
use Rattle.clean_procedures.specs.Captured.{First, first_in, firsts_of}
use Rattle.clean_procedures.specs.Numbers.{number}

abbrev pub Pair : Type 0
Pair = ℕ × ℕ

abbrev pub pair : Point → Point → Pair
pair a b = (number a, number b)

-- ---- from lines of procedure i

abbrev pub procedure_pairs : ℕ → Option ℕ → List Pair
procedure_pairs i None = []
procedure_pairs i (Some p) = pair (procedure i) (procedure p) ∷ []

abbrev pub call_pairs : Declarations → ℕ → Expr → List Pair
call_pairs D i e = procedure_pairs i (called e) ++ procedure_pairs i (initializer_of D (created D e))

abbrev pub class_pairs : Declarations → ℕ → ℕ → List Pair
class_pairs D i c = procedure_pairs i (initializer D c) ++ procedure_pairs i (terminator D c)

abbrev pub made_pairs : Declarations → ℕ → Option ℕ → List Pair
made_pairs D i None = []
made_pairs D i (Some c) = class_pairs D i c

abbrev pub created_pairs : Declarations → ℕ → Expr → List Pair
created_pairs D i e = made_pairs D i (created D e)

abbrev pub mention_pairs : Declarations → ℕ → Mention → List Pair
mention_pairs D i (mention.Var v) = pair (procedure i) (variable v.0) ∷ []
mention_pairs D i (mention.Const c) = pair (procedure i) (constant c.0) ∷ []
mention_pairs D i (mention.Type t) = pair (procedure i) (user_type t.0) ∷ []
mention_pairs D i (mention.Proc p) = pair (procedure i) (procedure p.0) ∷ []
mention_pairs D i (mention.Class c) = class_pairs D i c.0

abbrev pub uses_pairs : Declarations → ℕ → List Expr → List Pair
uses_pairs D i uses = flat_map (call_pairs D i) uses ++ flat_map (created_pairs D i) uses

abbrev pub line_pairs : Declarations → ℕ → Line → List Pair
line_pairs D i l = uses_pairs D i (line_uses l) ++ flat_map (mention_pairs D i) l.bindings.mentions

abbrev pub body_pairs : Program → List Pair
body_pairs P = project_items (line_pairs P.declarations) P.bodies

-- ---- of declarations that are numbered from k

-- the procedure that a declaration belongs to
abbrev pub owner_of : Owner → Option ℕ
owner_of (owner.Local p) = Some p.0
owner_of (owner.Static p) = Some p.0
owner_of (owner.Value p) = Some p.0
owner_of (owner.Reference p) = Some p.0
owner_of (owner.Answer p) = Some p.0
owner_of _ = None

abbrev pub owned_by : Option ℕ → ℕ → List Pair
owned_by None end = []
owned_by (Some p) end = (number (procedure p), end) ∷ []

abbrev pub user_of : Ty → Option ℕ
user_of (user t) = Some t
user_of _ = None

abbrev pub type_pairs : ℕ → Option ℕ → List Pair
type_pairs k None = []
type_pairs k (Some t) = pair (variable k) (user_type t) ∷ []

abbrev pub variable_pairs : ℕ → Variable → List Pair
variable_pairs k v = owned_by (owner_of v.owner) (number (variable k)) ++ type_pairs k (user_in v.named)

abbrev pub variables_pairs : ℕ → List Variable → List Pair
variables_pairs k [] = []
variables_pairs k (v ∷ vs) = variable_pairs k v ++ variables_pairs (suc k) vs

abbrev pub constants_pairs : ℕ → List Constant → List Pair
constants_pairs k [] = []
constants_pairs k (c ∷ cs) = owned_by (owner_of c.owner) (number (constant k)) ++ constants_pairs (suc k) cs

abbrev pub field_pairs : ℕ → List VarId → List Pair
field_pairs k fields = map (λ (f : VarId). pair (user_type k) (variable f.0)) fields

abbrev pub types_pairs : ℕ → List TypeDecl → List Pair
types_pairs k [] = []
types_pairs k (t ∷ ts) = field_pairs k t.fields ++ types_pairs (suc k) ts

abbrev pub declared_pairs : Declarations → List Pair
declared_pairs D = variables_pairs 0 D.vars ++ (constants_pairs 0 D.consts ++ types_pairs 0 D.types)

-- ---- from procedures that are numbered from k to the first member of their module whose name captures others

abbrev pub first_pairs : ℕ → Option ℕ → List Pair
first_pairs k None = []
first_pairs k (Some end) = (number (procedure k), end) ∷ []

abbrev pub firsts_pairs : List First → ℕ → List Procedure → List Pair
firsts_pairs fs k [] = []
firsts_pairs fs k (p ∷ ps) = first_pairs k (first_in p.module_number fs) ++ firsts_pairs fs (suc k) ps

abbrev pub captured_pairs : Declarations → List Pair
captured_pairs D = firsts_pairs (firsts_of D) 0 D.procs

abbrev pub all_pairs : Program → List Pair
all_pairs P = body_pairs P ++ declared_pairs P.declarations ++ captured_pairs P.declarations
