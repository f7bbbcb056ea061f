-- A program that is run, and where its declarations keep their variables.
use Rattle.std.specs.Prelude.{ℕ, ℤ, Bool, Option, Some, None, cond, nat_eq, slice_get, [], ◌∷◌, ◌&&◌}
use Rattle.vb_tree.specs.declared.declared.Owner.{Owner}
use Rattle.vb_tree.specs.declared.declared.Owner.TheVariants as owner
use Rattle.vb_tree.specs.Tree.{Module}
use Rattle.std.specs.List.{list_any}
use Rattle.std.specs.Map.{lookup}
use Rattle.bound_tree.specs.Tree.{Variable, Declarations, Program}
use Rattle.bound_facts.specs.SelfMade.{module_of}
use Rattle.run_base.specs.Positions.{Root, shared, field, whole}
use Rattle.vb6_run.specs.Shapes.{variable_shape}
use Rattle.vb6_run.specs.Store.{Address, root, SourceFrame}

-- A bound program with what analyses found in it: which parameters of a procedure are quiet, by their places, and the lower bounds that
-- chains of ties give an array, by its declaration and the dimension, counted from 0.
pub record Runnable : Type 0 where
  pub program : Program
  pub quiet : (procedure place : ℕ) → Bool
  pub low : (variable dimension : ℕ) → ℤ

abbrev pub declarations_of : Runnable → Declarations
declarations_of R = R.program.declarations

-- ---- where variables are kept

abbrev pub is_class_file : Declarations → (file : ℕ) → Bool
is_class_file D file = list_any (λ (m : Module). nat_eq m.file file && m.class) D.project.modules

abbrev pub object_root : (me : Option ℕ) → (variable : ℕ) → Option Root
object_root None v = None
object_root (Some o) v = Some (field o (v ∷ []))

-- a variable of a module, which in a class each object has
abbrev pub module_root : Declarations → (me : Option ℕ) → (variable file : ℕ) → Option Root
module_root D me v file = cond (is_class_file D file) (object_root me v) (Some (shared (v ∷ [])))

-- a Static of a procedure stands in its module
abbrev pub static_root : Declarations → (me : Option ℕ) → (variable : ℕ) → (file : Option ℕ) → Option Root
static_root D me v None = None
static_root D me v (Some file) = module_root D me v file

abbrev pub root_address : Declarations → (variable : ℕ) → Option Root → Option Address
root_address D v None = None
root_address D v (Some r) = Some (root (variable_shape D v) (whole r))

-- a local, a parameter and a result variable have addresses of the frame; a field of a user type has none by itself
abbrev pub owned_address : Declarations → SourceFrame → (variable : ℕ) → Owner → Option Address
owned_address D f v (owner.Module file) = root_address D v (module_root D f.me v file)
owned_address D f v (owner.Local p) = lookup (nat_eq v) f.vars
owned_address D f v (owner.Static p) = root_address D v (static_root D f.me v (module_of (slice_get D.procs p.0)))
owned_address D f v (owner.Value p) = lookup (nat_eq v) f.vars
owned_address D f v (owner.Reference p) = lookup (nat_eq v) f.vars
owned_address D f v (owner.Answer p) = lookup (nat_eq v) f.vars
owned_address D f v (owner.Field t) = None

abbrev pub declared_address : Declarations → SourceFrame → (variable : ℕ) → Option Variable → Option Address
declared_address D f v None = None
declared_address D f v (Some x) = owned_address D f v x.owner

-- the address of a variable in a frame
abbrev pub variable_address : Declarations → SourceFrame → (variable : ℕ) → Option Address
variable_address D f v = declared_address D f v (slice_get D.vars v)
