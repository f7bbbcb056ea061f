-- Declarations of fixed strings where none may stand: static ones, arrays of them, parameters and results, and results of a user
-- type that holds one.
use Rattle.std.specs.Prelude.{◌↔◌, IsTrue, ℕ, suc, Bool, true, false, cond, ◌||◌, ◌&&◌, nat_eq, Option, Some, None, List, [], ◌∷◌, ◌++◌, length, slice_get}
use Rattle.std.specs.List.{flat_map, list_any}
use Rattle.vb_tree.specs.BoundTree.{Ty, user, array}
use Rattle.vb_tree.specs.declared.declared.Owner.{Owner}
use Rattle.vb_tree.specs.declared.declared.Owner.TheVariants as owner
use Rattle.vb_tree.specs.declared.declared.VarId.{VarId}
use Rattle.vb_tree.specs.declared.form_parts.VarWord.{VarWord}
use Rattle.vb_tree.specs.declared.form_parts.VarWord.TheVariants as word
use Rattle.vb_tree.specs.Tree.{Form, variables, Module}
use Rattle.vb_tree.specs.Tree as vb
use Rattle.bound_tree.specs.declared.declared.TypeDecl.{TypeDecl}
use Rattle.bound_tree.specs.Tree.{Variable, Declarations}
use Rattle.vb_tree.specs.FlatLines.{module_lines}
use Rattle.bound_facts.specs.Leading.{LeadsTo}
use Rattle.fixed_strings.specs.Lengths.{is_fixed_string, is_made_of_fixed}

-- ---- user types that hold a fixed string

abbrev pub user_in : Ty → Option ℕ
user_in (user t) = Some t
user_in _ = None

-- the user type that a field has, or that the elements of an array have
abbrev pub user_part : Ty → Option ℕ
user_part (array t rank) = user_in t
user_part t = user_in t

abbrev pub part_of : Option Variable → Option ℕ
part_of None = None
part_of (Some v) = user_part v.ty

abbrev pub part_pair : ℕ → Option ℕ → List (ℕ × ℕ)
part_pair k None = []
part_pair k (Some u) = (k, u) ∷ []

abbrev pub field_parts : List Variable → ℕ → List VarId → List (ℕ × ℕ)
field_parts vars k fields = flat_map (λ (f : VarId). part_pair k (part_of (slice_get vars f.0))) fields

abbrev pub parts_from : List Variable → ℕ → List TypeDecl → List (ℕ × ℕ)
parts_from vars k [] = []
parts_from vars k (t ∷ types) = field_parts vars k t.fields ++ parts_from vars (suc k) types

-- the pairs of a user type and one that a field of it is made of
abbrev pub type_parts : Declarations → List (ℕ × ℕ)
type_parts D = parts_from D.vars 0 D.types

abbrev pub is_fixed_field : Option Variable → Bool
is_fixed_field None = false
is_fixed_field (Some v) = is_made_of_fixed v.ty

abbrev pub has_fixed_field : List Variable → List VarId → Bool
has_fixed_field vars fields = list_any (λ (f : VarId). is_fixed_field (slice_get vars f.0)) fields

abbrev pub type_number : ℕ → Bool → List ℕ
type_number k test = cond test (k ∷ []) []

abbrev pub fixed_from : List Variable → ℕ → List TypeDecl → List ℕ
fixed_from vars k [] = []
fixed_from vars k (t ∷ types) = type_number k (has_fixed_field vars t.fields) ++ fixed_from vars (suc k) types

-- the user types with a field that is a fixed string or an array of them
abbrev pub fixed_types : Declarations → List ℕ
fixed_types D = fixed_from D.vars 0 D.types

-- a chain of fields leads from a user type to such a one
abbrev pub HoldsFixed : Declarations → ℕ → Type 0
HoldsFixed D t = LeadsTo (length D.types) (type_parts D) (fixed_types D) t

-- a test that tells this
abbrev pub Tells : Declarations → (holds : ℕ → Bool) → Type 0
Tells D holds = (t : ℕ) → IsTrue (holds t) ↔ HoldsFixed D t

abbrev pub holds_fixed : (holds : ℕ → Bool) → Ty → Bool
holds_fixed holds (user t) = holds t
holds_fixed holds _ = false

-- ---- module variables that are declared with the word Static

abbrev pub is_static_word : VarWord → Bool
is_static_word word.Static = true
is_static_word _ = false

abbrev pub is_static_form : Form → Bool
is_static_form (variables w declarators) = is_static_word w
is_static_form _ = false

abbrev pub is_static_line : Option vb.Line → Bool
is_static_line None = false
is_static_line (Some l) = is_static_form l.form

-- whether the statement of a module with this number declares variables by the word Static
abbrev pub is_static_statement : (file statement : ℕ) → List Module → Bool
is_static_statement file n [] = false
is_static_statement file n (m ∷ ms) = cond (nat_eq m.file file) (is_static_line (slice_get (module_lines m) n)) (is_static_statement file n ms)

-- ---- declarations

-- whether a fixed string may not be declared by this owner
abbrev pub is_barred : List Module → (statement : ℕ) → Owner → Bool
is_barred ms statement (owner.Module file) = is_static_statement file statement ms
is_barred ms statement (owner.Local p) = false
is_barred ms statement (owner.Static p) = true
is_barred ms statement (owner.Value p) = true
is_barred ms statement (owner.Reference p) = true
is_barred ms statement (owner.Answer p) = true
is_barred ms statement (owner.Field t) = false

abbrev pub is_answer : Owner → Bool
is_answer (owner.Answer p) = true
is_answer _ = false

abbrev pub is_fixed_array : Ty → Bool
is_fixed_array (array t rank) = is_fixed_string t
is_fixed_array _ = false

abbrev pub breaks_declared : Declarations → (holds : ℕ → Bool) → Variable → Bool
breaks_declared D holds v =
    (is_fixed_string v.ty && is_barred D.project.modules v.statement v.owner)
    || (is_fixed_array v.ty || (is_answer v.owner && holds_fixed holds v.ty))
