-- The first member of each module whose name captures others, by the file of the module.
use Rattle.std.specs.Prelude.{ℕ, Bool, cond, ◌||◌, nat_eq, not, Option, Some, None, List, [], ◌∷◌, ◌++◌, is_some}
use Rattle.vb_tree.specs.Tree.{Module}
use Rattle.bound_tree.specs.declared.declared.Named.{Named}
use Rattle.bound_tree.specs.declared.declared.Named.TheVariants as named
use Rattle.bound_tree.specs.declared.declared.NamedEntry.{NamedEntry}
use Rattle.bound_tree.specs.declared.declared.Scope.{Scope}
use Rattle.bound_tree.specs.declared.declared.Scope.TheVariants as scope
use Rattle.bound_tree.specs.Tree.{Declarations}
use Rattle.bound_facts.specs.Clean.{procedure, variable, constant, user_type, captures}
use Rattle.clean_procedures.specs.Numbers.{number}

-- a file and the number of a member's point
abbrev pub First : Type 0
First = ℕ × ℕ

-- the point noted for a file
abbrev pub first_in : (file : ℕ) → List First → Option ℕ
first_in file [] = None
first_in file (f ∷ fs) = cond (nat_eq f.0 file) (Some f.1) (first_in file fs)

abbrev pub has_first : (file : ℕ) → List First → Bool
has_first file fs = is_some (first_in file fs)

-- the file of the module whose member has a scope
abbrev pub member_file : Scope → Option ℕ
member_file (scope.Public f) = Some f
member_file (scope.Private f) = Some f
member_file (scope.Local p) = None

abbrev pub first_of : (file : ℕ) → Named → List First
first_of file (named.Var v) = (file, number (variable v.0)) ∷ []
first_of file (named.Const c) = (file, number (constant c.0)) ∷ []
first_of file (named.Proc p) = (file, number (procedure p.0)) ∷ []
first_of file (named.Type t) = (file, number (user_type t.0)) ∷ []
first_of file (named.Enum e) = []

abbrev pub with_member : List Module → List First → NamedEntry → (file : ℕ) → List First
with_member ms fs x file = cond (has_first file fs || not (captures ms x.name x.named)) fs (fs ++ first_of file x.named)

abbrev pub with_name_in : List Module → List First → NamedEntry → Option ℕ → List First
with_name_in ms fs x None = fs
with_name_in ms fs x (Some file) = with_member ms fs x file

-- with the point of a name, where it is the first of its module that captures others
abbrev pub with_name : List Module → List First → NamedEntry → List First
with_name ms fs x = with_name_in ms fs x (member_file x.scope)

abbrev pub with_names : List Module → List First → List NamedEntry → List First
with_names ms fs [] = fs
with_names ms fs (x ∷ xs) = with_names ms (with_name ms fs x) xs

abbrev pub firsts_of : Declarations → List First
firsts_of D = with_names D.project.modules [] D.names
