-- Worked examples of expressions that are kept as they are written.
use Rattle.std.proofs.Common.{◌≡◌, ℕ, false, true, List, [], ◌∷◌, Some, None, refl, codes, pos}
use Rattle.up_base.specs.declared.place.Place.{Place}
use Rattle.vb_tree.specs.BoundTree.{Ty, long, user, class, unknown, nothing}
use Rattle.vb_tree.specs.declared.declared.Owner.{Owner}
use Rattle.vb_tree.specs.declared.declared.Owner.TheVariants as owner
use Rattle.vb_tree.specs.declared.declared.ProcId.{ProcId}
use Rattle.vb_tree.specs.declared.declared.TypeId.{TypeId}
use Rattle.vb_tree.specs.declared.declared.VarId.{VarId}
use Rattle.vb_tree.specs.declared.expression.BinOp.TheVariants as op
use Rattle.vb_tree.specs.declared.project.ProjectKind.TheVariants.{Exe}
use Rattle.vb_tree.specs.declared.token.Literal6.TheVariants as literal
use Rattle.vb_tree.specs.declared.token.Suffix.TheVariants as suffix
use Rattle.vb_tree.specs.declared.value.Value6.TheVariants as v
use Rattle.vb_tree.specs.Tree.{Exp, binary, bracketed, given, index, lit, member, new_object, next_arg, no_args, paren, with_member, word}
use Rattle.bound_tree.specs.declared.declared.ConstId.{ConstId}
use Rattle.bound_tree.specs.declared.declared.EnumId.{EnumId}
use Rattle.bound_tree.specs.declared.declared.Named.{Named}
use Rattle.bound_tree.specs.declared.declared.Named.TheVariants as named
use Rattle.bound_tree.specs.declared.declared.NamedEntry.{NamedEntry}
use Rattle.bound_tree.specs.declared.declared.Scope.TheVariants as scope
use Rattle.bound_tree.specs.declared.expression.Root.TheVariants as root
use Rattle.bound_tree.specs.Tree.{Constant, Declarations, Variable}
use Rattle.typing_rows.specs.LibraryNames.{names_a_to_c, names_d_to_i, names_j_to_p, names_q_to_y}
use Rattle.expression_words.specs.Meanings.{Kept, Scope, keeps, no_with}
use Rattle.bound_exprs.specs.Resolved.{as_target, as_value}
use Rattle.bound_exprs.specs.Spelled.{spelled}

-- ---- A project: the module Main has the variable Lost without a type, and Spot of the Type Point with the field x. The module Other has
-- the variable Far without a type, and the Enum Color with Red. The class Car has the variable Size.

abbrev at : Place
at = record { file = 1; line = 1 }

abbrev w : ℕ → VarId
w n = record { 0 = n }

abbrev entry : ℕ → List ℕ → Named → NamedEntry
entry file name n = record { name = name; scope = scope.Public file; named = n }

abbrev variable_as : List ℕ → Owner → Ty → Variable
variable_as name o ty = record { name = name; place = at; statement = 0; owner = o; ty = ty; named = ty; qualified = false; lettered = None; bounds = []; auto = false; preset = None }

abbrev D : Declarations
D = record {
  project = record {
    file = record { kind = Exe; startup = None; entries = []; dropped = [] };
    modules =
        record { file = 1; name = codes "Main"; class = false; members = []; comments = [] }
        ∷ record { file = 2; name = codes "Other"; class = false; members = []; comments = [] }
        ∷ record { file = 3; name = codes "Car"; class = true; members = []; comments = [] }
        ∷ [];
  };
  names =
      entry 1 (codes "Lost") (named.Var (w 0))
      ∷ entry 1 (codes "Spot") (named.Var (w 1))
      ∷ entry 1 (codes "Point") (named.Type (record { 0 = 0 }))
      ∷ entry 2 (codes "Far") (named.Var (w 3))
      ∷ entry 2 (codes "Color") (named.Enum (record { 0 = 0 }))
      ∷ entry 2 (codes "Red") (named.Const (record { 0 = 0 }))
      ∷ entry 3 (codes "Size") (named.Var (w 4))
      ∷ [];
  vars =
      variable_as (codes "Lost") (owner.Module 1) unknown
      ∷ variable_as (codes "Spot") (owner.Module 1) (user 0)
      ∷ variable_as (codes "x") (owner.Field (record { 0 = 0 })) long
      ∷ variable_as (codes "Far") (owner.Module 2) unknown
      ∷ variable_as (codes "Size") (owner.Module 3) long
      ∷ [];
  consts = record { name = codes "Red"; place = at; statement = 1; owner = owner.Module 2; ty = long; value = Some (v.Long (pos 3)) } ∷ [];
  procs = [];
  types = record { name = codes "Point"; place = at; «module» = 1; fields = w 2 ∷ [] } ∷ [];
  enums = record { name = codes "Color"; place = at; «module» = 2; members = record { 0 = 0 } ∷ [] } ∷ [];
  defaults = None ∷ [];
}

abbrev S : Kept → Scope
S k = record { declarations = D; written = D; later = 4294967295; site = record { file = 1; procedure = None }; kept = k; missing = 3 }

abbrev plain : List ℕ → Exp
plain name = word name suffix.Absent

abbrev as_name : List ℕ → Exp
as_name name = bracketed name suffix.Absent

abbrev spelling_of : Exp → Exp
spelling_of e = spelled (S no_with) as_value e

-- ---- words

own_name : spelling_of (word (codes "lost") suffix.Double) ≡ as_name (codes "Lost")
own_name = refl

of_another_module : spelling_of (plain (codes "far")) ≡ member (as_name (codes "Other")) (codes "Far")
of_another_module = refl

a_keyword : spelling_of (plain (codes "true")) ≡ plain (codes "true")
a_keyword = refl

of_the_library : spelling_of (plain (codes "len")) ≡ plain (codes "len")
unfolding names_a_to_c names_d_to_i names_j_to_p names_q_to_y
of_the_library = refl

declared_nowhere : spelling_of (plain (codes "nowhere")) ≡ plain (codes "nowhere")
unfolding names_a_to_c names_d_to_i names_j_to_p names_q_to_y
declared_nowhere = refl

-- ---- members

-- other.far
behind_its_module : spelling_of (member (plain (codes "other")) (codes "far")) ≡ member (as_name (codes "Other")) (codes "Far")
behind_its_module = refl

-- spot.X
a_field : spelling_of (member (plain (codes "spot")) (codes "X")) ≡ member (as_name (codes "Spot")) (codes "x")
a_field = refl

-- lost.X
of_what_has_no_type : spelling_of (member (plain (codes "lost")) (codes "X")) ≡ member (as_name (codes "Lost")) (codes "X")
of_what_has_no_type = refl

-- color.red
without_its_enum : spelling_of (member (plain (codes "color")) (codes "red")) ≡ member (as_name (codes "Other")) (codes "Red")
without_its_enum = refl

-- other.color.red
behind_module_and_enum : spelling_of (member (member (plain (codes "other")) (codes "color")) (codes "red")) ≡ member (as_name (codes "Other")) (codes "Red")
behind_module_and_enum = refl

-- .SIZE in a With of a Car
of_a_with : spelled (S (keeps (class 0) root.Object)) as_value (with_member (codes "SIZE")) ≡ with_member (codes "Size")
of_a_with = refl

a_class : spelling_of (new_object (codes "CAR")) ≡ new_object (codes "Car")
a_class = refl

-- ---- parts

-- (lost) + f(far)
part_by_part : spelling_of (binary op.Add (paren (plain (codes "lost"))) (index (plain (codes "f")) (next_arg None false (given (plain (codes "far"))) no_args)))
    ≡ binary op.Add (paren (as_name (codes "Lost"))) (index (plain (codes "f")) (next_arg None false (given (member (as_name (codes "Other")) (codes "Far"))) no_args))
unfolding names_a_to_c names_d_to_i names_j_to_p names_q_to_y
part_by_part = refl
