-- Worked examples of what expressions of the source mean.
use Rattle.std.proofs.Common.{◌≡◌, ℕ, false, true, List, [], ◌∷◌, Some, None, refl, codes, pos}
use Rattle.up_base.specs.declared.place.Place.{Place}
use Rattle.vb_tree.specs.BoundTree.{Ty, array, class, integer, long, nothing, unknown}
use Rattle.vb_tree.specs.declared.declared.Owner.{Owner}
use Rattle.vb_tree.specs.declared.declared.Owner.TheVariants as owner
use Rattle.vb_tree.specs.declared.declared.ProcId.{ProcId}
use Rattle.vb_tree.specs.declared.declared.ProcKind.{ProcKind}
use Rattle.vb_tree.specs.declared.declared.ProcKind.TheVariants as kind
use Rattle.vb_tree.specs.declared.declared.VarId.{VarId}
use Rattle.vb_tree.specs.declared.expression.BinOp.TheVariants as op
use Rattle.vb_tree.specs.declared.form_parts.Visibility.TheVariants as visibility
use Rattle.vb_tree.specs.declared.project.ProjectKind.TheVariants.{Exe}
use Rattle.vb_tree.specs.declared.token.Literal6.TheVariants as literal
use Rattle.vb_tree.specs.declared.token.Suffix.TheVariants as suffix
use Rattle.vb_tree.specs.declared.value.Value6.TheVariants as v
use Rattle.vb_tree.specs.Tree.{Args, Exp, address_of, bang, given, index, lit, me, member, next_arg, no_args, omitted, paren, type_of, with_member, word}
use Rattle.vb_tree.specs.Tree as source
use Rattle.bound_tree.specs.declared.body.Mention.TheVariants as mention
use Rattle.bound_tree.specs.declared.declared.Named.{Named}
use Rattle.bound_tree.specs.declared.declared.Named.TheVariants as named
use Rattle.bound_tree.specs.declared.declared.NamedEntry.{NamedEntry}
use Rattle.bound_tree.specs.declared.declared.Scope.TheVariants as scope
use Rattle.bound_tree.specs.declared.expression.Origin.TheVariants.{Literal}
use Rattle.bound_tree.specs.declared.expression.Root.TheVariants as root
use Rattle.bound_tree.specs.RuleSets.{none}
use Rattle.bound_tree.specs.Tree.{Declarations, Expr, Procedure, Variable, binary, by_value, call, constant, convert, element, field, new_object, next_expr, next_passed, no_exprs, no_object, no_passed, of_object, typed, variable, with_object}
use Rattle.typing_rows.specs.LibraryNames.{names_a_to_c, names_d_to_i, names_j_to_p, names_q_to_y}
use Rattle.expression_words.specs.Flaws as flaws
use Rattle.expression_words.specs.Flaws.{breaks, known, lacks, no_flaw, together}
use Rattle.expression_words.specs.Meanings.{Kept, Scope, keeps, no_list, no_with, of_module, procedure, type_words}
use Rattle.expression_words.specs.Passing as passing
use Rattle.expression_words.specs.Passing.{left_out}
use Rattle.bound_exprs.specs.Resolved.{as_qualifier, as_target, meaning, resolved, supplied}

-- ---- A project: the module Main has the variables N As Long, Table() As Long, Item As Car and Lost without a type, and the Function Half
-- with the parameter ByVal x As Long. The class Car has the variable Size As Long and the Sub Drive.

abbrev at : Place
at = record { file = 1; line = 1 }

abbrev w : ℕ → VarId
w n = record { 0 = n }

abbrev p : ℕ → ProcId
p n = record { 0 = n }

abbrev entry : ℕ → List ℕ → Named → NamedEntry
entry file name n = record { name = name; scope = scope.Public file; named = n }

abbrev variable_as : List ℕ → Owner → Ty → Variable
variable_as name o ty = record { name = name; place = at; statement = 0; owner = o; ty = ty; named = ty; qualified = false; lettered = None; bounds = []; auto = false; preset = None }

abbrev procedure_as : List ℕ → ℕ → ProcKind → List VarId → Ty → ℕ → Procedure
procedure_as name m k params ty first = record {
  name = name;
  place = at;
  module_number = m;
  kind = k;
  visibility = visibility.Public;
  params = params;
  result = ty;
  answer = None;
  first = p first;
}

abbrev D : Declarations
D = record {
  project = record {
    file = record { kind = Exe; startup = None; entries = []; dropped = [] };
    modules =
        record { file = 1; name = codes "Main"; class = false; members = []; comments = [] }
        ∷ record { file = 2; name = codes "Car"; class = true; members = []; comments = [] } ∷ [];
  };
  names =
      entry 1 (codes "N") (named.Var (w 0))
      ∷ entry 1 (codes "Table") (named.Var (w 1))
      ∷ entry 1 (codes "Item") (named.Var (w 2))
      ∷ entry 1 (codes "Lost") (named.Var (w 3))
      ∷ entry 1 (codes "Half") (named.Proc (p 0))
      ∷ entry 2 (codes "Size") (named.Var (w 5))
      ∷ entry 2 (codes "Drive") (named.Proc (p 1))
      ∷ [];
  vars =
      variable_as (codes "N") (owner.Module 1) long
      ∷ variable_as (codes "Table") (owner.Module 1) (array long 0)
      ∷ variable_as (codes "Item") (owner.Module 1) (class 0)
      ∷ variable_as (codes "Lost") (owner.Module 1) unknown
      ∷ variable_as (codes "x") (owner.Value (p 0)) long
      ∷ variable_as (codes "Size") (owner.Module 2) long
      ∷ [];
  consts = [];
  procs = procedure_as (codes "Half") 1 kind.Function (w 4 ∷ []) long 0 ∷ procedure_as (codes "Drive") 2 kind.Sub [] nothing 1 ∷ [];
  types = [];
  enums = [];
  defaults = None ∷ [];
}

abbrev in_with : Kept → Scope
in_with k = record { declarations = D; written = D; later = 4294967295; site = record { file = 1; procedure = None }; kept = k; missing = 3 }

abbrev S : Scope
S = in_with no_with

abbrev plain : List ℕ → Exp
plain name = word name suffix.Absent

abbrev one : Exp
one = lit (literal.Int (pos 1) false)

-- the argument list (1)
abbrev of_one : Args
of_one = next_arg None false (given one) no_args

abbrev n : Expr
n = typed long (variable (w 0) false)

abbrev item : Expr
item = typed (class 0) (variable (w 2) false)

-- 1 where a Long is wanted
abbrev long_one : Expr
long_one = typed long (convert long (typed integer (constant (v.Int (pos 1)) Literal)))

-- ---- words

a_variable : resolved S (plain (codes "n")) ≡ known n
a_variable = refl

in_parentheses : resolved S (paren (plain (codes "n"))) ≡ known n
in_parentheses = refl

declared_nowhere : resolved S (plain (codes "m")) ≡ flaws.unknown (breaks 3)
unfolding names_a_to_c names_d_to_i names_j_to_p names_q_to_y type_words
declared_nowhere = refl

without_a_type : resolved S (plain (codes "lost")) ≡ flaws.unknown (lacks (mention.Var (w 3)))
without_a_type = refl

-- half = 1: the Function is found, and the statement says what becomes of it
as_a_target : meaning S as_target (plain (codes "half")) ≡ procedure 0 false no_object no_list
as_a_target = refl

a_module : meaning S as_qualifier (plain (codes "main")) ≡ of_module 1
a_module = refl

-- a standard module has no Me
in_main : resolved S me ≡ flaws.unknown (breaks 3)
in_main = refl

-- ---- operators

-- n + 1
a_sum : resolved S (source.binary op.Add (plain (codes "n")) one) ≡ known (typed long (binary op.Add n long_one))
a_sum = refl

-- lost + 1
without_operand : resolved S (source.binary op.Add (plain (codes "lost")) one) ≡ flaws.unknown (together (lacks (mention.Var (w 3))) no_flaw)
without_operand = refl

-- ---- argument lists

-- table(1)
an_element : resolved S (index (plain (codes "table")) of_one) ≡ known (typed long (element (typed (array long 0) (variable (w 1) false)) (next_expr long_one no_exprs)))
an_element = refl

-- half(1)
a_call : resolved S (index (plain (codes "half")) of_one) ≡ known (typed long (call (p 0) false no_object (next_passed (by_value long_one) no_passed)))
a_call = refl

-- half
without_argument : resolved S (plain (codes "half")) ≡ flaws.unknown (together no_flaw (breaks 18))
without_argument = refl

-- x:=ByVal (n), and one that is left out
as_supplied : supplied S (next_arg (Some (codes "x")) true (given (paren (plain (codes "n")))) (next_arg None false omitted no_args))
    ≡ record { named = true; marked = true; parenthesised = true; value = passing.given (known n) }
    ∷ record { named = false; marked = false; parenthesised = false; value = left_out } ∷ []
as_supplied = refl

-- ---- members

-- main.n
behind_its_module : resolved S (member (plain (codes "main")) (codes "n")) ≡ known (typed long (variable (w 0) true))
behind_its_module = refl

-- item.size
of_an_object : resolved S (member (plain (codes "item")) (codes "size")) ≡ known (typed long (field item 0))
of_an_object = refl

-- item.drive, which gives no value: its type is Nothing
a_sub : resolved S (member (plain (codes "item")) (codes "drive")) ≡ known (typed nothing (call (p 1) false (of_object item) no_passed))
a_sub = refl

-- n.size
of_a_number : resolved S (member (plain (codes "n")) (codes "size")) ≡ flaws.unknown (breaks 3)
of_a_number = refl

-- lost.size
hidden : resolved S (member (plain (codes "lost")) (codes "size")) ≡ flaws.unknown (lacks (mention.Var (w 3)))
hidden = refl

-- .size, in a With of an object and outside of every With
of_a_with : resolved (in_with (keeps (class 0) root.Object)) (with_member (codes "size")) ≡ known (typed long (field (typed (class 0) (with_object root.Object)) 0))
of_a_with = refl

without_with : resolved S (with_member (codes "size")) ≡ flaws.unknown (breaks 3)
without_with = refl

-- item!x
by_a_key : resolved S (bang (plain (codes "item")) (codes "x")) ≡ flaws.unknown (together (breaks 6) no_flaw)
by_a_key = refl

-- ---- classes and addresses

-- New Car
a_new_object : resolved S (source.new_object (codes "car")) ≡ known (typed (class 0) (new_object (record { 0 = 0 })))
a_new_object = refl

-- TypeOf item Is Car
a_test : resolved S (type_of (plain (codes "item")) (codes "car")) ≡ flaws.unknown (together (together (breaks 2) no_flaw) no_flaw)
unfolding none type_words
a_test = refl

an_address : resolved S (address_of (codes "half")) ≡ flaws.unknown (breaks 2)
an_address = refl
