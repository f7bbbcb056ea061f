-- A project for the worked examples. The standard module Main has the variables n, of type Long, lost, without a type, and a, an array of
-- Longs; item, an object of the class Car; the Function Make, which gives a Car; the Sub Start with a parameter by value; and the
-- Function Odd, whose head breaks a rule. The class Car has the property Count with a Get and a Let, its default member, and the
-- property Size, which can't be given a value.
use Rattle.std.proofs.Common.{ℕ, Bool, false, true, List, [], ◌∷◌, Option, Some, None, codes, pos}
use Rattle.up_base.specs.declared.place.Place.{Place}
use Rattle.vb_tree.specs.BoundTree.{Ty, integer, long, class, array, nothing, unknown}
use Rattle.vb_tree.specs.BoundTree as types
use Rattle.vb_tree.specs.declared.declared.Owner.{Owner}
use Rattle.vb_tree.specs.declared.declared.Owner.TheVariants as owner
use Rattle.vb_tree.specs.declared.declared.ProcId.{ProcId}
use Rattle.vb_tree.specs.declared.declared.ProcKind.{ProcKind}
use Rattle.vb_tree.specs.declared.declared.ProcKind.TheVariants as kind
use Rattle.vb_tree.specs.declared.declared.VarId.{VarId}
use Rattle.vb_tree.specs.declared.form_parts.Visibility.TheVariants as visibility
use Rattle.vb_tree.specs.declared.project.ProjectKind.TheVariants.{Exe}
use Rattle.vb_tree.specs.declared.value.Value6.TheVariants as v
use Rattle.bound_tree.specs.declared.body.Mention.TheVariants as mention
use Rattle.bound_tree.specs.declared.expression.Origin.TheVariants.{Literal}
use Rattle.bound_tree.specs.Tree.{Variable, Procedure, Declarations, Expr, typed, Term, constant, variable, convert}
use Rattle.expression_words.specs.declared.typed.Flaw.{Flaw}
use Rattle.expression_words.specs.Flaws as flaws
use Rattle.expression_words.specs.Flaws.{lacks}
use Rattle.expression_words.specs.Passing.{Supplied, given}

abbrev nowhere : Place
nowhere = record { file = 1; line = 1 }

abbrev pub p : ℕ → ProcId
p n = record { 0 = n }

abbrev pub w : ℕ → VarId
w n = record { 0 = n }

abbrev of_owner : Owner → Ty → Variable
of_owner o t = record { name = codes "x"; place = nowhere; statement = 0; owner = o; ty = t; named = t; qualified = false; lettered = None; bounds = []; auto = false; preset = None }

abbrev procedure_of : ProcKind → ℕ → List VarId → Ty → ℕ → Procedure
procedure_of k m params t first = record {
  name = codes "p";
  place = nowhere;
  module_number = m;
  kind = k;
  visibility = visibility.Public;
  params = params;
  result = t;
  answer = None;
  first = p first;
}

abbrev pub D : Declarations
D = record {
  project = record {
    file = record { kind = Exe; startup = None; entries = []; dropped = [] };
    modules =
        record { file = 1; name = codes "Main"; class = false; members = []; comments = [] }
        ∷ record { file = 2; name = codes "Car"; class = true; members = []; comments = [] } ∷ [];
  };
  names = [];
  vars = of_owner (owner.Module 1) long ∷ of_owner (owner.Module 1) unknown ∷ of_owner (owner.Module 1) (array long 0) ∷ of_owner (owner.Module 1) (class 0)
      ∷ of_owner (owner.Value (p 1)) long ∷ of_owner (owner.Value (p 3)) long ∷ [];
  consts = [];
  procs = procedure_of kind.Get 2 [] long 0 ∷ procedure_of kind.Let 2 (w 4 ∷ []) nothing 0 ∷ procedure_of kind.Function 1 [] (class 0) 2
      ∷ procedure_of kind.Sub 1 (w 5 ∷ []) nothing 3 ∷ procedure_of kind.Function 1 [] unknown 4 ∷ procedure_of kind.Get 2 [] long 5 ∷ [];
  types = [];
  enums = [];
  defaults = Some (p 0) ∷ [];
}

-- ---- expressions

abbrev pub n : Expr
n = typed long (variable (w 0) false)

abbrev pub a : Expr
a = typed (array long 0) (variable (w 2) false)

abbrev pub item : Expr
item = typed (class 0) (variable (w 3) false)

abbrev pub number : Expr
number = typed integer (constant (v.Int (pos 1)) Literal)

-- the same, converted to Long
abbrev pub long_number : Expr
long_number = typed long (convert long number)

-- a use of the variable without a type
abbrev pub lost : Flaw
lost = lacks (mention.Var (w 1))

-- ---- arguments

abbrev pub plain_argument : flaws.Typed → Supplied
plain_argument t = record { named = false; marked = false; parenthesised = false; value = given t }

-- an argument with a name before it
abbrev pub named_argument : flaws.Typed → Supplied
named_argument t = record { named = true; marked = false; parenthesised = false; value = given t }
