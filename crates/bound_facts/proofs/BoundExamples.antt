-- Ties of arrays and their lower bounds, worked out by hand.
use Rattle.std.proofs.Common.{◌≡◌, ℕ, ℤ, Bool, true, false, List, [], ◌∷◌, Option, Some, None, refl, arith, pos, codes}
use Rattle.up_base.specs.declared.place.Place.{Place}
use Rattle.reach_table.specs.Chains.{empty, longer}
use Rattle.vb_tree.specs.BoundTree.{Ty, long, nothing, array}
use Rattle.vb_tree.specs.declared.declared.Owner.{Owner}
use Rattle.vb_tree.specs.declared.declared.Owner.TheVariants as owner
use Rattle.vb_tree.specs.declared.declared.ProcId.{ProcId}
use Rattle.vb_tree.specs.declared.declared.ProcKind.TheVariants as kind
use Rattle.vb_tree.specs.declared.declared.VarId.{VarId}
use Rattle.vb_tree.specs.declared.form_parts.Visibility.TheVariants as visibility
use Rattle.vb_tree.specs.declared.project.ProjectFile.{ProjectFile}
use Rattle.vb_tree.specs.declared.project.ProjectKind.TheVariants.{Exe}
use Rattle.vb_tree.specs.declared.value.Value6.TheVariants as v
use Rattle.vb_tree.specs.Tree.{Form, Bounds, ReDimItem, Module, Project, me, no_args}
use Rattle.vb_tree.specs.Tree as vb
use Rattle.bound_tree.specs.declared.expression.Origin.TheVariants.{Literal}
use Rattle.bound_tree.specs.RuleSets.{none}
use Rattle.bound_tree.specs.Tree.{Variable, Procedure, Declarations, Expr, typed, constant, variable, call, no_object, by_reference, no_passed, next_passed, Line, Program}
use Rattle.bound_facts.specs.Bounds.{ties, lows, ranks, AreTied, Low, option_base_of}

abbrev file : ℕ → Place
file n = record { file = n; line = 1 }

abbrev p : ℕ → ProcId
p n = record { 0 = n }

abbrev x : ℕ → VarId
x n = record { 0 = n }

abbrev var : Owner → (rank : ℕ) → List (ℤ × ℤ) → Variable
var o rank bounds = record { name = codes "x"; place = file 1; statement = 0; owner = o; ty = array long rank; named = array long rank; qualified = false; lettered = None; bounds = bounds; auto = false; preset = None }

abbrev sub : (name : List ℕ) → List VarId → Procedure
sub name params = record { name = name; place = file 1; module_number = 1; kind = kind.Sub; visibility = visibility.Public; params = params; result = nothing; answer = None; first = p 0 }

abbrev whole : ℕ → Expr
whole n = typed (array long 0) (variable (x n) false)

abbrev number : ℕ → Expr
number n = typed long (constant (v.Long (pos n)) Literal)

abbrev at : Form → List Expr → Line
at form es = record { source = record { place = file 1; text = []; form = form }; bindings = record { exprs = es; rules = none; mentions = [] } }

-- one dimension, with a lower bound and without one
abbrev both : Bounds
both = record { lower = Some me; upper = me }

abbrev upper : Bounds
upper = record { lower = None; upper = me }

abbrev redim : List Bounds → Form
redim bounds = vb.redim false (record { array = me; bounds = bounds; ty = None } ∷ [])

-- Option Base 1, Dim a(2 To 5), b(), c(), and Sub Fill(q())
abbrev D : Declarations
D = record {
  project = record {
    file = record { kind = Exe; startup = None; entries = []; dropped = [] };
    modules = record { file = 1; name = codes "Main1"; class = false; members = vb.alone (record { place = file 1; text = []; form = vb.option_base (pos 1) }) ∷ []; comments = [] } ∷ [];
  };
  names = [];
  vars = var (owner.Module 1) 1 ((pos 2, pos 5) ∷ []) ∷ var (owner.Module 1) 0 [] ∷ var (owner.Module 1) 0 [] ∷ var (owner.Reference (p 1)) 0 [] ∷ [];
  consts = [];
  procs = sub (codes "Main") [] ∷ sub (codes "Fill") (x 3 ∷ []) ∷ [];
  types = [];
  enums = [];
  defaults = [];
}

-- Main: b = a, ReDim c(3), Fill c. Fill: ReDim q(4 To 9, 7)
abbrev P : Program
P = record {
  declarations = D;
  bodies = (at (vb.assign me me) (whole 1 ∷ whole 0 ∷ [])
      ∷ at (redim (upper ∷ [])) (whole 2 ∷ number 3 ∷ [])
      ∷ at (vb.invoke me no_args) (typed nothing (call (p 1) false no_object (next_passed (by_reference (whole 2)) no_passed)) ∷ []) ∷ [])
      ∷ (at (redim (both ∷ upper ∷ [])) (whole 3 ∷ number 4 ∷ number 9 ∷ number 7 ∷ []) ∷ []) ∷ [];
}

base_of_module : option_base_of D 1 ≡ pos 1
base_of_module = refl

-- by the assignment and by the argument
tied : ties P ≡ (1, 0) ∷ (2, 3) ∷ []
tied = refl

-- a has 2 by its declaration, c 1 by Option Base, q 4 in its first dimension
first_lows : lows P 0 ≡ (0, pos 2) ∷ (2, pos 1) ∷ (3, pos 4) ∷ []
first_lows = refl

second_lows : lows P 1 ≡ (3, pos 1) ∷ []
second_lows = refl

given_ranks : ranks P ≡ (0, 1) ∷ (2, 1) ∷ (3, 2) ∷ []
given_ranks = refl

-- so b has the lower bound of a, and c that of q beside its own
of_b : Low P 0 1 (pos 2)
of_b = (0, longer 1 1 0 (empty 1) (0, omega arith, refl), (0, omega arith, refl))

of_c : Low P 0 2 (pos 4)
of_c = (3, longer 2 2 3 (empty 2) (2, omega arith, refl), (2, omega arith, refl))
