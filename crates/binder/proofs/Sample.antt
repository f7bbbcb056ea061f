-- A project for the worked examples. The standard module Main declares
--     Public Total As Long, Lost As Double, Spot As Point, Items() As Long
--     Const Top = 3
--     Type Point / x As Long / End Type
-- and has the Sub Run; the class Car has the variable Size As Long. Lost has no type, since Double isn't translated.
use Rattle.std.proofs.Common.{ℕ, suc, false, true, List, [], ◌∷◌, Some, None, codes, pos}
use Rattle.up_base.specs.declared.place.Place.{Place}
use Rattle.vb_tree.specs.BoundTree.{Ty, integer, long, user, array, nothing, unknown}
use Rattle.vb_tree.specs.declared.declared.Owner.{Owner}
use Rattle.vb_tree.specs.declared.declared.Owner.TheVariants as owner
use Rattle.vb_tree.specs.declared.declared.ProcId.{ProcId}
use Rattle.vb_tree.specs.declared.declared.ProcKind.TheVariants as kind
use Rattle.vb_tree.specs.declared.declared.TypeId.{TypeId}
use Rattle.vb_tree.specs.declared.declared.VarId.{VarId}
use Rattle.vb_tree.specs.declared.form_parts.Visibility.TheVariants as visibility
use Rattle.vb_tree.specs.declared.project.ProjectKind.TheVariants.{Exe}
use Rattle.vb_tree.specs.declared.token.Literal6.TheVariants as literal
use Rattle.vb_tree.specs.declared.token.Suffix.TheVariants as suffix
use Rattle.vb_tree.specs.declared.value.Value6.TheVariants as v
use Rattle.vb_tree.specs.Tree.{Exp, Form, Line, Nodes, Module, Signature, end_sub, line, lit, next_node, no_nodes, proc, sub_head, word}
use Rattle.bound_tree.specs.declared.declared.ConstId.{ConstId}
use Rattle.bound_tree.specs.declared.declared.Named.{Named}
use Rattle.bound_tree.specs.declared.declared.Named.TheVariants as named
use Rattle.bound_tree.specs.declared.declared.NamedEntry.{NamedEntry}
use Rattle.bound_tree.specs.declared.declared.Scope.TheVariants as scope
use Rattle.bound_tree.specs.declared.expression.Origin.TheVariants.{Literal}
use Rattle.bound_tree.specs.Tree.{Variable, Procedure, Declarations, Expr, typed, constant, variable, convert}
use Rattle.expression_words.specs.Meanings as meanings
use Rattle.expression_words.specs.Meanings.{Kept, no_with}

abbrev pub at : ℕ → Place
at n = record { file = 1; line = n }

abbrev pub w : ℕ → VarId
w n = record { 0 = n }

abbrev pub p : ℕ → ProcId
p n = record { 0 = n }

abbrev pub c : ℕ → ConstId
c n = record { 0 = n }

abbrev pub t : ℕ → TypeId
t n = record { 0 = n }

-- ---- source

-- a line of Main, by its number from 1
abbrev pub line_at : ℕ → Form → Line
line_at n f = record { place = at n; text = []; form = f }

-- lines from the one with a number on
abbrev pub body_from : ℕ → List Form → Nodes
body_from n [] = no_nodes
body_from n (f ∷ fs) = next_node (line (line_at n f)) (body_from (suc n) fs)

abbrev head : Signature
head = record { visibility = None; name = codes "Run"; suffix = suffix.Absent; params = [] }

-- Main with the lines of Run, of which the first is line 11
abbrev modules : Nodes → List Module
modules body =
    record { file = 1; name = codes "Main"; class = false; members = proc (line_at 10 (sub_head head)) body (line_at 20 end_sub) ∷ []; comments = [] }
    ∷ record { file = 2; name = codes "Car"; class = true; members = []; comments = [] } ∷ []

abbrev pub plain : List ℕ → Exp
plain name = word name suffix.Absent

abbrev pub one : Exp
one = lit (literal.Int (pos 1) false)

-- ---- declarations

abbrev entry : List ℕ → Named → NamedEntry
entry name n = record { name = name; scope = scope.Public 1; named = n }

abbrev variable_as : List ℕ → Owner → Ty → Variable
variable_as name o ty = record { name = name; place = at 1; statement = 0; owner = o; ty = ty; named = ty; qualified = false; lettered = None; bounds = []; auto = false; preset = None }

abbrev run : Procedure
run = record {
  name = codes "Run";
  place = at 10;
  module_number = 1;
  kind = kind.Sub;
  visibility = visibility.Public;
  params = [];
  result = nothing;
  answer = None;
  first = p 0;
}

abbrev pub D : Nodes → Declarations
D body = record {
  project = record { file = record { kind = Exe; startup = None; entries = []; dropped = [] }; modules = modules body };
  names =
      entry (codes "Total") (named.Var (w 0))
      ∷ entry (codes "Lost") (named.Var (w 1))
      ∷ entry (codes "Spot") (named.Var (w 2))
      ∷ entry (codes "Items") (named.Var (w 3))
      ∷ entry (codes "Top") (named.Const (c 0))
      ∷ entry (codes "Point") (named.Type (t 0))
      ∷ entry (codes "Run") (named.Proc (p 0))
      ∷ record { name = codes "Size"; scope = scope.Public 2; named = named.Var (w 5) }
      ∷ [];
  vars =
      variable_as (codes "Total") (owner.Module 1) long
      ∷ variable_as (codes "Lost") (owner.Module 1) unknown
      ∷ variable_as (codes "Spot") (owner.Module 1) (user 0)
      ∷ variable_as (codes "Items") (owner.Module 1) (array long 0)
      ∷ variable_as (codes "x") (owner.Field (t 0)) long
      ∷ variable_as (codes "Size") (owner.Module 2) long
      ∷ [];
  consts = record { name = codes "Top"; place = at 2; statement = 1; owner = owner.Module 1; ty = integer; value = Some (v.Int (pos 3)) } ∷ [];
  procs = run ∷ [];
  types = record { name = codes "Point"; place = at 3; «module» = 1; fields = w 4 ∷ [] } ∷ [];
  enums = [];
  defaults = None ∷ [];
}

-- a place in Run, where all is declared by lines
abbrev pub scope_in : Declarations → Kept → meanings.Scope
scope_in E k = record { declarations = E; written = E; later = 4294967295; site = record { file = 1; procedure = Some (p 0) }; kept = k; missing = 3 }

abbrev pub S : meanings.Scope
S = scope_in (D no_nodes) no_with

-- ---- bound expressions

abbrev pub total : Expr
total = typed long (variable (w 0) false)

abbrev pub number : Expr
number = typed integer (constant (v.Int (pos 1)) Literal)

abbrev pub long_number : Expr
long_number = typed long (convert long number)
