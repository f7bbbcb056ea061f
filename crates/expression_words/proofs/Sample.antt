-- A project for computed examples: classes with and without default members, and a Sub with parameters of several kinds.
use Rattle.std.proofs.Common.{ℕ, true, false, List, [], ◌∷◌, Option, Some, None, pos, codes}
use Rattle.up_base.specs.declared.place.Place.{Place}
use Rattle.vb_tree.specs.BoundTree.{Ty, integer, long, class, nothing, array, unknown}
use Rattle.vb_tree.specs.declared.declared.Owner.{Owner}
use Rattle.vb_tree.specs.declared.declared.Owner.TheVariants as owner
use Rattle.vb_tree.specs.declared.declared.ProcId.{ProcId}
use Rattle.vb_tree.specs.declared.declared.ProcKind.{ProcKind}
use Rattle.vb_tree.specs.declared.declared.ProcKind.TheVariants as kind
use Rattle.vb_tree.specs.declared.declared.VarId.{VarId}
use Rattle.vb_tree.specs.declared.form_parts.Visibility.TheVariants as visibility
use Rattle.vb_tree.specs.declared.project.ProjectKind.TheVariants.{Exe}
use Rattle.vb_tree.specs.declared.value.Value6.{Value6}
use Rattle.vb_tree.specs.declared.value.Value6.TheVariants as v
use Rattle.vb_tree.specs.Tree.{Module}
use Rattle.bound_tree.specs.Tree.{Variable, Procedure, Declarations}

abbrev place : Place
place = record { file = 1; line = 1 }

abbrev pub x : ℕ → VarId
x n = record { 0 = n }

abbrev pub p : ℕ → ProcId
p n = record { 0 = n }

abbrev param : Owner → Ty → Option Value6 → Variable
param o ty preset = record { name = codes "x"; place = place; statement = 0; owner = o; ty = ty; named = ty; qualified = false; lettered = None; bounds = []; auto = false; preset = preset }

abbrev procedure : ProcKind → List VarId → Ty → (first : ℕ) → Procedure
procedure k params result first = record {
  name = codes "f";
  place = place;
  module_number = 1;
  kind = k;
  visibility = visibility.Public;
  params = params;
  result = result;
  answer = None;
  first = p first;
}

abbrev class_module : ℕ → Module
class_module n = record { file = n; name = codes "C"; class = true; members = []; comments = [] }

-- Class 0 has a default member of class 1, which has one of Long. That of class 2 is of class 2; class 3 has none; that of class 4
-- has a parameter; that of class 5 is a property without a Get; that of class 6 has no type.
-- Sub 6 has the parameters n As Long, ByVal m As Integer, Optional k As Long = 7, and Sub 7 the parameter a() As Long;
-- Function 8 has no type; the parameter of Sub 9 has none.
abbrev pub D : Declarations
D = record {
  project = record {
    file = record { kind = Exe; startup = None; entries = []; dropped = [] };
    modules = record { file = 1; name = codes "Main1"; class = false; members = []; comments = [] }
        ∷ class_module 2 ∷ class_module 3 ∷ class_module 4 ∷ class_module 5 ∷ class_module 6 ∷ class_module 7 ∷ class_module 8 ∷ [];
  };
  names = [];
  vars = param (owner.Value (p 3)) long None
      ∷ param (owner.Value (p 4)) long None
      ∷ param (owner.Reference (p 6)) long None
      ∷ param (owner.Value (p 6)) integer None
      ∷ param (owner.Reference (p 6)) long (Some (v.Long (pos 7)))
      ∷ param (owner.Reference (p 7)) (array long 0) None
      ∷ param (owner.Reference (p 9)) unknown None ∷ [];
  consts = [];
  procs = procedure kind.Get [] (class 1) 0
      ∷ procedure kind.Get [] long 1
      ∷ procedure kind.Get [] (class 2) 2
      ∷ procedure kind.Function (x 0 ∷ []) long 3
      ∷ procedure kind.Let (x 1 ∷ []) nothing 4
      ∷ procedure kind.Get [] unknown 5
      ∷ procedure kind.Sub (x 2 ∷ x 3 ∷ x 4 ∷ []) nothing 6
      ∷ procedure kind.Sub (x 5 ∷ []) nothing 7
      ∷ procedure kind.Function [] unknown 8
      ∷ procedure kind.Sub (x 6 ∷ []) nothing 9 ∷ [];
  types = [];
  enums = [];
  defaults = Some (p 0) ∷ Some (p 1) ∷ Some (p 2) ∷ None ∷ Some (p 3) ∷ Some (p 4) ∷ Some (p 5) ∷ [];
}
