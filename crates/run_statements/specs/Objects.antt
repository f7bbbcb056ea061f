-- How classes are written, and new objects of them in memories that match.
use Rattle.std.specs.Prelude.{◌≡◌, ℕ, ◌<◌, suc, Bool, true, false, Some, None, List, [], ◌∷◌, slice_get}
use Rattle.vb_tree.specs.BoundTree as types
use Rattle.vb_tree.specs.BoundTree.{Ty}
use Rattle.vb_tree.specs.declared.value.Value6.TheVariants as value
use Rattle.bound_facts.specs.Members.{class_files, terminator, variables_from}
use Rattle.net_tree.specs.declared.declaration.NetVisibility.{NetVisibility}
use Rattle.net_tree.specs.Tree as net_tree
use Rattle.net_tree.specs.Tree.{Member, member_comment, variable, const_member, structure, property, proc}
use Rattle.net_tree.specs.Types.{TypeName}
use Rattle.net_meaning.specs.declared.value.ValueN.TheVariants as n
use Rattle.run_base.specs.Positions.{field}
use Rattle.vb6_run.specs.Objects.{lay_fields, with_new_object}
use Rattle.vb6_run.specs.Shapes.{variable_shape}
use Rattle.vb6_run.specs.Values.{scalar}
use Rattle.net_run.specs.Making.{members_made, with_object}
use Rattle.net_run.specs.Names.{key_of}
use Rattle.net_run.specs.Shapes as shape
use Rattle.net_run.specs.Values as net_value
use Rattle.run_matches.specs.Agreeing.{Agrees}
use Rattle.run_matches.specs.CoveredVariables.{covers_made}
use Rattle.run_matches.specs.Likeness.{LikeV, SameShape, scalar_word}
use Rattle.run_matches.specs.Maps.{World}
use Rattle.run_matches.specs.Match.{MemoryMatch}
use Rattle.run_matches.specs.Pledges.{Pledge}
use Rattle.run_matches.specs.Upgrades.{Upgrade, class_home, is_flagged, variable_key}
use Rattle.run_statements.specs.Arrays.{array_initial, array_shape}
use Rattle.run_statements.specs.Frames.{IsArray, IsAutoOf, IsGroup, IsReadable}

-- ---- how a class is written

abbrev pub is_variable : Member → Bool
is_variable (member_comment units) = false
is_variable (variable visibility d) = true
is_variable (const_member visibility c) = false
is_variable (structure s) = false
is_variable (property p) = false
is_variable (proc p) = false

-- the shape of what a member of a module declares
abbrev pub written_shape : Upgrade → (home : ℕ) → net_tree.Variable → shape.Shape
written_shape U home d = shape.shape_of U.written home d.ty

-- no value is written for it, and its type has one to begin with
pub record BeginsByDefault (U : Upgrade) (home : ℕ) (d : net_tree.Variable) : Type 0 where
  pub plain : d.value ≡ None
  pub suits : shape.is_of (written_shape U home d) (shape.default_of (written_shape U home d)) ≡ true

-- What is written for a variable of a class: of one whose declaration carries an issue nothing is compared.
pub data IsWrittenAs (U : Upgrade) (home v : ℕ) : net_tree.Variable → Type 0 where
  written_flagged : (d : net_tree.Variable) → is_flagged U v ≡ true → BeginsByDefault U home d → IsWrittenAs U home v d
  written_scalar :
      (d : net_tree.Variable) → IsReadable U v → d.value ≡ None → SameShape U (variable_shape U.program.declarations v) (written_shape U home d)
      → IsWrittenAs U home v d
  written_array :
      (d : net_tree.Variable) (element : Ty) (r : IsArray U v element) (t : TypeName) → (U.facts.rank v ≡ 0 → ⊥) → scalar_word element ≡ Some t
      → shape.shape_of U.written home t ≡ shape.scalar t → d.value ≡ Some (array_initial U v t r.known.variable.bounds)
      → written_shape U home d ≡ array_shape U v t → IsWrittenAs U home v d
  written_group :
      (d : net_tree.Variable) (ty : Ty) → IsGroup U v ty → d.value ≡ None
      → SameShape U (variable_shape U.program.declarations v) (written_shape U home d) → IsWrittenAs U home v d
  -- an As New one begins as Nothing
  written_auto :
      (d : net_tree.Variable) (class : ℕ) → IsAutoOf U v class → d.value ≡ None
      → SameShape U (variable_shape U.program.declarations v) (written_shape U home d) → IsWrittenAs U home v d

-- The variables of a class are written in order among its members, which are numbered from one on. No other variable has the key of one. A
-- constant that carries an issue is written as a variable that stands for none.
pub data AreWritten (U : Upgrade) (home : ℕ) : List ℕ → (number : ℕ) → List Member → Type 0 where
  none_written : (k : ℕ) → AreWritten U home [] k []
  other_member :
      (vs : List ℕ) (k : ℕ) (m : Member) (members : List Member) → is_variable m ≡ false → AreWritten U home vs (suc k) members
      → AreWritten U home vs k (m ∷ members)
  stands_for_none :
      (vs : List ℕ) (k : ℕ) (visibility : NetVisibility) (d : net_tree.Variable) (members : List Member) → BeginsByDefault U home d
      → ((u : ℕ) → variable_key U u ≡ Some (key_of home k) → ⊥) → AreWritten U home vs (suc k) members
      → AreWritten U home vs k (variable visibility d ∷ members)
  variable_written :
      (v : ℕ) (vs : List ℕ) (k : ℕ) (visibility : NetVisibility) (d : net_tree.Variable) (members : List Member)
      → variable_key U v ≡ Some (key_of home k) → ((u : ℕ) → variable_key U u ≡ Some (key_of home k) → v ≡ u) → IsWrittenAs U home v d
      → AreWritten U home vs (suc k) members → AreWritten U home (v ∷ vs) k (variable visibility d ∷ members)

-- a class without Class_Terminate that is written, with each of its variables
pub record IsMakeable (U : Upgrade) (class : ℕ) : Type 0 where
  pub file : ℕ
  pub is_file : slice_get (class_files U.program.declarations.project) class ≡ Some file
  pub no_terminator : terminator U.program.declarations class ≡ None
  pub home : ℕ
  pub is_home : class_home U class ≡ Some home
  pub are_written : AreWritten U home (variables_from file 0 U.program.declarations.vars) 0 (shape.members_of (shape.module_at U.written home))

-- classes of which objects may be made are so
abbrev pub ClassesAreWritten : Upgrade → Type 0
ClassesAreWritten U = (class : ℕ) → covers_made U.program class ≡ true → IsMakeable U class

-- ---- new objects

-- the next object of each side is one of the class, and stands for the other
pub record ObjectMade (U : Upgrade) (w0 : World) (class : ℕ) (w : World) : Type 0 where
  pub is_made : w0.src.next_object < w.src.next_object
  pub goes : w.map.objects w0.src.next_object ≡ w0.net.next_object
  pub is_class : w.src.class_of w0.src.next_object ≡ Some class
  pub like : LikeV U w (scalar (types.class class) (value.Object w0.src.next_object)) (net_value.single (n.Object w0.net.next_object))

abbrev pub MadeObject : Upgrade → World → (class : ℕ) → World → Unit {0} → Unit {0} → Type 0
MadeObject U w0 class w u v = ObjectMade U w0 class w

-- The variables of a new object are made on both sides, before its Class_Initialize runs.
abbrev pub ObjectsAreMadeBy : Upgrade → Pledge → Type 0
ObjectsAreMadeBy U K =
    (w : World) (class : ℕ) (m : IsMakeable U class) → MemoryMatch U w
    → Agrees U K w (MadeObject U w class)
    (lay_fields U.program.declarations w.src.next_object (variables_from m.file 0 U.program.declarations.vars) (with_new_object class w.src.next_object w.src))
    (members_made U.written (field w.net.next_object) m.home 0 (shape.members_of (shape.module_at U.written m.home)) (with_object m.home w.net))

abbrev pub ObjectsAreMade : Upgrade → Type 1
ObjectsAreMade U = (K : Pledge) → ObjectsAreMadeBy U K
