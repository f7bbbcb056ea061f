-- Objects, and user types of scalars and objects none of whose declarations carries an issue.
use Rattle.std.specs.Prelude.{◌≡◌, ◌⊎◌, ℕ, suc, true, false, Some}
use Rattle.vb_tree.specs.BoundTree.{Ty, class}
use Rattle.vb6_run.specs.Shapes.{Shape, simple, group, array, endless, Shapes, no_shapes, next_shape}
use Rattle.run_matches.specs.CoveredVariables.{covers_type}
use Rattle.run_matches.specs.Pledges.{type_of_shape}
use Rattle.run_matches.specs.Upgrades.{Upgrade, class_home, field_variable, is_flagged, type_of}

-- a field of a user type has a type, and its declaration carries no issue
pub record IsField (U : Upgrade) (user_type field : ℕ) (ty : Ty) : Type 0 where
  pub variable : ℕ
  pub declares : field_variable U user_type field ≡ Some variable
  pub is_type : type_of U variable ≡ Some ty
  pub sound : is_flagged U variable ≡ false

-- a class that is written
abbrev pub IsClass : Upgrade → Ty → Type 0
IsClass U ty = (c : ℕ) × (home : ℕ) × (ty ≡ class c) × (class_home U c ≡ Some home)

abbrev mutual
  -- a scalar of a covered type, an object, or a user type of such fields as are declared, where no declaration of one carries an issue
  pub IsSoundShape : Upgrade → Shape → Type 0
  IsSoundShape U (simple ty) = (covers_type ty ≡ true) ⊎ IsClass U ty
  IsSoundShape U (group t fs) = AreSoundShapes U t 0 fs
  IsSoundShape U (array e bounds) = ⊥
  IsSoundShape U endless = ⊥

  pub AreSoundShapes : Upgrade → (user_type field : ℕ) → Shapes → Type 0
  AreSoundShapes U t k no_shapes = Unit {0}
  AreSoundShapes U t k (next_shape s rest) = IsField U t k (type_of_shape s) × IsSoundShape U s × AreSoundShapes U t (suc k) rest
