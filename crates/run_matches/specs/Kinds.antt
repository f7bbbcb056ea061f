-- What kind of thing a position holds, which it keeps once it was made.
use Rattle.std.specs.Prelude.{◌≡◌, ℕ, suc, List}
use Rattle.vb_tree.specs.declared.value.Value6.{Value6}
use Rattle.run_base.specs.Positions.{Position, inner}
use Rattle.vb6_run.specs.Shapes.{Shape, simple, group, array, endless, Shapes, no_shapes, next_shape}
use Rattle.vb6_run.specs.Store.{Held, blank, single, table, parts}
use Rattle.vb6_run.specs.Values.{Dimension, Value, scalar, fields, Values, no_values, next_value}

-- what a variable of a shape holds: a scalar of its type, an array of its elements, or a user type
abbrev pub IsKind : Shape → Held → Type 0
IsKind (simple ty) h = (x : Value6) × (h ≡ single ty x)
IsKind (group t fs) h = h ≡ parts
IsKind (array e bounds) h = (dims : List Dimension) × (xs : Values) × (h ≡ table e dims xs)
IsKind endless h = ⊥

abbrev mutual
  -- a variable of a shape is made: each position in it holds what its shape says
  pub AreKinds : Shape → Position → (Position → Held) → Type 0
  AreKinds (simple ty) q h = IsKind (simple ty) (h q)
  AreKinds (group t fs) q h = IsKind (group t fs) (h q) × AreFieldKinds fs q 0 h
  AreKinds (array e bounds) q h = IsKind (array e bounds) (h q)
  AreKinds endless q h = ⊥

  pub AreFieldKinds : Shapes → Position → (field : ℕ) → (Position → Held) → Type 0
  AreFieldKinds no_shapes q k h = Unit {0}
  AreFieldKinds (next_shape s rest) q k h = AreKinds s (inner q k) h × AreFieldKinds rest q (suc k) h

-- ---- values

abbrev mutual
  -- the values of a variable of a shape
  pub IsValueOf : Shape → Value → Type 0
  IsValueOf (simple ty) (scalar s z) = s ≡ ty
  IsValueOf (group t fs) (fields u xs) = (u ≡ t) × AreValuesOf fs xs
  IsValueOf _ _ = ⊥

  pub AreValuesOf : Shapes → Values → Type 0
  AreValuesOf no_shapes no_values = Unit {0}
  AreValuesOf (next_shape s rest) (next_value x xs) = IsValueOf s x × AreValuesOf rest xs
  AreValuesOf _ _ = ⊥

-- ---- later

-- what a position holds later
abbrev pub KeepsKind : Held → Held → Type 0
KeepsKind blank h = Unit {0}
KeepsKind (single ty x) h = (y : Value6) × (h ≡ single ty y)
KeepsKind (table e dims xs) h = (others : List Dimension) × (ys : Values) × (h ≡ table e others ys)
KeepsKind parts h = h ≡ parts
