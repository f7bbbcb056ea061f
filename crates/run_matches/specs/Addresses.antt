-- When addresses, parts of expressions and arguments of both languages match.
use Rattle.std.specs.Prelude.{◌≡◌, ◌⊎◌, ℕ, ◌<◌, suc, ℤ, pos, negsuc, ◌-ℤ◌, Bool, true, false, nat_lt, Option, Some, None, List, [], ◌∷◌, ◌^◌, length}
use Rattle.std.specs.List.{AllPairs, Contains}
use Rattle.vb_tree.specs.BoundTree.{Ty, class}
use Rattle.vb_tree.specs.declared.value.Value6.{Value6}
use Rattle.net_meaning.specs.declared.value.ValueN.TheVariants as n
use Rattle.run_base.specs.Frames.{by_value, by_address, Kept, keeps_nothing, keeps_limit, keeps_value, keeps_address}
use Rattle.run_base.specs.Positions.{Key, Position, field, inner, made, shared}
use Rattle.vb6_run.specs.Expressions as source
use Rattle.vb6_run.specs.Shapes.{Shape, simple, group, array, endless, Shapes, no_shapes, next_shape, part_shape, user_shapes}
use Rattle.vb6_run.specs.Store.{Address, root, item, constant, Locked, SourceGiven, held_at}
use Rattle.vb6_run.specs.Values.{Dimension, Value, scalar, fields, elements, Values}
use Rattle.net_run.specs.Names as net_part
use Rattle.net_run.specs.Shapes as shape
use Rattle.net_run.specs.Store as net
use Rattle.net_run.specs.Values as net_value
use Rattle.written_trees.specs.Arguments.{is_property}
use Rattle.run_matches.specs.Covered.{is_relied_at}
use Rattle.run_matches.specs.CoveredVariables.{covers_type, takes_value_at}
use Rattle.run_matches.specs.Upgrades.{Upgrade, class_home, variable_key, is_flagged_field, parameter_rank, runnable_of, takes_array}
use Rattle.run_matches.specs.Maps.{World, mark, IsMade, IsMatched, moved_at, is_auto_root, is_fixed_position}
use Rattle.run_matches.specs.Likeness.{SameShape, LikeV, ShapedAs}
use Rattle.run_matches.specs.Kinds.{IsKind, IsValueOf}
use Rattle.run_matches.specs.Match.{IsLoose, HasArray, HasRank}
use Rattle.run_matches.specs.Pledges.{Pledge, Later, type_of_shape, NetGiven, taken_by}

-- ---- variables

abbrev mutual
  -- A variable of a shape holds what the shape says and is compared, with all fields whose declarations carry no issue. Where a fixed array
  -- stands, each address says so.
  pub AllMatched : Upgrade → World → Shape → Position → Type 0
  AllMatched U w (simple ty) q = IsMatched U w q × IsKind (simple ty) (w.src.held q)
  AllMatched U w (group t fs) q = IsMatched U w q × IsKind (group t fs) (w.src.held q) × FieldsMatched U w t 0 fs q
  AllMatched U w (array e bounds) q =
      IsMatched U w q × IsKind (array e bounds) (w.src.held q) × (is_fixed_position U w.map q ≡ true → bounds ≡ [] → ⊥)
  AllMatched U w endless q = ⊥

  pub FieldsMatched : Upgrade → World → (user_type field : ℕ) → Shapes → Position → Type 0
  FieldsMatched U w t k no_shapes q = Unit {0}
  FieldsMatched U w t k (next_shape s rest) q = ((is_flagged_field U t k ≡ true) ⊎ AllMatched U w s (inner q k)) × FieldsMatched U w t (suc k) rest q

abbrev mutual
  -- the arrays in a variable have the ranks of its written shape
  pub AllRanked : Upgrade → World → Shape → shape.Shape → Position → Type 0
  AllRanked U w (array e bounds) (shape.array d rank) q = HasRank U w q rank
  AllRanked U w (group t fs) (shape.structured home member gs) q = FieldsRanked U w t 0 fs gs q
  AllRanked U w s d q = Unit {0}

  pub FieldsRanked : Upgrade → World → (user_type field : ℕ) → Shapes → shape.Fields → Position → Type 0
  FieldsRanked U w t k (next_shape s rest) (shape.next_field name d others) q =
      ((is_flagged_field U t k ≡ true) ⊎ AllRanked U w s d (inner q k)) × FieldsRanked U w t (suc k) rest others q
  FieldsRanked U w t k fs gs q = Unit {0}

-- ---- values that are known while a procedure runs

abbrev pub position_of : Address → Option Position
position_of (root s q) = Some q
position_of (item e q j path) = Some q
position_of (constant x) = None

-- two addresses hold values that match
pub record HoldsSame (U : Upgrade) (w : World) (a : Address) (b : net.Address) : Type 0 where
  pub value : Value
  pub source : held_at a w.src.held ≡ Some value
  pub like : LikeV U w value (net.looked_up b w.net)
  pub shaped : ShapedAs U value (net.shape_at b)
  pub is_made : (q : Position) → position_of a ≡ Some q → IsMade (mark w.src) q.root

-- Two addresses at which nothing is written hold values that match, now and at each later world: what is bound to a quiet parameter, by
-- reference on one side and by value on the other, in either way, or by value on both.
pub record Mirrors (U : Upgrade) (K : Pledge) (w : World) (a : Address) (b : net.Address) : Type 0 where
  pub holds : (w1 : World) → Later U K w w1 → HoldsSame U w1 a b

-- ---- addresses

-- One address is the image of the other: variables, and elements of arrays that are kept, with fields in them.
pub data Same (U : Upgrade) (K : Pledge) (w : World) : Address → net.Address → Type 0 where
  same_root :
      (s : Shape) (d : shape.Shape) (q : Position) → SameShape U s d → AllMatched U w s q → AllRanked U w s d q
      → Same U K w (root s q) (net.root d (moved_at U w.map q))
  same_item :
      (e s : Shape) (d : shape.Shape) (q : Position) (k j : ℕ) (path : List ℕ) → K.keeps (type_of_shape e) → IsMatched U w q → HasArray U w q e k
      → part_shape path e ≡ Some s → SameShape U s d → Same U K w (item e q j path) (net.item d k j path)

-- the same, or both stand for values, which are read alone
pub data Bound (U : Upgrade) (K : Pledge) (w : World) : (exact : Bool) → Address → net.Address → Type 0 where
  images : (exact : Bool) (a : Address) (b : net.Address) → Same U K w a b → Bound U K w exact a b
  mirrored : (a : Address) (b : net.Address) → Mirrors U K w a b → Bound U K w false a b

-- ---- where a scalar can be written

pub record IsInPlace (a : Address) : Type 0 where
  pub place : ℕ
  pub shape : Shape
  pub path : List ℕ
  pub stands : a ≡ root shape (record { root = made place; path = path })

-- the address of a variable of a standard module, or of a Static in one, that is written with a key of its own, or of a field in it
pub record HasOwnKey (U : Upgrade) (a : Address) : Type 0 where
  pub variable : ℕ
  pub key : Key
  pub of_shape : Shape
  pub path : List ℕ
  pub stands : a ≡ root of_shape (record { root = shared (variable ∷ []); path = path })
  pub is_key : variable_key U variable ≡ Some key
  pub differs : (u : ℕ) → variable_key U u ≡ Some key → variable ≡ u

-- so is the address of a variable that an object has, or of a field in it
pub record HasFieldKey (U : Upgrade) (a : Address) : Type 0 where
  pub object : ℕ
  pub variable : ℕ
  pub key : Key
  pub of_shape : Shape
  pub path : List ℕ
  pub stands : a ≡ root of_shape (record { root = field object (variable ∷ []); path = path })
  pub is_key : variable_key U variable ≡ Some key
  pub differs : (u : ℕ) → variable_key U u ≡ Some key → variable ≡ u

abbrev pub is_element : Address → Bool
is_element (root s q) = false
is_element (item e q j path) = true
is_element (constant x) = false

-- a variable or a value, and no element
abbrev pub IsWhole : Address → Type 0
IsWhole a = is_element a ≡ false

-- an element of an array of scalars
pub record IsElement (a : Address) : Type 0 where
  pub ty : Ty
  pub covers : covers_type ty ≡ true
  pub array : Position
  pub index : ℕ
  pub stands : a ≡ item (simple ty) array index []

-- a variable that can be written: in a place, or one of a standard module or of an object
abbrev pub IsVariable : Upgrade → Address → Type 0
IsVariable U a = IsInPlace a ⊎ (HasOwnKey U a ⊎ HasFieldKey U a)

-- where a scalar can be written
abbrev pub IsTarget : Upgrade → Address → Type 0
IsTarget U a = IsVariable U a ⊎ IsElement a

-- a variable of a type, or an element of an array of elements of the type
abbrev pub IsScalarAt : Ty → Address → Position → Type 0
IsScalarAt ty a q = (a ≡ root (simple ty) q) ⊎ ((index : ℕ) × (a ≡ item (simple ty) q index []))

-- ---- parts of expressions

-- the index of an element, counted from 0: what is none goes to -1 or stays what it is, which is none either
abbrev pub is_index : ℤ → Bool
is_index (pos z) = nat_lt z (2 ^ 31)
is_index (negsuc z) = false

abbrev pub SameIndex : (low index : ℤ) → net_value.Value → Type 0
SameIndex low z (net_value.single (n.Integer i)) = (i ≡ z -ℤ low) ⊎ ((is_index (z -ℤ low) ≡ false) × (is_index i ≡ false))
SameIndex low z y = ⊥

-- what counts as an index at all
abbrev pub IsIndex : net_value.Value → Type 0
IsIndex (net_value.single (n.Integer i)) = Unit {0}
IsIndex y = ⊥

-- The indexes of an element by the lower bounds of its array; an array that isn't allocated has none, and takes as many as its rank is.
pub data SameIndexes : List Dimension → List ℤ → List net_value.Value → Type 0 where
  no_indexes : SameIndexes [] [] []
  free_index : (z : ℤ) (y : net_value.Value) (zs : List ℤ) (ys : List net_value.Value) → IsIndex y → SameIndexes [] zs ys
      → SameIndexes [] (z ∷ zs) (y ∷ ys)
  next_index : (d : Dimension) (dims : List Dimension) (z : ℤ) (y : net_value.Value) (zs : List ℤ) (ys : List net_value.Value)
      → SameIndex d.low z y → SameIndexes dims zs ys → SameIndexes (d ∷ dims) (z ∷ zs) (y ∷ ys)

-- The array of an element: where a variable has it, the same stands in the cell; else both are arrays that are read alone.
pub data SameSlot (U : Upgrade) (w : World) : Address → (element : shape.Shape) → (array : ℕ) → List Dimension → Type 0 where
  slot_kept :
      (e : Shape) (d : shape.Shape) (bounds : List (ℤ × ℤ)) (q : Position) (k : ℕ) → SameShape U e d → IsMatched U w q → (has : HasArray U w q e k)
      → SameSlot U w (root (array e bounds) q) d k has.dims
  slot_read :
      (a : Address) (e : Shape) (d : shape.Shape) (dims : List Dimension) (xs : Values) (k : ℕ) → SameShape U e d
      → held_at a w.src.held ≡ Some (elements e dims xs)
      → LikeV U w (elements e dims xs) (net_value.single (n.Array k)) → SameSlot U w a d k dims

-- parts of an expression; those of a target are exact
pub data PartsMatch (U : Upgrade) (K : Pledge) (w : World) (exact : Bool) : source.Parts → net_part.Parts → Type 0 where
  no_parts : PartsMatch U K w exact source.no_value (net_part.at_address net.nowhere)
  address_parts : (a : Address) (b : net.Address) → Bound U K w exact a b → PartsMatch U K w exact (source.at_address a) (net_part.at_address b)
  element_parts :
      (a : Address) (d : shape.Shape) (k : ℕ) (dims : List Dimension) (zs : List ℤ) (ys : List net_value.Value) → SameSlot U w a d k dims
      → SameIndexes dims zs ys
      → length (w.net.arrays k).counts ≡ length ys
      → PartsMatch U K w exact (source.at_element a zs) (net_part.at_element d (net_value.single (n.Array k)) ys)
  field_parts :
      (ty : Ty) (x : Value6) (c v : ℕ) (s : Shape) (d : shape.Shape) (y : net_value.Value) (key : Key) → LikeV U w (scalar ty x) y → SameShape U s d
      → variable_key U v ≡ Some key
      → PartsMatch U K w exact (source.at_field (scalar ty x) c s v) (net_part.at_field d y key)

-- ---- what the heads of blocks keep

-- an object is kept with its class
abbrev pub HasHome : Upgrade → Ty → shape.Shape → Type 0
HasHome U (class c) s = (home : ℕ) × (class_home U c ≡ Some home) × (s ≡ shape.class home)
HasHome U ty s = Unit {0}

-- What a With keeps that is no user type is a value on one side and an address of it on the other; an array has no members, so that nothing
-- is asked of it. What is kept on a quiet parameter needn't be exact.
pub data KeptMatch (U : Upgrade) (K : Pledge) (w : World) (exact : Bool) : Kept Value Address → Kept net_value.Value net.Address → Type 0 where
  both_nothing : KeptMatch U K w exact keeps_nothing keeps_nothing
  both_limits :
      (a : Address) (b : net.Address) (ty tz : Ty) (y s : Value6) (z d : net_value.Value) → Same U K w a b → LikeV U w (scalar ty y) z
      → LikeV U w (scalar tz s) d → KeptMatch U K w exact (keeps_limit a (scalar ty y) (scalar tz s)) (keeps_limit b z d)
  both_choices : (ty : Ty) (x : Value6) (y : net_value.Value) → LikeV U w (scalar ty x) y
      → KeptMatch U K w exact (keeps_value (scalar ty x)) (keeps_value y)
  both_objects :
      (ty : Ty) (x : Value6) (s : shape.Shape) (y : net_value.Value) → LikeV U w (scalar ty x) y → HasHome U ty s
      → KeptMatch U K w exact (keeps_value (scalar ty x)) (keeps_address (net.constant s y))
  both_arrays :
      (e : Shape) (dims : List Dimension) (xs : Values) (s : shape.Shape) (y : net_value.Value)
      → KeptMatch U K w exact (keeps_value (elements e dims xs)) (keeps_address (net.constant s y))
  both_addresses : (a : Address) (b : net.Address) → Bound U K w exact a b → KeptMatch U K w exact (keeps_address a) (keeps_address b)

-- ---- arguments

-- an address that is no As New variable's
abbrev pub IsPlain : Upgrade → World → Address → Type 0
IsPlain U w a = (q : Position) → position_of a ≡ Some q → is_auto_root U w.map q.root ≡ false

-- a parameter that is an array is given one by reference; a user type has a value for each of its fields
abbrev pub IsGivable : Upgrade → (procedure place : ℕ) → Value → Type 0
IsGivable U p i (scalar ty x) = Unit {0}
IsGivable U p i (fields t xs) = IsValueOf (user_shapes U.program.declarations t) (fields t xs)
IsGivable U p i (elements e dims xs) = takes_array U.program.declarations p i ≡ false

-- an array is given to a parameter of its rank
abbrev pub HasParameterRank : Upgrade → (procedure place : ℕ) → shape.Shape → Type 0
HasParameterRank U p i (shape.array d rank) = rank ≡ parameter_rank U p i
HasParameterRank U p i d = Unit {0}

-- a variable of a user type has the fields that the type declares
abbrev pub IsDeclaredShape : Upgrade → Shape → Type 0
IsDeclaredShape U (simple ty) = Unit {0}
IsDeclaredShape U (group t fs) = user_shapes U.program.declarations t ≡ group t fs
IsDeclaredShape U (array e bounds) = Unit {0}
IsDeclaredShape U endless = Unit {0}

abbrev pub IsDeclaredAt : Upgrade → Address → Type 0
IsDeclaredAt U (root s q) = IsDeclaredShape U s
IsDeclaredAt U (item e q j path) = Unit {0}
IsDeclaredAt U (constant x) = Unit {0}

-- a procedure that is no part of a property: what is written for a parameter of such a part takes a value
abbrev pub TakesAddresses : Upgrade → (procedure : ℕ) → Type 0
TakesAddresses U p = is_property U.program.declarations p ≡ false

abbrev pub SuitsParameter : Upgrade → (procedure place : ℕ) → Address → net.Address → Type 0
SuitsParameter U p i a b = HasParameterRank U p i (net.shape_at b) × (IsDeclaredAt U a × TakesAddresses U p)

-- an address of what was made
abbrev pub IsThere : World → Address → Type 0
IsThere w a = (q : Position) → position_of a ≡ Some q → IsMade (mark w.src) q.root

-- where there is a scalar, the variable has its type
abbrev pub IsTypedAs : Upgrade → Value → shape.Shape → Type 0
IsTypedAs U x s = (ty : Ty) (z : Value6) → x ≡ scalar ty z → SameShape U (simple ty) s

-- a parameter that is relied on is given no element
abbrev pub GivesWhole : Upgrade → (procedure place : ℕ) → Address → Type 0
GivesWhole U p i a = is_relied_at U.program p i ≡ true → IsWhole a

-- an array, a user type and an object are given by reference to a quiet parameter
abbrev pub TakesValue : Upgrade → (procedure place : ℕ) → Type 0
TakesValue U p i = takes_value_at U.program p i ≡ true

-- Arguments from a place on. An ordinary reference parameter is bound by reference on both sides, quiet or not. At a quiet one that is a
-- scalar either side alone may have a value, and the target has one where it is an index parameter of a property.
pub data ArgsMatch (U : Upgrade) (K : Pledge) (w : World) (p : ℕ) : (place : ℕ) → List SourceGiven → List NetGiven → Type 0 where
  no_args : (i : ℕ) → ArgsMatch U K w p i [] []
  value_args :
      (i : ℕ) (x : Value) (y : net_value.Value) (xs : List SourceGiven) (ys : List NetGiven) → LikeV U w x y → IsGivable U p i x
      → TakesValue U p i → ArgsMatch U K w p (suc i) xs ys → ArgsMatch U K w p i (by_value x ∷ xs) (by_value y ∷ ys)
  address_args :
      (i : ℕ) (a : Address) (b : net.Address) (xs : List SourceGiven) (ys : List NetGiven) → Same U K w a b → IsTarget U a → GivesWhole U p i a
      → IsPlain U w a → SuitsParameter U p i a b → ArgsMatch U K w p (suc i) xs ys
      → ArgsMatch U K w p i (by_address a ∷ xs) (by_address b ∷ ys)
  source_bound :
      (i : ℕ) (a : Address) (s : shape.Shape) (y : net_value.Value) (xs : List SourceGiven) (ys : List NetGiven) → (runnable_of U).quiet p i ≡ true
      → TakesValue U p i → Mirrors U K w a (net.constant s y) → IsVariable U a → IsThere w a → IsPlain U w a → ArgsMatch U K w p (suc i) xs ys → ArgsMatch U K w p i (by_address a ∷ xs) (by_value y ∷ ys)
  target_bound :
      (i : ℕ) (x : Value) (b : net.Address) (xs : List SourceGiven) (ys : List NetGiven) → (runnable_of U).quiet p i ≡ true
      → TakesValue U p i → TakesAddresses U p → Mirrors U K w (constant x) b → IsTypedAs U x (net.shape_at b) → ArgsMatch U K w p (suc i) xs ys → ArgsMatch U K w p i (by_value x ∷ xs) (by_address b ∷ ys)

-- The arguments match, and each array in a value occurs once, in no position that is compared.
pub record ArgsOk (U : Upgrade) (K : Pledge) (w : World) (p : ℕ) (xs : List SourceGiven) (ys : List NetGiven) : Type 0 where
  pub match : ArgsMatch U K w p 0 xs ys
  pub loose : (k : ℕ) → Contains (taken_by xs ys) k → (k < w.net.next_array) × IsLoose U w k
  pub once : AllPairs (λ j k. j ≡ k → ⊥) (taken_by xs ys)

-- ---- locks

-- the array at a position is kept
pub record LockOk (U : Upgrade) (K : Pledge) (w : World) (q : Position) : Type 0 where
  pub element : Shape
  pub array : ℕ
  pub is_matched : IsMatched U w q
  pub stands : HasArray U w q element array
  pub kept : K.keeps (type_of_shape element)

abbrev pub AllLocked : Upgrade → Pledge → World → Locked → Type 0
AllLocked U K w [] = Unit {0}
AllLocked U K w (q ∷ rest) = LockOk U K w q × AllLocked U K w rest
