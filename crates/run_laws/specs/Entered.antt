-- The variables that an entry makes, and frames that run.
use Rattle.std.specs.Prelude.{◌≡◌, ℕ, suc, true, false, not, Option, Some, None, option_map, List, [], ◌∷◌, nat_eq, slice_get, ◌⊎◌}
use Rattle.std.specs.Map.{lookup}
use Rattle.vb_tree.specs.BoundTree.{Ty}
use Rattle.bound_tree.specs.Tree.{Constant, Variable}
use Rattle.run_base.specs.Positions.{Key, Root, field, made, shared, whole}
use Rattle.vb6_run.specs.Shapes.{variable_shape}
use Rattle.vb6_run.specs.Store.{Address, SourceFrame}
use Rattle.net_run.specs.Lines.{NetFrame}
use Rattle.net_run.specs.Members.{Code}
use Rattle.net_run.specs.Program.{static_key, static_root}
use Rattle.net_run.specs.Shapes as shape
use Rattle.net_run.specs.Store as net
use Rattle.written_trees.specs.Names.{Scope}
use Rattle.written_trees.specs.Prologues.{constant_dim, is_static}
use Rattle.run_matches.specs.Addresses.{AllMatched, AllRanked, Bound, IsPlain}
use Rattle.run_matches.specs.Frames.{FrameMatch, GivenAddress, HasPlace, IsOwnAddress, frame_pledge, is_own_of, is_reference_of, is_own_place, is_mirrored}
use Rattle.run_matches.specs.Likeness.{SameShape}
use Rattle.run_matches.specs.Maps.{Below, World, mark, moved_at}
use Rattle.run_matches.specs.Pledges.{Pledge, IsOld}
use Rattle.run_matches.specs.Runs.{IsObject}
use Rattle.run_matches.specs.Sites.{Own, own_variable, own_constant}
use Rattle.run_matches.specs.Upgrades.{Upgrade, variable_key}
use Rattle.run_statements.specs.Frames.{HasRankOf, IsArray, IsGroup, IsReadable, IsUsable}
use Rattle.run_statements.specs.Kept.{IsConstantDim}

-- ---- variables

-- it was made on both sides
pub record OwnPlace (U : Upgrade) (K : Pledge) (w : World) (v : ℕ) (a : Address) : Type 0 where
  pub place : HasPlace U w v a
  pub own : IsOwnAddress K a

-- it was given by reference
pub record GivenVariable (U : Upgrade) (w : World) (v : ℕ) (a : Address) : Type 0 where
  pub given : GivenAddress U v a
  pub plain : IsPlain U w a
  pub foreign : (p : ℕ) → is_own_of U p v ≡ false

-- a variable of a procedure on both sides; an array has the rank of its declaration
pub record LocalMatch (U : Upgrade) (K : Pledge) (w : World) (v : ℕ) (a : Address) (b : net.Address) : Type 0 where
  pub bound : Bound U K w (not (is_mirrored U v)) a b
  pub ranked : HasRankOf U v (net.shape_at b)
  pub standing : OwnPlace U K w v a ⊎ GivenVariable U w v a

-- ---- Statics

-- where a Static stands: in its standard module, or in the object that has those of the frame
abbrev pub static_in : (holder : Option ℕ) → (variable : ℕ) → Root
static_in None v = shared (v ∷ [])
static_in (Some o) v = field o (v ∷ [])

abbrev pub net_static_in : (holder : Option ℕ) → Key → Root
net_static_in None key = shared key
net_static_in (Some o) key = field o key

abbrev pub HasClass : World → Option ℕ → Type 0
HasClass w None = Unit {0}
HasClass w (Some o) = (class : ℕ) × (w.src.class_of o ≡ Some class)

-- The object that has the Statics of a frame, if one has them, and the one that stands for it: it was made, and is of a class.
pub record IsHolder (w : World) (holder net_holder : Option ℕ) : Type 0 where
  pub object : IsObject w holder
  pub class : HasClass w holder
  pub goes : option_map w.map.objects holder ≡ net_holder

-- a Static of a procedure on both sides
pub record StaticMatch (U : Upgrade) (holder : Option ℕ) (w : World) (v : ℕ) (b : net.Address) : Type 0 where
  pub written : shape.Shape
  pub same : SameShape U (variable_shape U.program.declarations v) written
  pub matched : AllMatched U w (variable_shape U.program.declarations v) (whole (static_in holder v))
  pub ranked : AllRanked U w (variable_shape U.program.declarations v) written (whole (static_in holder v))
  pub stands : b ≡ net.root written (moved_at U w.map (whole (static_in holder v)))

-- ---- all of them

-- what a procedure declares, with the variables of both frames: a constant and a Static have a name in the target's alone
pub data LocalsMatch (U : Upgrade) (K : Pledge) (holder : Option ℕ) (w : World) : List Own → List (ℕ × Address) → List (List ℕ × net.Address) → Type 0 where
  no_locals : LocalsMatch U K holder w [] [] []
  next_variable : (v : ℕ) (x : Variable) (a : Address) (b : List ℕ × net.Address) (os : List Own) (xs : List (ℕ × Address)) (ys : List (List ℕ × net.Address))
      → is_static x.owner ≡ false → b.0 ≡ x.name → LocalMatch U K w v a b.1 → LocalsMatch U K holder w os xs ys
      → LocalsMatch U K holder w (own_variable v x ∷ os) ((v, a) ∷ xs) (b ∷ ys)
  next_static : (v : ℕ) (x : Variable) (b : List ℕ × net.Address) (os : List Own) (xs : List (ℕ × Address)) (ys : List (List ℕ × net.Address))
      → is_static x.owner ≡ true → b.0 ≡ x.name → StaticMatch U holder w v b.1 → LocalsMatch U K holder w os xs ys
      → LocalsMatch U K holder w (own_variable v x ∷ os) xs (b ∷ ys)
  next_constant : (c : ℕ) (x : Constant) (b : List ℕ × net.Address) (os : List Own) (xs : List (ℕ × Address)) (ys : List (List ℕ × net.Address))
      → b.0 ≡ x.name → LocalsMatch U K holder w os xs ys → LocalsMatch U K holder w (own_constant c x ∷ os) xs (b ∷ ys)

-- a result variable: a scalar, or of a user type or a class
abbrev pub IsResult : Upgrade → (variable : ℕ) → Type 0
IsResult U v = IsReadable U v ⊎ ((ty : Ty) × IsGroup U v ty)

-- a parameter: a scalar, an array of scalars, or of a user type or a class
abbrev pub IsTaken : Upgrade → (variable : ℕ) → Type 0
IsTaken U v = IsReadable U v ⊎ (((element : Ty) × IsArray U v element) ⊎ ((ty : Ty) × IsGroup U v ty))

-- a variable that is a scalar, an array or of a user type or a class, which may be As New, or a constant that is written as one
abbrev pub IsSound : Upgrade → Scope → Own → Type 0
IsSound U S (own_variable v x) = (r : IsUsable U v) × (slice_get U.program.declarations.vars v ≡ Some x)
IsSound U S (own_constant c x) = IsConstantDim (constant_dim S (c, x))

abbrev pub AllSound : Upgrade → Scope → List Own → Type 0
AllSound U S [] = Unit {0}
AllSound U S (o ∷ os) = IsSound U S o × AllSound U S os

-- ---- keys

-- a Static has the key of its place among the declarations of its procedure, at which the target's frame has it, and no other variable has it
abbrev pub KeyAt : Upgrade → Code → (me net_holder : Option ℕ) → (place variable : ℕ) → Type 0
KeyAt U c me net_holder i v =
    (variable_key U v ≡ Some (static_key c i)) × ((u : ℕ) → variable_key U u ≡ Some (static_key c i) → v ≡ u)
    × (static_root U.written c me i ≡ Some (net_static_in net_holder (static_key c i)))

abbrev pub AllKeyed : Upgrade → Code → (me net_holder : Option ℕ) → (place : ℕ) → List Own → Type 0
AllKeyed U c me net_holder i [] = Unit {0}
AllKeyed U c me net_holder i (own_variable v x ∷ os) = (is_static x.owner ≡ true → KeyAt U c me net_holder i v) × AllKeyed U c me net_holder (suc i) os
AllKeyed U c me net_holder i (own_constant d x ∷ os) = AllKeyed U c me net_holder (suc i) os

-- ---- frames

-- A frame of a call that runs, with one that stands for it under the pledge of a line: variables of its own, and what a With on one keeps, are in places that
-- the call has made, and those that are given by reference can be written, or, where they are quiet, read.
pub record RunMatch (U : Upgrade) (K : Pledge) (p : ℕ) (me : Option ℕ) (w : World) (f : SourceFrame) (g : NetFrame) : Type 0 where
  pub same_object : f.me ≡ me
  pub frames : FrameMatch U (frame_pledge U p w f) w p f g
  pub low : Below K.base (mark w.src)
  pub places : (n : ℕ) → is_own_place U p f n ≡ true → IsOld K (made n) → ⊥
  pub given : (v : ℕ) (a : Address) → lookup (nat_eq v) f.vars ≡ Some a → is_reference_of U p v ≡ true → GivenAddress U v a
