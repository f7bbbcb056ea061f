-- Where the places and the objects of a run stand in the written program's run, and which positions are compared.
use Rattle.std.specs.Prelude.{◌≡◌, ℕ, ◌<◌, ◌≤◌, Bool, true, false, not, Option, Some, None, is_some, List, [], ◌∷◌}
use Rattle.run_base.specs.Positions.{Key, Root, shared, made, field, Position}
use Rattle.vb6_run.specs.Store.{Memory}
use Rattle.net_run.specs.Store as net
use Rattle.run_matches.specs.Upgrades.{Upgrade, variable_key, is_sound, is_auto, is_fixed}

-- The place and the object that stand for each of the source's that was made. A place stands alone where the target has none for it: a
-- temporary of one side, what a procedure that has ended left behind, or a variable whose declaration carries an issue. A place may be
-- known by the variable that declares it.
pub record Map : Type 0 where
  pub places : ℕ → ℕ
  pub objects : ℕ → ℕ
  pub alone : ℕ → Bool
  pub declares : ℕ → Option ℕ

-- a memory of each side, with the map between them
pub record World : Type 0 where
  pub map : Map
  pub src : Memory
  pub net : net.Memory

-- ---- where roots and positions go

abbrev pub key_or_none : Option Key → Key
key_or_none None = []
key_or_none (Some k) = k

-- the source keeps a variable of a module by its number
abbrev pub moved_key : Upgrade → Key → Key
moved_key U [] = []
moved_key U (v ∷ []) = key_or_none (variable_key U v)
moved_key U (v ∷ u ∷ more) = []

abbrev pub moved : Upgrade → Map → Root → Root
moved U m (shared k) = shared (moved_key U k)
moved U m (made n) = made (m.places n)
moved U m (field o k) = field (m.objects o) (moved_key U k)

abbrev pub moved_at : Upgrade → Map → Position → Position
moved_at U m q = record { root = moved U m q.root; path = q.path }

-- ---- how much was made

-- how many places and objects a memory has made
pub record Mark : Type 0 where
  pub places : ℕ
  pub objects : ℕ

abbrev pub mark : Memory → Mark
mark s = record { places = s.next; objects = s.next_object }

abbrev pub net_mark : net.Memory → Mark
net_mark t = record { places = t.next; objects = t.next_object }

pub record Below (a b : Mark) : Type 0 where
  pub places : a.places ≤ b.places
  pub objects : a.objects ≤ b.objects

-- there at a mark, and made behind it
abbrev pub IsMade : Mark → Root → Type 0
IsMade base (shared k) = Unit {0}
IsMade base (made n) = n < base.places
IsMade base (field o k) = o < base.objects

abbrev pub IsUnmade : Mark → Root → Type 0
IsUnmade base (shared k) = ⊥
IsUnmade base (made n) = base.places ≤ n
IsUnmade base (field o k) = base.objects ≤ o

-- ---- what is compared

abbrev pub variable_in : Key → Option ℕ
variable_in [] = None
variable_in (v ∷ []) = Some v
variable_in (v ∷ u ∷ more) = None

-- the variable that declares a root, as far as it is known
abbrev pub root_variable : Map → Root → Option ℕ
root_variable m (shared k) = variable_in k
root_variable m (made n) = m.declares n
root_variable m (field o k) = variable_in k

abbrev pub has_key : Upgrade → Option ℕ → Bool
has_key U None = false
has_key U (Some v) = is_some (variable_key U v)

-- the target has one for it
abbrev pub has_counterpart : Upgrade → Map → Root → Bool
has_counterpart U m (shared k) = has_key U (variable_in k)
has_counterpart U m (made n) = not (m.alone n)
has_counterpart U m (field o k) = has_key U (variable_in k)

abbrev pub is_sound_part : Upgrade → Option ℕ → (path : List ℕ) → Bool
is_sound_part U None path = true
is_sound_part U (Some v) path = is_sound U v path

-- A position that was made and is compared: the target has one for it, and neither its variable nor a field that leads to it carries an
-- issue.
pub record IsMatched (U : Upgrade) (w : World) (q : Position) : Type 0 where
  pub is_made : IsMade (mark w.src) q.root
  pub counterpart : has_counterpart U w.map q.root ≡ true
  pub sound : is_sound_part U (root_variable w.map q.root) q.path ≡ true

-- a place of the target that stands for nothing of the source that is compared
abbrev pub IsUnmapped : Upgrade → World → Position → Type 0
IsUnmapped U w p = (q : Position) → IsMatched U w q → moved_at U w.map q ≡ p → ⊥

-- ---- what declarations tell of a root

abbrev pub is_auto_variable : Upgrade → Option ℕ → Bool
is_auto_variable U None = false
is_auto_variable U (Some v) = is_auto U v

abbrev pub is_fixed_variable : Upgrade → Option ℕ → Bool
is_fixed_variable U None = false
is_fixed_variable U (Some v) = is_fixed U v

-- an As New variable, which the use of it may set
abbrev pub is_auto_root : Upgrade → Map → Root → Bool
is_auto_root U m r = is_auto_variable U (root_variable m r)

abbrev pub is_fixed_whole : Upgrade → Map → Root → (path : List ℕ) → Bool
is_fixed_whole U m r [] = is_fixed_variable U (root_variable m r)
is_fixed_whole U m r (k ∷ path) = false

-- a fixed array that is no part of a user type: no other array is ever put there
abbrev pub is_fixed_position : Upgrade → Map → Position → Bool
is_fixed_position U m q = is_fixed_whole U m q.root q.path

-- ---- maps that grow

-- What was mapped stays so. What was made since goes to what was made since.
pub record Extends (w0 w : World) : Type 0 where
  pub same_places : (n : ℕ) → n < w0.src.next → w.map.places n ≡ w0.map.places n
  pub same_objects : (o : ℕ) → o < w0.src.next_object → w.map.objects o ≡ w0.map.objects o
  pub same_alone : (n : ℕ) → n < w0.src.next → w.map.alone n ≡ w0.map.alone n
  pub same_declared : (n : ℕ) → n < w0.src.next → w.map.declares n ≡ w0.map.declares n
  pub new_places : (n : ℕ) → w0.src.next ≤ n → n < w.src.next → w.map.alone n ≡ false → w0.net.next ≤ w.map.places n
  pub new_objects : (o : ℕ) → w0.src.next_object ≤ o → o < w.src.next_object → w0.net.next_object ≤ w.map.objects o
