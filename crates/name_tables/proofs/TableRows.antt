-- A row is in a home under a name where what it was made from passes the test of its table.
use Rattle.std.proofs.Common.{◌≡◌, ℕ, Bool, true, false, List, map, refl, ap, sym, ◌∙◌, ◌&&◌, not}
use Rattle.std.specs.Prelude.{position}
use Rattle.vb_tree.specs.declared.declared.ProcId.{ProcId}
use Rattle.vb_tree.specs.Tree.{Module}
use Rattle.bound_tree.specs.declared.declared.NamedEntry.{NamedEntry}
use Rattle.bound_tree.specs.declared.declared.Scope.{Scope}
use Rattle.bound_tree.specs.declared.declared.Scope.TheVariants as scope
use Rattle.name_tables.specs.declared.places.Row.{Row}
use Rattle.name_tables.specs.Events.{Event}
use Rattle.name_tables.specs.Homes.{is_public_at}
use Rattle.name_tables.specs.Places.{Keyed, is_at, is_home, keyed}
use Rattle.name_tables.specs.Rows.{class_row, file_of, home_if, local_row, member_row, own_event_row, procedure_of, public_file_of, public_row, seen_event_row, standard_row}
use Rattle.name_tables.specs.Scopes.{has_key, in_module, in_procedure, is_local, is_own_event, is_public_in, is_seen_event, is_standard_name}
use Rattle.name_tables.proofs.Firsts.{position_like, position_map}

pub rows_placed : {A : Type 0} (h : ℕ) (key : List ℕ) (rows : List Row) (f : A → Keyed) (xs : List A) (t : A → Bool) → map keyed rows ≡ map f xs
    → ((x : A) → is_at h key (f x) ≡ t x) → position (λ (r : Row). is_at h key (keyed r)) rows ≡ position t xs
rows_placed h key rows f xs t made same =
    sym (position_map (is_at h key) keyed rows) ∙ ap (position (is_at h key)) made ∙ position_map (is_at h key) f xs ∙ position_like (λ x. is_at h key (f x)) t same xs

pub local_at : (p : ProcId) (key : List ℕ) (e : NamedEntry) → is_at p.0 key (local_row e) ≡ is_local p key e
local_at p key e = ap (λ b. b && has_key key e.name) (by e.scope)
  where
    by : (s : Scope) → is_home p.0 (procedure_of s) ≡ in_procedure p s
    by (scope.Local q) = refl
    by (scope.Public f) = refl
    by (scope.Private f) = refl

pub member_at : (file : ℕ) (key : List ℕ) (e : NamedEntry) → is_at file key (member_row e) ≡ (in_module file e.scope && has_key key e.name)
member_at file key e = ap (λ b. b && has_key key e.name) (by e.scope)
  where
    by : (s : Scope) → is_home file (file_of s) ≡ in_module file s
    by (scope.Local q) = refl
    by (scope.Public f) = refl
    by (scope.Private f) = refl

pub public_at : (file : ℕ) (key : List ℕ) (e : NamedEntry) → is_at file key (public_row e) ≡ is_public_at file key e
public_at file key e = ap (λ b. b && has_key key e.name) (by e.scope)
  where
    by : (s : Scope) → is_home file (public_file_of s) ≡ is_public_in file s
    by (scope.Local q) = refl
    by (scope.Public f) = refl
    by (scope.Private f) = refl

pub standard_at : (key : List ℕ) (m : Module) → is_at 0 key (standard_row m) ≡ is_standard_name key m
standard_at key m = by m.class (has_key key m.name)
  where
    by : (class b : Bool) → (is_home 0 (home_if (not class)) && b) ≡ (b && not class)
    by true true = refl
    by true false = refl
    by false true = refl
    by false false = refl

pub class_at : (key : List ℕ) (m : Module) → is_at 0 key (class_row m) ≡ has_key key m.name
class_at key m = refl

pub own_event_at : (file : ℕ) (key : List ℕ) (e : Event) → is_at file key (own_event_row e) ≡ is_own_event file key e
own_event_at file key e = refl

pub seen_event_at : (key : List ℕ) (e : Event) → is_at 0 key (seen_event_row e) ≡ is_seen_event key e
seen_event_at key e = ap (λ b. b && has_key key e.name) (by e.seen)
  where
    by : (seen : Bool) → is_home 0 (home_if seen) ≡ seen
    by true = refl
    by false = refl
