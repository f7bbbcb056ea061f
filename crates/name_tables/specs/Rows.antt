-- The rows of each table, where a table without homes has the one home 0, and what stands at the place of a row.
use Rattle.std.specs.Prelude.{ℕ, Bool, not, if◌then◌else◌, List, filter, slice_get, Option, Some, None}
use Rattle.vb_tree.specs.Tree.{Module}
use Rattle.bound_tree.specs.declared.declared.Named.{Named}
use Rattle.bound_tree.specs.declared.declared.NamedEntry.{NamedEntry}
use Rattle.bound_tree.specs.declared.declared.Scope.{Scope}
use Rattle.bound_tree.specs.declared.declared.Scope.TheVariants as scope
use Rattle.name_tables.specs.Events.{Event}
use Rattle.name_tables.specs.Places.{Keyed}

abbrev pub procedure_of : Scope → Option ℕ
procedure_of (scope.Local p) = Some p.0
procedure_of (scope.Public file) = None
procedure_of (scope.Private file) = None

abbrev pub file_of : Scope → Option ℕ
file_of (scope.Public file) = Some file
file_of (scope.Private file) = Some file
file_of (scope.Local p) = None

abbrev pub public_file_of : Scope → Option ℕ
public_file_of (scope.Public file) = Some file
public_file_of (scope.Private file) = None
public_file_of (scope.Local p) = None

abbrev pub home_if : Bool → Option ℕ
home_if stands = if stands then Some 0 else None

abbrev pub local_row : NamedEntry → Keyed
local_row e = record { home = procedure_of e.scope; name = e.name }

abbrev pub member_row : NamedEntry → Keyed
member_row e = record { home = file_of e.scope; name = e.name }

abbrev pub public_row : NamedEntry → Keyed
public_row e = record { home = public_file_of e.scope; name = e.name }

abbrev pub standard_row : Module → Keyed
standard_row m = record { home = home_if (not m.class); name = m.name }

abbrev pub class_row : Module → Keyed
class_row m = record { home = Some 0; name = m.name }

abbrev pub classes_in : List Module → List Module
classes_in modules = filter (λ (m : Module). m.class) modules

abbrev pub own_event_row : Event → Keyed
own_event_row e = record { home = Some e.file; name = e.name }

abbrev pub seen_event_row : Event → Keyed
seen_event_row e = record { home = home_if e.seen; name = e.name }

-- what the name at a place is declared as
abbrev pub entry_named : Option NamedEntry → Option Named
entry_named None = None
entry_named (Some e) = Some e.named

abbrev pub named_at : List NamedEntry → Option ℕ → Option Named
named_at names None = None
named_at names (Some i) = entry_named (slice_get names i)

-- the file of the module at a place
abbrev pub module_file : Option Module → Option ℕ
module_file None = None
module_file (Some m) = Some m.file

abbrev pub file_at : List Module → Option ℕ → Option ℕ
file_at modules None = None
file_at modules (Some i) = module_file (slice_get modules i)
