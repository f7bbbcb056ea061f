-- What the tables of a project hold: the place of the first name that passes a test, in the list that they are made from.
use Rattle.std.specs.Prelude.{◌≡◌, ℕ, ◌&&◌, List, Vec, map, position}
use Rattle.std.proofs.Common.{Global}
use Rattle.vb_tree.specs.declared.declared.ProcId.{ProcId}
use Rattle.vb_tree.specs.Tree.{Module}
use Rattle.bound_tree.specs.declared.declared.NamedEntry.{NamedEntry}
use Rattle.bound_tree.specs.Tree.{Declarations}
use Rattle.indexmap.specs.IndexMap.{IndexMap}
use Rattle.name_tables.specs.declared.homes.Home.{Home}
use Rattle.name_tables.specs.declared.places.NamePlaces.{NamePlaces}
use Rattle.name_tables.specs.declared.tables.EventPlaces.{EventPlaces}
use Rattle.name_tables.specs.declared.tables.ModulePlaces.{ModulePlaces}
use Rattle.name_tables.specs.declared.tables.NameTables.{NameTables}
use Rattle.name_tables.specs.declared.tables.ScopePlaces.{ScopePlaces}
use Rattle.name_tables.specs.Events.{Event, events_of}
use Rattle.name_tables.specs.Homes.{homes_of, is_public_at, list_in}
use Rattle.name_tables.specs.Places.{noted, placed}
use Rattle.name_tables.specs.Rows.{classes_in}
use Rattle.name_tables.specs.Scopes.{has_key, in_module, is_local, is_own_event, is_seen_event, is_standard_name}

-- names of procedures' own, by procedure
abbrev pub AreLocals : NamePlaces → List NamedEntry → Type 0
AreLocals t names = (p : ProcId) (key : List ℕ) → placed t p.0 key ≡ position (is_local p key) names

-- names of modules, by file
abbrev pub AreMembers : NamePlaces → List NamedEntry → Type 0
AreMembers t names = (file : ℕ) (key : List ℕ) → placed t file key ≡ position (λ (e : NamedEntry). in_module file e.scope && has_key key e.name) names

-- names of modules that all modules see, by file
abbrev pub ArePublics : NamePlaces → List NamedEntry → Type 0
ArePublics t names = (file : ℕ) (key : List ℕ) → placed t file key ≡ position (is_public_at file key) names

abbrev pub AreStandards : NamePlaces → List Module → Type 0
AreStandards t modules = (key : List ℕ) → placed t 0 key ≡ position (is_standard_name key) modules

abbrev pub AreClasses : NamePlaces → List Module → Type 0
AreClasses t classes = (key : List ℕ) → placed t 0 key ≡ position (λ (m : Module). has_key key m.name) classes

abbrev pub AreClassFiles : Vec ℕ Global → List Module → Type 0
AreClassFiles v classes = v.items ≡ map (λ (m : Module). m.file) classes

-- names of lines that declare nothing, by file
abbrev pub AreOwnEvents : NamePlaces → List Event → Type 0
AreOwnEvents t events = (file : ℕ) (key : List ℕ) → placed t file key ≡ position (is_own_event file key) events

-- and those that other modules see
abbrev pub AreSeenEvents : NamePlaces → List Event → Type 0
AreSeenEvents t events = (key : List ℕ) → placed t 0 key ≡ position (is_seen_event key) events

-- for each name the modules that have it as one that all modules see
abbrev pub AreHomes : {S : Type 0} → IndexMap (Vec ℕ Global) (Vec Home Global) S → Declarations → Type 0
AreHomes m D = (key : List ℕ) → list_in (noted m key) ≡ homes_of D key

pub record AreScopes (t : ScopePlaces) (names : List NamedEntry) : Type 0 where
  pub locals : AreLocals t.locals names
  pub members : AreMembers t.members names
  pub publics : ArePublics t.publics names

pub record AreModules (t : ModulePlaces) (modules : List Module) : Type 0 where
  pub standards : AreStandards t.standards modules
  pub classes : AreClasses t.classes (classes_in modules)
  pub files : AreClassFiles t.files (classes_in modules)

pub record AreEvents (t : EventPlaces) (events : List Event) : Type 0 where
  pub own : AreOwnEvents t.own events
  pub seen : AreSeenEvents t.seen events

-- whether tables are those of declarations, of which they read the names, the project and the Enums alone
pub record AreTables (t : NameTables) (D : Declarations) : Type 0 where
  pub scopes : AreScopes t.scopes D.names
  pub modules : AreModules t.modules D.project.modules
  pub events : AreEvents t.events (events_of D.project)
  pub homes : AreHomes t.homes D
