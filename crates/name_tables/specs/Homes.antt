-- The modules that have a public name, in project order.
use Rattle.std.specs.Prelude.{◌≡◌, ℕ, Bool, nat_eq, ◌==◌, ◌&&◌, ◌||◌, not, if◌then◌else◌, is_some, List, [], Vec, Option, Some, None, option_map, filter_map}
use Rattle.std.specs.List.{list_any}
use Rattle.std.proofs.Common.{Global}
use Rattle.indexmap.specs.IndexMap.{IndexMap}
use Rattle.indexmap.specs.IndexSet.{IndexSet, contains}
use Rattle.bound_tree.specs.declared.declared.ConstId.{ConstId}
use Rattle.bound_tree.specs.declared.declared.EnumDecl.{EnumDecl}
use Rattle.name_tables.specs.Places.{noted}
use Rattle.vb_tree.specs.Tree.{Module}
use Rattle.bound_tree.specs.declared.declared.Named.{Named}
use Rattle.bound_tree.specs.declared.declared.NamedEntry.{NamedEntry}
use Rattle.bound_tree.specs.Tree.{Declarations}
use Rattle.name_tables.specs.declared.homes.Home.{Home}
use Rattle.name_tables.specs.declared.uses.Kinds.{Kinds}
use Rattle.name_tables.specs.declared.uses.Use6.{Use6}
use Rattle.name_tables.specs.declared.uses.Use6.TheVariants as use6
use Rattle.name_tables.specs.Rows.{public_file_of}
use Rattle.name_tables.specs.Scopes.{first_named, has_key, has_member, if_fits, is_enum_member, is_public_in}

-- whether a name is one that all modules see, in the module of a file
abbrev pub is_public_at : ℕ → List ℕ → NamedEntry → Bool
is_public_at file key e = is_public_in file e.scope && has_key key e.name

-- and in any module
abbrev pub is_public_name : List ℕ → NamedEntry → Bool
is_public_name key e = is_some (public_file_of e.scope) && has_key key e.name

abbrev pub home_of : Declarations → Module → Named → Home
home_of D m n = record { file = m.file; class = m.class; named = n; enum_member = is_enum_member D n }

-- what a module has under a name that all modules see
abbrev pub home_in : Declarations → List ℕ → Module → Option Home
home_in D key m = option_map (home_of D m) (first_named (is_public_at m.file key) D.names)

abbrev pub homes_of : Declarations → List ℕ → List Home
homes_of D key = filter_map (home_in D key) D.project.modules

-- the numbers of members of Enums
abbrev pub has_number : {S : Type 0} → IndexSet ℕ S → ℕ → Bool
has_number s n = contains nat_eq s n

abbrev pub AreNumbers : {S : Type 0} → IndexSet ℕ S → List EnumDecl → Type 0
AreNumbers s enums = (c : ConstId) → has_number s c.0 ≡ list_any (has_member c) enums

abbrev pub list_in : Option (Vec Home Global) → List Home
list_in None = []
list_in (Some v) = v.items

-- the list that is noted for a name
abbrev pub lists_noted : {S : Type 0} → IndexMap (Vec ℕ Global) (Vec Home Global) S → List ℕ → Option (List Home)
lists_noted m key = option_map (λ (v : Vec Home Global). v.items) (noted m key)

-- what of it is a fitting declaration of another standard module
abbrev pub foreign_at : Declarations → Kinds → ℕ → Home → Option Use6
foreign_at D k from h = if h.class || h.file == from then None else option_map (use6.Foreign h.file) (if_fits D k (Some h.named))

-- whether it is a member of an Enum in another class module
abbrev pub is_class_constant : ℕ → Home → Bool
is_class_constant from h = (h.class && not (h.file == from)) && h.enum_member

abbrev pub foreign_of : ℕ → Option Named → Option Use6
foreign_of file n = option_map (use6.Foreign file) n
