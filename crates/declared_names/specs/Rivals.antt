-- Where the first declaration, the first field or the first part of a property with a name stands, by tables of rows.
use Rattle.std.specs.Prelude.{◌≡◌, ℕ, Bool, true, false, ◌||◌, not, cond, nat_eq, nat_le, Option, Some, None, List, [], ◌∷◌, ◌+◌, position, slice_get}
use Rattle.up_base.specs.Names.{lower_case}
use Rattle.vb_tree.specs.declared.declared.Owner.{Owner}
use Rattle.vb_tree.specs.declared.declared.Owner.TheVariants as owner
use Rattle.vb_tree.specs.declared.declared.ProcId.{ProcId}
use Rattle.vb_tree.specs.declared.declared.ProcKind.{ProcKind}
use Rattle.vb_tree.specs.declared.declared.ProcKind.TheVariants as kind
use Rattle.bound_tree.specs.declared.declared.Named.{Named}
use Rattle.bound_tree.specs.declared.declared.NamedEntry.{NamedEntry}
use Rattle.bound_tree.specs.declared.declared.Scope.{Scope}
use Rattle.bound_tree.specs.declared.declared.Scope.TheVariants as scope
use Rattle.bound_tree.specs.declared.rule_set.RuleSet.{RuleSet}
use Rattle.bound_tree.specs.RuleSets.{none, with_if}
use Rattle.name_places.specs.declared.places.NamePlaces.{NamePlaces}
use Rattle.name_places.specs.Places.{Keyed, is_at, placed}
use Rattle.declared_names.specs.declared.rivals.MemberPlaces.{MemberPlaces}
use Rattle.declared_names.specs.declared.rivals.Rivals.{Rivals}
use Rattle.declared_names.specs.Declaring.{NamedVariable, NamedProcedure, Lists}
use Rattle.declared_names.specs.Parts.{is_property}
use Rattle.declared_names.specs.Rules.{are_beside, is_inherited, is_reserved, is_same, is_same_part, part_of}

-- ---- rows

-- whether it is this part of a property, or none where this is none
abbrev pub is_part : Option ProcKind → Option ProcKind → Bool
is_part None None = true
is_part (Some a) (Some b) = is_same_part a b
is_part _ _ = false

abbrev pub local_home : Scope → Option ℕ
local_home (scope.Local p) = Some p.0
local_home (scope.Public file) = None
local_home (scope.Private file) = None

abbrev pub member_home : Scope → Option ℕ
member_home (scope.Public file) = Some file
member_home (scope.Private file) = Some file
member_home (scope.Local p) = None

abbrev pub field_home : Owner → Option ℕ
field_home (owner.Field t) = Some t.0
field_home (owner.Module file) = None
field_home (owner.Local p) = None
field_home (owner.Static p) = None
field_home (owner.Value p) = None
field_home (owner.Reference p) = None
field_home (owner.Answer p) = None

abbrev pub local_row : NamedEntry → Keyed
local_row e = record { home = local_home e.scope; name = e.name }

-- of a name of a module, where it is a part of a property
abbrev pub member_row : List NamedProcedure → Option ProcKind → NamedEntry → Keyed
member_row ps part e = record { home = cond (is_part part (part_of ps e.named)) (member_home e.scope) None; name = e.name }

abbrev pub field_row : NamedVariable → Keyed
field_row v = record { home = field_home v.owner; name = v.name }

abbrev pub property_row : NamedProcedure → Keyed
property_row p = record { home = cond (is_property p.kind) (Some p.module_number) None; name = p.name }

-- ---- tables

-- whether a table has the place of the first of some items for each home and name
abbrev pub AreFirst : {A : Type 0} → NamePlaces → (A → Keyed) → List A → Type 0
AreFirst t row xs = (h : ℕ) (key : List ℕ) → placed t h key ≡ position (λ x. is_at h key (row x)) xs

pub record AreMembers (t : MemberPlaces) (ps : List NamedProcedure) (names : List NamedEntry) : Type 0 where
  pub others : AreFirst t.others (member_row ps None) names
  pub gets : AreFirst t.gets (member_row ps (Some kind.Get)) names
  pub lets : AreFirst t.lets (member_row ps (Some kind.Let)) names
  pub sets : AreFirst t.sets (member_row ps (Some kind.Set)) names

-- whether tables are those of the declarations of a project
pub record AreRivals (t : Rivals) (d : Lists) : Type 0 where
  pub locals : AreFirst t.locals local_row d.names
  pub members : AreMembers t.members d.procs d.names
  pub fields : AreFirst t.fields field_row d.vars

-- ---- look-ups

-- the less of two places that there are
abbrev pub least : Option ℕ → Option ℕ → Option ℕ
least None y = y
least (Some x) None = Some x
least (Some x) (Some y) = cond (nat_le x y) (Some x) (Some y)

-- a place of a part of a property, where it is in the way of another one
abbrev pub in_way : Option ProcKind → Option ProcKind → Option ℕ → Option ℕ
in_way part of place = cond (are_beside part of) None place

-- the place of the first name of a module that is in the way of a part of a property
abbrev pub first_member : MemberPlaces → Option ProcKind → ℕ → List ℕ → Option ℕ
first_member t of file key =
    least (in_way None of (placed t.others file key))
    (least (in_way (Some kind.Get) of (placed t.gets file key))
    (least (in_way (Some kind.Let) of (placed t.lets file key)) (in_way (Some kind.Set) of (placed t.sets file key))))

abbrev pub is_other : Named → Option NamedEntry → Bool
is_other what None = false
is_other what (Some e) = not (is_same e.named what)

-- whether the name at a place is another declaration
abbrev pub is_other_at : List NamedEntry → Named → Option ℕ → Bool
is_other_at names what None = false
is_other_at names what (Some i) = is_other what (slice_get names i)

-- whether a place is another one than the place k
abbrev pub is_elsewhere : (k : ℕ) → Option ℕ → Bool
is_elsewhere k None = false
is_elsewhere k (Some i) = not (nat_eq i k)

-- the rules that the name of the field k of a Type breaks
abbrev pub placed_field_rules : NamePlaces → ℕ → List ℕ → (k : ℕ) → RuleSet
placed_field_rules fields t name k = with_if (with_if none 20 (is_elsewhere k (placed fields t (lower_case name)) || is_reserved name)) 16 (is_inherited name)

-- the place of the first part of a procedure's property
abbrev pub property_place : NamePlaces → NamedProcedure → Option ℕ
property_place t p = cond (is_property p.kind) (placed t p.module_number (lower_case p.name)) None

abbrev pub or_own : (k : ℕ) → Option ℕ → ℕ
or_own k None = k
or_own k (Some i) = i

-- the first part for each of some procedures, which are numbered from k
abbrev pub firsts_by : NamePlaces → (k : ℕ) → List NamedProcedure → List ProcId
firsts_by t k [] = []
firsts_by t k (p ∷ ps) = record { 0 = or_own k (property_place t p) } ∷ firsts_by t (k + 1) ps
