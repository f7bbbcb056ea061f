-- The plain values that those of the code stand for.
use Rattle.std.specs.Prelude.{ℕ, ◌≡◌, map}
use Rattle.vb_tree.specs.BoundView.{type_of}
use Rattle.vb_tree.specs.View.{project_of}
use Rattle.vb_tree.specs.declared.project.Project6.{Project6}
use Rattle.bound_tree.specs.Tree.{Declarations}
use Rattle.bound_tree.specs.View.{constant_of, procedure_of, variable_of}
use Rattle.reach_table.specs.Chains.{is_marked}
use Rattle.declared_names.specs.View.{names_of}
use Rattle.declared_names.specs.declared.lists.DeclaredNames.{DeclaredNames}
use Rattle.name_tables.specs.Tables.{AreTables}
use Rattle.expression_words.specs.MemberTables.{AreMemberTables}
use Rattle.expression_words.specs.Meanings.{no_with}
use Rattle.expression_words.specs.View.{declared_in, IsContext, kept_of}
use Rattle.declarations.specs.declared.bare.Filled.{Filled}
use Rattle.declarations.specs.declared.constant_exprs.Outcome.{Outcome}
use Rattle.declarations.specs.declared.constant_exprs.Outcome.TheVariants as o
use Rattle.declarations.specs.declared.extents.Extent.{Extent}
use Rattle.declarations.specs.declared.extents.Extent.TheVariants as extent
use Rattle.declarations.specs.declared.extents.Bound.{Bound}
use Rattle.declarations.specs.declared.extents.Bound.TheVariants as bound
use Rattle.declarations.specs.declared.extents.Sizes.{Sizes}
use Rattle.declarations.specs.declared.fixed.Fixed.{Fixed}
use Rattle.declarations.specs.declared.lengths.Length.{Length}
use Rattle.declarations.specs.declared.lengths.Length.TheVariants as told
use Rattle.declarations.specs.declared.module_facts.DefLine.{DefLine}
use Rattle.declarations.specs.declared.module_facts.Letter.{Letter}
use Rattle.declarations.specs.declared.module_facts.ModuleFacts.{ModuleFacts}
use Rattle.declarations.specs.declared.named_types.Choice.{Choice}
use Rattle.declarations.specs.declared.places.Known.{Known}
use Rattle.declarations.specs.declared.plans.Plan.{Plan}
use Rattle.declarations.specs.declared.presets.Preset.{Preset}
use Rattle.declarations.specs.declared.stages.AllLists.{AllLists}
use Rattle.declarations.specs.declared.stages.Tables.{Tables}
use Rattle.declarations.specs.ConstantExpressions as expressions
use Rattle.declarations.specs.Constants as constants
use Rattle.declarations.specs.ModuleFacts as modules
use Rattle.declarations.specs.NamedTypes as names
use Rattle.declarations.specs.Plans as plans

abbrev pub def_of : DefLine → modules.DefLine
def_of d = record { word = d.word; ranges = d.ranges.now; statement = d.statement }

abbrev pub letter_shown : Letter → modules.Letter
letter_shown l = record { word = l.word; statement = l.statement }

abbrev pub facts_of : ModuleFacts → modules.ModuleFacts
facts_of f = record { file = f.file; explicit = f.explicit; defs = map def_of f.defs.items }

abbrev pub choice_shown : Choice → names.Choice
choice_shown c = record { ty = type_of c.ty; rules = c.rules; qualified = c.qualified; lettered = c.lettered }

abbrev pub outcome_shown : Outcome → expressions.Outcome
outcome_shown (o.Value ty x) = expressions.valued (type_of ty) x
outcome_shown (o.Broken rules) = expressions.broken rules

abbrev pub length_shown : Length → constants.Length
length_shown told.Open = constants.open_length
length_shown (told.Of n) = constants.length_of n
length_shown (told.Broken rules) = constants.no_length rules

abbrev pub bound_shown : Bound → plans.Bound
bound_shown (bound.At z) = plans.bound z
bound_shown (bound.Broken rules) = plans.unbound rules

abbrev pub extent_shown : Extent → plans.Dimension
extent_shown (extent.From low high count) = plans.dimension low high count
extent_shown (extent.Broken rules) = plans.no_dimension rules

abbrev pub sizes_shown : Sizes → plans.Extents
sizes_shown s = record { bounds = s.bounds.items; count = s.count; rules = s.rules }

abbrev pub preset_shown : Preset → plans.Preset
preset_shown p = record { value = p.value; rules = p.rules }

abbrev pub plan_shown : Plan → plans.Plan
plan_shown p = record { named = type_of p.named; bounds = p.bounds.items; preset = p.preset; rules = p.rules }

-- the declarations of a project, its names and what is filled in
abbrev pub filled_in : Project6 → DeclaredNames → Filled → Declarations
filled_in P N f = record {
  project = project_of P;
  names = N.names;
  vars = map variable_of f.vars.items;
  consts = map constant_of f.consts.items;
  procs = map procedure_of f.procs.items;
  types = N.types;
  enums = N.enums;
  defaults = f.defaults.items;
}

abbrev pub filled_by : Fixed → Filled → Declarations
filled_by x f = filled_in x.project.now x.names.now f

-- the tables are those of the declarations, whatever is filled in
pub record IsFixed (x : Fixed) (f : Filled) : Type 0 where
  pub tables : AreTables x.tables.now (filled_by x f)
  pub members : AreMemberTables x.member_tables.now (filled_by x f)
  pub facts : map facts_of x.facts.now ≡ map modules.facts_in (project_of x.project.now).modules
  pub kept : kept_of x.kept.now ≡ no_with

-- the tables of declarations, what their modules say, and which constants are members of Enums
pub record AreTablesOf (t : Tables) (P : Project6) (N : DeclaredNames) (f : Filled) : Type 0 where
  pub tables : AreTables t.tables (filled_in P N f)
  pub member_tables : AreMemberTables t.member_tables (filled_in P N f)
  pub facts : map facts_of t.facts.items ≡ map modules.facts_in (project_of P).modules
  pub members : (k : ℕ) → is_marked t.members.items k ≡ constants.is_member (names_of N) k

-- all lists of a project
abbrev pub listed_in : Project6 → AllLists → Declarations
listed_in P l = record {
  project = project_of P;
  names = l.names;
  vars = map variable_of l.filled.vars.items;
  consts = map constant_of l.filled.consts.items;
  procs = map procedure_of l.filled.procs.items;
  types = l.types;
  enums = l.enums;
  defaults = l.filled.defaults.items;
}

-- what is known goes together
pub record IsKnown (k : Known) : Type 0 where
  pub context : IsContext k.context
  pub facts : map facts_of k.facts.now ≡ map modules.facts_in (declared_in k.context).project.modules
  pub kept : kept_of k.kept.now ≡ no_with
