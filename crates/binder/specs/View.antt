-- The plain values that those of the code stand for, and which of them go together.
use Rattle.std.specs.Prelude.{◌≡◌, ◌<◌, ℕ, Option, Some, None, is_some, List, [], ◌++◌, length, map, replicate, take}
use Rattle.std.specs.List.{list_any}
use Rattle.vb_tree.specs.Tree.{Exp, Form, word, index}
use Rattle.vb_tree.specs.View.{args_of, exp_of, line_of, nodes_of}
use Rattle.bound_tree.specs.declared.body.Bound.{Bound}
use Rattle.bound_tree.specs.declared.body.BoundBody.{BoundBody}
use Rattle.bound_tree.specs.declared.declared.Declared.{Declared}
use Rattle.bound_tree.specs.declared.marks.Marks.{Marks}
use Rattle.bound_tree.specs.declared.rule_set.RuleSet.{RuleSet}
use Rattle.bound_tree.specs.RuleSets.{none}
use Rattle.bound_tree.specs.Tree.{Bindings, Declarations, Line}
use Rattle.bound_tree.specs.View as bound
use Rattle.bound_tree.specs.View.{bindings_of, declarations_of}
use Rattle.name_tables.specs.Places.{noted}
use Rattle.name_tables.specs.Scopes.{has_key}
use Rattle.name_tables.specs.Tables.{AreTables}
use Rattle.name_tables.specs.View.{shown_declarations}
use Rattle.expression_words.specs.declared.context.Scope.{Scope}
use Rattle.expression_words.specs.declared.meaning.Kept.{Kept}
use Rattle.expression_words.specs.Flaws.{Typed}
use Rattle.expression_words.specs.MemberTables.{AreMemberTables}
use Rattle.expression_words.specs.Meanings as meanings
use Rattle.expression_words.specs.Meanings.{no_with}
use Rattle.expression_words.specs.View.{IsContext, IsScope, declared_in, kept_of}
use Rattle.declarations.specs.ModuleFacts.{facts_in}
use Rattle.declarations.specs.View.{facts_of}
use Rattle.binder.specs.declared.binding.Counted.{Counted}
use Rattle.binder.specs.declared.binding.Found.{Found}
use Rattle.binder.specs.declared.binding.Plan.{Plan}
use Rattle.binder.specs.declared.binding.Tables.{Tables}
use Rattle.binder.specs.declared.binding.Whole.{Whole}
use Rattle.binder.specs.declared.homes.Home.{Home}
use Rattle.binder.specs.declared.homes.Placed.{Placed}
use Rattle.binder.specs.declared.inside.Inside.{Inside}
use Rattle.binder.specs.declared.lines.Told.{Told}
use Rattle.binder.specs.declared.locals.Gathered.{Gathered}
use Rattle.binder.specs.declared.locals.Implicit.{Implicit}
use Rattle.binder.specs.declared.locals.Locals.{Locals}
use Rattle.binder.specs.declared.locals.Survey.{Survey}
use Rattle.binder.specs.declared.parts.Part.{Part}
use Rattle.binder.specs.declared.parts.Source.{Source}
use Rattle.binder.specs.declared.parts.Source.TheVariants as s
use Rattle.binder.specs.declared.words.Word.{Word}
use Rattle.binder.specs.Bodies as bodies
use Rattle.binder.specs.ImplicitLocals as implicit
use Rattle.binder.specs.Lines.{line_rules}
use Rattle.binder.specs.Mentions.{line_mentions}
use Rattle.binder.specs.Parts as parts
use Rattle.binder.specs.Programs.{bodies_from}

-- ---- parts and words

abbrev pub source_of : Source → Exp
source_of (s.Whole e) = exp_of e.now
source_of (s.Invoked e args) = index (exp_of e.now) (args_of args.now)
source_of (s.Word name suffix) = word name.now suffix

abbrev pub part_of : Part → parts.Part
part_of p = record { task = p.task; exp = source_of p.source }

abbrev pub word_of : Word → implicit.Word
word_of w = record { lookup = w.lookup; spelling = w.spelling; name = w.name.now; suffix = w.suffix }

-- ---- procedures

abbrev pub home_of : Home → implicit.Home
home_of h = record { file = h.file; first = h.first; body = nodes_of h.body.now }

abbrev pub placed_of : Placed → implicit.Placed
placed_of l = record { line = line_of l.line.now; statement = l.statement }

-- ---- implicit locals

abbrev pub implicit_of : Implicit → implicit.Implicit
implicit_of x = record { file = x.file; procedure = x.procedure; place = x.place; statement = x.statement; name = x.name; suffix = x.suffix }

abbrev pub locals_shown : Locals → implicit.Locals
locals_shown l = record { variables = map implicit_of l.variables.items; laters = l.laters.items }

-- a table has the names of the variables
abbrev pub IsGathered : Gathered → Type 0
IsGathered g = (key : List ℕ) → is_some (noted g.names key) ≡ list_any (λ (x : implicit.Implicit). has_key key x.name) (map implicit_of g.variables.items)

-- what lines are looked at with goes together
pub record IsSurvey (s : Survey) : Type 0 where
  pub context : IsContext s.context
  pub facts : map facts_of s.facts.now ≡ map facts_in (declared_in s.context).project.modules
  pub kept : kept_of s.kept.now ≡ no_with

-- ---- lines

abbrev pub inside_of : Inside → bodies.Inside
inside_of i = record {
  declarations = declared_in i.context;
  written = shown_declarations i.written.declared;
  site = i.site;
  lines = map (λ l. line_of l.now) i.lines.now;
  laters = i.laters.now;
}

-- the declarations of a procedure are those of its tables
pub record IsInside (i : Inside) : Type 0 where
  pub declarations : declarations_of i.declared.now ≡ declared_in i.context
  pub context : IsContext i.context
  pub written : AreTables i.written.tables.now (shown_declarations i.written.declared)

-- where a line of it stands
pub record IsLineScope (i : Inside) (s : Scope) : Type 0 where
  pub names : IsScope s
  pub small : s.missing < 32
  pub same : declared_in s.context ≡ declared_in i.context

-- what is told of a line is what it breaks and what it mentions
pub record IsTold (t : Told) (I : bodies.Inside) (S : meanings.Scope) (f : Form) (ts : List Typed) : Type 0 where
  pub rules : t.rules ≡ line_rules S I.lines f ts
  pub mentions : t.mentions ≡ line_mentions S f ts

-- what a block keeps of its own, or what is kept round it
abbrev pub kept_or : Option Kept → meanings.Kept → meanings.Kept
kept_or None k = k
kept_or (Some own) k = kept_of own

abbrev pub bound_shown : Line → Bindings
bound_shown l = l.bindings

-- ---- projects

abbrev pub body_shown : BoundBody → List Bindings
body_shown b = map bindings_of b.lines

abbrev pub lines_shown : List Line → List Bindings
lines_shown ls = map bound_shown ls

pub record AreTablesOf (t : Tables) (D : Declarations) : Type 0 where
  pub names : AreTables t.names D
  pub members : AreMemberTables t.members D

-- the variables that no line declares, with their names, declarations and rules
pub record IsFound (f : Found) (D : Declarations) : Type 0 where
  pub locals : map locals_shown f.locals.items ≡ implicit.project_locals D
  pub entries : f.entries.items ≡ implicit.entries_from (length D.vars) (implicit.all_variables (implicit.project_locals D))
  pub vars : map bound.variable_of f.vars.items ≡ map (implicit.variable_of D) (implicit.all_variables (implicit.project_locals D))
  pub rules : f.rules.items ≡ map (implicit.rules_of D) (implicit.all_variables (implicit.project_locals D))

pub record IsPlan (p : Plan) (D : Declarations) : Type 0 where
  pub tables : AreTablesOf p.tables D
  pub found : IsFound p.found D

-- what serves all procedures goes together
pub record IsWhole (w : Whole) : Type 0 where
  pub declarations : declarations_of w.declared.now ≡ declared_in w.context
  pub context : IsContext w.context
  pub written : AreTables w.written.tables.now (shown_declarations w.written.declared)
  pub kept : kept_of w.kept.now ≡ no_with

-- the first names and variables of declarations, with all else
abbrev pub front_of : Declarations → (names vars : ℕ) → Declarations
front_of D names vars = record D { names = take names D.names; vars = take vars D.vars }

abbrev pub rules_shown : List Bindings → List RuleSet
rules_shown ls = map (λ (b : Bindings). b.rules) ls

-- the rules of lines, and of variables of which so many have none
abbrev pub marks_by : List (List Bindings) → ℕ → List RuleSet → Marks
marks_by bodies count rules = record { lines = map rules_shown bodies; heads = []; vars = replicate count none ++ rules; consts = []; types = []; enums = [] }

-- what is made of declarations, of which so many names and variables stand in lines
pub record IsMade (b : Bound) (d : Declared) (c : Counted) : Type 0 where
  pub declared : b.declared ≡ d
  pub bodies :
      map body_shown b.bodies
      ≡ map lines_shown (bodies_from (front_of (declarations_of d) c.names c.vars) (declarations_of d) (map locals_shown c.locals.items) 0 (implicit.homes (declarations_of d).project))
  pub marks : b.marks ≡ marks_by (map body_shown b.bodies) c.vars c.rules.items
  pub interfaces : b.interfaces.interfaces ≡ []
  pub interface_parts : b.interfaces.parts ≡ []
