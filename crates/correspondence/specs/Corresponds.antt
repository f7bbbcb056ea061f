-- When what is written corresponds to a program: part by part, and apart from how it is made.
use Rattle.std.specs.Prelude.{◌≡◌, ◌≤◌, ℕ, true, false, cond, is_none, Some, None, List, [], ◌∷◌, ◌++◌, map, zip, length, slice_get}
use Rattle.std.specs.List.{flat_map}
use Rattle.vb_tree.specs.FlatLines.{code_lines}
use Rattle.vb_tree.specs.Tree.{Member, Module}
use Rattle.bound_tree.specs.Tree.{Variable, Line, Procedure}
use Rattle.bound_tree.specs.Labels.{labels}
use Rattle.bound_tree.specs.RuleSets.{has}
use Rattle.net_tree.specs.FlatLines as net_flat
use Rattle.net_tree.specs.Tree as net
use Rattle.net_run.specs.Members.{Code, code_at}
use Rattle.written_trees.specs.Arguments.{is_property_kind}
use Rattle.written_trees.specs.Bodies.{inside_procedure}
use Rattle.written_trees.specs.Facts.{head_set}
use Rattle.written_trees.specs.Names.{Scope}
use Rattle.written_trees.specs.Prologues as prologues
use Rattle.written_trees.specs.Prologues.{code_sets}
use Rattle.written_trees.specs.Projects.{main_of, makers, has_initializer, module_scope, first_numbers, next_module}
use Rattle.written_trees.specs.Comments.{texts}
use Rattle.written_trees.specs.DeclaredMembers.{member_comments}
use Rattle.written_trees.specs.Placing.{Numbers, first_line, last_line, placed_members, behind_members, last_comments}
use Rattle.run_matches.specs.CoveredVariables.{belongs_to}
use Rattle.run_matches.specs.Covered.{covers_procedure}
use Rattle.run_matches.specs.CoveredExprs.{takes_value}
use Rattle.run_matches.specs.JoinedProperties.{is_joined}
use Rattle.run_matches.specs.Sites.{Site, site_of, site_lines, first_statement, owns_of}
use Rattle.run_matches.specs.Upgrades.{Upgrade, written_number}
use Rattle.run_statements.specs.Written.{site_scope}
use Rattle.correspondence.specs.Lists.{Pairwise}
use Rattle.correspondence.specs.Uses.{IsAlone}
use Rattle.correspondence.specs.Variants.{LineCorresponds}
use Rattle.correspondence.specs.Owns.{PrologueCorresponds}
use Rattle.correspondence.specs.Comments.{MemberCorresponds, comments_of}
use Rattle.correspondence.specs.Paths.{Each}
use Rattle.correspondence.specs.Support.{LineIsSupported, SupportCorresponds}
use Rattle.correspondence.specs.Heads.{HeadCorresponds, PartHeadCorresponds}

-- ---- procedures

-- the scope in which something is written in a procedure
abbrev pub own_scope : Upgrade → (procedure : ℕ) → Site → Scope
own_scope U p s = inside_procedure (site_scope U s) p

-- the lines that are bound in a procedure with the rules that they break
abbrev pub with_rules : Upgrade → (procedure : ℕ) → Site → List Line → List prologues.Code
with_rules U p s lines = zip (code_sets (site_scope U s) p (first_statement s) 0 (site_lines s)) lines

-- A written procedure stands for one of the source by where it stands, what it declares and its lines.
pub record BodyCorresponds (U : Upgrade) (p : ℕ) (s : Site) (code : Code) : Type 0 where
  -- it stands in the module of the procedure
  pub home : code.home ≡ s.home
  -- the bound lines are its code lines
  pub lines : List Line
  pub are_lines : slice_get U.program.bodies p ≡ Some lines
  pub are_sources : map (λ (l : Line). l.source) lines ≡ code_lines (site_lines s)
  -- for each there is one line, which stands for it
  pub as_many : length (net_flat.code_lines code.procedure) ≡ length (code_lines (site_lines s))
  pub written_lines :
      Pairwise (LineCorresponds U.program (own_scope U p s) p (labels (site_lines s))) (with_rules U p s lines) (net_flat.code_lines code.procedure)
  -- what it names of the support module stands there
  pub supported : Pairwise (LineIsSupported U.program p U.written.support) (with_rules U p s lines) (net_flat.code_lines code.procedure)
  -- what the procedure declares is declared, and each variable of a covered one has its name alone
  pub prologue : PrologueCorresponds (own_scope U p s) (owns_of U.program.declarations s) (with_rules U p s lines) code.procedure.prologue
  pub names :
      covers_procedure U.program p ≡ true → (v : ℕ) (y : Variable) → slice_get U.program.declarations.vars v ≡ Some y → belongs_to p y.owner ≡ true
      → IsAlone U.program.declarations p v y

-- What is written for a procedure of the source that is no part of a property stands under its head.
pub record ProcedureCorresponds (U : Upgrade) (p : ℕ) (s : Site) (x : Procedure) : Type 0 where
  pub number : ℕ
  pub is_number : written_number U p ≡ Some number
  pub code : Code
  pub is_code : code_at U.written number ≡ Some code
  pub property : code.property ≡ None
  pub head : HeadCorresponds (site_scope U s) x x.kind code.procedure.head
  pub body : BodyCorresponds U p s code

-- What is written for a part of a property that is written as one is the Get or the Set of that property.
pub record PartCorresponds (U : Upgrade) (p : ℕ) (s : Site) (x : Procedure) : Type 0 where
  pub number : ℕ
  pub is_number : written_number U p ≡ Some number
  pub code : Code
  pub is_code : code_at U.written number ≡ Some code
  pub property : net.Property
  pub is_property : code.property ≡ Some property
  pub part : cond (takes_value x.kind) property.set property.get ≡ Some code.procedure
  pub head : PartHeadCorresponds (site_scope U s) x property code
  pub body : BodyCorresponds U p s code

-- ---- modules

-- A module is written for another one, whose members have numbers from these on: under its name, with what is written for each member, in
-- order. Before the first stands the Sub New of a class with Class_Initialize, and behind the last the comments that are left.
pub record ModuleCorresponds (U : Upgrade) (at : Numbers) (m : Module) (w : net.Module) : Type 0 where
  pub name : w.name ≡ m.name
  pub class : w.class ≡ m.class
  pub pieces : List (List net.Member)
  pub is_whole :
      w.members ≡ makers (has_initializer U.program.declarations m.file m)
      ++ (flat_map (λ (ws : List net.Member). ws) pieces ++ member_comments (texts (last_comments m.comments m.members)))
  pub members :
      Pairwise (MemberCorresponds (module_scope U.program U.facts m) (placed_members at m.comments m.members)) (placed_members at m.comments m.members)
      pieces
  -- each comment is that of a member or one of these, where no member ends before it begins
  pub all_comments :
      Each (λ (x : Member). first_line x ≤ last_line x) m.members
      → flat_map comments_of (placed_members at m.comments m.members) ++ last_comments m.comments m.members ≡ m.comments

-- modules in order, of which the first begins with these numbers
abbrev pub ModulesCorrespond : Upgrade → Numbers → List Module → List net.Module → Type 0
ModulesCorrespond U at [] [] = Unit {0}
ModulesCorrespond U at [] (w ∷ ws) = ⊥
ModulesCorrespond U at (m ∷ ms) [] = ⊥
ModulesCorrespond U at (m ∷ ms) (w ∷ ws) = ModuleCorresponds U at m w × ModulesCorrespond U (next_module (behind_members at m.members)) ms ws

-- ---- projects

-- The written project corresponds to the program.
pub record FilesCorrespond (U : Upgrade) : Type 0 where
  pub modules : ModulesCorrespond U first_numbers U.program.declarations.project.modules U.written.modules
  pub procedures :
      (p : ℕ) (s : Site) (x : Procedure) → site_of U.program.declarations p ≡ Some s → slice_get U.program.declarations.procs p ≡ Some x
      → is_property_kind x.kind ≡ false → ProcedureCorresponds U p s x
  -- those of properties that are covered, where the property is written as one
  pub parts :
      (p : ℕ) (s : Site) (x : Procedure) → site_of U.program.declarations p ≡ Some s → slice_get U.program.declarations.procs p ≡ Some x
      → is_property_kind x.kind ≡ true → is_joined U.program.declarations p x ≡ true → has (head_set U.facts p) 7 ≡ false → PartCorresponds U p s x
  pub support : SupportCorresponds U.program.declarations U.facts U.written.modules U.written.support
  pub main : U.written.main ≡ main_of U.program.declarations
  pub library : U.written.library ≡ is_none U.written.main
  pub note : U.written.note ≡ None
