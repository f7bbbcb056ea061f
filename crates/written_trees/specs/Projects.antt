-- What is written for modules and for a project.
use Rattle.std.specs.Prelude.{ℕ, Bool, not, cond, ◌&&◌, is_none, is_some, List, [], ◌∷◌, ◌++◌, map, filter, codes, Option, Some, None}
use Rattle.vb_tree.specs.declared.project.ProjectKind.{ProjectKind}
use Rattle.vb_tree.specs.declared.project.ProjectKind.TheVariants as kind
use Rattle.vb_tree.specs.Tree.{Module}
use Rattle.bound_tree.specs.Tree.{Declarations, Program}
use Rattle.bound_facts.specs.Members.{sub_from}
use Rattle.net_tree.specs.declared.declaration.NetClose.TheVariants.{EndSub}
use Rattle.net_tree.specs.Tree as net
use Rattle.written_trees.specs.Facts.{Facts}
use Rattle.written_trees.specs.Names.{Scope, alone}
use Rattle.written_trees.specs.Members.{written_members}
use Rattle.written_trees.specs.Placing.{Numbers, behind_members}
use Rattle.written_trees.specs.Supports.{support_module}

-- ---- modules

-- whether a module is a class with Class_Initialize
abbrev pub has_initializer : Declarations → (file : ℕ) → Module → Bool
has_initializer D file m = m.class && is_some (sub_from file (codes "Class_Initialize") 0 D.procs)

-- where Class_Initialize is, the written class calls it when an object is made
abbrev pub maker : net.Procedure
maker = record { head = net.sub_new; prologue = []; lines = net.call (net.path (alone (codes "Class_Initialize"))) net.no_exps ∷ []; close = EndSub }

abbrev pub makers : Bool → List net.Member
makers has = cond has (net.proc maker ∷ []) []

abbrev pub module_scope : Program → Facts → Module → Scope
module_scope P F m = record { declarations = P.declarations; facts = F; file = m.file; procedure = None }

abbrev pub written_module : Program → Facts → Numbers → Module → net.Module
written_module P F at m = record {
  name = m.name;
  class = m.class;
  members = makers (has_initializer P.declarations m.file m) ++ written_members P (module_scope P F m) at m.comments m.members;
}

-- statements are numbered anew in each module
abbrev pub next_module : Numbers → Numbers
next_module at = record at { statement = 0 }

-- modules in order, whose members have numbers from these on
abbrev pub modules_from : Program → Facts → Numbers → List Module → List net.Module
modules_from P F at [] = []
modules_from P F at (m ∷ ms) = written_module P F at m ∷ modules_from P F (next_module (behind_members at m.members)) ms

abbrev pub first_numbers : Numbers
first_numbers = record { statement = 0; procedure = 0; user_type = 0; enum = 0 }

abbrev pub written_modules : Program → Facts → List net.Module
written_modules P F = modules_from P F first_numbers P.declarations.project.modules

-- ---- where a program starts

-- a standard module that has a Sub Main
abbrev pub declares_main : Declarations → Module → Bool
declares_main D m = not m.class && is_some (sub_from m.file (codes "Main") 0 D.procs)

-- the one item of a list that has one
abbrev pub only : {A : Type 0} → List A → Option A
only [] = None
only (a ∷ []) = Some a
only (a ∷ b ∷ more) = None

abbrev pub only_main : Declarations → Option (List ℕ)
only_main D = only (map (λ (m : Module). m.name) (filter (declares_main D) D.project.modules))

abbrev pub started : ProjectKind → Option (ℕ × List ℕ) → Option (List ℕ) → Option (List ℕ)
started kind.Exe (Some start) main = main
started kind.Exe None main = None
started kind.OleDll start main = None

-- the module that a program starts in: the one that has Sub Main, where the project is a program and starts with it
abbrev pub main_of : Declarations → Option (List ℕ)
main_of D = started D.project.file.kind D.project.file.startup (only_main D)

-- ---- projects

-- a library starts nowhere
abbrev pub written_project : Program → Facts → net.Project
written_project P F =
    let modules = written_modules P F in
    let main = main_of P.declarations in
    record { library = is_none main; main = main; note = None; modules = modules; support = support_module P.declarations F modules }
