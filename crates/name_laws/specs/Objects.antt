-- What is written for classes of which objects are made: their names, and what begins their objects.
use Rattle.std.specs.Prelude.{◌≡◌, ℕ, true, Some, None, [], slice_get}
use Rattle.bound_tree.specs.Tree.{Procedure}
use Rattle.bound_facts.specs.Members.{initializer}
use Rattle.net_tree.specs.Types.{named}
use Rattle.run_base.specs.Machines.{enters}
use Rattle.run_base.specs.Outcomes.{gives, then}
use Rattle.written_trees.specs.Names.{auto_name, class_path}
use Rattle.net_run.specs.Calls.{auto_class}
use Rattle.net_run.specs.Making.{Jobs}
use Rattle.net_run.specs.Shapes as shape
use Rattle.net_run.specs.Store as net
use Rattle.run_matches.specs.Covered.{is_method_site}
use Rattle.run_matches.specs.CoveredVariables.{covers_class}
use Rattle.run_matches.specs.Sites.{Site, site_of}
use Rattle.run_matches.specs.Upgrades.{Upgrade, class_home}
use Rattle.run_statements.specs.Frames.{written_initialized}
use Rattle.run_statements.specs.Written.{WrittenProcedure}

-- ---- names

-- what is written for the name of a covered class leads from every module to what is written for the class
abbrev pub ClassesAreFound : Upgrade → Type 0
ClassesAreFound U =
    (class home at : ℕ) → covers_class U.program.declarations class ≡ true → class_home U class ≡ Some home
    → shape.shape_of U.written at (named (class_path U.program.declarations class)) ≡ shape.class home

-- so does the name of the function that makes an object for an As New variable of the class
abbrev pub AutosAreFound : Upgrade → Type 0
AutosAreFound U =
    (class home : ℕ) → covers_class U.program.declarations class ≡ true → class_home U class ≡ Some home
    → auto_class U.written (auto_name U.program.declarations class) ≡ shape.class home

-- ---- what begins an object

-- what is written for a class calls what is written for its Class_Initialize
abbrev pub InitializersAreFound : Upgrade → Type 0
InitializersAreFound U =
    (q class home : ℕ) (t : Site) (y : Procedure) (V : WrittenProcedure U q t y)
    → site_of U.program.declarations q ≡ Some t → slice_get U.program.declarations.procs q ≡ Some y
    → initializer U.program.declarations class ≡ Some q → is_method_site U.program.declarations class y (Some t) ≡ true
    → class_home U class ≡ Some home
    → (oracle : Jobs) (o : ℕ) (w : net.Memory)
    → written_initialized U home oracle o w ≡ then (oracle (enters V.number (Some o) tt []) w) (λ x w. gives [] tt w)

-- where a class has none, nothing is called
abbrev pub NothingInitializes : Upgrade → Type 0
NothingInitializes U =
    (class home : ℕ) → class_home U class ≡ Some home → initializer U.program.declarations class ≡ None
    → (oracle : Jobs) (o : ℕ) (w : net.Memory) → written_initialized U home oracle o w ≡ gives [] tt w
