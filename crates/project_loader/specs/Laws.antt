-- A folder holds one project under a name, or that has one first fault.
use Rattle.std.specs.Prelude.{◌≡◌, ℕ, List}
use Rattle.up_base.specs.Outside.{Files}
use Rattle.up_base.specs.declared.place.Fault.{Fault}
use Rattle.vb_tree.specs.Tree.{Project}
use Rattle.project_loader.specs.Held.{HeldProject}
use Rattle.project_loader.specs.Faults.{FirstFault}

-- the first faults of a project are one, and so are the names of the files that they are said of
abbrev pub OneFirstFault : Type 0
OneFirstFault =
    (files : Files) (name s t : List ℕ) (f g : Fault) → FirstFault files name s f → FirstFault files name t g → (s ≡ t) × (f ≡ g)

-- a project that is held has no first fault
abbrev pub NoFaultWhereHeld : Type 0
NoFaultWhereHeld = (files : Files) (name said : List ℕ) (P : Project) (f : Fault) → HeldProject files name P → ¬ (FirstFault files name said f)

-- a folder holds one project at most under a name
abbrev pub OneHeldProject : Type 0
OneHeldProject = (files : Files) (name : List ℕ) (P Q : Project) → HeldProject files name P → HeldProject files name Q → P ≡ Q

-- no folder has neither a project nor a first fault under a name
abbrev pub HeldOrFault : Type 0
HeldOrFault = (files : Files) (name : List ℕ) → ((P : Project) → ¬ (HeldProject files name P)) → ((said : List ℕ) (f : Fault) → ¬ (FirstFault files name said f)) → ⊥
