-- Which files are read, and where the loading of a project stops.
use Rattle.std.specs.Prelude.{◌≡◌, ◌⊎◌, ℕ, ◌+◌, List, [], ◌∷◌, length, Option, IfSome, Some, slice_get}
use Rattle.up_base.specs.Outside.{Files, IfTold}
use Rattle.vb_tree.specs.declared.project.ProjectFile.{ProjectFile}
use Rattle.project_loader.specs.declared.loading.LoadFail.{LoadFail}
use Rattle.project_loader.specs.declared.loading.LoadFail.TheVariants as fail
use Rattle.project_loader.specs.Faults.{FirstFault, file_names}
use Rattle.project_loader.specs.Held.{HeldFile}

-- the files that a run reads, in order: the project file and, where that can be read, the files of its entries
abbrev pub ReadingOrder : Option Files → (name : List ℕ) → List (List ℕ) → Type 0
ReadingOrder files name order =
    (order ≡ name ∷ []) ⊎ ((file : ProjectFile) × (order ≡ file_names name file.entries) × IfSome files (λ f. HeldFile f name file))

-- the count of calls, where it is told, rose by the number of files in the reading order
abbrev pub ReadsAll : (before after : Option ℕ) → List (List ℕ) → Type 0
ReadsAll before after order = IfTold before after (λ b a. a ≡ b + length order)

-- the file of this name was the last of those that were read, by the count of calls where it is told
abbrev pub ReadsUpTo : (before after : Option ℕ) → List (List ℕ) → (said : List ℕ) → Type 0
ReadsUpTo before after order said = IfTold before after (λ b a. (k : ℕ) × (a ≡ b + (k + 1)) × (slice_get order k ≡ Some said))

-- Where the loading of the project under a name stops, what is known: the first fault and the file that it is said of, or
-- the file at which the folder failed. Files are what the folder holds, where it tells that, and the counts those of its
-- calls before and after.
abbrev pub StopsLoading : Option Files → (before after : Option ℕ) → (name : List ℕ) → LoadFail → Type 0
StopsLoading files before after name (fail.Refused said fault) = IfSome files (λ f. FirstFault f name said fault)
StopsLoading files before after name (fail.Failed said) = (order : List (List ℕ)) × ReadingOrder files name order × ReadsUpTo before after order said
StopsLoading files before after name fail.Mem = Unit {0}

-- where the folder failed, P holds
abbrev pub OnFailed : Type 0 → LoadFail → Type 0
OnFailed P (fail.Refused said fault) = Unit {0}
OnFailed P (fail.Failed said) = P
OnFailed P fail.Mem = Unit {0}
