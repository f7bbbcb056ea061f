-- What the reader of the code answers for the files of a project.
use Rattle.std.specs.Prelude.{◌≡◌, ◌<◌, ℕ, Bool, nat_lt, List, length, map, Result, Ok, Err}
use Rattle.std.specs.List.{list_all}
use Rattle.net_tree.specs.View.{module_of, project_of}
use Rattle.net_tree.specs.declared.project.NetProject.{NetProject}
use Rattle.net_reader.specs.FileLines.{file_lines}
use Rattle.net_reader.specs.FileSteps.{before_with}
use Rattle.net_reader.specs.Places.{IsFirstFault}
use Rattle.net_reader.specs.ProjectReader.{Outcome, faulty, whole}
use Rattle.net_reader.specs.ProjectReader as reader
use Rattle.net_reader.specs.declared.fail.NetReadFail.{NetReadFail}
use Rattle.net_reader.specs.declared.fail.NetReadFail.TheVariants as fail
use Rattle.net_reader.specs.declared.file_reading.FileReading.{FileReading}
use Rattle.net_reader.specs.declared.file_reading.FileReading.TheVariants.{Complete, Stuck}
use Rattle.net_reader.specs.declared.project_files.Before.{Before}

-- whether the numbers of a file's lines fit a place
abbrev pub has_few_lines : List ℕ × List ℕ → Bool
has_few_lines file = nat_lt (length (file_lines file.1)) 0xFFFF_FFFF

-- the same of each file
abbrev pub have_few_lines : List (List ℕ × List ℕ) → Bool
have_few_lines files = list_all has_few_lines files

-- whether the files have as few bytes
abbrev pub have_few_bytes : List (List ℕ × List ℕ) → Bool
have_few_bytes files = list_all (λ file. nat_lt (length file.1) 0xFFFF_FFFF) files

-- Where the code stops, the model does.
abbrev pub FaultIs : Outcome → NetReadFail → Type 0
FaultIs outcome (fail.NotNet place) = outcome ≡ faulty place.file place.line
FaultIs outcome fail.Mem = Unit {0}

-- The same, and what is read is what the model gives.
abbrev pub Gives : Outcome → Result NetProject NetReadFail → Type 0
Gives outcome (Ok N) = outcome ≡ whole (project_of N)
Gives outcome (Err e) = FaultIs outcome e

-- The place is that of the first fault.
abbrev pub IsPlaceOf : List (List ℕ × List ℕ) → NetReadFail → Type 0
IsPlaceOf files (fail.NotNet place) = IsFirstFault files place.file place.line
IsPlaceOf files fail.Mem = Unit {0}

-- The place that is told is that of the first fault.
abbrev pub TellsPlace : List (List ℕ × List ℕ) → Result NetProject NetReadFail → Type 0
TellsPlace files (Ok N) = Unit {0}
TellsPlace files (Err e) = IsPlaceOf files e

-- A failure for want of memory alone, which refuses no files.
abbrev pub IsNoRefusal : NetReadFail → Type 0
IsNoRefusal (fail.NotNet place) = ⊥
IsNoRefusal fail.Mem = Unit {0}

-- The files aren't refused.
abbrev pub NotRefused : Result NetProject NetReadFail → Type 0
NotRefused (Ok N) = Unit {0}
NotRefused (Err e) = IsNoRefusal e

-- the line where a file is stuck is below a number
abbrev pub IsBelow : {A : Type 0} → (most : ℕ) → FileReading A → Type 0
IsBelow most (Complete x) = Unit {0}
IsBelow most (Stuck line) = line < most

-- what the code has read of the files before one
abbrev pub before_of : Before → reader.Before
before_of b = before_with b.note (map module_of b.modules.items)
