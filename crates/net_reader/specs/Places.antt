-- The first line at which files begin no written project: a place is defined by the fronts of the files, and not by a reader.
use Rattle.std.specs.Prelude.{◌≡◌, true, ℕ, zero, suc, ◌<◌, cond, nat_le, List, [], length, take, Option, Some, None, slice_get}
use Rattle.net_tree.specs.Text.{IsWritable, files_of}
use Rattle.net_tree.specs.Tree.{Project}
use Rattle.net_reader.specs.FileLines.{file_lines}
use Rattle.net_reader.specs.Fits.{can_be_held}

-- A project that a list of files can stand for, and that a tree of the code can hold, so that it can be read back from them.
pub record IsReadable (N : Project) : Type 0 where
  pub writable : IsWritable N
  pub fits : can_be_held N ≡ true

-- A file begins with the first lines of a text, so many; a number past the lines of the text stands for its end too.
abbrev pub BeginsAs : (lines : ℕ) → (text file : List ℕ) → Type 0
BeginsAs n text file =
    cond (nat_le n (length (file_lines text))) (take n (file_lines file) ≡ take n (file_lines text)) (file ≡ text)

-- a missing file counts as an empty one, of the name that is missing
abbrev pub given : Option (List ℕ × List ℕ) → (name : List ℕ) → List ℕ × List ℕ
given None name = (name, [])
given (Some file) name = file

-- A file of a project has the name of a given one, and begins with its first lines.
abbrev pub IsFileUpTo : Option (List ℕ × List ℕ) → (lines : ℕ) → Option (List ℕ × List ℕ) → Type 0
IsFileUpTo found n None = ⊥
IsFileUpTo found n (Some own) = ((given found own.0).0 ≡ own.0) × BeginsAs n (given found own.0).1 own.1

-- The files of a project are the given ones up to a line: the files before that line's are the same, and its file has the
-- same name and the same lines up to it.
abbrev pub IsProjectUpTo : List (List ℕ × List ℕ) → (file line : ℕ) → Project → Type 0
IsProjectUpTo files k n N = (take k (files_of N) ≡ take k files) × IsFileUpTo (slice_get files k) n (slice_get (files_of N) k)

-- Some project begins as the given files do.
abbrev pub BeginUpTo : List (List ℕ × List ℕ) → (file line : ℕ) → Type 0
BeginUpTo files k n = (N : Project) × IsReadable N × IsProjectUpTo files k n N

-- The same before a line: up to the line before it, and before the name of a file, which is given, in whole files.
abbrev pub BeginBefore : List (List ℕ × List ℕ) → (file line : ℕ) → Type 0
BeginBefore files k zero = (N : Project) × IsReadable N × (take k (files_of N) ≡ take k files) × (k < length files)
BeginBefore files k (suc n) = BeginUpTo files k n

-- It is the first line at which the files begin no project: line 0 is the name of a file, and the line behind the last stands
-- for a file that ends too early.
pub record IsFirstFault (files : List (List ℕ × List ℕ)) (file line : ℕ) : Type 0 where
  pub before : BeginBefore files file line
  pub faulty : BeginUpTo files file line → ⊥
