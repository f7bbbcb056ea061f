-- The lines of each file are few, and so the number of one where a file is stuck is small.
use Rattle.std.proofs.Common.{◌≡◌, ℕ, ◌<◌, true, List, length, get_or, nat_lt, lt-ltb, arith}
use Rattle.std.proofs.lemmas.Bool.{ltb-true}
use Rattle.net_tree.specs.View.{project_of}
use Rattle.net_tree.specs.declared.project.NetProject.{NetProject}
use Rattle.net_emitter.proofs.Emitting.{passes_here}
use Rattle.net_reader.specs.FileLines.{file_lines}
use Rattle.net_reader.specs.FileSteps.{last_reading}
use Rattle.net_reader.specs.ReadingView.{reading_of}
use Rattle.net_reader.specs.Reads.{IsBelow, before_of, has_few_lines, have_few_bytes, have_few_lines}
use Rattle.net_reader.specs.declared.file_reading.FileReading.{FileReading}
use Rattle.net_reader.specs.declared.file_reading.FileReading.TheVariants.{Complete, Stuck}
use Rattle.net_reader.specs.declared.project_files.Before as code
use Rattle.net_reader.proofs.LineLengths.{lines_within}
use Rattle.net_reader.proofs.StuckLines.{last_within}
use Rattle.net_reader.proofs.Tests.{all_more}

abbrev File : Type 0
File = List ℕ × List ℕ

-- each file has few lines
pub few_lines : (files : List File) (k : ℕ) (file : File) → have_few_lines files ≡ true → k < length files → file ≡ get_or files k file → length (file_lines file.1) < 0xFFFF_FFFF
few_lines files k file few within at = ltb-true (length (file_lines file.1)) 0xFFFF_FFFF (passes_here has_few_lines files k file few within at)

few_by_bytes : (file : File) → nat_lt (length file.1) 0xFFFF_FFFF ≡ true → has_few_lines file ≡ true
few_by_bytes file h = lt-ltb (length (file_lines file.1)) 0xFFFF_FFFF (omega (arith, lines_within file.1, ltb-true (length file.1) 0xFFFF_FFFF h))

-- files of few bytes have few lines
pub few_bytes : (files : List File) → have_few_bytes files ≡ true → have_few_lines files ≡ true
few_bytes files h = all_more (λ file. nat_lt (length file.1) 0xFFFF_FFFF) has_few_lines files few_by_bytes h

-- the line where a response file is stuck is small
pub is_below : (b : code.Before) (text : List ℕ) (r : FileReading NetProject) → length (file_lines text) < 0xFFFF_FFFF → reading_of project_of r ≡ last_reading (before_of b) text → IsBelow 0x1_0000_0000 r
is_below b text (Complete N) few e = tt
is_below b text (Stuck line) few e = omega (arith, few, last_within (before_of b) text line e)
