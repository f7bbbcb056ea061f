-- What the code has read of a file.
use Rattle.net_reader.specs.ModuleReader.{Reading, complete, stuck}
use Rattle.net_reader.specs.declared.file_reading.FileReading.{FileReading}
use Rattle.net_reader.specs.declared.file_reading.FileReading.TheVariants.{Complete, Stuck}

-- what it holds, by the view of what is read
abbrev pub reading_of : {A X : Type 0} → (A → X) → FileReading A → Reading X
reading_of view (Complete x) = complete (view x)
reading_of view (Stuck line) = stuck line
