-- A line that was read, and what answers mean.
use Rattle.vb_tree.specs.LogicalLines.{Reading}
use Rattle.vb_lexer.specs.declared.reading.Reading as code

abbrev pub reading_of : code.Reading → Reading
reading_of r = record { line = r.line; fault = r.fault }
