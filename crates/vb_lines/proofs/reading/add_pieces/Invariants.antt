use Rattle.std.proofs.Common.{◌≡◌, ◌++◌, map}
use Rattle.vb_lines.specs.Forms.{piece_of}
use Rattle.vb_lines.specs.Parts.{piece_line}
use Rattle.vb_lines.specs.Reading.{AddsLines}
use Rattle.vb_lines.proofs.reading.add_pieces.Given as goal

abbrev pub invariant-loop-piece : goal.invariant-loop-piece
invariant-loop-piece l = record {
  parts : l.yielded ++ l.piece-iterator.rest.items ≡ l.fn.pieces;
  adds : AddsLines (map (piece_line l.place l.text l.tokens) (map piece_of l.yielded)) l.initial.build l.build;
}
