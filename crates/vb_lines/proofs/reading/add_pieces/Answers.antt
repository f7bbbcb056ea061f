use Rattle.std.proofs.Common.{◌++◌, ◌∷◌, [], sym, ap, ◌∙◌, map, append_assoc}
use Rattle.vb_lines.specs.Forms.{piece_of}
use Rattle.vb_lines.specs.Parts.{piece_line}
use Rattle.vb_lines.specs.Reading.{FaultOfLines}
use Rattle.vb_lines.proofs.Passing.{fault_passed, pieces_more, piece_fault}
use Rattle.vb_lines.proofs.reading.add_pieces.Goals as goal

pub loop-piece-preserved : goal.loop-piece-preserved
loop-piece-preserved c =
    let to_line = piece_line c.args.place c.args.text.now c.args.tokens.now in
    record {
      parts = append_assoc c.loop-piece.yielded (c.in-Some.piece ∷ []) c.next.new.self.rest.items ∙ ap (λ ps. c.loop-piece.yielded ++ ps) (sym c.in-Some.ensures.steps.0) ∙ c.loop-piece.invariant.parts;
      adds = pieces_more to_line c.loop-piece.yielded c.in-Some.piece c.args.build.now c.loop-piece.build c.add_piece.new.build c.loop-piece.invariant.adds c.in_ok-add_piece.ensures.ok;
    }

pub returns-in_err-add_piece-clause-fault : goal.returns-in_err-add_piece-clause-fault
returns-in_err-add_piece-clause-fault c =
    let to_line = piece_line c.args.place c.args.text.now c.args.tokens.now in
    fault_passed
    (λ f. FaultOfLines (to_line (piece_of c.in-Some.piece) ∷ []) c.args.place c.loop-piece.build f)
    (λ f. FaultOfLines (map to_line (map piece_of c.args.pieces)) c.args.place c.args.build.now f)
    c.add_piece.result c.from_residual.result c.in_err-add_piece.field-0.0 c.in_err-add_piece.was c.from_residual.ensures.1
    (λ f p. piece_fault to_line c.args.pieces c.loop-piece.yielded c.in-Some.piece c.next.new.self.rest.items c.args.place c.args.build.now c.loop-piece.build f
    (ap (λ ps. c.loop-piece.yielded ++ ps) (sym c.in-Some.ensures.steps.0) ∙ c.loop-piece.invariant.parts) c.loop-piece.invariant.adds p)
    c.add_piece.ensures.fault
