use Rattle.std.proofs.Common.{◌≡◌, map}
use Rattle.vb_lines.specs.Forms.{piece_of}
use Rattle.vb_lines.proofs.forms.boxed_all.Given as goal

abbrev pub invariant-loop-item : goal.invariant-loop-item
invariant-loop-item g l = map piece_of l.pieces ≡ map g.T.Boxing.plain l.yielded
