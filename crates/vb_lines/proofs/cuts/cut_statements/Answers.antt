use Rattle.std.proofs.Common.{sym, reverse}
use Rattle.vb_lines.specs.Cuts.{cuts_of}
use Rattle.vb_lines.proofs.Cutting.{is_nonempty, rest_shorter, step_cut_to}
use Rattle.vb_lines.proofs.cuts.cut_statements.Goals as goal

pub loop-rest-smaller : goal.loop-rest-smaller
loop-rest-smaller c =
    let rest = c.loop-rest.rest.now in
    rest_shorter (reverse c.loop-rest.ifs.items) rest c.in_ok-rest.rest.now (is_nonempty rest (sym c.loop-rest-test.ensures)) c.in_ok-rest.ensures.rest

pub loop-rest-preserved : goal.loop-rest-preserved
loop-rest-preserved c =
    let rest = c.loop-rest.rest.now in
    step_cut_to _ c.args.tokens.now (cuts_of c.loop-rest.cuts.items) (reverse c.loop-rest.ifs.items) rest _ _ _ (is_nonempty rest (sym c.loop-rest-test.ensures)) c.in_ok-rest.ensures.cuts c.in_ok-rest.ensures.ifs c.in_ok-rest.ensures.rest c.loop-rest.invariant
