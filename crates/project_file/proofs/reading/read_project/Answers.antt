use Rattle.std.proofs.Common.{length, sym, eqb-true}
use Rattle.std.proofs.lemmas.List.{nil_from_length}
use Rattle.project_file.proofs.Limits.{answer_few, answer_apart, answer_named}
use Rattle.project_file.proofs.Steps.{answers, fails}
use Rattle.project_file.proofs.reading.read_project.Goals as goal

pub returns-in_err-take_line-clause-exact : goal.returns-in_err-take_line-clause-exact
returns-in_err-take_line-clause-exact c =
    fails c.args.text.now _ _ _ _ c.loop-rest.reading c.take_line.result c.from_residual.result c.in_err-take_line.field-0.0
    c.in_err-take_line.was c.from_residual.ensures.1 c.take_line.ensures.fault c.loop-rest.invariant.read c.first_line.ensures.lines

pub returns-clause-few : goal.returns-clause-few
returns-clause-few c =
    let rest = c.loop-rest.rest.now in
    let empty = nil_from_length rest (eqb-true (length rest) 0 (sym c.loop-rest-test.ensures)) in
    answer_few c.args.text.now c.loop-rest.reading.file (answers c.args.text.now rest _ c.loop-rest.reading c.loop-rest.invariant.read empty)

pub returns-clause-apart : goal.returns-clause-apart
returns-clause-apart c =
    let rest = c.loop-rest.rest.now in
    let empty = nil_from_length rest (eqb-true (length rest) 0 (sym c.loop-rest-test.ensures)) in
    answer_apart c.args.text.now c.loop-rest.reading.file (answers c.args.text.now rest _ c.loop-rest.reading c.loop-rest.invariant.read empty)

pub returns-clause-named : goal.returns-clause-named
returns-clause-named c =
    let rest = c.loop-rest.rest.now in
    let empty = nil_from_length rest (eqb-true (length rest) 0 (sym c.loop-rest-test.ensures)) in
    answer_named c.args.text.now c.loop-rest.reading.file (answers c.args.text.now rest _ c.loop-rest.reading c.loop-rest.invariant.read empty)
