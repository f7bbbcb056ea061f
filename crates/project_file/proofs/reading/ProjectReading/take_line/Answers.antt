use Rattle.std.proofs.Common.{sym}
use Rattle.project_file.proofs.Steps.{head_reads, form_reads}
use Rattle.project_file.proofs.reading.ProjectReading.take_line.Goals as goal

pub returns-then-self-clause-ok : goal.returns-then-self-clause-ok
returns-then-self-clause-ok c = head_reads c.args.number c.args.line.now c.args.self.now (sym c.if-has_control.ensures) c.if-self.true

pub returns-clause-ok : goal.returns-clause-ok
returns-clause-ok c =
    let old = c.args.self.now in
    let new = c.take_form.new.self in
    let takes = rw c.line_in.ensures.line at c.in_ok-take_form.ensures.ok in
    let right = rw c.line_in.ensures.line at c.in_ok-take_form.ensures.right in
    form_reads c.args.number c.args.line.now old new (sym c.if-has_control.ensures) c.if-self.false takes right
