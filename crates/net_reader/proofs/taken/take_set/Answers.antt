use Rattle.std.proofs.Common.{ap, ◌∙◌, subst, drop}
use Rattle.net_reader.specs.DeclarationReader.{set_in}
use Rattle.net_reader.specs.StateView.{promised_of}
use Rattle.net_reader.specs.Steps.{StopsFor}
use Rattle.net_reader.specs.Takings.{set_within}
use Rattle.net_reader.proofs.Stopping.{set_stops}
use Rattle.net_reader.proofs.taken.take_set.Goals as goal

pub returns-in-Err : goal.returns-in-Err
returns-in-Err c =
    let p = promised_of c.args.promised.now in
    let line = c.args.line.now in
    subst (λ text. StopsFor (set_within p line (set_in text)) c.in-Err.e) (c.behind.ensures ∙ ap (drop 3) c.text_of_line.ensures)
    (set_stops p line c.behind.result.now c.in-Err.e c.in-Err.ensures.answers)
