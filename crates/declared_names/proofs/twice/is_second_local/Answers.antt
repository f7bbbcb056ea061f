use Rattle.std.proofs.Common.{◌∙◌, ap, map}
use Rattle.name_places.specs.Places.{placed}
use Rattle.declared_names.specs.Rivals.{is_other_at}
use Rattle.declared_names.specs.View.{procedure_of}
use Rattle.declared_names.proofs.FirstRivals.{second_local}
use Rattle.declared_names.proofs.twice.is_second_local.Goals as goal

pub returns : goal.returns
returns c =
    c.is_other_at.ensures
    ∙ ap (λ names. is_other_at names c.args.named c.place-first.result) c.as_slice.ensures
    ∙ ap (is_other_at c.args.d.now.names c.args.named) (c.place-first.ensures ∙ ap (placed c.args.rivals.now.locals c.args.procedure.0) c.lower_bytes.ensures)
    ∙ second_local c.args.rivals.now.locals (map procedure_of c.args.d.now.procs) c.args.procedure c.args.name.now c.args.named c.args.d.now.names c.requires.tables.locals c.requires.part
