use Rattle.std.proofs.Common.{ap, sym, ◌∙◌}
use Rattle.std.specs.Prelude.{Some, option_map}
use Rattle.std.proofs.lemmas.Option.{slice_get-map}
use Rattle.support_text.specs.Steps.{built}
use Rattle.support_text.proofs.fixed.build_at.Goals as goal

pub returns-in_ok-build-in-Some : goal.returns-in_ok-build-in-Some
returns-in_ok-build-in-Some c =
    slice_get-map built c.args.list.now c.args.place
    ∙ ap (option_map built) (sym c.in-Some.ensures)
    ∙ ap Some c.in_ok-build-in-Some.ensures
