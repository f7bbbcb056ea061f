use Rattle.std.proofs.Common.{◌∙◌, ap, map}
use Rattle.declared_names.specs.Parts.{firsts_from}
use Rattle.declared_names.specs.View.{procedure_of}
use Rattle.declared_names.proofs.FirstRivals.{all_firsts}
use Rattle.declared_names.proofs.parts.first_parts.Goals as goal

pub returns : goal.returns
returns c =
    c.in_ok-firsts.ensures
    ∙ all_firsts c.in_ok-places.places (map procedure_of c.as_slice-procs.result.now) c.in_ok-places.ensures
    ∙ ap (λ ps. firsts_from (map procedure_of ps) 0 (map procedure_of ps)) c.as_slice-procs.ensures
