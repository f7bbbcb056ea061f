use Rattle.std.proofs.Common.{◌≡◌, ap, sym, ◌∙◌, Some}
use Rattle.net_reader.specs.FileLines.{units_in}
use Rattle.net_reader.proofs.UnitsYielded.{all_yielded, no_units, units_fit}
use Rattle.net_reader.proofs.texts.units.Goals as goal

pub returns-in_default-clause-answers : goal.returns-in_default-clause-answers
returns-in_default-clause-answers c = rw (no_units c.args.text.now c.in_default.ensures.cases.0) tt

units_are : (c : goal.After-from_vec) → units_in c.args.text.now ≡ Some c.from_vec.result
units_are c =
    let ran = c.in_ok-collect.ensures.ran in
    let end = ran.1.2 tt in
    all_yielded c.args.text.now ran.0 c.encode_utf16.result ran.1.0 end.0 c.in-Ok.ensures.cases.1 (c.encode_utf16.ensures.text ∙ c.in-Ok.ensures.cases.0) c.encode_utf16.ensures.pending ran.1.1 end.1
    ∙ ap (λ x. Some x) (sym ran.2.0 ∙ sym c.from_vec.ensures)

pub returns-clause-answers : goal.returns-clause-answers
returns-clause-answers c = units_are c

pub returns-clause-held : goal.returns-clause-held
returns-clause-held c = units_fit c.args.text.now c.from_vec.result c.in-Ok.ensures.cases.1 (units_are c)
