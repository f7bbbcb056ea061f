use Rattle.std.proofs.Common.{◌≡◌, ap, map, subst, ◌∙◌}
use Rattle.bound_facts.specs.Facts.{Known}
use Rattle.bound_tree.specs.Lines.{lines_of}
use Rattle.bound_tree.specs.Tree.{Program}
use Rattle.bound_tree.specs.View.{declarations_of, program_of}
use Rattle.byref_analysis.specs.FactsOf.{seen}
use Rattle.byref_analysis.specs.Rows.{AreFound}
use Rattle.byref_analysis.specs.Tests.{Tells}
use Rattle.byref_analysis.proofs.Meaning.{found_by_facts}
use Rattle.byref_analysis.proofs.analysis.analyse_refs.Goals as goal

pub returns-clause-determined : goal.returns-clause-determined
returns-clause-determined c =
    let d = c.args.bound.now.declared in
    let f = c.in_ok-found.field-0 in
    let same : seen d c.deref.result.now ≡ program_of c.args.bound.now =
    ap (λ bodies. record { declarations = declarations_of d; bodies = bodies }) (ap (map lines_of) c.deref.ensures.value ∙ c.in_ok-lines.ensures)
    in
    found_by_facts (program_of c.args.bound.now) f (subst (λ (P : Program). (F : Known) × Tells P F × AreFound P F f) same c.in_ok-found.ensures.facts)
