use Rattle.std.proofs.Common.{sym, ap, ◌∙◌, Some, None}
use Rattle.std.proofs.lemmas.Slice.Eq.{strip_suffix_is}
use Rattle.std.proofs.lemmas.Bool.Decides.{Decides-eqb}
use Rattle.up_base.specs.LineEnd.{line_end}
use Rattle.net_reader.specs.FileLines.{without_end}
use Rattle.net_reader.proofs.LineEnds.{end_cut, end_kept}
use Rattle.net_reader.proofs.margins.without_end.Goals as goal

pub returns-in-Some : goal.returns-in-Some
returns-in-Some c =
    sym (ap without_end (strip_suffix_is Decides-eqb c.args.line.now line_end (Some c.in-Some.front) c.in-Some.ensures.cases) ∙ end_cut c.in-Some.front.now)

pub returns-in-None : goal.returns-in-None
returns-in-None c = sym (end_kept c.args.line.now (strip_suffix_is Decides-eqb c.args.line.now line_end None c.in-None.ensures.cases))
