use Rattle.std.proofs.Common.{Option, Some, codes}
use Rattle.std.proofs.lemmas.Slice.Eq.{strip_prefix_is, strip_suffix_is}
use Rattle.std.proofs.lemmas.Bool.Decides.{Decides-eqb}
use Rattle.up_base.specs.LineEnd.{line_end}
use Rattle.net_reader.specs.ProjectReader.{main_line}
use Rattle.net_reader.proofs.ResponseLines.{in_main_line}
use Rattle.net_reader.proofs.response_file.main_name.Goals as goal

pub returns-in-Some : goal.returns-in-Some
returns-in-Some c =
    let line = c.args.line.now in
    let said = c.in-Some.said.now in
    in_main_line line said c.strip_prefix.result (strip_suffix_is Decides-eqb line line_end (Some c.in-Some.said) c.in-Some.ensures.cases)
    (strip_prefix_is Decides-eqb said (codes "/main:") c.strip_prefix.result c.strip_prefix.ensures.cases)

pub returns-in-None : goal.returns-in-None
returns-in-None c = λ name is. strip_suffix_is Decides-eqb c.args.line.now line_end Option.None c.in-None.ensures.cases (main_line name) is
