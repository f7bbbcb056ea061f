use Rattle.std.proofs.Common.{◌++◌, Option, Some, sym, ◌∙◌}
use Rattle.std.proofs.lemmas.Slice.Eq.{strip_suffix_is}
use Rattle.std.proofs.lemmas.Bool.Decides.{Decides-eqb}
use Rattle.up_base.specs.LineEnd.{line_end}
use Rattle.net_reader.proofs.ResponseLines.{ending_lacks, line_lacks, start_same}
use Rattle.net_reader.proofs.response_file.is_line.Goals as goal

pub returns-in-Some-strip_suffix : goal.returns-in-Some-strip_suffix
returns-in-Some-strip_suffix c =
    let line = c.args.line.now in
    let said = c.in-Some.said.now in
    let start = c.in-Some-strip_suffix.start.now in
    c.eq.ensures
    ∙ start_same c.args.text.now c.args.ending.now start said line
    (strip_suffix_is Decides-eqb line line_end (Some c.in-Some.said) c.in-Some.ensures.cases)
    (strip_suffix_is Decides-eqb said c.args.ending.now (Some c.in-Some-strip_suffix.start) c.in-Some-strip_suffix.ensures.cases)

pub returns-in-None-strip_suffix : goal.returns-in-None-strip_suffix
returns-in-None-strip_suffix c =
    let line = c.args.line.now in
    let said = c.in-Some.said.now in
    sym (ending_lacks c.args.text.now c.args.ending.now said line
    (strip_suffix_is Decides-eqb line line_end (Some c.in-Some.said) c.in-Some.ensures.cases)
    (strip_suffix_is Decides-eqb said c.args.ending.now Option.None c.in-None-strip_suffix.ensures.cases))

pub returns-in-None : goal.returns-in-None
returns-in-None c =
    let line = c.args.line.now in
    sym (line_lacks (c.args.text.now ++ c.args.ending.now) line (strip_suffix_is Decides-eqb line line_end Option.None c.in-None.ensures.cases))
