use Rattle.std.proofs.Common.{ℕ, List, ◌++◌, codes, length, map, ap, sym, ◌∙◌, arith, eqb-true}
use Rattle.std.proofs.lemmas.Bool.{eqb-false}
use Rattle.net_tree.specs.View.{module_of}
use Rattle.net_reader.specs.FileLines.{file_lines}
use Rattle.net_reader.specs.FileSteps.{behind_text}
use Rattle.net_reader.specs.ModuleReader.{complete}
use Rattle.net_reader.proofs.ResponseRuns.{at_last, past_last, source_lacks, sources_done}
use Rattle.net_reader.proofs.response_file.read_sources.Goals as goal

pub returns-in-None : goal.returns-in-None
returns-in-None c =
    let sources = c.args.modules.now in
    sym (source_lacks (map module_of sources) c.args.main sources c.loop-source.source-index c.source-item.result c.loop-source.number (file_lines c.loop-source.rest.now) c.loop-source-test.true c.source-item.is
    (c.in-None.ensures.lines ∙ ap (λ (name : List ℕ). behind_text (name ++ codes ".vb") (file_lines c.loop-source.rest.now)) c.as_bytes.ensures.bytes))
    ∙ c.loop-source.invariant.same

pub returns-then-is_empty : goal.returns-then-is_empty
returns-then-is_empty c =
    let sources = c.args.modules.now in
    let ms = map module_of sources in
    ap (λ main. complete main) c.loop-source.invariant.kept
    ∙ sym (at_last ms c.args.main c.loop-source.number c.loop-source.rest.now (eqb-true (length c.loop-source.rest.now) 0 (sym c.if-is_empty.ensures)))
    ∙ sym (sources_done ms c.args.main sources c.loop-source.source-index c.loop-source.number (file_lines c.loop-source.rest.now) c.loop-source-test.false)
    ∙ c.loop-source.invariant.same

pub returns-else-is_empty : goal.returns-else-is_empty
returns-else-is_empty c =
    let sources = c.args.modules.now in
    let ms = map module_of sources in
    sym (past_last ms c.args.main c.loop-source.number c.loop-source.rest.now (omega (arith, eqb-false (length c.loop-source.rest.now) 0 (sym c.if-is_empty.ensures))))
    ∙ sym (sources_done ms c.args.main sources c.loop-source.source-index c.loop-source.number (file_lines c.loop-source.rest.now) c.loop-source-test.false)
    ∙ c.loop-source.invariant.same
