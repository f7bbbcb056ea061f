use Rattle.std.proofs.Common.{◌≡◌, IfOk, map, subst, sym}
use Rattle.net_tree.specs.View.{module_of}
use Rattle.net_reader.specs.FileLines.{file_lines}
use Rattle.net_reader.specs.ReadingView.{reading_of}
use Rattle.net_reader.proofs.ResponseRuns.{no_target, program}
use Rattle.net_reader.proofs.response_file.read_response.Goals as goal

pub returns-in-Some-behind_text : goal.returns-in-Some-behind_text
returns-in-Some-behind_text c =
    let ms = map module_of c.args.modules.now in
    subst (λ answer. IfOk c.read_main.result (λ reading. reading_of (λ main. main) reading ≡ answer))
    (sym (program ms 1 (file_lines c.args.file.now) (file_lines c.in-Some-behind_text.rest.now) c.in-None.ensures.lines c.in-Some-behind_text.ensures.lines)) c.read_main.ensures

pub returns-in-None-behind_text : goal.returns-in-None-behind_text
returns-in-None-behind_text c =
    sym (no_target (map module_of c.args.modules.now) 1 (file_lines c.args.file.now) c.in-None.ensures.lines c.in-None-behind_text.ensures.lines)
