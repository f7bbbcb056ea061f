use Rattle.std.proofs.Common.{◌+◌, ◌∷◌, codes, map, sym, ◌∙◌}
use Rattle.net_tree.specs.Text.{file_name}
use Rattle.net_tree.specs.View.{module_of}
use Rattle.net_reader.specs.FileLines.{file_lines}
use Rattle.net_reader.proofs.ResponseRuns.{text_lacks, text_taken}
use Rattle.net_reader.proofs.response_file.read_options.Goals as goal

pub returns-in-None-behind_text : goal.returns-in-None-behind_text
returns-in-None-behind_text c =
    let ms = map module_of c.args.modules.now in
    let more = file_lines c.in-Some.rest.now in
    sym (text_taken ms c.args.main (codes "/optionexplicit+") (codes "/optionstrict-" ∷ map file_name ms) c.args.number (file_lines c.args.rest.now) more c.in-Some.ensures.lines
    ∙ text_lacks ms c.args.main (codes "/optionstrict-") (map file_name ms) (c.args.number + 1) more c.in-None-behind_text.ensures.lines)
