use Rattle.std.proofs.Common.{◌++◌, ap, ◌∙◌}
use Rattle.generated_project.specs.Generated.{declaration_lines, main_lines, module_lines, text_of, work_lines}
use Rattle.generated_project.proofs.Pieces.{more_lines}
use Rattle.generated_project.proofs.modules.module_text.Goals as goal

pub returns : goal.returns
returns c =
    let k = c.args.number in
    let start = c.new-out.result in
    let worked = more_lines start _ _ declaration_lines (work_lines k) c.in_ok-write_declarations.ensures c.in_ok-write_work.ensures in
    more_lines start _ _ (declaration_lines ++ work_lines k) (main_lines k) worked c.in_ok-write_main.ensures
    ∙ ap (λ bytes. bytes ++ text_of (module_lines k)) c.new-out.ensures
