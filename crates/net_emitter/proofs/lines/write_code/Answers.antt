use Rattle.std.proofs.Common.{◌++◌, codes, sym, ap, ◌∙◌, append_assoc}
use Rattle.std.proofs.lemmas.Result.{on_ok_weaker}
use Rattle.net_tree.specs.View.{line_of}
use Rattle.net_tree.specs.Spelling.{label_text}
use Rattle.net_tree.specs.Lines.{line_text}
use Rattle.net_emitter.proofs.lines.write_code.Goals as goal

pub returns-in-OnErrorGoTo : goal.returns-in-OnErrorGoTo
returns-in-OnErrorGoTo c =
    on_ok_weaker c.write_jump-in-OnErrorGoTo.result
    (λ e. e ∙ append_assoc c.args.out.now (codes "On Error GoTo ") (label_text c.in-OnErrorGoTo.label) ∙ ap (λ l. c.args.out.now ++ line_text (line_of l)) (sym c.in-OnErrorGoTo.is))
    c.write_jump-in-OnErrorGoTo.ensures

pub returns-in-OnErrorResumeNext : goal.returns-in-OnErrorResumeNext
returns-in-OnErrorResumeNext c =
    on_ok_weaker c.extend_from_slice-in-OnErrorResumeNext.result (λ e. e ∙ ap (λ l. c.args.out.now ++ line_text (line_of l)) (sym c.in-OnErrorResumeNext.is)) c.extend_from_slice-in-OnErrorResumeNext.ensures.ok

pub returns-in-ResumeNext : goal.returns-in-ResumeNext
returns-in-ResumeNext c =
    on_ok_weaker c.extend_from_slice-in-ResumeNext.result (λ e. e ∙ ap (λ l. c.args.out.now ++ line_text (line_of l)) (sym c.in-ResumeNext.is)) c.extend_from_slice-in-ResumeNext.ensures.ok
