use Rattle.std.proofs.Common.{refl, sym, ◌∙◌}
use Rattle.vb_lines.specs.Parts.{all_parts}
use Rattle.vb_lines.proofs.Taking.{unclosed_fault, module_read}
use Rattle.vb_lines.proofs.module.closed_module.Goals as goal

pub returns-in-Some : goal.returns-in-Some
returns-in-Some c = λ body before built adds comments.
    rw c.fault.ensures (unclosed_fault (all_parts body) before c.args.build c.in-Some.place built adds (sym c.unclosed.ensures ∙ c.in-Some.is))

pub returns : goal.returns
returns c = λ body before built adds comments.
    module_read c.args.entry.now c.args.file body before c.args.build _ built adds
    (sym c.unclosed.ensures ∙ c.in_default.is) refl c.in_ok-name.ensures refl comments c.shrink_to_fit.ensures
