use Rattle.std.proofs.Common.{arith, sym, ◌∙◌}
use Rattle.vb_lexer.proofs.Continuations.{blank_before}
use Rattle.vb_lexer.proofs.physical.solid_units.Goals as goal

pub blanks-preserved : goal.blanks-preserved
blanks-preserved c = record {
  within = omega arith;
  blank = blank_before c.args.line.now c.blanks.n (omega arith) c.blanks.invariant.within (sym c.is_blank.ensures ∙ c.if-not-is_blank.false) c.blanks.invariant.blank;
}

pub returns-clause-solid : goal.returns-clause-solid
returns-clause-solid c = λ h. absurd (omega arith)
