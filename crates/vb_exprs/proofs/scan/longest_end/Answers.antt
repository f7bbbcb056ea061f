use Rattle.std.proofs.Common.{◌≡◌, refl, sym, ap, ◌∙◌, subst, arith, reverse, length, get_or, Some, None, ◌<◌}
use Rattle.vb_tree.specs.Expressions.{symbols, other}
use Rattle.vb_exprs.specs.Reading.{IsLongestEnd}
use Rattle.vb_exprs.specs.TokenClass.{class_of}
use Rattle.vb_exprs.specs.Scan.{step_of}
use Rattle.vb_exprs.proofs.Ends.{none_longest, reached_more, ends_here, not_here, stuck_here, class_here, length-symbols}
use Rattle.vb_exprs.proofs.scan.longest_end.Goals as goal
use Rattle.vb_exprs.proofs.scan.longest_end.Goals.{then-is_end, else-is_end, else-loop-i-test, then-loop-i-test+in_ok-next+in_default}

pub loop-i-init : goal.loop-i-init
loop-i-init c = record { reached = rw c.new-brackets.ensures.items refl; best = none_longest (symbols c.args.tokens.now) }

pub loop-i-preserved : goal.loop-i-preserved
loop-i-preserved c =
    let tokens = c.args.tokens.now in
    let ts = symbols c.args.tokens.now in
    let i = c.loop-i.i in
    let class = class_here tokens i c.index-tokens-i.result c.class_at.result c.loop-i-test.true c.index-tokens-i.is c.class_at.ensures in
    let stepped : step_of c.loop-i.mode (reverse c.loop-i.brackets.items) (class_of (get_or (symbols c.args.tokens.now) c.loop-i.i other)) ≡ Some (c.in-Some.next, reverse c.step.new.brackets.items) =
    ap (step_of c.loop-i.mode (reverse c.loop-i.brackets.items)) class ∙ rw c.in-Some.is at c.in_ok-next.ensures in
    let low : i < length (symbols c.args.tokens.now) = omega (arith, length-symbols c.args.tokens.now, c.loop-i-test.true) in
    let reached = reached_more ts i other c.loop-i.mode _ _ low c.loop-i.invariant.reached stepped in
    record {
      reached = reached;
      best = elim c.if-is_end.branch [
        | then-is_end w ↦ rw w.end-is (ends_here ts i _ _ reached (sym c.is_end.ensures ∙ w.if-is_end.true))
        | else-is_end w ↦ rw w.end-is (not_here ts i _ _ _ reached (sym c.is_end.ensures ∙ w.if-is_end.false) c.loop-i.invariant.best)
      ];
    }

pub returns : goal.returns
returns c =
    let tokens = c.args.tokens.now in
    let ts = symbols c.args.tokens.now in
    let i = c.loop-i.i in
    let known = c.loop-i.invariant in
    elim c.loop-i-test.branch [
      | else-loop-i-test w ↦
          let e : c.loop-i.i ≡ length c.args.tokens.now = omega arith in
          subst (λ n. IsLongestEnd n (symbols c.args.tokens.now) c.loop-i.end) e known.best
      | then-loop-i-test+in_ok-next+in_default w ↦
          let class = class_here tokens i w.index-tokens-i.result w.class_at.result w.loop-i-test.true w.index-tokens-i.is w.class_at.ensures in
          let stuck : step_of c.loop-i.mode (reverse c.loop-i.brackets.items) (class_of (get_or (symbols c.args.tokens.now) c.loop-i.i other)) ≡ None =
          ap (step_of c.loop-i.mode (reverse c.loop-i.brackets.items)) class ∙ rw w.in_default.is at w.in_ok-next.ensures in
          let low : i < length (symbols c.args.tokens.now) = omega (arith, length-symbols c.args.tokens.now, w.loop-i-test.true) in
          subst (λ n. IsLongestEnd n (symbols c.args.tokens.now) c.loop-i.end) (length-symbols c.args.tokens.now) (stuck_here ts i other c.loop-i.mode _ _ low known.reached stuck known.best)
    ]
