use Rattle.std.proofs.Common.{◌+◌, ◌++◌, ◌∷◌, [], ◌%◌, ◌/◌, ap, sym, ◌∙◌, append_assoc, arith}
use Rattle.std.specs.Fmt.{decimal}
use Rattle.std.proofs.lemmas.Fmt.{decimal_digit, decimal_step_wide}
use Rattle.std.proofs.lemmas.Result.{on_ok_weaker}
use Rattle.up_base.proofs.decimal.+write_decimal.Goals as goal

pub returns-then-n-lt10 : goal.returns-then-n-lt10
returns-then-n-lt10 t c =
    on_ok_weaker c.push.result (λ e. e ∙ ap (λ ds. c.args.out.now ++ ds) (sym (decimal_digit c.args.n c.if-n-lt10.true))) c.push.ensures.ok

pub returns : goal.returns
returns t c =
    on_ok_weaker c.push-2.result
    (λ e. e ∙ ap (λ m. m ++ (48 + c.args.n % 10) ∷ []) c.in_ok-write_decimal.ensures
    ∙ append_assoc c.args.out.now (decimal (c.args.n / 10)) ((48 + c.args.n % 10) ∷ [])
    ∙ ap (λ ds. c.args.out.now ++ ds) (sym (decimal_step_wide c.args.n c.if-n-lt10.false (omega arith))))
    c.push-2.ensures.ok
