use Rattle.std.proofs.Common.{◌≡◌, ◌+◌, ◌/◌, ◌%◌, ◌++◌, ◌∷◌, [], length, arith, ap, sym, ◌∙◌, append_assoc, length-append}
use Rattle.std.specs.Fmt.{decimal}
use Rattle.wizard_cli.proofs.Decimals.{decimal_step, decimal_of_digit, length_decimal_step}
use Rattle.wizard_cli.proofs.message.+push_digits.Goals as goal

pub push-requires : goal.push-requires
push-requires t c =
    let one : length (decimal c.args.n) ≡ 1 = ap length (decimal_of_digit c.args.n c.if-n-lt10.true) in omega arith

pub returns-then-n-lt10 : goal.returns-then-n-lt10
returns-then-n-lt10 t c =
    c.push.ensures ∙ ap (λ ds. c.args.message.now ++ ds) (sym (decimal_of_digit c.args.n c.if-n-lt10.true))

pub push_digits-requires : goal.push_digits-requires
push_digits-requires t c =
    let step = length_decimal_step c.args.n c.if-n-lt10.false (omega arith) in (omega (arith, c.decreases), omega arith)

pub push-requires-2 : goal.push-requires-2
push-requires-2 t c =
    let step = length_decimal_step c.args.n c.if-n-lt10.false (omega arith) in
    let so_far = ap length c.push_digits.ensures ∙ length-append c.args.message.now (decimal (c.args.n / 10)) in omega arith

pub returns : goal.returns
returns t c =
    c.push-2.ensures
    ∙ ap (λ m. m ++ (48 + c.args.n % 10) ∷ []) c.push_digits.ensures
    ∙ append_assoc c.args.message.now (decimal (c.args.n / 10)) ((48 + c.args.n % 10) ∷ [])
    ∙ ap (λ ds. c.args.message.now ++ ds) (sym (decimal_step c.args.n c.if-n-lt10.false (omega arith)))
