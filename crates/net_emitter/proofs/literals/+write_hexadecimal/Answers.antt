use Rattle.std.proofs.Common.{◌++◌, ◌∷◌, [], ◌%◌, ◌/◌, true, ap, sym, ◌∙◌, append_assoc, arith}
use Rattle.std.specs.Fmt.{digit_glyph}
use Rattle.std.proofs.lemmas.Result.{on_ok_weaker}
use Rattle.net_tree.specs.Literals.{hexadecimal}
use Rattle.net_emitter.proofs.Hexadecimals.{hexadecimal_digit, hexadecimal_step}
use Rattle.net_emitter.proofs.literals.+write_hexadecimal.Goals as goal

pub returns-then-n-lt16 : goal.returns-then-n-lt16
returns-then-n-lt16 t c =
    on_ok_weaker c.push.result
    (λ e. e ∙ ap (λ d. c.args.out.now ++ d ∷ []) c.hexadecimal_digit.ensures
    ∙ ap (λ ds. c.args.out.now ++ ds) (sym (hexadecimal_digit c.args.n c.if-n-lt16.true)))
    c.push.ensures.ok

pub returns : goal.returns
returns t c =
    on_ok_weaker c.push-2.result
    (λ e. e ∙ ap (λ d. c.write_hexadecimal.new.out ++ d ∷ []) c.hexadecimal_digit-2.ensures
    ∙ ap (λ m. m ++ digit_glyph true (c.args.n % 16) ∷ []) c.in_ok-write_hexadecimal.ensures
    ∙ append_assoc c.args.out.now (hexadecimal (c.args.n / 16)) (digit_glyph true (c.args.n % 16) ∷ [])
    ∙ ap (λ ds. c.args.out.now ++ ds) (sym (hexadecimal_step c.args.n c.if-n-lt16.false)))
    c.push-2.ensures.ok
