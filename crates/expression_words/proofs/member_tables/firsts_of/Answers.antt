use Rattle.std.proofs.Common.{◌≡◌, ℕ, ◌+◌, ◌<◌, ◌==◌, List, length, take, get_or, cond, nat_eq, ap, ◌∙◌}
use Rattle.std.specs.Prelude.{Option, None, Some, position}
use Rattle.std.proofs.lemmas.List.{get_or_default}
use Rattle.name_tables.proofs.Firsts.{note_step}
use Rattle.name_tables.proofs.WordMaps.{eq_symm}
use Rattle.name_tables.specs.Scopes.{first_of}
use Rattle.expression_words.proofs.member_tables.firsts_of.Goals as goal

number_step : (xs : List ℕ) (i n : ℕ) (old new : Option ℕ) → i < length xs → old ≡ position (nat_eq n) (take i xs)
    → new ≡ first_of old (cond (get_or xs i 0 == n) (Some i) None) → new ≡ position (nat_eq n) (take (i + 1) xs)
number_step xs i n old new h o e =
    note_step (nat_eq n) xs i (get_or xs i 0) old new h (get_or_default xs i 0 (get_or xs i 0) h) o
    (e ∙ ap (λ b. first_of old (cond b (Some i) None)) (eq_symm (get_or xs i 0) n))

pub loop-i-preserved : goal.loop-i-preserved
loop-i-preserved c = λ n. number_step c.args.numbers.now c.loop-i.i n _ _ c.loop-i-test.true (c.loop-i.invariant n) (c.in_ok-note_first.ensures n)
