use Rattle.std.proofs.Common.{◌∙◌, ap, nat_eq, ℕ, List}
use Rattle.std.specs.List.{list_any}
use Rattle.std.specs.Cmp.Lexicographic.{pointwise}
use Rattle.declared_names.specs.Rules.{reserved_names}
use Rattle.declared_names.proofs.Words.{any_shown}
use Rattle.binder.proofs.declaring.is_reserved.Goals as goal

pub returns : goal.returns
returns c =
    c.is_among.ensures ∙ any_shown c.lower_bytes.result.now c.reserved_names.result.now
    ∙ ap (λ (words : List (List ℕ)). list_any (λ w. pointwise nat_eq c.lower_bytes.result.now w) words) c.reserved_names.ensures
    ∙ ap (λ (word : List ℕ). list_any (λ w. pointwise nat_eq word w) reserved_names) c.lower_bytes.ensures
