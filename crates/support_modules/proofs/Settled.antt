-- Rounds one after the other, up to one that changes nothing.
use Rattle.std.proofs.Common.{◌≡◌, ℕ, zero, suc, ◌-◌, ◌<◌, Bool, List, refl, ap, ◌∙◌, arith}
use Rattle.net_tree.specs.Tree.{Procedure}
use Rattle.support_modules.specs.Flags.{flags_after, next_flags}

pub settled : (all : List Procedure) (n : ℕ) (flags : List Bool) → next_flags all flags ≡ flags → flags_after all n flags ≡ flags
settled all zero flags h = refl
settled all (suc n) flags h = ap (flags_after all n) h ∙ settled all n flags h

pub next_round : (all : List Procedure) (n : ℕ) (flags : List Bool) → 0 < n → flags_after all (n - 1) (next_flags all flags) ≡ flags_after all n flags
next_round all zero flags h = absurd (omega (arith, h))
next_round all (suc n) flags h = let e : suc n - 1 ≡ n = omega arith in ap (λ k. flags_after all k (next_flags all flags)) e
