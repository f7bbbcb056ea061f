-- What the sets of the rows have, and that the heads round a line are those that its targets tell.
use Rattle.std.proofs.Common.{◌≡◌, ℕ, zero, suc, ◌+◌, Bool, true, false, cond, List, [], ◌∷◌, Option, Some, None, refl, sym, ap, ◌∙◌, nat_eq, arith}
use Rattle.std.specs.Prelude.{◌||◌, slice_get}
use Rattle.std.proofs.lemmas.Bool.{eqb-true}
use Rattle.bound_tree.specs.RuleSets.{has, none, with_if}
use Rattle.bound_tree.proofs.RuleLaws.{has_none, has_with_if}
use Rattle.bound_tree.specs.Targets.{Step, Aims, aims_at, aims_from, aims_of, heads_round}
use Rattle.bound_tree.specs.Tree.{Line, Declarations}
use Rattle.error_handlers.specs.Heads.{breaks_head}
use Rattle.error_handlers.specs.Jumps.{breaks_jumps}
use Rattle.error_handlers.specs.Rows.{Home, breaks, rules_of}

two_tests : (e t : Bool) → (a b : Bool) → (e ≡ true → t ≡ false) → (cond t b false || (cond e a false || false)) ≡ cond e a (cond t b false)
two_tests true true a b h = absurd (cc (h refl))
two_tests true false true b h = refl
two_tests true false false b h = refl
two_tests false true a true h = refl
two_tests false true a false h = refl
two_tests false false a b h = refl

not_both : (n : ℕ) → nat_eq n 14 ≡ true → nat_eq n 15 ≡ false
not_both n h = rw (eqb-true n 14 h) refl

pub has_rules_of : (D : Declarations) (home : Home) (n : ℕ) (l : Line) (rule : ℕ) → has (rules_of D home n l) rule ≡ breaks D home n l rule
has_rules_of D home n l rule =
    let a = breaks_head D home.resumable l in
    let b = breaks_jumps home.kind home.lines n l.source.form in
    has_with_if (with_if none 14 a) 15 rule b
    ∙ ap (λ h. cond (nat_eq rule 15) b false || h) (has_with_if none 14 rule a ∙ ap (λ h. cond (nat_eq rule 14) a false || h) (has_none rule))
    ∙ two_tests (nat_eq rule 14) (nat_eq rule 15) a b (not_both rule)

around_from : (all : List Step) (n k : ℕ) (ss : List Step) (a : Aims) → slice_get (aims_from all n ss) k ≡ Some a → a.around ≡ heads_round all (k + n)
around_from all n k [] a h = absurd (cc h)
around_from all n zero (s ∷ ss) a h =
    let e : aims_at all n s ≡ a = cc h in
    let here : n ≡ 0 + n = omega (arith) in
    sym (ap (λ (x : Aims). x.around) e) ∙ ap (heads_round all) here
around_from all n (suc k) (s ∷ ss) a h =
    let next : k + suc n ≡ suc k + n = omega (arith) in
    around_from all (suc n) k ss a h ∙ ap (heads_round all) next

-- of the code line k + 1
pub around_is : (all : List Step) (k : ℕ) (a : Aims) → slice_get (aims_of all) k ≡ Some a → a.around ≡ heads_round all (k + 1)
around_is all k a h = around_from all 1 k all a h
