-- What the sets of the rows have.
use Rattle.std.proofs.Common.{◌≡◌, ℕ, Bool, true, false, cond, refl, ap, ◌∙◌, nat_eq}
use Rattle.std.specs.Prelude.{◌||◌}
use Rattle.bound_tree.specs.RuleSets.{has, none, with_if}
use Rattle.bound_tree.proofs.RuleLaws.{has_none, has_with_if}
use Rattle.bound_tree.specs.Tree.{Variable, Procedure, Line, Declarations}
use Rattle.array_bounds.specs.Declaring.{breaks_head, breaks_variable, splits_variable}
use Rattle.array_bounds.specs.Elements.{breaks_forms}
use Rattle.array_bounds.specs.Known.{Known}
use Rattle.array_bounds.specs.Locking.{breaks_locks}
use Rattle.array_bounds.specs.Resizing.{breaks_lows}
use Rattle.array_bounds.specs.Rows.{head_rules, line_rules, variable_rules}

or_false : (b : Bool) → (b || false) ≡ b
or_false true = refl
or_false false = refl

one_rule : (n rule : ℕ) (test : Bool) → has (with_if none n test) rule ≡ cond (nat_eq rule n) test false
one_rule n rule test = has_with_if none n rule test ∙ ap (λ b. cond (nat_eq rule n) test false || b) (has_none rule) ∙ or_false (cond (nat_eq rule n) test false)

two_rules : (m n rule : ℕ) (first second : Bool) → has (with_if (with_if none m first) n second) rule ≡ (cond (nat_eq rule n) second false || cond (nat_eq rule m) first false)
two_rules m n rule first second = has_with_if (with_if none m first) n rule second ∙ ap (λ b. cond (nat_eq rule n) second false || b) (one_rule m rule first)

pub has_line : (D : Declarations) (F : Known) (l : Line) (rule : ℕ)
    → has (line_rules D F l) rule ≡ (cond (nat_eq rule 11) (breaks_forms D F l) false || (cond (nat_eq rule 10) (breaks_locks D F l) false || cond (nat_eq rule 9) (breaks_lows l) false))
has_line D F l rule =
    has_with_if (with_if (with_if none 9 (breaks_lows l)) 10 (breaks_locks D F l)) 11 rule (breaks_forms D F l)
    ∙ ap (λ b. cond (nat_eq rule 11) (breaks_forms D F l) false || b) (two_rules 9 10 rule (breaks_lows l) (breaks_locks D F l))

pub has_head : (D : Declarations) (F : Known) (q : Procedure) (rule : ℕ) → has (head_rules D F q) rule ≡ cond (nat_eq rule 11) (breaks_head D F q) false
has_head D F q rule = one_rule 11 rule (breaks_head D F q)

pub has_variable : (F : Known) (k : ℕ) (v : Variable) (rule : ℕ)
    → has (variable_rules F k v) rule ≡ (cond (nat_eq rule 11) (breaks_variable F k v) false || cond (nat_eq rule 9) (splits_variable F k v) false)
has_variable F k v rule = two_rules 9 11 rule (splits_variable F k v) (breaks_variable F k v)
