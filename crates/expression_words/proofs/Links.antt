-- One link more of a chain of default members.
use Rattle.std.proofs.Common.{◌≡◌, ◌≢◌, ℕ, zero, suc, ◌-◌, cond, refl, ap, sym, arith}
use Rattle.bound_tree.specs.Tree.{Declarations, Expr}
use Rattle.bound_facts.specs.Node.{is_object_type, type_at}
use Rattle.expression_words.specs.Converting.{behind_default, plain_in}
use Rattle.expression_words.specs.Flaws.{known, on_known}

pub one_link_more : (D : Declarations) (n : ℕ) (e : Expr) → n ≢ 0
    → plain_in D n e ≡ cond (is_object_type (type_at e)) (on_known (plain_in D (n - 1)) (behind_default D (type_at e) e)) (known e)
one_link_more D zero e h = absurd (h refl)
one_link_more D (suc n) e h =
    let k : n ≡ suc n - 1 = omega arith in
    ap (λ m. cond (is_object_type (type_at e)) (on_known (plain_in D m) (behind_default D (type_at e) e)) (known e)) k
