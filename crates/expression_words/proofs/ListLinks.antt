-- One default member more behind an argument list, and of the target of an assignment.
use Rattle.std.proofs.Common.{◌≡◌, ◌≢◌, ℕ, zero, suc, ◌-◌, Bool, false, cond, ◌&&◌, not, List, [], refl, ap, arith}
use Rattle.bound_tree.specs.Tree.{Declarations, Expr, Object}
use Rattle.bound_facts.specs.Node.{is_object_type, type_at}
use Rattle.expression_words.specs.Converting.{default_at}
use Rattle.expression_words.specs.Passing.{Supplied, called}
use Rattle.expression_words.specs.Meanings.{procedure, listed, gives_list, is_empty, list_behind, procedure_list}
use Rattle.expression_words.specs.Targets.{let_behind, let_known, stored}

pub one_list_more : (D : Declarations) (n p : ℕ) (qualified : Bool) (of : Object) (args : List Supplied) → n ≢ 0
    → procedure_list D n p qualified of args
    ≡ cond (not (is_empty args) && gives_list D p)
    (list_behind (λ (q : ℕ) (o : Object). procedure_list D (n - 1) q false o args) D (called D p qualified of []) args)
    (procedure p qualified of (listed args))
one_list_more D zero p qualified of args h = absurd (h refl)
one_list_more D (suc n) p qualified of args h =
    let k : n ≡ suc n - 1 = omega arith in
    ap (λ m. cond (not (is_empty args) && gives_list D p)
    (list_behind (λ (q : ℕ) (o : Object). procedure_list D m q false o args) D (called D p qualified of []) args)
    (procedure p qualified of (listed args))) k

pub one_target_more : (D : Declarations) (n : ℕ) (e : Expr) → n ≢ 0
    → let_known D n e ≡ cond (is_object_type (type_at e)) (let_behind (let_known D (n - 1)) D e (default_at D (type_at e))) (stored e)
one_target_more D zero e h = absurd (h refl)
one_target_more D (suc n) e h =
    let k : n ≡ suc n - 1 = omega arith in
    ap (λ m. cond (is_object_type (type_at e)) (let_behind (let_known D m) D e (default_at D (type_at e))) (stored e)) k
