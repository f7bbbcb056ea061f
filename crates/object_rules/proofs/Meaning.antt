-- What the sets of the rows have, which variables are As New ones for a creation, and that two parts of a property that differ are told.
use Rattle.std.proofs.Common.{◌≡◌, ℕ, Bool, true, false, cond, Some, None, refl, ap, ◌∙◌, nat_eq}
use Rattle.std.specs.Prelude.{◌||◌, ◌&&◌, is_some}
use Rattle.vb_tree.specs.BoundTree.{Ty, class, boolean, byte, integer, long, currency, str, fixed, user, object, variant, array, nothing, unknown}
use Rattle.bound_tree.specs.RuleSets.{has, none, with_if}
use Rattle.bound_tree.proofs.RuleLaws.{has_none, has_with_if}
use Rattle.bound_tree.specs.Tree.{Variable, Procedure, Line, Declarations}
use Rattle.bound_facts.specs.Node.{auto_class, class_in}
use Rattle.object_rules.specs.Autos.{is_auto, is_auto_array, is_class}
use Rattle.object_rules.specs.Properties.{breaks_shape}
use Rattle.object_rules.specs.Rows.{head_rules, line_rules, variable_rules}
use Rattle.object_rules.specs.Terminators.{is_terminator}
use Rattle.object_rules.specs.Uses.{breaks_use}

or_false : (b : Bool) → (b || false) ≡ b
or_false true = refl
or_false false = refl

one_rule : (n : ℕ) (test : Bool) (rule : ℕ) → has (with_if none n test) rule ≡ cond (nat_eq rule n) test false
one_rule n test rule =
    has_with_if none n rule test ∙ ap (λ b. cond (nat_eq rule n) test false || b) (has_none rule) ∙ or_false (cond (nat_eq rule n) test false)

pub has_variable : (v : Variable) (rule : ℕ) → has (variable_rules v) rule ≡ cond (nat_eq rule 24) (is_auto_array v) false
has_variable v rule = one_rule 24 (is_auto_array v) rule

pub has_line : (D : Declarations) (l : Line) (rule : ℕ) → has (line_rules D l) rule ≡ cond (nat_eq rule 24) (breaks_use D l) false
has_line D l rule = one_rule 24 (breaks_use D l) rule

pub has_head : (D : Declarations) (p : Procedure) (rule : ℕ)
    → has (head_rules D p) rule ≡ (cond (nat_eq rule 13) (is_terminator D p) false || cond (nat_eq rule 7) (breaks_shape D p) false)
has_head D p rule =
    has_with_if (with_if none 7 (breaks_shape D p)) 13 rule (is_terminator D p)
    ∙ ap (λ b. cond (nat_eq rule 13) (is_terminator D p) false || b) (one_rule 7 (breaks_shape D p) rule)

-- an As New variable is one whose use makes an object of its class
makes : (auto : Bool) (ty : Ty) → is_some (cond auto (class_in ty) None) ≡ (auto && is_class ty)
makes false ty = refl
makes true (class c) = refl
makes true boolean = refl
makes true byte = refl
makes true integer = refl
makes true long = refl
makes true currency = refl
makes true str = refl
makes true (fixed n) = refl
makes true (user t) = refl
makes true object = refl
makes true variant = refl
makes true (array t rank) = refl
makes true nothing = refl
makes true unknown = refl

pub auto_makes : (v : Variable) → is_some (auto_class (Some v)) ≡ is_auto v
auto_makes v = makes v.auto v.ty
