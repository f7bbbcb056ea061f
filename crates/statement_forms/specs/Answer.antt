-- What the readers of statements answer.
use Rattle.std.specs.Prelude.{◌≡◌, ℕ, ◌≤◌, List, map, Option, None, option_map, Result, Ok, Err, Bool, true, false}
use Rattle.std.specs.Borrow.{Bor}
use Rattle.vb_tree.specs.declared.expression.Arg6.{Arg6}
use Rattle.vb_tree.specs.declared.expression.Expr6.{Expr6}
use Rattle.vb_tree.specs.declared.form.Form6.{Form6}
use Rattle.vb_tree.specs.declared.form_parts.ReDimItem6.{ReDimItem6}
use Rattle.vb_tree.specs.declared.token.Suffix.{Suffix}
use Rattle.vb_tree.specs.declared.token.Token.{Token}
use Rattle.vb_tree.specs.Tree.{Exp, ReDimItem, Form, opaque}
use Rattle.vb_tree.specs.View.{exp_of, redim_item_of, form_of}
use Rattle.form_parts.specs.declared.answer.PartFail.{PartFail}
use Rattle.form_parts.specs.declared.answer.PartFail.TheVariants as fail
use Rattle.form_parts.specs.Answer.{FailsFor}
use Rattle.form_parts.specs.Arguments.{Argument, argument_of}

-- a form with how deep it is
abbrev pub Holds : (Form → ℕ → Type 0) → Form × ℕ → Type 0
Holds P x = P x.0 x.1

-- What is read is the form, no deeper than 64.
abbrev pub Reads : (Form → ℕ → Type 0) → Result Form6 PartFail → Type 0
Reads P (Ok f) = (n : ℕ) × P (form_of f) n × (n ≤ 64)
Reads P (Err e) = FailsFor (Holds P) (λ x. x.1) e

abbrev pub tail_now : Option (Bor (List Token)) → Option (List Token)
tail_now found = option_map (λ b. b.now) found

abbrev pub both_now : Option (Bor (List Token) × Bor (List Token)) → Option (List Token × List Token)
both_now found = option_map (λ f. (f.0.now, f.1.now)) found

abbrev pub not_found : Result Form6 PartFail → Bool
not_found (Ok f) = false
not_found (Err fail.NotFound) = true
not_found (Err fail.TooDeep) = false
not_found (Err fail.Mem) = false

abbrev pub each_now : Option (Bor (List ℕ) × Suffix × Bor (List Token)) → Option ((List ℕ × Suffix) × List Token)
each_now found = option_map (λ f. ((f.0.now, f.1), f.2.now)) found

-- a form that may be found
abbrev pub form_seen : Option Form6 → Option Form
form_seen found = option_map form_of found

-- What the parts that are read stand for.

abbrev pub pair_of : Expr6 × Expr6 → Exp × Exp
pair_of p = (exp_of p.0, exp_of p.1)

abbrev pub arrays_of : Bool × List ReDimItem6 → Bool × List ReDimItem
arrays_of p = (p.0, map redim_item_of p.1)

abbrev pub limit_of : Expr6 × Option Expr6 → Exp × Option Exp
limit_of p = (exp_of p.0, option_map exp_of p.1)

abbrev pub range_of : Expr6 × (Expr6 × Option Expr6) → Exp × (Exp × Option Exp)
range_of p = (exp_of p.0, limit_of p.1)

abbrev pub counting_of : Expr6 × (Expr6 × (Expr6 × Option Expr6)) → Exp × (Exp × (Exp × Option Exp))
counting_of p = (exp_of p.0, range_of p.1)

abbrev pub each_of : (List ℕ × Suffix) × Expr6 → (List ℕ × Suffix) × Exp
each_of p = (p.0, exp_of p.1)

abbrev pub invocation_of : Expr6 × List Arg6 → Exp × List Argument
invocation_of p = (exp_of p.0, map argument_of p.1)

abbrev pub printed_of : List Expr6 × Bool → List Exp × Bool
printed_of p = (map exp_of p.0, p.1)

-- the first that finds a form
abbrev pub first_found : Result Form6 PartFail → Result Form6 PartFail → Result Form6 PartFail
first_found (Ok f) r = Ok f
first_found (Err fail.NotFound) r = r
first_found (Err fail.TooDeep) r = Err fail.TooDeep
first_found (Err fail.Mem) r = Err fail.Mem

-- the line as its tokens, unless memory was wanted
abbrev pub IsKept : List Token → Result Form6 PartFail → Type 0
IsKept ts (Ok f) = form_of f ≡ opaque ts
IsKept ts (Err fail.NotFound) = ⊥
IsKept ts (Err fail.TooDeep) = ⊥
IsKept ts (Err fail.Mem) = Unit {0}

-- the line as its tokens where a part was read
abbrev pub KeptIf : {A : Type 0} → Result A PartFail → List Token → Result Form6 PartFail → Type 0
KeptIf (Ok a) ts r = IsKept ts r
KeptIf (Err e) ts r = r ≡ Err e

abbrev pub list_now : Option (Bool × Bor (List Token)) → Option (Bool × List Token)
list_now found = option_map (λ f. (f.0, f.1.now)) found
