-- Tokens are at most one part of a kind.
use Rattle.std.proofs.Common.{◌≡◌, ℕ, List, [], ◌∷◌, refl, sym, ap, ◌∙◌, subst, Option, Some, None, codes}
use Rattle.vb_tree.specs.declared.expression.BinOp.{BinOp}
use Rattle.vb_tree.specs.declared.token.Token.{Token}
use Rattle.vb_tree.specs.Tree.{Exp, Bounds, TypeName, CaseItem, ReDimItem, named, fixed_string, case_value, case_range, case_is, given}
use Rattle.vb_tree.specs.Expressions.{IsExpression}
use Rattle.vb_exprs.proofs.OneForm.{one_expression}
use Rattle.form_parts.specs.declared.cuts.Separator.TheVariants as sep
use Rattle.form_parts.specs.Arguments.{Argument, IsArgument, argument_name, past_name, past_mark, begins_marked}
use Rattle.form_parts.specs.Cases.{IsCaseItem, IsTest, IsTested}
use Rattle.form_parts.specs.Chains.{IsTarget, IsCallee}
use Rattle.form_parts.specs.Cuts.{pieces, Each}
use Rattle.form_parts.specs.Parts.{IsBounds, IsBoundsFrom, IsTypeName}
use Rattle.form_parts.specs.Redims.{IsReDimItem, IsOptionalType}
use Rattle.form_parts.proofs.Joining.{one_joined, joined_not_whole, to_joint}
use Rattle.form_parts.proofs.Redimming.{one_parted}
use Rattle.form_parts.proofs.Typing.{string_no_name}

pub one_each : {X : Type 0} (P : List Token → X → Type 0) → ((ts : List Token) (x y : X) → P ts x → P ts y → x ≡ y) → (ps : List (List Token)) (xs ys : List X) → Each P ps xs → Each P ps ys → xs ≡ ys
one_each P one [] [] [] h k = refl
one_each P one [] [] (y ∷ ys) h k = absurd k
one_each P one [] (x ∷ xs) ys h k = absurd h
one_each P one (p ∷ ps) [] ys h k = absurd h
one_each P one (p ∷ ps) (x ∷ xs) [] h k = absurd k
one_each P one (p ∷ ps) (x ∷ xs) (y ∷ ys) h k =
    let e = one p x y h.0 k.0 in
    let f = one_each P one ps xs ys h.1 k.1 in
    λ i. e i ∷ f i

pub one_target : (ts : List Token) (x y : Exp) → IsTarget ts x → IsTarget ts y → x ≡ y
one_target ts x y h k = one_expression ts x y h.0 k.0

pub one_callee : (ts : List Token) (x y : Exp) → IsCallee ts x → IsCallee ts y → x ≡ y
one_callee ts x y h k = one_expression ts x y h.0 k.0

-- two expressions that stand in the same tokens
pub one_pair : (a b c d : List Token) (x y u v : Exp) → (a ≡ c) × (b ≡ d) → IsExpression a x → IsExpression b y → IsExpression c u → IsExpression d v → (x ≡ u) × (y ≡ v)
one_pair a b c d x y u v same h k m n =
    (one_expression c x u (subst (λ z. IsExpression z x) same.0 h) m, one_expression d y v (subst (λ z. IsExpression z y) same.1 k) n)

bounds_from : (ts : List Token) (l : Option Exp) (u : Exp) (m : Option Exp) (v : Exp) → IsBoundsFrom ts l u → IsBoundsFrom ts m v → (l ≡ m) × (u ≡ v)
bounds_from ts None u None v h k = (refl, one_expression ts u v h k)
bounds_from ts None u (Some m) v h k = absurd (joined_not_whole (codes "to") ts k.0 k.1 to_joint k.2 u h)
bounds_from ts (Some l) u None v h k = absurd (joined_not_whole (codes "to") ts h.0 h.1 to_joint h.2 v k)
bounds_from ts (Some l) u (Some m) v h k =
    let same = one_joined (codes "to") ts h.0 h.1 k.0 k.1 to_joint h.2 k.2 in
    let e = one_pair h.0 h.1 k.0 k.1 l u m v same h.3 h.4 k.3 k.4 in
    (ap Some e.0, e.1)

pub one_bounds : (ts : List Token) (x y : Bounds) → IsBounds ts x → IsBounds ts y → x ≡ y
one_bounds ts x y h k =
    let e = bounds_from ts x.lower x.upper y.lower y.upper h k in
    λ i. record { lower = e.0 i; upper = e.1 i }

pub one_type : (ts : List Token) (x y : TypeName) → IsTypeName ts x → IsTypeName ts y → x ≡ y
one_type ts (named n) (named m) h k = let e : ◌≡◌ {A = Option (List ℕ)} (Some n) (Some m) = sym h ∙ k in let f : n ≡ m = cc in ap named f
one_type ts (named n) (fixed_string u) h k = absurd (cc (h, string_no_name ts k.0 k.1))
one_type ts (fixed_string u) (named m) h k = absurd (cc (k, string_no_name ts h.0 h.1))
one_type ts (fixed_string u) (fixed_string v) h k =
    let same : h.0 ≡ k.0 = cc (sym h.1.split ∙ k.1.split) in
    ap fixed_string (one_expression k.0 u v (subst (λ z. IsExpression z u) same h.2) k.2)

pub one_argument : (ts : List Token) (x y : Argument) → IsArgument ts x → IsArgument ts y → x ≡ y
one_argument [] x y h k = h ∙ sym k
one_argument (t ∷ ts) x y h k =
    let e = one_expression (past_mark (past_name (t ∷ ts))) h.0 k.0 h.1 k.1 in
    h.2 ∙ ap (λ v. let a : Argument = record { name = argument_name (t ∷ ts); marked = begins_marked (past_name (t ∷ ts)); value = given v } in a) e ∙ sym k.2

tested : (ts : List Token) (o p : BinOp) (x y : Exp) → IsTested ts o x → IsTested ts p y → (o ≡ p) × (x ≡ y)
tested [] o p x y h k = absurd h
tested (t ∷ ts) o p x y h k = let e : ◌≡◌ {A = Option BinOp} (Some o) (Some p) = sym h.0 ∙ k.0 in let f : o ≡ p = cc in (f, one_expression ts x y h.1 k.1)

test_once : (ts : List Token) (o p : BinOp) (x y : Exp) → IsTest ts o x → IsTest ts p y → (o ≡ p) × (x ≡ y)
test_once [] o p x y h k = absurd h
test_once (t ∷ ts) o p x y h k = tested ts o p x y h k

pub one_case : (ts : List Token) (x y : CaseItem) → IsCaseItem ts x → IsCaseItem ts y → x ≡ y
one_case ts (case_value x) (case_value y) h k = ap case_value (one_expression ts x y h.1 k.1)
one_case ts (case_value x) (case_range y z) h k = absurd (joined_not_whole (codes "to") ts k.1 k.2 to_joint k.3 x h.1)
one_case ts (case_value x) (case_is o y) h k = absurd (cc (h.0, k.0))
one_case ts (case_range x w) (case_value y) h k = absurd (joined_not_whole (codes "to") ts h.1 h.2 to_joint h.3 y k.1)
one_case ts (case_range x w) (case_range y z) h k =
    let same = one_joined (codes "to") ts h.1 h.2 k.1 k.2 to_joint h.3 k.3 in
    let e = one_pair h.1 h.2 k.1 k.2 x w y z same h.4 h.5 k.4 k.5 in
    λ i. case_range (e.0 i) (e.1 i)
one_case ts (case_range x w) (case_is o y) h k = absurd (cc (h.0, k.0))
one_case ts (case_is o x) (case_value y) h k = absurd (cc (h.0, k.0))
one_case ts (case_is o x) (case_range y z) h k = absurd (cc (h.0, k.0))
one_case ts (case_is o x) (case_is p y) h k =
    let e = test_once ts o p x y h.1 k.1 in
    λ i. case_is (e.0 i) (e.1 i)

optional_type : (ts : List Token) (x y : Option TypeName) → IsOptionalType ts x → IsOptionalType ts y → x ≡ y
optional_type [] x y h k = h ∙ sym k
optional_type (t ∷ ts) None y h k = absurd h
optional_type (t ∷ ts) (Some x) None h k = absurd k
optional_type (t ∷ ts) (Some x) (Some y) h k = ap Some (one_type ts x y h.1 k.1)

pub one_redim : (ts : List Token) (x y : ReDimItem) → IsReDimItem ts x → IsReDimItem ts y → x ≡ y
one_redim ts x y h k =
    let same = one_parted ts h.0 h.1 h.2 k.0 k.1 k.2 h.3 k.3 in
    let a = one_callee k.0 x.array y.array (subst (λ z. IsCallee z x.array) same.0 h.4) k.4 in
    let b = one_each IsBounds one_bounds (pieces sep.Comma k.1) x.bounds y.bounds (subst (λ z. Each IsBounds (pieces sep.Comma z) x.bounds) same.1 h.5) k.5 in
    let c = optional_type k.2 x.ty y.ty (subst (λ z. IsOptionalType z x.ty) same.2 h.6) k.6 in
    λ i. record { array = a i; bounds = b i; ty = c i }
