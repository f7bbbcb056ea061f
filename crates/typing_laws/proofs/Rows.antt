-- What operators and conversions give on scalars of covered types: a value of the type that the row has, an error, or nothing at an edge.
use Rattle.std.proofs.Common.{◌≡◌, refl, sym, ap, ◌∙◌, subst, true, false, ◌||◌, cond, nat_eq, true≢false, Option, Some, None}
use Rattle.std.specs.Prelude.{is_some}
use Rattle.up_base.proofs.Tests.{both_true}
use Rattle.vb_tree.specs.BoundTree.{Ty, variant}
use Rattle.vb_tree.specs.declared.bound.Op6.TheVariants as op6
use Rattle.vb_tree.specs.declared.expression.BinOp.{BinOp}
use Rattle.vb_tree.specs.declared.expression.BinOp.TheVariants as bin
use Rattle.vb_tree.specs.declared.expression.UnOp.{UnOp}
use Rattle.vb_tree.specs.declared.expression.UnOp.TheVariants as un
use Rattle.vb_tree.specs.declared.value.Value6.{Value6}
use Rattle.vb6_meaning.specs.Answers.{Answer, gives, raises, outside}
use Rattle.vb6_meaning.specs.Values.{coerce, operate}
use Rattle.bound_facts.specs.Folded.{binary_row, unary_row}
use Rattle.bound_facts.specs.Locks.{is_same_type}
use Rattle.bound_facts.specs.Node.{is_variant}
use Rattle.net_meaning.specs.declared.value.ValueN.{ValueN}
use Rattle.net_meaning.specs.SameValues.{IsSame, IsSameOperator, IsSameUnary, IsGiven}
use Rattle.net_meaning.specs.WrittenRows.{Row, Written, write_operator, write_unary, write_conversion}
use Rattle.meaning_laws.proofs.SameRows as same
use Rattle.meaning_laws.proofs.ConversionRows.{minus, turn, conversion}
use Rattle.row_laws.specs.Rows.{is_direct, is_ready}
use Rattle.run_matches.specs.CoveredVariables.{covers_type}
use Rattle.run_matches.specs.CoveredExprs.{covers_operator}
use Rattle.run_matches.specs.Formed.{is_row_of_one, is_row_of_two}
use Rattle.typing_laws.specs.Edges.{IsEdge}
use Rattle.typing_laws.proofs.Plain.{Plain, HasMatch, has_match, of_match, same_as, is_no_variant}
use Rattle.typing_laws.proofs.Edges.{edge_of, unary_out, conversion_out}

-- ---- the laws on values

-- each operator but Is
same_operator : (o : BinOp) → covers_operator o ≡ true → IsSameOperator nat_eq o
same_operator bin.Pow e = same.pow nat_eq
same_operator bin.Mul e = same.multiply nat_eq
same_operator bin.Div e = same.div nat_eq
same_operator bin.IntDiv e = same.divide nat_eq
same_operator bin.Mod e = same.modulo nat_eq
same_operator bin.Add e = same.add nat_eq
same_operator bin.Sub e = same.subtract nat_eq
same_operator bin.Concat e = same.concatenate nat_eq
same_operator bin.Equal e = same.equal nat_eq
same_operator bin.NotEqual e = same.not_equal nat_eq
same_operator bin.Less e = same.less nat_eq
same_operator bin.Greater e = same.greater nat_eq
same_operator bin.LessEqual e = same.less_equal nat_eq
same_operator bin.GreaterEqual e = same.greater_equal nat_eq
same_operator bin.Is e = absurd (true≢false (sym e))
same_operator bin.Like e = same.like nat_eq
same_operator bin.And e = same.both nat_eq
same_operator bin.Or e = same.either nat_eq
same_operator bin.Xor e = same.one_alone nat_eq
same_operator bin.Eqv e = same.alike nat_eq
same_operator bin.Imp e = same.implies nat_eq

same_unary : (o : UnOp) → IsSameUnary nat_eq o
same_unary un.Neg = minus nat_eq
same_unary un.Not = turn nat_eq

-- ---- answers

-- a value of a type, or an error; what is outside has a cause
abbrev pub IsAnswer : Ty → Type 0 → Answer Value6 → Type 0
IsAnswer ty E (gives x) = Plain ty x
IsAnswer ty E (raises number) = Unit {0}
IsAnswer ty E outside = E

-- a row of a type
abbrev RowOf : Ty → Option Written → Type 0
RowOf ty o = (q : Written) × (o ≡ Some q) × (q.ty ≡ ty)

row_of_one : (ty : Ty) (o : Option Written) → covers_type ty ≡ true → is_row_of_one ty o ≡ true → RowOf ty o
row_of_one ty None c h = absurd (true≢false (sym h))
row_of_one ty (Some q) c h = (q, refl, same_as q.ty ty c (both_true (is_same_type q.ty ty) (is_direct q.row) h).0)

row_of_two : (op : BinOp) (ty : Ty) (o : Option Written) → covers_type ty ≡ true → is_row_of_two op ty o ≡ true → RowOf ty o
row_of_two op ty None c h = absurd (true≢false (sym h))
row_of_two op ty (Some q) c h = (q, refl, same_as q.ty ty c (both_true (is_same_type q.ty ty) (is_ready op q) h).0)

of_some : (ty : Ty) (E : Type 0) (a : Answer Value6) (q : Written) (x y : ValueN) → covers_type ty ≡ true → q.ty ≡ ty → IsSame nat_eq a (Some q) x y
    → (a ≡ outside → E) → IsAnswer ty E a
of_some ty E (gives z) q x y c is h out = subst (λ t. Plain t z) is (of_match q.ty z h.0 (subst (λ t. covers_type t ≡ true) (sym is) c) h.2)
of_some ty E (raises n) q x y c is h out = tt
of_some ty E outside q x y c is h out = out refl

of_same : (ty : Ty) (E : Type 0) (a : Answer Value6) (o : Option Written) (x y : ValueN) → covers_type ty ≡ true → RowOf ty o → IsSame nat_eq a o x y
    → (is_some o ≡ true → a ≡ outside → E) → IsAnswer ty E a
of_same ty E a o x y c r h out =
    of_some ty E a r.0 x y c r.2 (subst (λ p. IsSame nat_eq a p x y) r.1 h) (λ e. out (ap is_some r.1) e)

pub binary_answer : (op : BinOp) (ty s t : Ty) (x y : Value6) → covers_type ty ≡ true → covers_type s ≡ true → covers_type t ≡ true
    → covers_operator op ≡ true → is_row_of_two op ty (write_operator op s t) ≡ true → Plain s x → Plain t y
    → IsAnswer ty (IsEdge op x y) (operate (op6.Typed op) x y)
binary_answer op ty s t x y c first second covers formed p q =
    let a : HasMatch s x = has_match s x p in
    let b : HasMatch t y = has_match t y q in
    of_same ty (IsEdge op x y) (operate (op6.Typed op) x y) (write_operator op s t) a.0 b.0 c (row_of_two op ty (write_operator op s t) c formed)
    (same_operator op covers s t x y a.0 b.0 (is_no_variant s first) (is_no_variant t second) a.1 b.1)
    (λ some out. edge_of op s t x y covers p q some out)

pub unary_answer : (op : UnOp) (ty s : Ty) (x : Value6) → covers_type ty ≡ true → covers_type s ≡ true → is_row_of_one ty (write_unary op s) ≡ true
    → Plain s x → IsAnswer ty ⊥ (operate (op6.TypedUn op) x x)
unary_answer op ty s x c first formed p =
    let a : HasMatch s x = has_match s x p in
    of_same ty ⊥ (operate (op6.TypedUn op) x x) (write_unary op s) a.0 a.0 c (row_of_one ty (write_unary op s) c formed)
    (same_unary op s x x a.0 a.0 (is_no_variant s first) a.1) (λ some out. unary_out op s x p some out)

of_given : (ty : Ty) (a : Answer Value6) (o : Option Row) (x y : ValueN) → covers_type ty ≡ true → is_some o ≡ true → IsGiven nat_eq ty a o x y
    → (a ≡ outside → ⊥) → IsAnswer ty ⊥ a
of_given ty a None x y c some h out = absurd (true≢false (sym some))
of_given ty (gives z) (Some r) x y c some h out = of_match ty z h.0 c h.2
of_given ty (raises n) (Some r) x y c some h out = tt
of_given ty outside (Some r) x y c some h out = out refl

pub conversion_answer : (s t : Ty) (x : Value6) → covers_type s ≡ true → covers_type t ≡ true → is_some (write_conversion s t) ≡ true → Plain s x
    → IsAnswer t ⊥ (coerce x t)
conversion_answer s t x first c some p =
    let a : HasMatch s x = has_match s x p in
    of_given t (coerce x t) (write_conversion s t) a.0 a.0 c some (conversion nat_eq t s x a.0 a.0 (is_no_variant s first) a.1)
    (λ out. conversion_out s t x c p some out)

-- ---- the rows of operators on covered types

no_variant : (s : Ty) → covers_type s ≡ true → is_variant s ≡ false
no_variant variant h = absurd (true≢false (sym h))
no_variant _ h = refl

pub typed_unary : (s : Ty) (o : UnOp) → covers_type s ≡ true → unary_row s o ≡ op6.TypedUn o
typed_unary s o h = ap (λ z. cond z (op6.VariantUn o) (op6.TypedUn o)) (no_variant s h)

pub typed_binary : (s t : Ty) (o : BinOp) → covers_type s ≡ true → covers_type t ≡ true → binary_row s t o ≡ op6.Typed o
typed_binary s t o h i =
    ap (λ z. cond (z || is_variant t) (op6.Variant o) (op6.Typed o)) (no_variant s h)
    ∙ ap (λ z. cond z (op6.Variant o) (op6.Typed o)) (no_variant t i)
