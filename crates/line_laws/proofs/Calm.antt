-- A calm expression has its value whatever else is evaluated before it, where nothing that was there has changed.
use Rattle.std.proofs.Common.{◌≡◌, ◌∙◌, refl, sym, ap, subst, ℕ, ℤ, pos, Bool, true, cond, ◌&&◌, [], true≢false, false, not}
use Rattle.std.specs.Prelude.{is_some}
use Rattle.vb_tree.specs.BoundTree as types
use Rattle.vb_tree.specs.BoundTree.{Ty}
use Rattle.vb_tree.specs.declared.value.Value6.{Value6}
use Rattle.bound_tree.specs.declared.expression.Origin.{Origin}
use Rattle.vb_tree.specs.declared.value.Value6.TheVariants as v
use Rattle.bound_tree.specs.Tree.{Expr, typed, constant, variable, convert}
use Rattle.bound_facts.proofs.Chains.{both_true}
use Rattle.bound_facts.specs.Locks.{is_same_type}
use Rattle.bound_facts.specs.Node.{type_at}
use Rattle.bound_facts.specs.Nodes.{nodes}
use Rattle.vb6_meaning.specs.Answers as answer
use Rattle.vb6_meaning.specs.Answers.{Answer}
use Rattle.vb6_meaning.specs.declared.number.NumberKind.TheVariants as kinds
use Rattle.vb6_meaning.specs.Kinds.{fits}
use Rattle.vb6_meaning.specs.Numbers.{of_kind}
use Rattle.vb6_meaning.specs.Values.{coerce}
use Rattle.net_meaning.specs.declared.value.ValueN.{ValueN}
use Rattle.net_meaning.specs.declared.value.ValueN.TheVariants as n
use Rattle.net_meaning.specs.ValueMatch.{Matches, booleans, bytes, integers, longs, currencies, texts, empty_text}
use Rattle.net_meaning.specs.WrittenLiterals.{type_of_constant, is_within}
use Rattle.net_meaning.specs.WrittenRows.{write_conversion}
use Rattle.meaning_laws.proofs.Operands.{byte_operand, integer_operand, long_operand, widened}
use Rattle.run_base.specs.Outcomes.{Outcome, gives, raises, spent, outside, after, then}
use Rattle.row_laws.specs.Constants.{is_literal}
use Rattle.row_laws.proofs.Composing.{then_assoc}
use Rattle.vb6_run.specs.Expressions as source
use Rattle.vb6_run.specs.Expressions.{answer_as, at_address, declared, long_in, scalar_in, scalar_of, type_shape, value_in, whole_number}
use Rattle.vb6_run.specs.Shapes.{simple, user_shapes}
use Rattle.vb6_run.specs.Store.{Address, Memory, provided, read}
use Rattle.vb6_run.specs.Store as source_store
use Rattle.vb6_run.specs.Values.{Value, scalar, fields, elements, is_of_shape, is_typed}
use Rattle.net_run.specs.Store as net_store
use Rattle.net_run.specs.Values as net_value
use Rattle.run_matches.specs.Agreeing.{Agrees, world_of}
use Rattle.run_matches.specs.CoveredVariables.{covers_type}
use Rattle.run_matches.specs.CoveredExprs.{Uses, are_still, converts_constant, covers_expr, gives_typed, is_calm, is_literal_value, widens}
use Rattle.run_matches.specs.Formed.{is_formed}
use Rattle.run_matches.specs.Likeness.{LikeV, like_scalar}
use Rattle.run_matches.specs.Maps.{World}
use Rattle.run_matches.specs.Pledges.{Pledge}
use Rattle.run_matches.specs.Upgrades.{Upgrade}
use Rattle.run_statements.specs.Frames.{ScalarMatch}
use Rattle.line_laws.proofs.Stores.{same_type}
use Rattle.line_laws.proofs.Uses.{simple_type}
use Rattle.vb_tree.specs.declared.declared.VarId.{VarId}

-- ---- scalars of a type

-- a scalar that something stands for at the type
abbrev pub IsFit : Ty → Value6 → Type 0
IsFit ty z = (same : ℕ → ℕ → Bool) × (y : ValueN) × Matches same ty z y

pub fit_of_like : (U : Upgrade) (w : World) (ty : Ty) (z : Value6) (y : net_value.Value) → LikeV U w (scalar ty z) y → IsFit ty z
fit_of_like U w _ _ _ (like_scalar ty z y m) = (_, y, m)

abbrev pub scalar_part : Value → Value6 → Value6
scalar_part (scalar ty x) z = x
scalar_part (fields t xs) z = z
scalar_part (elements e dims xs) z = z

-- what the source gives has one
pub fit_of : (U : Upgrade) (K : Pledge) (w : World) (ty : Ty) (z : Value6) (s : Memory) (r : Outcome net_store.Memory net_value.Value)
    → Agrees U K w (ScalarMatch U ty) (gives [] (scalar ty z) s) r → IsFit ty z
fit_of U K w ty z s (gives q b t) h = subst (λ x. IsFit ty x) (sym (ap (λ x. scalar_part x z) h.2.1)) (fit_of_like U (world_of h.1 s t) ty h.2.0 b h.2.2)
fit_of U K w ty z s (raises q e t) h = absurd h
fit_of U K w ty z s (spent q t) h = absurd h
fit_of U K w ty z s (outside q) h = absurd h

pub shaped : (same : ℕ → ℕ → Bool) (ty : Ty) (z : Value6) (y : ValueN) → covers_type ty ≡ true → Matches same ty z y → is_of_shape (simple ty) (scalar ty z) ≡ true
shaped same _ _ _ c (booleans b) = refl
shaped same _ _ _ c (bytes m e) = refl
shaped same _ _ _ c (integers z e) = refl
shaped same _ _ _ c (longs z e) = refl
shaped same _ _ _ c (currencies z m s e d) = refl
shaped same _ _ _ c (texts units) = refl
shaped same _ _ _ c empty_text = refl
shaped same _ _ _ c _ = absurd (true≢false (sym c))

pub same_self : (ty : Ty) → covers_type ty ≡ true → is_same_type ty ty ≡ true
same_self types.boolean c = refl
same_self types.byte c = refl
same_self types.integer c = refl
same_self types.long c = refl
same_self types.currency c = refl
same_self types.str c = refl
same_self _ c = absurd (true≢false (sym c))

pub fit_typed : (ty : Ty) (z : Value6) → covers_type ty ≡ true → IsFit ty z → is_typed ty z ≡ true
fit_typed ty z c fit = (both_true (is_same_type ty ty) (is_typed ty z) (shaped fit.0 ty z fit.1 c fit.2)).1

typed_shape : (ty : Ty) (z : Value6) → covers_type ty ≡ true → is_typed ty z ≡ true → is_of_shape (simple ty) (scalar ty z) ≡ true
typed_shape ty z c t = ap (λ b. b && is_typed ty z) (same_self ty c) ∙ t

constant_shaped : (x : Value6) (ty : Ty) → covers_type ty ≡ true → is_same_type (type_of_constant x) ty ≡ true → is_typed ty x ≡ true
constant_shaped (v.Boolean b) ty c h = subst (λ t. is_typed t (v.Boolean b) ≡ true) (sym (same_type types.boolean ty refl h)) refl
constant_shaped (v.Byte m) ty c h = subst (λ t. is_typed t (v.Byte m) ≡ true) (sym (same_type types.byte ty refl h)) refl
constant_shaped (v.Int z) ty c h = subst (λ t. is_typed t (v.Int z) ≡ true) (sym (same_type types.integer ty refl h)) refl
constant_shaped (v.Long z) ty c h = subst (λ t. is_typed t (v.Long z) ≡ true) (sym (same_type types.long ty refl h)) refl
constant_shaped (v.Cur z) ty c h = subst (λ t. is_typed t (v.Cur z) ≡ true) (sym (same_type types.currency ty refl h)) refl
constant_shaped (v.Str units) ty c h = subst (λ t. is_typed t (v.Str units) ≡ true) (sym (same_type types.str ty refl h)) refl
constant_shaped v.Nothing types.nothing c h = absurd (true≢false (sym c))
constant_shaped v.Nothing _ c h = absurd (true≢false (sym h))
constant_shaped (v.Object o) types.object c h = absurd (true≢false (sym c))
constant_shaped (v.Object o) _ c h = absurd (true≢false (sym h))
constant_shaped v.Empty types.variant c h = absurd (true≢false (sym c))
constant_shaped v.Empty _ c h = absurd (true≢false (sym h))

-- ---- conversions to wider types

pub record Widened (x : Value6) (to : Ty) : Type 0 where
  pub value : Value6
  pub is : coerce x to ≡ answer.gives value
  pub typed : is_typed to value ≡ true

from_boolean : (to : Ty) (b : Bool) → widens types.boolean to ≡ true → Widened (v.Boolean b) to
from_boolean types.byte b h = record { value = _; is = refl; typed = refl }
from_boolean types.integer b h = record { value = _; is = refl; typed = refl }
from_boolean types.long b h = record { value = _; is = refl; typed = refl }
from_boolean types.currency b h = record { value = _; is = refl; typed = refl }
from_boolean _ b h = absurd (true≢false (sym h))

if_fits : (b : Bool) (x : Value6) → b ≡ true → cond b (answer.gives x) (answer.raises 6) ≡ answer.gives x
if_fits b x e = ap (λ c. cond c (answer.gives x) (answer.raises 6)) e

from_byte : (to : Ty) (m : ℕ) → fits kinds.Byte (pos m) ≡ true → widens types.byte to ≡ true → Widened (v.Byte m) to
from_byte types.integer m e h =
    record { value = _; is = if_fits _ _ (widened kinds.Integer types.byte (of_kind kinds.Byte (pos m)) (n.Byte m) (byte_operand m e) refl); typed = refl }
from_byte types.long m e h =
    record { value = _; is = if_fits _ _ (widened kinds.Long types.byte (of_kind kinds.Byte (pos m)) (n.Byte m) (byte_operand m e) refl); typed = refl }
from_byte types.currency m e h =
    record { value = _; is = if_fits _ _ (widened kinds.Currency types.byte (of_kind kinds.Byte (pos m)) (n.Byte m) (byte_operand m e) refl); typed = refl }
from_byte _ m e h = absurd (true≢false (sym h))

from_integer : (to : Ty) (z : ℤ) → fits kinds.Integer z ≡ true → widens types.integer to ≡ true → Widened (v.Int z) to
from_integer types.long z e h =
    record { value = _; is = if_fits _ _ (widened kinds.Long types.integer (of_kind kinds.Integer z) (n.Short z) (integer_operand z e) refl); typed = refl }
from_integer types.currency z e h =
    record { value = _; is = if_fits _ _ (widened kinds.Currency types.integer (of_kind kinds.Integer z) (n.Short z) (integer_operand z e) refl); typed = refl }
from_integer _ z e h = absurd (true≢false (sym h))

from_long : (to : Ty) (z : ℤ) → fits kinds.Long z ≡ true → widens types.long to ≡ true → Widened (v.Long z) to
from_long types.currency z e h =
    record { value = _; is = if_fits _ _ (widened kinds.Currency types.long (of_kind kinds.Long z) (n.Integer z) (long_operand z e) refl); typed = refl }
from_long _ z e h = absurd (true≢false (sym h))

pub widened_value : (same : ℕ → ℕ → Bool) (s to : Ty) (x : Value6) (y : ValueN) → widens s to ≡ true → Matches same s x y → Widened x to
widened_value same _ to _ _ h (booleans b) = from_boolean to b h
widened_value same _ to _ _ h (bytes m e) = from_byte to m e h
widened_value same _ to _ _ h (integers z e) = from_integer to z e h
widened_value same _ to _ _ h (longs z e) = from_long to z e h
widened_value same _ to _ _ h _ = absurd (true≢false (sym h))

-- ---- values in the source

module _ (C : source.Context) where
  abbrev check : Expr → Value → Memory → Outcome Memory Value
  check e x w = provided (is_of_shape (type_shape (declared C) (type_at e)) x) (λ w. gives [] x w) w

  scalar_shape : (ty : Ty) → covers_type ty ≡ true → type_shape (declared C) ty ≡ simple ty
  scalar_shape ty c = simple_type (user_shapes (declared C)) [] ty c

  -- what stands at an address is the value
  pub typed_read : (e : Expr) (a : Address) (s : Memory) (z : Value6) → type_shape (declared C) (type_at e) ≡ simple (type_at e)
      → is_of_shape (simple (type_at e)) (scalar (type_at e) z) ≡ true
      → read a s ≡ gives [] (scalar (type_at e) z) s → value_in C e (at_address a) s ≡ gives [] (scalar (type_at e) z) s
  typed_read e a s z of shaped is =
      ap (λ r. then (after [] r) (check e)) is
      ∙ ap (λ d. after [] (provided (is_of_shape d (scalar (type_at e) z)) (λ w. gives [] (scalar (type_at e) z) w) s)) of
      ∙ ap (λ b. after [] (provided b (λ w. gives [] (scalar (type_at e) z) w) s)) shaped

  pub value_read : (e : Expr) (a : Address) (s : Memory) (z : Value6) → covers_type (type_at e) ≡ true → is_typed (type_at e) z ≡ true
      → read a s ≡ gives [] (scalar (type_at e) z) s → value_in C e (at_address a) s ≡ gives [] (scalar (type_at e) z) s
  value_read e a s z c t is = typed_read e a s z (scalar_shape (type_at e) c) (typed_shape (type_at e) z c t) is

  -- the value of an expression is known
  abbrev pub Gives : Expr → Value6 → Memory → Type 0
  Gives e z s = source.value_of C e s ≡ gives [] (scalar (type_at e) z) s

  as_scalar : (e : Expr) (z : Value6) (s : Memory) → Gives e z s → then (source.parts_of C e s) (scalar_in C e) ≡ gives [] z s
  as_scalar e z s is = sym (then_assoc (source.parts_of C e s) (value_in C e) scalar_of) ∙ ap (λ r. then r scalar_of) is

  pub as_long : (e : Expr) (z : ℤ) (s : Memory) → Gives e (v.Long z) s → then (source.parts_of C e s) (long_in C e) ≡ gives [] z s
  as_long e z s is =
      sym (then_assoc (source.parts_of C e s) (scalar_in C e) whole_number) ∙ ap (λ r. then r whole_number) (as_scalar e (v.Long z) s is)

  pub constant_gives : (ty : Ty) (x : Value6) (o : Origin) (s : Memory) → covers_type ty ≡ true → is_typed ty x ≡ true → Gives (typed ty (constant x o)) x s
  constant_gives ty x o s c t = ap (after []) (value_read (typed ty (constant x o)) (source_store.constant (scalar ty x)) s x c t refl)

  -- a conversion that has a value
  pub typed_converted : (ty : Ty) (e : Expr) (z x : Value6) (s : Memory) → type_shape (declared C) ty ≡ simple ty
      → is_of_shape (simple ty) (scalar ty x) ≡ true → Gives e z s → coerce z ty ≡ answer.gives x → Gives (typed ty (convert ty e)) x s
  typed_converted ty e z x s of shaped is made =
      ap (λ r. then (then (then r (λ x w. answer_as ty (coerce x ty) w)) (source.as_new C (convert ty e))) (value_in C (typed ty (convert ty e)))) (as_scalar e z s is)
      ∙ ap (λ a. then (then (after [] (answer_as ty a s)) (source.as_new C (convert ty e))) (value_in C (typed ty (convert ty e)))) made
      ∙ ap (after []) (typed_read (typed ty (convert ty e)) (source_store.constant (scalar ty x)) s x of shaped refl)

  pub converted_gives : (ty : Ty) (e : Expr) (z x : Value6) (s : Memory) → covers_type ty ≡ true → Gives e z s → coerce z ty ≡ answer.gives x → is_typed ty x ≡ true
      → Gives (typed ty (convert ty e)) x s
  converted_gives ty e z x s c is made t = typed_converted ty e z x s (scalar_shape ty c) (typed_shape ty x c t) is made

-- ---- constants

-- it gives the value in each memory
pub record IsConstant (C : source.Context) (e : Expr) : Type 0 where
  pub value : Value6
  pub gives : (s : Memory) → Gives C e value s

given_by : (ty : Ty) (a : Answer Value6) → gives_typed ty a ≡ true → (x : Value6) × (a ≡ answer.gives x) × (is_typed ty x ≡ true)
given_by ty (answer.gives x) h = (x, refl, h)
given_by ty (answer.raises e) h = absurd (true≢false (sym h))
given_by ty answer.outside h = absurd (true≢false (sym h))

pub formed_constant : (ty : Ty) (x : Value6) (o : Origin) → covers_type ty ≡ true → is_formed (typed ty (constant x o)) ≡ true → is_typed ty x ≡ true
formed_constant ty x o c formed = constant_shaped x ty c (both_true (is_same_type (type_of_constant x) ty) (is_within x && is_literal x) formed).0

pub literal_is_constant : (C : source.Context) (uses : Uses) (e : Expr) → is_literal_value e ≡ true → covers_expr uses e ≡ true → is_formed e ≡ true → IsConstant C e
literal_is_constant C uses (typed ty (constant x o)) l covers formed =
    let c = (both_true (covers_type ty) true covers).0 in
    record { value = x; gives = λ s. constant_gives C ty x o s c (formed_constant ty x o c formed) }
literal_is_constant C uses (typed ty (convert to e)) l covers formed =
    let both = both_true (is_same_type to ty) (converts_constant to e) l in
    let c = both_true (covers_type ty) (covers_type to && covers_expr uses e) covers in
    let d = both_true (covers_type to) (covers_expr uses e) c.1 in
    let same : ty ≡ to = same_type to ty d.0 both.0 in
    subst (λ t. IsConstant C (typed t (convert to e))) (sym same) (of_constant to e d.0 both.1 d.1 (both_true (is_some (write_conversion (type_at e) to)) (is_formed e) formed).1)
  where
    of_constant : (to : Ty) (e : Expr) → covers_type to ≡ true → converts_constant to e ≡ true → covers_expr uses e ≡ true → is_formed e ≡ true
        → IsConstant C (typed to (convert to e))
    of_constant to (typed s (constant x o)) c h covers formed =
        let d = (both_true (covers_type s) true covers).0 in
        let y = given_by to (coerce x to) h in
        record {
          value = y.0;
          gives = λ w. converted_gives C to (typed s (constant x o)) x y.0 w c (constant_gives C s x o w d (formed_constant s x o d formed)) y.1 y.2;
        }
    of_constant to (typed s _) c h covers formed = absurd (true≢false (sym h))
literal_is_constant C uses (typed ty _) l covers formed = absurd (true≢false (sym l))

-- ---- neither calls anything

pub literal_still : (uses : Uses) (e : Expr) → is_literal_value e ≡ true → are_still uses (nodes e) ≡ true
literal_still uses (typed ty (constant x o)) h = refl
literal_still uses (typed ty (convert to e)) h = of_constant e (both_true (is_same_type to ty) (converts_constant to e) h).1
  where
    of_constant : (e : Expr) → converts_constant to e ≡ true → are_still uses (nodes e) ≡ true
    of_constant (typed s (constant x o)) h = refl
    of_constant (typed s _) h = absurd (true≢false (sym h))
literal_still uses (typed ty _) h = absurd (true≢false (sym h))

pub calm_still : (uses : Uses) → ((v : VarId) (ty : Ty) → uses.scalar v ≡ true → uses.auto v ty ≡ false) → (e : Expr) → is_calm uses e ≡ true
    → are_still uses (nodes e) ≡ true
calm_still uses plain (typed ty (constant x o)) h = refl
calm_still uses plain (typed ty (variable v qualified)) h =
    let used = (both_true (uses.scalar v && uses.named v qualified) (uses.exact v && (uses.is_of v ty && uses.relied v)) h).0 in
    ap (λ b. (not b && true) && true) (plain v ty (both_true (uses.scalar v) (uses.named v qualified) used).0)
calm_still uses plain (typed ty (convert to e)) h =
    let both = both_true (is_same_type to ty) (widens (type_at e) to && is_calm uses e) h in
    calm_still uses plain e (both_true (widens (type_at e) to) (is_calm uses e) both.1).1
calm_still uses plain (typed ty _) h = absurd (true≢false (sym h))
