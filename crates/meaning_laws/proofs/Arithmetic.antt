-- Sums, differences, products and minus.
use Rattle.std.proofs.Common.{◌≡◌, ℕ, ◌^◌, ◌≤◌, lit≤, arith, unsigned_abs, refl, sym, ◌∙◌, ap, ap₂, subst, Bool, true, false, Some, ℤ, pos, negsuc, neg_ℤ, ◌+ℤ◌, ◌-ℤ◌, ◌*ℤ◌}
use Rattle.std.specs.Prelude.{nat_le}
use Rattle.std.proofs.lemmas.Bool.Decides.{nat_tests}
use Rattle.vb_tree.specs.BoundTree.{Ty}
use Rattle.vb6_meaning.specs.Answers.{then_answer}
use Rattle.vb6_meaning.specs.declared.number.Number.{Number}
use Rattle.vb6_meaning.specs.declared.number.NumberKind.{NumberKind}
use Rattle.vb6_meaning.specs.declared.number.NumberKind.TheVariants as kinds
use Rattle.vb6_meaning.specs.Kinds as limits
use Rattle.vb6_meaning.specs.Kinds.{fits, is_byte, rank, wider, checked_value, ones}
use Rattle.vb6_meaning.specs.Numbers.{amount_in}
use Rattle.vb6_meaning.specs.Values as six
use Rattle.net_tree.specs.declared.expression.NetBin.{NetBin}
use Rattle.net_tree.specs.declared.expression.NetBin.TheVariants as op
use Rattle.net_tree.specs.declared.expression.OpN.TheVariants.{Bin}
use Rattle.net_meaning.specs.declared.value.ValueN.{ValueN}
use Rattle.net_meaning.specs.declared.value.ValueN.TheVariants as n
use Rattle.net_meaning.specs.Operators.{operate_net}
use Rattle.net_meaning.specs.ValueMatch.{Matches, integers}
use Rattle.net_meaning.specs.WrittenRows.{evaluate, both_as, checked, arithmetic, product, negated, type_of_kind}
use Rattle.net_meaning.specs.SameValues.{Agrees, IsSame}
use Rattle.meaning_laws.proofs.NetNumbers.{NetNumber, byte_number, short_number, integer_number, decimal_number, byte_checked, short_checked, integer_checked, valued}
use Rattle.meaning_laws.proofs.Operands.{Operand, false_operand, true_operand, byte_operand, integer_operand, long_operand, currency_operand, operand_wide, long_from_byte, long_from_integer}
use Rattle.meaning_laws.proofs.Currencies.{currency_sum, currency_difference, currency_product_left, currency_product_right, currency_minus}
use Rattle.meaning_laws.proofs.Typed.{wide_left, wide_right, finished, finished_value, both_as_values}

-- an operator on two numbers of one kind
abbrev AtKind : NetBin → (ℤ → ℤ → ℤ) → NumberKind → Type 0
AtKind op f k = (z w : ℤ) (v u : ValueN) → NetNumber k z v → NetNumber k w u
    → Agrees (NetNumber k) (limits.checked k (f z w)) (finished k (operate_net (Bin op) v u))

sum_at : (k : NumberKind) → AtKind op.Add (λ z w. z +ℤ w) k
sum_at _ _ _ _ _ (byte_number m e) (byte_number l h) = byte_checked (pos m +ℤ pos l)
sum_at _ _ _ _ _ (short_number z e) (short_number w h) = short_checked (z +ℤ w)
sum_at _ _ _ _ _ (integer_number z e) (integer_number w h) = integer_checked (z +ℤ w)
sum_at _ _ _ _ _ (decimal_number z m s e d) (decimal_number w l t h g) = currency_sum z m w l s t e h d g

difference_at : (k : NumberKind) → AtKind op.Sub (λ z w. z -ℤ w) k
difference_at _ _ _ _ _ (byte_number m e) (byte_number l h) = byte_checked (pos m -ℤ pos l)
difference_at _ _ _ _ _ (short_number z e) (short_number w h) = short_checked (z -ℤ w)
difference_at _ _ _ _ _ (integer_number z e) (integer_number w h) = integer_checked (z -ℤ w)
difference_at _ _ _ _ _ (decimal_number z m s e d) (decimal_number w l t h g) = currency_difference z m w l s t e h d g

-- both operands in the wider kind
arithmetic_same : (are_same : ℕ → ℕ → Bool) (op : NetBin) (f : ℤ → ℤ → ℤ) (k : NumberKind) (s t : Ty) (M N : Number) (x y : ValueN)
    → AtKind op f k → Operand s M x → Operand t N y → nat_le (rank M.kind) (rank k) ≡ true → nat_le (rank N.kind) (rank k) ≡ true
    → Agrees (Matches are_same (type_of_kind k)) (checked_value k (f (amount_in k M) (amount_in k N))) (evaluate (checked k (both_as k op s t)) x y)
arithmetic_same are_same op f k s t M N x y at o p le ge =
    let a = operand_wide k s M x o le in
    let b = operand_wide k t N y p ge in
    let z = f (amount_in k M) (amount_in k N) in
    let row : evaluate (checked k (both_as k op s t)) x y ≡ finished k (operate_net (Bin op) a.0 b.0) =
    finished_value k (both_as k op s t) x y
    ∙ ap (finished k) (both_as_values k op s t x y ∙ ap₂ (λ p q. then_answer p (λ v. then_answer q (λ w. operate_net (Bin op) v w))) a.1 b.1) in
    valued are_same k z (evaluate (checked k (both_as k op s t)) x y)
    (subst (λ q. Agrees (NetNumber k) (limits.checked k z) q) (sym row) (at (amount_in k M) (amount_in k N) a.0 b.0 a.2 b.2))

pub sum_same : (are_same : ℕ → ℕ → Bool) (s t : Ty) (x y : ValueN) (M N : Number) → Operand s M x → Operand t N y
    → IsSame are_same (six.sum checked_value M N) (arithmetic op.Add s t M.kind N.kind) x y
sum_same are_same s t x y M N o p =
    arithmetic_same are_same op.Add (λ z w. z +ℤ w) (wider M.kind N.kind) s t M N x y (sum_at (wider M.kind N.kind)) o p
    (wide_left M.kind N.kind) (wide_right M.kind N.kind)

pub difference_same : (are_same : ℕ → ℕ → Bool) (s t : Ty) (x y : ValueN) (M N : Number) → Operand s M x → Operand t N y
    → IsSame are_same (six.difference checked_value M N) (arithmetic op.Sub s t M.kind N.kind) x y
difference_same are_same s t x y M N o p =
    arithmetic_same are_same op.Sub (λ z w. z -ℤ w) (wider M.kind N.kind) s t M N x y (difference_at (wider M.kind N.kind)) o p
    (wide_left M.kind N.kind) (wide_right M.kind N.kind)

-- products

abbrev is_currency : NumberKind → Bool
is_currency kinds.Byte = false
is_currency kinds.Integer = false
is_currency kinds.Long = false
is_currency kinds.Currency = true

own_amount : (s : Ty) (N : Number) (x : ValueN) → Operand s N x → is_currency N.kind ≡ false → ones N.kind N.amount ≡ N.amount
own_amount _ _ _ false_operand h = refl
own_amount _ _ _ true_operand h = refl
own_amount _ _ _ (byte_operand m e) h = refl
own_amount _ _ _ (integer_operand z e) h = refl
own_amount _ _ _ (long_operand z e) h = refl
own_amount _ _ _ (currency_operand z m s e d) h = cc

in_ones : (k : NumberKind) (N : Number) → is_currency k ≡ false → amount_in k N ≡ ones N.kind N.amount
in_ones kinds.Byte N h = refl
in_ones kinds.Integer N h = refl
in_ones kinds.Long N h = refl
in_ones kinds.Currency N h = cc

wider_whole : (k l : NumberKind) → is_currency k ≡ false → is_currency l ≡ false → is_currency (wider k l) ≡ false
wider_whole kinds.Byte kinds.Byte g h = refl
wider_whole kinds.Byte kinds.Integer g h = refl
wider_whole kinds.Byte kinds.Long g h = refl
wider_whole kinds.Byte kinds.Currency g h = cc
wider_whole kinds.Integer kinds.Byte g h = refl
wider_whole kinds.Integer kinds.Integer g h = refl
wider_whole kinds.Integer kinds.Long g h = refl
wider_whole kinds.Integer kinds.Currency g h = cc
wider_whole kinds.Long kinds.Byte g h = refl
wider_whole kinds.Long kinds.Integer g h = refl
wider_whole kinds.Long kinds.Long g h = refl
wider_whole kinds.Long kinds.Currency g h = cc
wider_whole kinds.Currency l g h = cc

product_at : (k : NumberKind) → is_currency k ≡ false → AtKind op.Mul (λ z w. z *ℤ w) k
product_at _ c _ _ _ _ (byte_number m e) (byte_number l h) = byte_checked (pos m *ℤ pos l)
product_at _ c _ _ _ _ (short_number z e) (short_number w h) = short_checked (z *ℤ w)
product_at _ c _ _ _ _ (integer_number z e) (integer_number w h) = integer_checked (z *ℤ w)
product_at _ c _ _ _ _ (decimal_number z m s e d) (decimal_number w l t h g) = cc

whole_product : (are_same : ℕ → ℕ → Bool) (s t : Ty) (x y : ValueN) (M N : Number) → Operand s M x → Operand t N y
    → is_currency M.kind ≡ false → is_currency N.kind ≡ false
    → IsSame are_same (checked_value (wider M.kind N.kind) (M.amount *ℤ N.amount)) (arithmetic op.Mul s t M.kind N.kind) x y
whole_product are_same s t x y M N o p g h =
    let k = wider M.kind N.kind in
    let small = wider_whole M.kind N.kind g h in
    let e : amount_in k M *ℤ amount_in k N ≡ M.amount *ℤ N.amount =
    ap₂ (λ z w. z *ℤ w) (in_ones k M small ∙ own_amount s M x o g) (in_ones k N small ∙ own_amount t N y p h) in
    subst (λ z. Agrees (Matches are_same (type_of_kind k)) (checked_value k z) (evaluate (checked k (both_as k op.Mul s t)) x y)) e
    (arithmetic_same are_same op.Mul (λ z w. z *ℤ w) k s t M N x y (product_at k small) o p
    (wide_left M.kind N.kind) (wide_right M.kind N.kind))

long_size : (z : ℤ) → fits kinds.Long z ≡ true → unsigned_abs z ≤ 2 ^ 31
long_size (pos m) h = grind (arith, nat_tests)
long_size (negsuc m) h = grind (arith, nat_tests)

abbrev SameProduct : (ℕ → ℕ → Bool) → Ty → Ty → ValueN → ValueN → Number → Number → Type 0
SameProduct are_same s t x y M N = IsSame are_same (six.product checked_value M N) (product s t M.kind N.kind) x y

left_currency : (are_same : ℕ → ℕ → Bool) (s t : Ty) (x y : ValueN) (M N : Number) → Operand s M x → Operand t N y
    → is_currency M.kind ≡ true → SameProduct are_same s t x y M N
left_currency are_same _ _ _ _ _ _ false_operand p c = cc
left_currency are_same _ _ _ _ _ _ true_operand p c = cc
left_currency are_same _ _ _ _ _ _ (byte_operand m e) p c = cc
left_currency are_same _ _ _ _ _ _ (integer_operand z e) p c = cc
left_currency are_same _ _ _ _ _ _ (long_operand z e) p c = cc
left_currency are_same _ _ _ _ _ _ (currency_operand z m s e d) false_operand c =
    valued are_same kinds.Currency (z *ℤ pos 0) _ (currency_product_right z (pos 0) m s e d (lit≤ tt))
left_currency are_same _ _ _ _ _ _ (currency_operand z m s e d) true_operand c =
    valued are_same kinds.Currency (z *ℤ negsuc 0) _ (currency_product_right z (negsuc 0) m s e d (lit≤ tt))
left_currency are_same _ _ _ _ _ _ (currency_operand z m s e d) (byte_operand l h) c =
    valued are_same kinds.Currency (z *ℤ pos l) _ (currency_product_right z (pos l) m s e d (long_size (pos l) (long_from_byte l h)))
left_currency are_same _ _ _ _ _ _ (currency_operand z m s e d) (integer_operand w h) c =
    valued are_same kinds.Currency (z *ℤ w) _ (currency_product_right z w m s e d (long_size w (long_from_integer w h)))
left_currency are_same _ _ _ _ _ _ (currency_operand z m s e d) (long_operand w h) c =
    valued are_same kinds.Currency (z *ℤ w) _ (currency_product_right z w m s e d (long_size w h))
left_currency are_same _ _ _ _ _ _ (currency_operand z m s e d) (currency_operand w l t h g) c = refl

right_currency : (are_same : ℕ → ℕ → Bool) (s t : Ty) (x y : ValueN) (M N : Number) → Operand s M x → Operand t N y
    → is_currency M.kind ≡ false → is_currency N.kind ≡ true → SameProduct are_same s t x y M N
right_currency are_same _ _ _ _ _ _ o false_operand b c = cc
right_currency are_same _ _ _ _ _ _ o true_operand b c = cc
right_currency are_same _ _ _ _ _ _ o (byte_operand m e) b c = cc
right_currency are_same _ _ _ _ _ _ o (integer_operand z e) b c = cc
right_currency are_same _ _ _ _ _ _ o (long_operand z e) b c = cc
right_currency are_same _ _ _ _ _ _ false_operand (currency_operand w l t h g) b c =
    valued are_same kinds.Currency (pos 0 *ℤ w) _ (currency_product_left (pos 0) w l t (lit≤ tt) h g)
right_currency are_same _ _ _ _ _ _ true_operand (currency_operand w l t h g) b c =
    valued are_same kinds.Currency (negsuc 0 *ℤ w) _ (currency_product_left (negsuc 0) w l t (lit≤ tt) h g)
right_currency are_same _ _ _ _ _ _ (byte_operand m e) (currency_operand w l t h g) b c =
    valued are_same kinds.Currency (pos m *ℤ w) _ (currency_product_left (pos m) w l t (long_size (pos m) (long_from_byte m e)) h g)
right_currency are_same _ _ _ _ _ _ (integer_operand z e) (currency_operand w l t h g) b c =
    valued are_same kinds.Currency (z *ℤ w) _ (currency_product_left z w l t (long_size z (long_from_integer z e)) h g)
right_currency are_same _ _ _ _ _ _ (long_operand z e) (currency_operand w l t h g) b c =
    valued are_same kinds.Currency (z *ℤ w) _ (currency_product_left z w l t (long_size z e) h g)
right_currency are_same _ _ _ _ _ _ (currency_operand z m s e d) (currency_operand w l t h g) b c = cc

not_both : (k l : NumberKind) → is_currency k ≡ false → six.are_currencies k l ≡ false
not_both kinds.Byte l h = refl
not_both kinds.Integer l h = refl
not_both kinds.Long l h = refl
not_both kinds.Currency l h = cc

pub product_same : (are_same : ℕ → ℕ → Bool) (s t : Ty) (x y : ValueN) (M N : Number) → Operand s M x → Operand t N y
    → SameProduct are_same s t x y M N
product_same are_same s t x y M N o p = by_kinds (is_currency M.kind) (is_currency N.kind) refl refl
  where
    by_kinds : (b c : Bool) → is_currency M.kind ≡ b → is_currency N.kind ≡ c → SameProduct are_same s t x y M N
    by_kinds true c g h = left_currency are_same s t x y M N o p g
    by_kinds false true g h = right_currency are_same s t x y M N o p g h
    by_kinds false false g h = simp (not_both M.kind N.kind g) (whole_product are_same s t x y M N o p g h)

-- minus

pub negative_same : (are_same : ℕ → ℕ → Bool) (s : Ty) (x y : ValueN) (M : Number) → Operand s M x
    → IsSame are_same (six.negative checked_value (Some M)) (negated s (Some M.kind)) x y
negative_same are_same _ _ y _ false_operand = (n.Short (pos 0), refl, integers (pos 0) refl)
negative_same are_same _ _ y _ true_operand = (n.Short (pos 1), refl, integers (pos 1) refl)
negative_same are_same _ _ y _ (byte_operand m e) = refl
negative_same are_same _ _ y _ (integer_operand z e) = valued are_same kinds.Integer (neg_ℤ z) _ (short_checked (neg_ℤ z))
negative_same are_same _ _ y _ (long_operand z e) = valued are_same kinds.Long (neg_ℤ z) _ (integer_checked (neg_ℤ z))
negative_same are_same _ _ y _ (currency_operand z m s e d) = valued are_same kinds.Currency (neg_ℤ z) _ (currency_minus z m s e d)
