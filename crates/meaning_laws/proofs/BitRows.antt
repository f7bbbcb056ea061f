-- And, Or, Xor, Eqv, Imp and Not on whole numbers and on Booleans.
use Rattle.std.proofs.Common.{◌≡◌, ℕ, ◌<◌, unsigned_abs, arith, refl, sym, ◌∙◌, ap, ap₂, subst, Bool, true, false, not, cond, Option, None, ℤ, pos, negsuc}
use Rattle.std.specs.Prelude.{if◌then◌else◌}
use Rattle.vb_tree.specs.BoundTree as types
use Rattle.vb_tree.specs.BoundTree.{Ty}
use Rattle.vb_tree.specs.declared.value.Value6.{Value6}
use Rattle.vb6_meaning.specs.Answers.{Answer, gives, raises, outside, then_answer}
use Rattle.vb6_meaning.specs.declared.number.Number.{Number}
use Rattle.vb6_meaning.specs.declared.number.NumberKind.{NumberKind}
use Rattle.vb6_meaning.specs.declared.number.NumberKind.TheVariants as kinds
use Rattle.vb6_meaning.specs.Kinds as limits
use Rattle.vb6_meaning.specs.Kinds.{fits, is_byte, least, rank, wider, whole, value}
use Rattle.vb6_meaning.specs.Numbers.{amount_in}
use Rattle.vb6_meaning.specs.Values as six
use Rattle.net_tree.specs.declared.expression.NetBin.TheVariants as op
use Rattle.net_tree.specs.declared.expression.OpN.TheVariants.{Bin}
use Rattle.net_meaning.specs.declared.value.ValueN.{ValueN}
use Rattle.net_meaning.specs.declared.value.ValueN.TheVariants as n
use Rattle.net_meaning.specs.declared.whole.WholeKind.TheVariants.{Byte, Short, Integer}
use Rattle.net_meaning.specs.Operators.{operate_net}
use Rattle.net_meaning.specs.ValueMatch.{Matches, booleans, bytes, integers, longs, currencies, texts, empty_text, fixed_texts, no_object, no_object_of, nothing, objects, objects_of, in_variant_empty, in_variant_boolean, in_variant_byte, in_variant_integer, in_variant_long, in_variant_currency, in_variant_text}
use Rattle.std.proofs.Common.{zero, suc}
use Rattle.std.specs.Prelude.{◌==◌}
use Rattle.std.specs.Int.{bit_at}
use Rattle.std.proofs.lemmas.Nat.Bits.{bit_at-lt}
use Rattle.std.proofs.lemmas.Bool.Decides.{nat_tests}
use Rattle.vb_tree.specs.declared.value.Value6.TheVariants as v
use Rattle.vb6_meaning.specs.Bits.{bit, with_lowest, of_sign, from_bits, bitwise}
use Rattle.vb6_meaning.specs.Values.{both, either, one_alone, alike, implies, complement}
use Rattle.vb6_meaning.proofs.BitLimits.{bits_fit}
use Rattle.vb6_meaning.proofs.Limits.{complement_fits}
use Rattle.vb6_meaning.proofs.TwosComplement.{from_bits_same}
use Rattle.net_meaning.specs.Whole as checking
use Rattle.net_meaning.specs.Whole.{is_whole}
use Rattle.net_meaning.specs.Operators.{complemented}
use Rattle.net_meaning.specs.WrittenRows.{Row, Written, evaluate, operand_a, operand_b, bits, signed_bits, logical, and_row, or_row, xor_row, eqv_row, imp_row, type_of_kind, as_kind}
use Rattle.net_meaning.specs.SameValues.{Agrees, IsSame, is_typed}
use Rattle.meaning_laws.proofs.NetNumbers.{NetNumber, byte_number, short_number, integer_number, decimal_number, byte_limits, short_limits, integer_limits, agrees_then}
use Rattle.meaning_laws.proofs.Operands.{Operand, operand_as, as_value, as_kind_value}
use Rattle.meaning_laws.proofs.Typed.{both_as_values, numbers_same}
use Rattle.meaning_laws.proofs.WholeRows.{narrow_left, narrow_right, converted_same}
use Rattle.meaning_laws.proofs.Division.{whole_twice}

-- turned bits

turned_lowest : (s : Bool) (z : ℤ) → with_lowest (not s) (complement z) ≡ complement (with_lowest s z)
turned_lowest true (pos n) = refl
turned_lowest false (pos n) = refl
turned_lowest true (negsuc n) = refl
turned_lowest false (negsuc n) = refl

turned_sign : (s : Bool) → of_sign (not s) ≡ complement (of_sign s)
turned_sign true = refl
turned_sign false = refl

turned_bits : (w : ℕ) (b : ℕ → Bool) → from_bits w (λ k. not (b k)) ≡ complement (from_bits w b)
unfolding from_bits
turned_bits zero b = turned_sign (b 0)
turned_bits (suc w) b =
    ap (with_lowest (not (b 0))) (turned_bits w (λ k. b (suc k))) ∙ turned_lowest (b 0) (from_bits w (λ k. b (suc k)))

one_or_zero : (m : ℕ) → m < 2 → (m == 0) ≡ not (m == 1)
one_or_zero m h = grind (arith, nat_tests)

bit_of_complement : (z : ℤ) (k : ℕ) → bit (complement z) k ≡ not (bit z k)
bit_of_complement (pos n) k = one_or_zero (bit_at n k) (bit_at-lt n k)
bit_of_complement (negsuc n) k = twice (bit_at n k) (bit_at-lt n k)
  where
    twice : (m : ℕ) → m < 2 → (m == 1) ≡ not (m == 0)
    twice m h = grind (arith, nat_tests)

pub eqv_bits : (p q : ℤ) → complement (bitwise one_alone p q) ≡ bitwise alike p q
eqv_bits p q = sym (turned_bits 31 (λ k. one_alone (bit p k) (bit q k)))

pub imp_bits : (p q : ℤ) → bitwise either (complement p) q ≡ bitwise implies p q
imp_bits p q = from_bits_same 31 (λ k. either (bit (complement p) k) (bit q k)) (λ k. implies (bit p k) (bit q k))
    (λ k h. ap (λ b. either b (bit q k)) (bit_of_complement p k))

-- one operator at a kind

given : {A B : Type 0} (R : A → B → Type 0) (b : Bool) (v : A) (u : B) → b ≡ true → R v u → Agrees R (gives v) (if b then gives u else raises 6)
given R true v u e h = (u, refl, h)
given R false v u e h = cc

abbrev At : (ℕ → ℕ → Bool) → (ℤ → ℤ → ℤ) → (ValueN → ValueN → Answer ValueN) → NumberKind → Type 0
At are_same f go k = (p q : ℤ) (x y : ValueN) → NetNumber k p x → NetNumber k q y
    → Agrees (Matches are_same (type_of_kind k)) (gives (value k (f p q))) (go x y)

-- the value of a number of a kind, as a checked answer and as a match
number_given : (are_same : ℕ → ℕ → Bool) (z : ℤ) → fits kinds.Byte z ≡ true → Agrees (Matches are_same types.byte) (gives (v.Byte (unsigned_abs z))) (checking.whole Byte z)
number_given are_same (pos m) e = given (Matches are_same types.byte) (is_whole Byte (pos m)) (v.Byte m) (n.Byte m) (sym (byte_limits (pos m)) ∙ e) (bytes m e)
number_given are_same (negsuc m) e = cc

and_at : (are_same : ℕ → ℕ → Bool) (k : NumberKind) → whole k ≡ k → At are_same (bitwise both) (λ x y. operate_net (Bin op.And) x y) k
and_at are_same _ c _ _ _ _ (byte_number m e) (byte_number l h) =
    number_given are_same (bitwise both (pos m) (pos l)) (bits_fit kinds.Byte both (pos m) (pos l) (λ c. refl) refl e h)
and_at are_same _ c _ _ _ _ (short_number z e) (short_number w h) =
    let f = bits_fit kinds.Integer both z w (λ c. cc) refl e h in
    given (Matches are_same (type_of_kind kinds.Integer)) (is_whole Short (bitwise both z w)) (v.Int (bitwise both z w)) (n.Short (bitwise both z w))
    (sym (short_limits (bitwise both z w)) ∙ f) (integers (bitwise both z w) f)
and_at are_same _ c _ _ _ _ (integer_number z e) (integer_number w h) =
    let f = bits_fit kinds.Long both z w (λ c. cc) refl e h in
    given (Matches are_same (type_of_kind kinds.Long)) (is_whole Integer (bitwise both z w)) (v.Long (bitwise both z w)) (n.Integer (bitwise both z w))
    (sym (integer_limits (bitwise both z w)) ∙ f) (longs (bitwise both z w) f)
and_at are_same _ c _ _ _ _ (decimal_number z m s e d) (decimal_number w l t h g) = absurd (cc)

or_at : (are_same : ℕ → ℕ → Bool) (k : NumberKind) → whole k ≡ k → At are_same (bitwise either) (λ x y. operate_net (Bin op.Or) x y) k
or_at are_same _ c _ _ _ _ (byte_number m e) (byte_number l h) =
    number_given are_same (bitwise either (pos m) (pos l)) (bits_fit kinds.Byte either (pos m) (pos l) (λ c. refl) refl e h)
or_at are_same _ c _ _ _ _ (short_number z e) (short_number w h) =
    let f = bits_fit kinds.Integer either z w (λ c. cc) refl e h in
    given (Matches are_same (type_of_kind kinds.Integer)) (is_whole Short (bitwise either z w)) (v.Int (bitwise either z w)) (n.Short (bitwise either z w))
    (sym (short_limits (bitwise either z w)) ∙ f) (integers (bitwise either z w) f)
or_at are_same _ c _ _ _ _ (integer_number z e) (integer_number w h) =
    let f = bits_fit kinds.Long either z w (λ c. cc) refl e h in
    given (Matches are_same (type_of_kind kinds.Long)) (is_whole Integer (bitwise either z w)) (v.Long (bitwise either z w)) (n.Integer (bitwise either z w))
    (sym (integer_limits (bitwise either z w)) ∙ f) (longs (bitwise either z w) f)
or_at are_same _ c _ _ _ _ (decimal_number z m s e d) (decimal_number w l t h g) = absurd (cc)

xor_at : (are_same : ℕ → ℕ → Bool) (k : NumberKind) → whole k ≡ k → At are_same (bitwise one_alone) (λ x y. operate_net (Bin op.Xor) x y) k
xor_at are_same _ c _ _ _ _ (byte_number m e) (byte_number l h) =
    number_given are_same (bitwise one_alone (pos m) (pos l)) (bits_fit kinds.Byte one_alone (pos m) (pos l) (λ c. refl) refl e h)
xor_at are_same _ c _ _ _ _ (short_number z e) (short_number w h) =
    let f = bits_fit kinds.Integer one_alone z w (λ c. cc) refl e h in
    given (Matches are_same (type_of_kind kinds.Integer)) (is_whole Short (bitwise one_alone z w)) (v.Int (bitwise one_alone z w)) (n.Short (bitwise one_alone z w))
    (sym (short_limits (bitwise one_alone z w)) ∙ f) (integers (bitwise one_alone z w) f)
xor_at are_same _ c _ _ _ _ (integer_number z e) (integer_number w h) =
    let f = bits_fit kinds.Long one_alone z w (λ c. cc) refl e h in
    given (Matches are_same (type_of_kind kinds.Long)) (is_whole Integer (bitwise one_alone z w)) (v.Long (bitwise one_alone z w)) (n.Integer (bitwise one_alone z w))
    (sym (integer_limits (bitwise one_alone z w)) ∙ f) (longs (bitwise one_alone z w) f)
xor_at are_same _ c _ _ _ _ (decimal_number z m s e d) (decimal_number w l t h g) = absurd (cc)

eqv_at : (are_same : ℕ → ℕ → Bool) (k : NumberKind) → whole k ≡ k → is_byte k ≡ false
    → At are_same (bitwise alike) (λ x y. then_answer (operate_net (Bin op.Xor) x y) complemented) k
eqv_at are_same _ c b _ _ _ _ (byte_number m e) (byte_number l h) = cc
eqv_at are_same _ c b _ _ _ _ (short_number z e) (short_number w h) =
    let f = bits_fit kinds.Integer one_alone z w (λ c. cc) refl e h in
    let r = bitwise one_alone z w in
    let at : (t : Bool) → t ≡ true → then_answer (if t then gives (n.Short r) else raises 6) complemented ≡ gives (n.Short (complement r)) =
    λ t d. ap (λ t. then_answer (if t then gives (n.Short r) else raises 6) complemented) d in (
      n.Short (bitwise alike z w),
      at (is_whole Short r) (sym (short_limits r) ∙ f) ∙ ap (λ q. gives (n.Short q)) (eqv_bits z w),
      integers (bitwise alike z w) (bits_fit kinds.Integer alike z w (λ c. cc) refl e h),
    )
eqv_at are_same _ c b _ _ _ _ (integer_number z e) (integer_number w h) =
    let f = bits_fit kinds.Long one_alone z w (λ c. cc) refl e h in
    let r = bitwise one_alone z w in
    let at : (t : Bool) → t ≡ true → then_answer (if t then gives (n.Integer r) else raises 6) complemented ≡ gives (n.Integer (complement r)) =
    λ t d. ap (λ t. then_answer (if t then gives (n.Integer r) else raises 6) complemented) d in (
      n.Integer (bitwise alike z w),
      at (is_whole Integer r) (sym (integer_limits r) ∙ f) ∙ ap (λ q. gives (n.Integer q)) (eqv_bits z w),
      longs (bitwise alike z w) (bits_fit kinds.Long alike z w (λ c. cc) refl e h),
    )
eqv_at are_same _ c b _ _ _ _ (decimal_number z m s e d) (decimal_number w l t h g) = absurd (cc)

pub not_at : (k : NumberKind) → whole k ≡ k → is_byte k ≡ false → (p : ℤ) (x : ValueN) → NetNumber k p x
    → (w : ValueN) × (complemented x ≡ gives w) × NetNumber k (complement p) w
not_at _ c b _ _ (byte_number m e) = cc
not_at _ c b _ _ (short_number z e) = (n.Short (complement z), refl, short_number (complement z) (complement_fits kinds.Integer z refl e))
not_at _ c b _ _ (integer_number z e) = (n.Integer (complement z), refl, integer_number (complement z) (complement_fits kinds.Long z refl e))
not_at _ c b _ _ (decimal_number z m s e d) = absurd (cc)

imp_at : (are_same : ℕ → ℕ → Bool) (k : NumberKind) → whole k ≡ k → (p q : ℤ) (x y : ValueN) → NetNumber k (complement p) x → NetNumber k q y
    → Agrees (Matches are_same (type_of_kind k)) (gives (value k (bitwise implies p q))) (operate_net (Bin op.Or) x y)
imp_at are_same k c p q x y a b =
    subst (λ r. Agrees (Matches are_same (type_of_kind k)) (gives (value k r)) (operate_net (Bin op.Or) x y)) (imp_bits p q)
    (or_at are_same k c (complement p) q x y a b)

-- the rows on two numbers

pub and_numbers : (are_same : ℕ → ℕ → Bool) (s t : Ty) (x y : ValueN) (M N : Number) → Operand s M x → Operand t N y
    → IsSame are_same (six.bits both M N) (bits and_row s t M.kind N.kind) x y
and_numbers are_same s t x y M N o p =
    let k = whole (wider M.kind N.kind) in
    subst (λ a. Agrees (Matches are_same (type_of_kind k)) (six.bits both M N) a) (sym (both_as_values k op.And s t x y))
    (converted_same (Matches are_same (type_of_kind k)) k s t M N x y (λ p q. gives (value k (bitwise both p q))) (λ v u. operate_net (Bin op.And) v u) o p
    (narrow_left M.kind N.kind) (narrow_right M.kind N.kind) (and_at are_same k (whole_twice (wider M.kind N.kind))))

pub or_numbers : (are_same : ℕ → ℕ → Bool) (s t : Ty) (x y : ValueN) (M N : Number) → Operand s M x → Operand t N y
    → IsSame are_same (six.bits either M N) (bits or_row s t M.kind N.kind) x y
or_numbers are_same s t x y M N o p =
    let k = whole (wider M.kind N.kind) in
    subst (λ a. Agrees (Matches are_same (type_of_kind k)) (six.bits either M N) a) (sym (both_as_values k op.Or s t x y))
    (converted_same (Matches are_same (type_of_kind k)) k s t M N x y (λ p q. gives (value k (bitwise either p q))) (λ v u. operate_net (Bin op.Or) v u) o p
    (narrow_left M.kind N.kind) (narrow_right M.kind N.kind) (or_at are_same k (whole_twice (wider M.kind N.kind))))

pub xor_numbers : (are_same : ℕ → ℕ → Bool) (s t : Ty) (x y : ValueN) (M N : Number) → Operand s M x → Operand t N y
    → IsSame are_same (six.bits one_alone M N) (bits xor_row s t M.kind N.kind) x y
xor_numbers are_same s t x y M N o p =
    let k = whole (wider M.kind N.kind) in
    subst (λ a. Agrees (Matches are_same (type_of_kind k)) (six.bits one_alone M N) a) (sym (both_as_values k op.Xor s t x y))
    (converted_same (Matches are_same (type_of_kind k)) k s t M N x y (λ p q. gives (value k (bitwise one_alone p q))) (λ v u. operate_net (Bin op.Xor) v u) o p
    (narrow_left M.kind N.kind) (narrow_right M.kind N.kind) (xor_at are_same k (whole_twice (wider M.kind N.kind))))

then_twice : {A B C : Type 0} (a : Answer A) (f : A → Answer B) (g : B → Answer C) → then_answer (then_answer a f) g ≡ then_answer a (λ x. then_answer (f x) g)
then_twice (gives x) f g = refl
then_twice (raises e) f g = refl
then_twice outside f g = refl

eqv_value : (k : NumberKind) (s t : Ty) (x y : ValueN) → evaluate (eqv_row (as_kind k s operand_a) (as_kind k t operand_b)) x y
    ≡ then_answer (as_value k s x) (λ v. then_answer (as_value k t y) (λ u. then_answer (operate_net (Bin op.Xor) v u) complemented))
eqv_value k s t x y =
    ap (λ a. then_answer a complemented) (both_as_values k op.Xor s t x y)
    ∙ then_twice (as_value k s x) (λ v. then_answer (as_value k t y) (λ u. operate_net (Bin op.Xor) v u)) complemented
    ∙ deeper (as_value k s x)
  where
    deeper : (a : Answer ValueN) → then_answer a (λ v. then_answer (then_answer (as_value k t y) (λ u. operate_net (Bin op.Xor) v u)) complemented)
        ≡ then_answer a (λ v. then_answer (as_value k t y) (λ u. then_answer (operate_net (Bin op.Xor) v u) complemented))
    deeper (gives v) = then_twice (as_value k t y) (λ u. operate_net (Bin op.Xor) v u) complemented
    deeper (raises e) = refl
    deeper outside = refl

imp_value : (k : NumberKind) (s t : Ty) (x y : ValueN) → evaluate (imp_row (as_kind k s operand_a) (as_kind k t operand_b)) x y
    ≡ then_answer (then_answer (as_value k s x) complemented) (λ v. then_answer (as_value k t y) (λ u. operate_net (Bin op.Or) v u))
imp_value k s t x y =
    ap₂ (λ p q. then_answer (then_answer p complemented) (λ v. then_answer q (λ u. operate_net (Bin op.Or) v u)))
    (as_kind_value k s operand_a x y x refl) (as_kind_value k t operand_b x y y refl)

module _ (are_same : ℕ → ℕ → Bool) (s t : Ty) (x y : ValueN) (M N : Number) (o : Operand s M x) (p : Operand t N y) where
  abbrev kind : NumberKind
  kind = whole (wider M.kind N.kind)

  eqv_signed : is_byte kind ≡ false → Agrees (Matches are_same (type_of_kind kind)) (six.bits alike M N) (evaluate (eqv_row (as_kind kind s operand_a) (as_kind kind t operand_b)) x y)
  eqv_signed b =
      subst (λ a. Agrees (Matches are_same (type_of_kind kind)) (six.bits alike M N) a) (sym (eqv_value kind s t x y))
      (converted_same (Matches are_same (type_of_kind kind)) kind s t M N x y (λ p q. gives (value kind (bitwise alike p q)))
      (λ v u. then_answer (operate_net (Bin op.Xor) v u) complemented) o p
      (narrow_left M.kind N.kind) (narrow_right M.kind N.kind) (eqv_at are_same kind (whole_twice (wider M.kind N.kind)) b))

  turned_operand : is_byte kind ≡ false → Agrees (λ p v. NetNumber kind (complement p) v) (limits.checked kind (amount_in kind M)) (then_answer (as_value kind s x) complemented)
  turned_operand b = turn (limits.checked kind (amount_in kind M)) (as_value kind s x) (operand_as kind s M x o (narrow_left M.kind N.kind))
    where
      turn : (a : Answer ℤ) (q : Answer ValueN) → Agrees (NetNumber kind) a q → Agrees (λ p v. NetNumber kind (complement p) v) a (then_answer q complemented)
      turn (gives z) q h = let c = not_at kind (whole_twice (wider M.kind N.kind)) b z h.0 h.2 in (c.0, ap (λ a. then_answer a complemented) h.1 ∙ c.1, c.2)
      turn (raises e) q h = ap (λ a. then_answer a complemented) h
      turn outside q h = tt

  imp_signed : is_byte kind ≡ false → Agrees (Matches are_same (type_of_kind kind)) (six.bits implies M N) (evaluate (imp_row (as_kind kind s operand_a) (as_kind kind t operand_b)) x y)
  imp_signed b =
      subst (λ a. Agrees (Matches are_same (type_of_kind kind)) (six.bits implies M N) a) (sym (imp_value kind s t x y))
      (agrees_then (λ p v. NetNumber kind (complement p) v) (Matches are_same (type_of_kind kind)) (limits.checked kind (amount_in kind M))
      (then_answer (as_value kind s x) complemented)
      (λ p. then_answer (limits.checked kind (amount_in kind N)) (λ q. gives (value kind (bitwise implies p q))))
      (λ v. then_answer (as_value kind t y) (λ u. operate_net (Bin op.Or) v u))
      (turned_operand b)
      (λ z v zv. agrees_then (NetNumber kind) (Matches are_same (type_of_kind kind)) (limits.checked kind (amount_in kind N)) (as_value kind t y)
      (λ q. gives (value kind (bitwise implies z q))) (λ u. operate_net (Bin op.Or) v u)
      (operand_as kind t N y p (narrow_right M.kind N.kind))
      (λ w u wu. imp_at are_same kind (whole_twice (wider M.kind N.kind)) z w v u zv wu)))

  pub eqv_numbers : IsSame are_same (six.signed_bits alike M N) (signed_bits eqv_row s t M.kind N.kind) x y
  eqv_numbers = by_byte (is_byte kind) refl
    where
      by_byte : (b : Bool) → is_byte kind ≡ b → IsSame are_same (cond b outside (six.bits alike M N)) (if b then None else bits eqv_row s t M.kind N.kind) x y
      by_byte true e = refl
      by_byte false e = eqv_signed e

  pub imp_numbers : IsSame are_same (six.signed_bits implies M N) (signed_bits imp_row s t M.kind N.kind) x y
  imp_numbers = by_byte (is_byte kind) refl
    where
      by_byte : (b : Bool) → is_byte kind ≡ b → IsSame are_same (cond b outside (six.bits implies M N)) (if b then None else bits imp_row s t M.kind N.kind) x y
      by_byte true e = refl
      by_byte false e = imp_signed e

-- by whether both operands are Booleans
module _ (are_same : ℕ → ℕ → Bool) (f : Bool → Bool → Bool) (F : Row → Row → Row) (row : Number → Number → Answer Value6)
    (g : Ty → Ty → NumberKind → NumberKind → Option Written)
    (on_booleans : (p q : Bool) → evaluate (F operand_a operand_b) (n.Boolean p) (n.Boolean q) ≡ gives (n.Boolean (f p q)))
    (numbers_are : (s t : Ty) (x y : ValueN) (M N : Number) → Operand s M x → Operand t N y → IsSame are_same (row M N) (g s t M.kind N.kind) x y) where
  boolean_beside : (p : Bool) (t : Ty) (b : Value6) (y : ValueN) → is_typed t ≡ true → Matches are_same t b y
      → IsSame are_same (six.logical f row (v.Boolean p) b) (logical F g types.boolean t) (n.Boolean p) y
  boolean_beside p _ _ _ ht (booleans q) = (n.Boolean (f p q), on_booleans p q, booleans (f p q))
  boolean_beside p _ _ _ ht (bytes l h) = numbers_same are_same row g _ _ _ _ _ _ refl ht (booleans p) (bytes l h) (numbers_are _ _ _ _)
  boolean_beside p _ _ _ ht (integers w h) = numbers_same are_same row g _ _ _ _ _ _ refl ht (booleans p) (integers w h) (numbers_are _ _ _ _)
  boolean_beside p _ _ _ ht (longs w h) = numbers_same are_same row g _ _ _ _ _ _ refl ht (booleans p) (longs w h) (numbers_are _ _ _ _)
  boolean_beside p _ _ _ ht (currencies w m c h d) = numbers_same are_same row g _ _ _ _ _ _ refl ht (booleans p) (currencies w m c h d) (numbers_are _ _ _ _)
  boolean_beside p _ _ _ ht (texts units) = numbers_same are_same row g _ _ _ _ _ _ refl ht (booleans p) (texts units) (numbers_are _ _ _ _)
  boolean_beside p _ _ _ ht empty_text = numbers_same are_same row g _ _ _ _ _ _ refl ht (booleans p) empty_text (numbers_are _ _ _ _)
  boolean_beside p _ _ _ ht (fixed_texts units) = numbers_same are_same row g _ _ _ _ _ _ refl ht (booleans p) (fixed_texts units) (numbers_are _ _ _ _)
  boolean_beside p _ _ _ ht no_object = numbers_same are_same row g _ _ _ _ _ _ refl ht (booleans p) no_object (numbers_are _ _ _ _)
  boolean_beside p _ _ _ ht (no_object_of k) = numbers_same are_same row g _ _ _ _ _ _ refl ht (booleans p) (no_object_of k) (numbers_are _ _ _ _)
  boolean_beside p _ _ _ ht nothing = numbers_same are_same row g _ _ _ _ _ _ refl ht (booleans p) nothing (numbers_are _ _ _ _)
  boolean_beside p _ _ _ ht (objects d e h) = numbers_same are_same row g _ _ _ _ _ _ refl ht (booleans p) (objects d e h) (numbers_are _ _ _ _)
  boolean_beside p _ _ _ ht (objects_of k d e h) = numbers_same are_same row g _ _ _ _ _ _ refl ht (booleans p) (objects_of k d e h) (numbers_are _ _ _ _)
  boolean_beside p _ _ _ ht in_variant_empty = cc
  boolean_beside p _ _ _ ht (in_variant_boolean c) = cc
  boolean_beside p _ _ _ ht (in_variant_byte l h) = cc
  boolean_beside p _ _ _ ht (in_variant_integer w h) = cc
  boolean_beside p _ _ _ ht (in_variant_long w h) = cc
  boolean_beside p _ _ _ ht (in_variant_currency w m c h d) = cc
  boolean_beside p _ _ _ ht (in_variant_text more) = cc

  pub logical_same : (s t : Ty) (a b : Value6) (x y : ValueN) → is_typed s ≡ true → is_typed t ≡ true → Matches are_same s a x → Matches are_same t b y
      → IsSame are_same (six.logical f row a b) (logical F g s t) x y
  logical_same _ t _ b _ y hs ht (booleans p) mb = boolean_beside p t b y ht mb
  logical_same _ t _ b _ y hs ht (bytes l h) mb = numbers_same are_same row g _ t _ b _ y hs ht (bytes l h) mb (numbers_are _ t _ y)
  logical_same _ t _ b _ y hs ht (integers w h) mb = numbers_same are_same row g _ t _ b _ y hs ht (integers w h) mb (numbers_are _ t _ y)
  logical_same _ t _ b _ y hs ht (longs w h) mb = numbers_same are_same row g _ t _ b _ y hs ht (longs w h) mb (numbers_are _ t _ y)
  logical_same _ t _ b _ y hs ht (currencies w m c h d) mb = numbers_same are_same row g _ t _ b _ y hs ht (currencies w m c h d) mb (numbers_are _ t _ y)
  logical_same _ t _ b _ y hs ht (texts units) mb = numbers_same are_same row g _ t _ b _ y hs ht (texts units) mb (numbers_are _ t _ y)
  logical_same _ t _ b _ y hs ht empty_text mb = numbers_same are_same row g _ t _ b _ y hs ht empty_text mb (numbers_are _ t _ y)
  logical_same _ t _ b _ y hs ht (fixed_texts units) mb = numbers_same are_same row g _ t _ b _ y hs ht (fixed_texts units) mb (numbers_are _ t _ y)
  logical_same _ t _ b _ y hs ht no_object mb = numbers_same are_same row g _ t _ b _ y hs ht no_object mb (numbers_are _ t _ y)
  logical_same _ t _ b _ y hs ht (no_object_of k) mb = numbers_same are_same row g _ t _ b _ y hs ht (no_object_of k) mb (numbers_are _ t _ y)
  logical_same _ t _ b _ y hs ht nothing mb = numbers_same are_same row g _ t _ b _ y hs ht nothing mb (numbers_are _ t _ y)
  logical_same _ t _ b _ y hs ht (objects d e h) mb = numbers_same are_same row g _ t _ b _ y hs ht (objects d e h) mb (numbers_are _ t _ y)
  logical_same _ t _ b _ y hs ht (objects_of k d e h) mb = numbers_same are_same row g _ t _ b _ y hs ht (objects_of k d e h) mb (numbers_are _ t _ y)
  logical_same _ t _ b _ y hs ht in_variant_empty mb = cc
  logical_same _ t _ b _ y hs ht (in_variant_boolean c) mb = cc
  logical_same _ t _ b _ y hs ht (in_variant_byte l h) mb = cc
  logical_same _ t _ b _ y hs ht (in_variant_integer w h) mb = cc
  logical_same _ t _ b _ y hs ht (in_variant_long w h) mb = cc
  logical_same _ t _ b _ y hs ht (in_variant_currency w m c h d) mb = cc
  logical_same _ t _ b _ y hs ht (in_variant_text more) mb = cc
