-- What is written for a constant gives a value that matches it.
use Rattle.std.proofs.Common.{◌≡◌, ℕ, zero, suc, ◌*◌, ◌-◌, ◌/◌, ◌%◌, ◌^◌, ◌<◌, ◌≤◌, arith, refl, sym, ◌∙◌, ap, append_assoc, Bool, true, false, ◌||◌, List, [], ◌∷◌, ◌++◌, ℤ, pos, negsuc, neg_ℤ, unsigned_abs, FitsSigned}
use Rattle.std.specs.Prelude.{◌==◌, if◌then◌else◌}
use Rattle.std.specs.Int.{w16, w32}
use Rattle.std.proofs.Math.Nat.{pow-suc}
use Rattle.std.proofs.lemmas.Int.{to_z-of_z}
use Rattle.std.proofs.lemmas.Bool.Decides.{nat_tests}
use Rattle.vb_tree.specs.declared.value.Value6.{Value6}
use Rattle.vb_tree.specs.declared.value.Value6.TheVariants as v
use Rattle.vb6_meaning.specs.Answers.{gives, raises, outside}
use Rattle.vb6_meaning.specs.Kinds.{fits}
use Rattle.vb6_meaning.specs.declared.number.NumberKind.TheVariants as kinds
use Rattle.vb6_meaning.proofs.Limits.{within}
use Rattle.net_tree.specs.Tree as tree
use Rattle.net_meaning.specs.declared.value.ValueN.TheVariants as n
use Rattle.net_meaning.specs.Operators.{minus}
use Rattle.net_meaning.specs.ValueMatch.{IsTenThousandths, booleans, bytes, integers, longs, currencies, texts}
use Rattle.net_meaning.specs.WrittenLiterals.{without_zeros, literal_value, Piece, quoted, unit, pieces_of, Pieces, behind, is_plain, joined, write_constant, is_within, is_negative, IsWrittenConstant}
use Rattle.meaning_laws.proofs.NetNumbers.{byte_limits}
use Rattle.meaning_laws.proofs.Operands.{currency_size}
use Rattle.meaning_laws.proofs.Currencies.{small_is_decimal}
use Rattle.meaning_laws.proofs.Products.{minus_scales}

-- whole numbers

short_given : (z : ℤ) (h : Bool) → fits kinds.Integer z ≡ true → literal_value (tree.short z h) ≡ n.Short z
short_given z false e = refl
short_given z true e =
    let small = within 32767 z e in
    let f : FitsSigned w16 z = record { sfits = omega (arith, small) } in ap n.Short (to_z-of_z w16 z f)

integer_given : (z : ℤ) (h : Bool) → fits kinds.Long z ≡ true → literal_value (tree.integer z h) ≡ n.Integer z
integer_given z false e = refl
integer_given z true e =
    let small = within 2147483647 z e in
    let f : FitsSigned w32 z = record { sfits = omega (arith, small) } in ap n.Integer (to_z-of_z w32 z f)

-- Currencies

record Shorter (scale digits : ℕ) : Type 0 where
  mantissa : ℕ
  left : ℕ
  is : without_zeros scale digits ≡ n.Decimal (pos mantissa) left
  most : left ≤ scale
  same : mantissa * 10 ^ (scale - left) ≡ digits

shorter : (scale digits : ℕ) → Shorter scale digits
shorter zero digits = record { mantissa = digits; left = 0; is = refl; most = omega arith; same = omega arith }
shorter (suc scale) digits = by_test (digits % 10 == 0) refl (shorter scale (digits / 10))
  where
    by_test : (b : Bool) → (digits % 10 == 0) ≡ b → Shorter scale (digits / 10) → Shorter (suc scale) digits
    by_test true e less =
        let last : digits % 10 ≡ 0 = grind (arith, nat_tests) in
        let whole : digits / 10 * 10 ≡ digits = omega (arith, last) in
        let steps : suc scale - less.left ≡ suc (scale - less.left) = (let le = less.most in omega (arith, le)) in
        let power = pow-suc 10 (scale - less.left) in
        let own = less.same in
        let times = ap (λ k. k * 10) own in
        record {
          mantissa = less.mantissa;
          left = less.left;
          is = ap (λ b. if b then without_zeros scale (digits / 10) else n.Decimal (pos digits) (suc scale)) e ∙ less.is;
          most = (let le = less.most in omega (arith, le));
          same = ap (λ k. less.mantissa * 10 ^ k) steps ∙ ap (λ k. less.mantissa * k) power ∙ omega (arith, times, whole);
        }
    by_test false e less = record {
      mantissa = digits;
      left = suc scale;
      is = ap (λ b. if b then without_zeros scale (digits / 10) else n.Decimal (pos digits) (suc scale)) e;
      most = omega arith;
      same = (let none : suc scale - suc scale ≡ 0 = omega arith in ap (λ k. digits * 10 ^ k) none ∙ omega arith);
    }

-- texts

append_nothing : (s : List ℕ) → s ++ [] ≡ s
append_nothing [] = refl
append_nothing (c ∷ s) = ap (λ t. c ∷ t) (append_nothing s)

abbrev text_of : List Piece → List ℕ
text_of [] = []
text_of (quoted run ∷ more) = run ++ text_of more
text_of (unit c ∷ more) = c ∷ text_of more

joined_given : (s : List ℕ) (more : List Piece) → joined (n.Str s) more ≡ gives (n.Str (s ++ text_of more))
joined_given s [] = ap (λ t. gives (n.Str t)) (sym (append_nothing s))
joined_given s (quoted run ∷ more) =
    let e : (s ++ run) ++ text_of more ≡ s ++ (run ++ text_of more) = append_assoc s run (text_of more) in joined_given (s ++ run) more ∙ ap (λ t. gives (n.Str t)) e
joined_given s (unit c ∷ more) =
    let e : (s ++ (c ∷ [])) ++ text_of more ≡ s ++ (c ∷ text_of more) = append_assoc s (c ∷ []) (text_of more) in joined_given (s ++ (c ∷ [])) more ∙ ap (λ t. gives (n.Str t)) e

behind_same : (run : List ℕ) (more : List Piece) → text_of (behind run more) ≡ run ++ text_of more
behind_same [] more = refl
behind_same (c ∷ run) more = refl

-- a unit in front, by whether it stands in quotes
abbrev made : Bool → ℕ → Pieces → Pieces
made b c p = if b then record { first = c ∷ p.first; more = p.more } else record { first = []; more = unit c ∷ behind p.first p.more }

made_same : (b : Bool) (c : ℕ) (p : Pieces) (units : List ℕ) → p.first ++ text_of p.more ≡ units → (made b c p).first ++ text_of (made b c p).more ≡ c ∷ units
made_same true c p units e = ap (λ t. c ∷ t) e
made_same false c p units e = ap (λ t. c ∷ t) (behind_same p.first p.more ∙ e)

pieces_same : (units : List ℕ) → (pieces_of units).first ++ text_of (pieces_of units).more ≡ units
pieces_same [] = refl
pieces_same (c ∷ units) = made_same (is_plain c) c (pieces_of units) units (pieces_same units)

-- all constants

pub constant : (are_same : ℕ → ℕ → Bool) (h : Bool) (a : Value6) → is_within a ≡ true → IsWrittenConstant are_same a (write_constant h a)
constant are_same h (v.Boolean b) e = (n.Boolean b, refl, booleans b)
constant are_same h (v.Byte m) e =
    (n.Byte m, ap (λ b. if b then gives (n.Byte m) else raises 6) (sym (byte_limits (pos m)) ∙ e), bytes m e)
constant are_same h (v.Int z) e = (n.Short z, ap gives (short_given z (h || is_negative z) e), integers z e)
constant are_same h (v.Long z) e = (n.Integer z, ap gives (integer_given z (h || is_negative z) e), longs z e)
constant are_same h (v.Cur (pos m)) e =
    let s = shorter 4 m in
    (n.Decimal (pos s.mantissa) s.left, ap gives s.is, currencies (pos m) (pos s.mantissa) s.left e (s.most, ap pos s.same))
constant are_same h (v.Cur (negsuc m)) e =
    let s = shorter 4 (suc m) in
    let size : unsigned_abs (pos (suc m)) < 2 ^ 96 = (let g = currency_size (negsuc m) e in omega (arith, g)) in
    let is : IsTenThousandths (pos (suc m)) (pos s.mantissa) s.left = (s.most, ap pos s.same) in (
      n.Decimal (neg_ℤ (pos s.mantissa)) s.left,
      ap minus s.is
          ∙ ap (λ b. if b then gives (n.Decimal (neg_ℤ (pos s.mantissa)) s.left) else outside) (small_is_decimal (pos (suc m)) (pos s.mantissa) s.left size is),
      currencies (negsuc m) (neg_ℤ (pos s.mantissa)) s.left e
          (s.most, minus_scales (pos s.mantissa) (10 ^ (4 - s.left)) ∙ ap neg_ℤ is.1),
    )
constant are_same h (v.Str units) e =
    (n.Str units, joined_given (pieces_of units).first (pieces_of units).more ∙ ap (λ t. gives (n.Str t)) (pieces_same units), texts units)
constant are_same h v.Nothing e = tt
constant are_same h (v.Object number) e = tt
constant are_same h v.Empty e = tt
