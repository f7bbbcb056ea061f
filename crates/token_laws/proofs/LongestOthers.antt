-- No text, date or sign at a place is longer than what is read there, and so no token at all.
use Rattle.std.proofs.Common.{◌≡◌, ℕ, suc, ◌+◌, ◌≤◌, ◌==◌, ◌&&◌, ◌||◌, not, Bool, true, false, if◌then◌else◌, nat_lt, is_some, Option, Some, None, option_map, inl, inr, List, [], ◌∷◌, ◌++◌, length, take, drop, arith, refl, ap, subst, sym, ◌∙◌, append_assoc, length-append}
use Rattle.std.specs.List.{list_all}
use Rattle.std.proofs.lemmas.Bool.Decides.{nat_tests}
use Rattle.vb_tree.specs.declared.token.Sign.{Sign}
use Rattle.vb_tree.specs.declared.token.Sign.TheVariants as sign
use Rattle.vb_tree.specs.declared.token.TokenKind.{TokenKind}
use Rattle.vb_tree.specs.Tokens.{is_digit, is_line_end, run, begins, longer, text_from, behind_quote, is_date_unit, is_paired, date_units, is_date, single_sign, double_sign, sign_or, sign_at, radix_digits}
use Rattle.vb_tree.specs.TokenClasses.{Shape, word, bracketed, decimal, radix, text, date, sign_of_one, sign_of_two, doubled, spelling, IsShape, Stands}
use Rattle.vb_lexer.proofs.Runs.{both_true}
use Rattle.token_laws.proofs.Lengths.{Reaches, length_at, decimal_read, radix_read}
use Rattle.token_laws.proofs.LongestTokens.{run_covers, drop_front, word_reaches, bracketed_reaches}
use Rattle.token_laws.proofs.LongestNumbers.{decimal_reaches, radix_reaches}
use Rattle.up_base.proofs.Tests.{either, not_true}

-- Texts

closes : (after : List ℕ) → begins (λ c. c == 34) after ≡ false → behind_quote after ≡ Some ([], 1)
closes [] h = refl
closes (c ∷ cs) h = rw (h, behind_quote) refl

plain_unit : (c : ℕ) (cs : List ℕ) → (c == 34) ≡ false → is_line_end c ≡ false → text_from (c ∷ cs) ≡ longer c 1 (text_from cs)
plain_unit c cs h e = rw (h, e, text_from) refl

plain_doubled : (c : ℕ) (cs : List ℕ) → (c == 34) ≡ false → doubled (c ∷ cs) ≡ c ∷ doubled cs
plain_doubled c cs h = rw (h, doubled) refl

text_exact : (units after : List ℕ) → list_all (λ c. not (is_line_end c)) units ≡ true → begins (λ c. c == 34) after ≡ false
    → text_from (doubled units ++ (34 ∷ after)) ≡ Some (units, length (doubled units) + 1)
text_exact [] after h e = closes after e
text_exact (c ∷ cs) after h e =
    let parts = both_true (not (is_line_end c)) (list_all (λ d. not (is_line_end d)) cs) h in
    go (text_exact cs after parts.1 e) (not_true (is_line_end c) parts.0) (c == 34) refl
  where
    go : text_from (doubled cs ++ (34 ∷ after)) ≡ Some (cs, length (doubled cs) + 1) → is_line_end c ≡ false → (b : Bool) → (c == 34) ≡ b
        → text_from (doubled (c ∷ cs) ++ (34 ∷ after)) ≡ Some (c ∷ cs, length (doubled (c ∷ cs)) + 1)
    go rest line true quote =
        let same : c ≡ 34 = grind (arith, nat_tests) in
        let number : 2 + (length (doubled cs) + 1) ≡ suc (suc (length (doubled cs))) + 1 = omega arith in
        let there : text_from (doubled (34 ∷ cs) ++ (34 ∷ after)) ≡ Some (34 ∷ cs, length (doubled (34 ∷ cs)) + 1) =
        ap (longer 34 2) rest ∙ ap (λ (n : ℕ). Some (34 ∷ cs, n)) number in
        subst (λ (d : ℕ). text_from (doubled (d ∷ cs) ++ (34 ∷ after)) ≡ Some (d ∷ cs, length (doubled (d ∷ cs)) + 1)) (sym same) there
    go rest line false quote =
        let plain : doubled (c ∷ cs) ≡ c ∷ doubled cs = plain_doubled c cs quote in
        let number : 1 + (length (doubled cs) + 1) ≡ suc (length (doubled cs)) + 1 = omega arith in
        let there : text_from ((c ∷ doubled cs) ++ (34 ∷ after)) ≡ Some (c ∷ cs, length (c ∷ doubled cs) + 1) =
        plain_unit c (doubled cs ++ (34 ∷ after)) quote line ∙ ap (longer c 1) rest ∙ ap (λ (n : ℕ). Some (c ∷ cs, n)) number in
        subst (λ (u : List ℕ). text_from (u ++ (34 ∷ after)) ≡ Some (c ∷ cs, length u + 1)) (sym plain) there

at_quote : (units : List ℕ) → length_at (34 ∷ units) ≡ option_map (λ x. 1 + x.1) (text_from units)
unfolding length_at
at_quote units = refl

text_reaches : (units after : List ℕ) → IsShape (text units) after → Reaches (spelling (text units) ++ after) (length (spelling (text units)))
text_reaches units after h =
    let grouped : (doubled units ++ 34 ∷ []) ++ after ≡ doubled units ++ (34 ∷ after) = append_assoc (doubled units) (34 ∷ []) after in
    record {
      read = 1 + (length (doubled units) + 1);
      there = ap (λ (u : List ℕ). length_at (34 ∷ u)) grouped ∙ at_quote (doubled units ++ (34 ∷ after)) ∙ ap (option_map (λ x. 1 + x.1)) (text_exact units after h.0 h.1);
      far = simp length-append (omega arith);
    }

-- Dates

take_past : (front : List ℕ) (c : ℕ) (more : List ℕ) → take (length front + 1) (front ++ (c ∷ more)) ≡ front ++ c ∷ []
take_past [] c more = refl
take_past (d ∷ front) c more =
    let e : suc (length front + 1) ≡ suc (length front) + 1 = omega arith in
    sym (ap (λ (n : ℕ). take n ((d ∷ front) ++ (c ∷ more))) e) ∙ ap (λ (u : List ℕ). d ∷ u) (take_past front c more)

date_read : (units after : List ℕ) → IsShape (date units) after → (is_date (units ++ (35 ∷ after)) ≡ true) × (date_units (units ++ (35 ∷ after)) ≡ length units)
unfolding is_date
date_read units after h =
    let u : List ℕ = units ++ (35 ∷ after) in
    let covers : run is_date_unit u ≡ length units + 0 = run_covers is_date_unit units (35 ∷ after) h.0 in
    let exact : run is_date_unit u ≡ length units = omega arith in
    let closed : begins (λ c. c == 35) (drop (length units) u) ≡ true = ap (begins (λ c. c == 35)) (drop_front units (35 ∷ after)) in
    let paired : is_paired false (take (length units + 1) u) ≡ true = ap (is_paired false) (take_past units 35 after) ∙ h.1 in
    let both : (begins (λ c. c == 35) (drop (length units) u) && is_paired false (take (length units + 1) u)) ≡ true = rw (closed, paired) refl in
    (subst (λ (n : ℕ). (begins (λ c. c == 35) (drop n u) && is_paired false (take (n + 1) u)) ≡ true) (sym exact) both, exact)

at_hash : (units : List ℕ) → is_date units ≡ true → length_at (35 ∷ units) ≡ Some (date_units units + 2)
unfolding length_at
at_hash units h = rw h refl

date_reaches : (units after : List ℕ) → IsShape (date units) after → Reaches (spelling (date units) ++ after) (length (spelling (date units)))
date_reaches units after h =
    let grouped : (units ++ 35 ∷ []) ++ after ≡ units ++ (35 ∷ after) = append_assoc units (35 ∷ []) after in
    let read = date_read units after h in
    let exact : date_units (units ++ (35 ∷ after)) ≡ length units = read.1 in
    record {
      read = date_units (units ++ (35 ∷ after)) + 2;
      there = ap (λ (u : List ℕ). length_at (35 ∷ u)) grouped ∙ at_hash (units ++ (35 ∷ after)) read.0;
      far = simp length-append (omega arith);
    }

-- Signs of two units

begins_two : (a b c d e : Bool) → is_some (if a && d then Some sign.LessEqual else if b && d then Some sign.GreaterEqual else if a && e then Some sign.NotEqual else if c && d then Some sign.ColonEqual else None) ≡ true → (a || b || c) ≡ true
begins_two true b c d e h = refl
begins_two false true c d e h = refl
begins_two false false true d e h = refl
begins_two false false false d e h = absurd cc

first_at : (P : ℕ → Type 0) (c k : ℕ) → (c == k) ≡ true → P k → P c
first_at P c k e h = let same : c ≡ k = grind (arith, nat_tests) in subst P (sym same) h

at_two : (c d : ℕ) (after : List ℕ) → (c == 60 || c == 62 || c == 58) ≡ true → length_at (c ∷ d ∷ after) ≡ option_map (λ x. x.1) (sign_at (c ∷ d ∷ after))
unfolding length_at
at_two c d after h =
    let P : ℕ → Type 0 = λ k. length_at (k ∷ d ∷ after) ≡ option_map (λ x. x.1) (sign_at (k ∷ d ∷ after)) in
    elim (either (c == 60 || c == 62) (c == 58) h) [
      | inr e ↦ first_at P c 58 e refl
      | inl g ↦ elim (either (c == 60) (c == 62) g) [ inl e ↦ first_at P c 60 e refl | inr e ↦ first_at P c 62 e refl ]
    ]

sign_length : (s : Option Sign) (n : ℕ) (other : Option (TokenKind × ℕ)) → is_some s ≡ true → option_map (λ x. x.1) (sign_or s n other) ≡ Some n
sign_length None n other h = absurd cc
sign_length (Some s) n other h = refl

two_long : (c d : ℕ) (after : List ℕ) → is_some (double_sign c d) ≡ true → option_map (λ x. x.1) (sign_at (c ∷ d ∷ after)) ≡ Some 2
unfolding sign_at
two_long c d after h = sign_length (double_sign c d) 2 _ h

sign_of_two_reaches : (c d : ℕ) (after : List ℕ) → IsShape (sign_of_two c d) after → Reaches (spelling (sign_of_two c d) ++ after) (length (spelling (sign_of_two c d)))
sign_of_two_reaches c d after h =
    let first : (c == 60 || c == 62 || c == 58) ≡ true = begins_two (c == 60) (c == 62) (c == 58) (d == 61) (d == 62) h in
    record { read = 2; there = at_two c d after first ∙ two_long c d after h; far = omega arith }

-- Signs of one unit

at_least_one : (s : Option Sign) → is_some s ≡ true → option_map (λ x. x.1) (sign_or s 1 None) ≡ Some 1
at_least_one s h = sign_length s 1 None h

-- what a sign of one unit reads: one unit or two
sign_read : (c : ℕ) (after : List ℕ) → is_some (single_sign c) ≡ true → (m : ℕ) × (option_map (λ x. x.1) (sign_at (c ∷ after)) ≡ Some m) × (1 ≤ m)
unfolding sign_at
sign_read c [] h = (1, sign_length (single_sign c) 1 None h, omega arith)
sign_read c (d ∷ after) h = go (double_sign c d)
  where
    go : (s : Option Sign) → (m : ℕ) × (option_map (λ x. x.1) (sign_or s 2 (sign_or (single_sign c) 1 None)) ≡ Some m) × (1 ≤ m)
    go None = (1, sign_length (single_sign c) 1 None h, omega arith)
    go (Some s) = (2, refl, omega arith)

plain_sign : (c : ℕ) (after : List ℕ) → length_at (c ∷ after) ≡ option_map (λ x. x.1) (sign_at (c ∷ after)) → is_some (single_sign c) ≡ true → Reaches (c ∷ after) 1
plain_sign c after e h = let found = sign_read c after h in record { read = found.0; there = e ∙ found.1; far = found.2 }

dot_reaches : (after : List ℕ) → Reaches (46 ∷ after) 1
unfolding length_at
dot_reaches after = go (begins is_digit after) refl
  where
    go : (b : Bool) → begins is_digit after ≡ b → Reaches (46 ∷ after) 1
    go true e = record { read = decimal_read (46 ∷ after); there = rw e refl; far = omega arith }
    go false e = plain_sign 46 after (rw e refl) refl

ampersand_reaches : (after : List ℕ) → Reaches (38 ∷ after) 1
unfolding length_at
ampersand_reaches [] = plain_sign 38 [] refl refl
ampersand_reaches (d ∷ after) = go (nat_lt 0 (radix_digits (d ∷ after))) refl
  where
    go : (b : Bool) → nat_lt 0 (radix_digits (d ∷ after)) ≡ b → Reaches (38 ∷ d ∷ after) 1
    go true e = record { read = radix_read (d ∷ after); there = rw e refl; far = omega arith }
    go false e = plain_sign 38 (d ∷ after) (rw e refl) refl

hash_reaches : (after : List ℕ) → Reaches (35 ∷ after) 1
unfolding length_at
hash_reaches after = go (is_date after) refl
  where
    go : (b : Bool) → is_date after ≡ b → Reaches (35 ∷ after) 1
    go true e = record { read = date_units after + 2; there = rw e refl; far = omega arith }
    go false e = plain_sign 35 after (rw e refl) refl

-- one sign of the table, or a later one
pub sign_cases : (P : ℕ → Type 0) (c k : ℕ) (s : Sign) (others : Option Sign) → P k → (is_some others ≡ true → P c) → is_some (if c == k then Some s else others) ≡ true → P c
sign_cases P c k s others here later h = go (c == k) refl h
  where
    go : (b : Bool) → (c == k) ≡ b → is_some (if b then Some s else others) ≡ true → P c
    go true e t = first_at P c k e here
    go false e t = later t

sign_of_one_reaches : (c : ℕ) (after : List ℕ) → IsShape (sign_of_one c) after → Reaches (spelling (sign_of_one c) ++ after) (length (spelling (sign_of_one c)))
unfolding length_at
sign_of_one_reaches c after h =
    let P : ℕ → Type 0 = λ k. Reaches (k ∷ after) 1 in
    sign_cases P c 40 sign.OpenParen _ (plain_sign 40 after refl refl) (
    sign_cases P c 41 sign.CloseParen _ (plain_sign 41 after refl refl) (
    sign_cases P c 44 sign.Comma _ (plain_sign 44 after refl refl) (
    sign_cases P c 59 sign.Semicolon _ (plain_sign 59 after refl refl) (
    sign_cases P c 58 sign.Colon _ (plain_sign 58 after refl refl) (
    sign_cases P c 46 sign.Dot _ (dot_reaches after) (
    sign_cases P c 33 sign.Bang _ (plain_sign 33 after refl refl) (
    sign_cases P c 61 sign.Equal _ (plain_sign 61 after refl refl) (
    sign_cases P c 60 sign.Less _ (plain_sign 60 after refl refl) (
    sign_cases P c 62 sign.Greater _ (plain_sign 62 after refl refl) (
    sign_cases P c 43 sign.Plus _ (plain_sign 43 after refl refl) (
    sign_cases P c 45 sign.Minus _ (plain_sign 45 after refl refl) (
    sign_cases P c 42 sign.Star _ (plain_sign 42 after refl refl) (
    sign_cases P c 47 sign.Slash _ (plain_sign 47 after refl refl) (
    sign_cases P c 92 sign.Backslash _ (plain_sign 92 after refl refl) (
    sign_cases P c 94 sign.Caret _ (plain_sign 94 after refl refl) (
    sign_cases P c 38 sign.Ampersand _ (ampersand_reaches after) (
    sign_cases P c 35 sign.Hash _ (hash_reaches after) (
    λ none. absurd cc)))))))))))))))))) h

shape_reaches : (s : Shape) (after : List ℕ) → IsShape s after → Reaches (spelling s ++ after) (length (spelling s))
shape_reaches (word name s) after h = word_reaches name s after h
shape_reaches (bracketed name s) after h = bracketed_reaches name s after h
shape_reaches (decimal whole f e s) after h = decimal_reaches whole f e s after h
shape_reaches (radix letter digits s) after h = radix_reaches letter digits s after h
shape_reaches (text units) after h = text_reaches units after h
shape_reaches (date units) after h = date_reaches units after h
shape_reaches (sign_of_one c) after h = sign_of_one_reaches c after h
shape_reaches (sign_of_two c d) after h = sign_of_two_reaches c d after h

-- a token that stands at the front is read, or one that is as long
pub stands_reaches : (units : List ℕ) (s : Shape) → Stands units s → Reaches units (length (spelling s))
stands_reaches units s stands = subst (λ (u : List ℕ). Reaches u (length (spelling s))) (sym stands.spelt) (shape_reaches s stands.after stands.shaped)
