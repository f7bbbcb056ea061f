-- What is read at a place is the longest token there; where none is read, none stands there or its value can't be held.
use Rattle.std.proofs.Common.{◌≡◌, ℕ, suc, ◌+◌, ◌≤◌, ◌==◌, ◌&&◌, ◌||◌, not, Bool, true, false, if◌then◌else◌, nat_lt, Option, Some, None, option_map, ◌⊎◌, inl, inr, List, [], ◌∷◌, ◌++◌, length, take, drop, arith, refl, ap, subst, sym, ◌∙◌, append_assoc, length-append}
use Rattle.std.specs.List.{list_all}
use Rattle.std.proofs.Math.Seq.{take-add}
use Rattle.std.proofs.lemmas.Bool.Decides.{nat_tests}
use Rattle.vb_tree.specs.declared.token.Literal6.TheVariants as literal
use Rattle.vb_tree.specs.declared.token.Sign.{Sign}
use Rattle.vb_tree.specs.declared.token.TokenKind.{TokenKind}
use Rattle.vb_tree.specs.declared.token.TokenKind.TheVariants as kind
use Rattle.vb_tree.specs.Tokens.{is_letter, is_digit, is_line_end, run, begins, longer, text_from, behind_quote, text_at, is_date_unit, is_paired, date_units, is_date, single_sign, double_sign, sign_or, sign_at, radix_digits, decimal_at, bracketed_at, token_at}
use Rattle.vb_tree.specs.TokenClasses.{text, date, sign_of_one, sign_of_two, doubled, spelling, kind_of, IsLongest, BeginsNone}
use Rattle.vb_lexer.proofs.Runs.{both_true, run_all}
use Rattle.token_laws.proofs.Lengths.{Reaches, length_at, word_read, decimal_read, radix_read, is_bracketed, bracketed_read}
use Rattle.token_laws.proofs.LongestTokens.{both_are}
use Rattle.token_laws.proofs.LongestOthers.{stands_reaches}
use Rattle.token_laws.proofs.TokenShapes.{IsRead, take_drop, run_length, word_is_read, bracketed_is_read}
use Rattle.token_laws.proofs.NumberShapes.{decimal_is_read, radix_is_read}

-- Texts

-- the units begin with a text that is spelt so, and what follows it begins with no quote
record IsText (units inside : List ℕ) (count : ℕ) : Type 0 where
  pub rest : List ℕ
  pub spelt : units ≡ doubled inside ++ (34 ∷ rest)
  pub closed : begins (λ c. c == 34) rest ≡ false
  pub one_line : list_all (λ c. not (is_line_end c)) inside ≡ true
  pub size : length (doubled inside) + 1 ≡ count

longer_of : (c n : ℕ) (found : Option (List ℕ × ℕ)) (inside : List ℕ) (count : ℕ) → longer c n found ≡ Some (inside, count)
    → (tail : List ℕ) × (k : ℕ) × (found ≡ Some (tail, k)) × (c ∷ tail ≡ inside) × (n + k ≡ count)
longer_of c n None inside count e = absurd cc
longer_of c n (Some x) inside count e =
    let pair : (c ∷ x.0, n + x.1) ≡ (inside, count) = cc in
    (x.0, x.1, refl, ap (λ (y : List ℕ × ℕ). y.0) pair, ap (λ (y : List ℕ × ℕ). y.1) pair)

with_plain : (c : ℕ) (cs tail : List ℕ) (k : ℕ) → (c == 34) ≡ false → is_line_end c ≡ false → IsText cs tail k → IsText (c ∷ cs) (c ∷ tail) (1 + k)
with_plain c cs tail k q e t =
    let plain : c ∷ doubled tail ≡ doubled (c ∷ tail) = rw (q, doubled) refl in
    let line : not (is_line_end c) ≡ true = rw e refl in
    let size : suc (length (doubled tail)) + 1 ≡ 1 + k = let size_of : length (doubled tail) + 1 ≡ k = t.size in omega arith in
    record {
      rest = t.rest;
      spelt = ap (λ (u : List ℕ). c ∷ u) t.spelt ∙ ap (λ (u : List ℕ). u ++ (34 ∷ t.rest)) plain;
      closed = t.closed;
      one_line = both_are line t.one_line;
      size = subst (λ (u : List ℕ). length u + 1 ≡ 1 + k) plain size;
    }

with_quote : (c d : ℕ) (cs tail : List ℕ) (k : ℕ) → (c == 34) ≡ true → (d == 34) ≡ true → IsText cs tail k → IsText (c ∷ d ∷ cs) (34 ∷ tail) (2 + k)
with_quote c d cs tail k p q t =
    let first : c ≡ 34 = grind (arith, nat_tests) in
    let second : d ≡ 34 = grind (arith, nat_tests) in
    let quotes : c ∷ d ∷ cs ≡ 34 ∷ 34 ∷ cs = ap (λ (x : ℕ). x ∷ d ∷ cs) first ∙ ap (λ (x : ℕ). 34 ∷ x ∷ cs) second in
    let size_of : length (doubled tail) + 1 ≡ k = t.size in
    record {
      rest = t.rest;
      spelt = quotes ∙ ap (λ (u : List ℕ). 34 ∷ 34 ∷ u) t.spelt;
      closed = t.closed;
      one_line = t.one_line;
      size = omega arith;
    }

-- a quote that closes a text, at the front of units that no quote follows
closing : (c : ℕ) (cs : List ℕ) → (c == 34) ≡ true → begins (λ d. d == 34) cs ≡ false → IsText (c ∷ cs) [] 1
closing c cs q h =
    let same : c ≡ 34 = grind (arith, nat_tests) in
    record { rest = cs; spelt = ap (λ (d : ℕ). d ∷ cs) same; closed = h; one_line = refl; size = refl }

retold : (units inside tail : List ℕ) (count k : ℕ) → tail ≡ inside → k ≡ count → IsText units tail k → IsText units inside count
retold units inside tail count k p q t = subst (λ (u : List ℕ). IsText units u count) p (subst (IsText units tail) q t)

text_of : (units inside : List ℕ) (count : ℕ) → text_from units ≡ Some (inside, count) → IsText units inside count
text_of [] inside count e = absurd cc
text_of (c ∷ []) inside count e = alone (c == 34) (is_line_end c) refl refl e
  where
    alone : (p q : Bool) → (c == 34) ≡ p → is_line_end c ≡ q
        → ◌≡◌ {A = Option (List ℕ × ℕ)} (elim p [ true ↦ behind_quote [] | false ↦ elim q [ true ↦ None | false ↦ longer c 1 (text_from []) ] ]) (Some (inside, count)) → IsText (c ∷ []) inside count
    alone true q a b h =
        let pair : ([], 1) ≡ (inside, count) = cc in
        retold (c ∷ []) inside [] count 1 (ap (λ (y : List ℕ × ℕ). y.0) pair) (ap (λ (y : List ℕ × ℕ). y.1) pair) (closing c [] a refl)
    alone false true a b h = absurd cc
    alone false false a b h = absurd cc
text_of (c ∷ d ∷ ds) inside count e = more (text_of (d ∷ ds)) (text_of ds) (c == 34) (is_line_end c) (d == 34) refl refl refl e
  where
    more : ((t : List ℕ) (n : ℕ) → text_from (d ∷ ds) ≡ Some (t, n) → IsText (d ∷ ds) t n) → ((t : List ℕ) (n : ℕ) → text_from ds ≡ Some (t, n) → IsText ds t n)
        → (p q r : Bool) → (c == 34) ≡ p → is_line_end c ≡ q → (d == 34) ≡ r
        → ◌≡◌ {A = Option (List ℕ × ℕ)} (elim p [ true ↦ elim r [ true ↦ longer 34 2 (text_from ds) | false ↦ Some ([], 1) ] | false ↦ elim q [ true ↦ None | false ↦ longer c 1 (text_from (d ∷ ds)) ] ]) (Some (inside, count))
        → IsText (c ∷ d ∷ ds) inside count
    more one two true q true a b x h =
        let found = longer_of 34 2 (text_from ds) inside count h in
        retold (c ∷ d ∷ ds) inside (34 ∷ found.0) count (2 + found.1) found.3 found.4 (with_quote c d ds found.0 found.1 a x (two found.0 found.1 found.2))
    more one two true q false a b x h =
        let pair : ([], 1) ≡ (inside, count) = cc in
        retold (c ∷ d ∷ ds) inside [] count 1 (ap (λ (y : List ℕ × ℕ). y.0) pair) (ap (λ (y : List ℕ × ℕ). y.1) pair) (closing c (d ∷ ds) a x)
    more one two false true r a b x h = absurd cc
    more one two false false r a b x h =
        let found = longer_of c 1 (text_from (d ∷ ds)) inside count h in
        retold (c ∷ d ∷ ds) inside (c ∷ found.0) count (1 + found.1) found.3 found.4 (with_plain c (d ∷ ds) found.0 found.1 a b (one found.0 found.1 found.2))

at_quote : (units : List ℕ) → token_at (34 ∷ units) ≡ text_at units
unfolding token_at
at_quote units = refl

text_is_read : (units : List ℕ) (found : List ℕ × ℕ) → text_from units ≡ Some found → IsRead (34 ∷ units) (1 + found.1)
unfolding text_at
text_is_read units found e =
    let t : IsText units found.0 found.1 = text_of units found.0 found.1 e in
    let size : length (doubled found.0) + 1 ≡ found.1 = t.size in
    record {
      shape = text found.0;
      stands = record {
        after = t.rest;
        spelt = ap (λ (u : List ℕ). 34 ∷ u) (t.spelt ∙ sym (append_assoc (doubled found.0) (34 ∷ []) t.rest));
        shaped = (t.one_line, t.closed);
      };
      size = simp length-append (omega arith);
      value = at_quote units ∙ ap (option_map (λ x. (kind.Lit (literal.Str x.0), 1 + x.1))) e;
    }

no_text : (units : List ℕ) → text_from units ≡ None → token_at (34 ∷ units) ≡ None
unfolding text_at
no_text units e = at_quote units ∙ ap (option_map (λ x. (kind.Lit (literal.Str x.0), 1 + x.1))) e

-- Dates

past_unit : (k : ℕ) (units : List ℕ) → begins (λ c. c == k) units ≡ true → units ≡ k ∷ drop 1 units
past_unit k [] h = absurd cc
past_unit k (c ∷ cs) h = let same : c ≡ k = grind (arith, nat_tests) in ap (λ (d : ℕ). d ∷ cs) same

at_hash : (units : List ℕ) → is_date units ≡ true → token_at (35 ∷ units) ≡ Some (kind.Lit literal.Date, date_units units + 2)
unfolding token_at
at_hash units h = rw h refl

date_is_read : (units : List ℕ) → is_date units ≡ true → IsRead (35 ∷ units) (date_units units + 2)
unfolding is_date
date_is_read units h =
    let n : ℕ = run is_date_unit units in
    let inside : List ℕ = take n units in
    let parts = both_true (begins (λ c. c == 35) (drop n units)) (is_paired false (take (n + 1) units)) h in
    let behind : List ℕ = drop 1 (drop n units) in
    let closed : drop n units ≡ 35 ∷ behind = past_unit 35 (drop n units) parts.0 in
    let front : take (n + 1) units ≡ inside ++ 35 ∷ [] = take-add n 1 units ∙ ap (λ (u : List ℕ). inside ++ take 1 u) closed in
    let spelt : units ≡ (inside ++ 35 ∷ []) ++ behind =
    sym (take_drop n units) ∙ ap (λ (u : List ℕ). inside ++ u) closed ∙ sym (append_assoc inside (35 ∷ []) behind) in
    let count : length inside ≡ n = run_length is_date_unit units in
    record {
      shape = date inside;
      stands = record {
        after = behind;
        spelt = ap (λ (u : List ℕ). 35 ∷ u) spelt;
        shaped = (run_all is_date_unit units, sym (ap (is_paired false) front) ∙ parts.1);
      };
      size = simp length-append (omega arith);
      value = at_hash units h;
    }

-- Signs

-- a sign is read where the token is that of the signs
sign_is_read : (units : List ℕ) (x : TokenKind × ℕ) → token_at units ≡ sign_at units → sign_at units ≡ Some x → IsRead units x.1
unfolding sign_at
sign_is_read [] x t e = absurd cc
sign_is_read (c ∷ []) x t e = go (single_sign c) refl e
  where
    go : (s : Option Sign) → single_sign c ≡ s → sign_or s 1 None ≡ Some x → IsRead (c ∷ []) x.1
    go None q h = absurd cc
    go (Some s) q h =
        let pair : (kind.Sign s, 1) ≡ x = cc in
        let count : 1 ≡ x.1 = ap (λ (y : TokenKind × ℕ). y.1) pair in
        subst (IsRead (c ∷ [])) count (record {
          shape = sign_of_one c;
          stands = record { after = []; spelt = refl; shaped = rw q refl };
          size = refl;
          value = t ∙ ap (λ (r : Option Sign). sign_or r 1 None) q ∙ sym (ap (λ (r : Option Sign). option_map (λ k. (k, 1)) (option_map kind.Sign r)) q);
        })
sign_is_read (c ∷ d ∷ units) x t e = go (double_sign c d) (single_sign c) refl refl e
  where
    go : (r s : Option Sign) → double_sign c d ≡ r → single_sign c ≡ s → sign_or r 2 (sign_or s 1 None) ≡ Some x → IsRead (c ∷ d ∷ units) x.1
    go None None p q h = absurd cc
    go None (Some s) p q h =
        let pair : (kind.Sign s, 1) ≡ x = cc in
        let count : 1 ≡ x.1 = ap (λ (y : TokenKind × ℕ). y.1) pair in
        subst (IsRead (c ∷ d ∷ units)) count (record {
          shape = sign_of_one c;
          stands = record { after = d ∷ units; spelt = refl; shaped = rw q refl };
          size = refl;
          value = t ∙ ap (λ (r : Option Sign). sign_or r 2 (sign_or (single_sign c) 1 None)) p ∙ ap (λ (r : Option Sign). sign_or r 1 None) q
              ∙ sym (ap (λ (r : Option Sign). option_map (λ k. (k, 1)) (option_map kind.Sign r)) q);
        })
    go (Some r) s p q h =
        let pair : (kind.Sign r, 2) ≡ x = cc in
        let count : 2 ≡ x.1 = ap (λ (y : TokenKind × ℕ). y.1) pair in
        subst (IsRead (c ∷ d ∷ units)) count (record {
          shape = sign_of_two c d;
          stands = record { after = units; spelt = refl; shaped = rw p refl };
          size = refl;
          value = t ∙ ap (λ (o : Option Sign). sign_or o 2 (sign_or (single_sign c) 1 None)) p
              ∙ sym (ap (λ (o : Option Sign). option_map (λ k. (k, 2)) (option_map kind.Sign o)) p);
        })

-- Each place

-- what is read has the length that is read, and is none where there is no length
pub IsKnown : List ℕ → Option ℕ → Type 0
IsKnown units None = token_at units ≡ None
IsKnown units (Some n) = IsRead units n

known_sign : (units : List ℕ) → token_at units ≡ sign_at units → (found : Option (TokenKind × ℕ)) → sign_at units ≡ found → IsKnown units (option_map (λ x. x.1) found)
unfolding IsKnown
known_sign units t None e = t ∙ e
known_sign units t (Some x) e = sign_is_read units x t e

known_text : (units : List ℕ) (found : Option (List ℕ × ℕ)) → text_from units ≡ found → IsKnown (34 ∷ units) (option_map (λ x. 1 + x.1) found)
unfolding IsKnown
known_text units None e = no_text units e
known_text units (Some x) e = text_is_read units x e

no_bracket : (units : List ℕ) → is_bracketed units ≡ false → token_at (91 ∷ units) ≡ None
unfolding token_at bracketed_at
no_bracket units h = rw h refl

known_bracket : (units : List ℕ) (b : Bool) → is_bracketed units ≡ b → IsKnown (91 ∷ units) (if b then Some (bracketed_read units) else None)
unfolding IsKnown
known_bracket units true e = bracketed_is_read units e
known_bracket units false e = no_bracket units e

known_word : (c : ℕ) (units : List ℕ) → is_letter c ≡ true → IsKnown (c ∷ units) (length_at (c ∷ units))
unfolding IsKnown length_at
known_word c units h = let len : length_at (c ∷ units) ≡ Some (word_read (c ∷ units)) = rw h refl in subst (IsKnown (c ∷ units)) (sym len) (word_is_read c units h)

known_decimal : (c : ℕ) (units : List ℕ) → is_letter c ≡ false → (is_digit c || (c == 46 && begins is_digit units)) ≡ true → IsKnown (c ∷ units) (length_at (c ∷ units))
unfolding IsKnown length_at token_at
known_decimal c units l d =
    let len : length_at (c ∷ units) ≡ Some (decimal_read (c ∷ units)) = rw (l, d) refl in
    let read : token_at (c ∷ units) ≡ decimal_at (c ∷ units) = rw (l, d) refl in
    subst (IsKnown (c ∷ units)) (sym len) (decimal_is_read c units d read)

known_radix : (units : List ℕ) → nat_lt 0 (radix_digits units) ≡ true → IsKnown (38 ∷ units) (length_at (38 ∷ units))
unfolding IsKnown length_at
known_radix units h = let len : length_at (38 ∷ units) ≡ Some (radix_read units) = rw h refl in subst (IsKnown (38 ∷ units)) (sym len) (radix_is_read units h)

known_date : (units : List ℕ) → is_date units ≡ true → IsKnown (35 ∷ units) (length_at (35 ∷ units))
unfolding IsKnown length_at
known_date units h = let len : length_at (35 ∷ units) ≡ Some (date_units units + 2) = rw h refl in subst (IsKnown (35 ∷ units)) (sym len) (date_is_read units h)

known_quote : (units : List ℕ) → IsKnown (34 ∷ units) (length_at (34 ∷ units))
unfolding length_at
known_quote units = known_text units (text_from units) refl

known_open : (units : List ℕ) → IsKnown (91 ∷ units) (length_at (91 ∷ units))
unfolding length_at
known_open units = known_bracket units (is_bracketed units) refl

known_other : (c : ℕ) (units : List ℕ) → is_letter c ≡ false → (is_digit c || (c == 46 && begins is_digit units)) ≡ false → (c == 34) ≡ false → (c == 91) ≡ false
    → (c == 38 && nat_lt 0 (radix_digits units)) ≡ false → (c == 35 && is_date units) ≡ false → IsKnown (c ∷ units) (length_at (c ∷ units))
unfolding length_at token_at
known_other c units l d q b r h =
    let len : length_at (c ∷ units) ≡ option_map (λ x. x.1) (sign_at (c ∷ units)) = rw (l, d, q, b, r, h) refl in
    let read : token_at (c ∷ units) ≡ sign_at (c ∷ units) = rw (l, d, q, b, r, h) refl in
    subst (IsKnown (c ∷ units)) (sym len) (known_sign (c ∷ units) read (sign_at (c ∷ units)) refl)

at_unit : (c k : ℕ) (units : List ℕ) → (c == k) ≡ true → IsKnown (k ∷ units) (length_at (k ∷ units)) → IsKnown (c ∷ units) (length_at (c ∷ units))
at_unit c k units e h = let same : c ≡ k = grind (arith, nat_tests) in subst (λ (d : ℕ). IsKnown (d ∷ units) (length_at (d ∷ units))) (sym same) h

known_none : IsKnown [] (length_at [])
unfolding IsKnown length_at token_at
known_none = refl

pub known : (units : List ℕ) → IsKnown units (length_at units)
known [] = known_none
known (c ∷ units) =
    go (is_letter c) (is_digit c || (c == 46 && begins is_digit units)) (c == 34) (c == 91) (c == 38 && nat_lt 0 (radix_digits units)) (c == 35 && is_date units) refl refl refl refl refl refl
  where
    go : (l d q b r h : Bool) → is_letter c ≡ l → (is_digit c || (c == 46 && begins is_digit units)) ≡ d → (c == 34) ≡ q → (c == 91) ≡ b
        → (c == 38 && nat_lt 0 (radix_digits units)) ≡ r → (c == 35 && is_date units) ≡ h → IsKnown (c ∷ units) (length_at (c ∷ units))
    go true d q b r h l e f g i j = known_word c units l
    go false true q b r h l e f g i j = known_decimal c units l e
    go false false true b r h l e f g i j = at_unit c 34 units f (known_quote units)
    go false false false true r h l e f g i j = at_unit c 91 units g (known_open units)
    go false false false false true h l e f g i j = let parts = both_true (c == 38) (nat_lt 0 (radix_digits units)) i in at_unit c 38 units parts.0 (known_radix units parts.1)
    go false false false false false true l e f g i j = let parts = both_true (c == 35) (is_date units) j in at_unit c 35 units parts.0 (known_date units parts.1)
    go false false false false false false l e f g i j = known_other c units l e f g i j

-- The token at a place is the longest one that stands there, or none stands there.
pub longest_or_none : (units : List ℕ) → IsLongest units (token_at units) ⊎ ((token_at units ≡ None) × BeginsNone units)
unfolding IsKnown
longest_or_none units = go (length_at units) refl (known units)
  where
    go : (n : Option ℕ) → length_at units ≡ n → IsKnown units n → IsLongest units (token_at units) ⊎ ((token_at units ≡ None) × BeginsNone units)
    go None e k = inr (k, λ shape stands. let far : Reaches units (length (spelling shape)) = stands_reaches units shape stands in let no : None ≡ Some far.read = sym e ∙ far.there in cc)
    go (Some n) e k = inl (record {
      shape = k.shape;
      stands = k.stands;
      longest = λ other stands.
          let far : Reaches units (length (spelling other)) = stands_reaches units other stands in
          let same : Some n ≡ Some far.read = sym e ∙ far.there in
          let number : n ≡ far.read = cc in
          let size : length (spelling k.shape) ≡ n = k.size in
          let reach : length (spelling other) ≤ far.read = far.far in
          omega arith;
      value = subst (λ (m : ℕ). token_at units ≡ option_map (λ x. (x, m)) (kind_of k.shape)) (sym k.size) k.value;
    })
