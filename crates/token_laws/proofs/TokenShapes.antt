-- What is read at a place is a token of its class.
use Rattle.std.proofs.Common.{◌≡◌, ℕ, zero, suc, ◌+◌, ◌<◌, ◌≤◌, ◌==◌, ◌&&◌, ◌||◌, Bool, true, false, if◌then◌else◌, nat_le, Option, Some, None, option_map, List, [], ◌∷◌, ◌++◌, length, take, drop, arith, refl, ap, subst, sym, ◌∙◌, append_assoc, length-append}
use Rattle.std.proofs.lemmas.List.{length-take-le}
use Rattle.std.proofs.lemmas.Bool.Decides.{nat_tests}
use Rattle.vb_tree.specs.declared.token.Suffix.{Suffix}
use Rattle.vb_tree.specs.declared.token.Suffix.TheVariants as suffix
use Rattle.vb_tree.specs.declared.token.TokenKind.{TokenKind}
use Rattle.vb_tree.specs.declared.token.TokenKind.TheVariants as kind
use Rattle.vb_tree.specs.Tokens.{is_letter, is_name_unit, run, begins, suffix_of, suffix_units, name_suffix, number_suffix, radix_suffix, named, word_at, bracketed_at, token_at}
use Rattle.vb_tree.specs.TokenClasses.{Shape, word, bracketed, unit_spelling, spelling, is_name, is_suffix, IsNameSuffix, IsNumberSuffix, IsRadixSuffix, Stands, suffix_named, name_kind, kind_of}
use Rattle.vb_lexer.proofs.Runs.{both_true, run_all, run_some}
use Rattle.vb_lexer.proofs.ReadingContents.{drop_more}
use Rattle.token_laws.proofs.Lengths.{word_read, is_bracketed, bracketed_read}
use Rattle.token_laws.proofs.LongestTokens.{both_are, suffix_is_unit}

-- a token of some shape stands at the front, of so many units, and is what is read there
pub record IsRead (units : List ℕ) (count : ℕ) : Type 0 where
  pub shape : Shape
  pub stands : Stands units shape
  pub size : length (spelling shape) ≡ count
  pub value : token_at units ≡ option_map (λ k. (k, count)) (kind_of shape)

pub take_drop : (n : ℕ) (units : List ℕ) → take n units ++ drop n units ≡ units
take_drop zero units = refl
take_drop (suc n) [] = refl
take_drop (suc n) (c ∷ cs) = ap (λ (u : List ℕ). c ∷ u) (take_drop n cs)

pub run_within : (p : ℕ → Bool) (units : List ℕ) → run p units ≤ length units
run_within p [] = omega arith
run_within p (c ∷ cs) = go (p c) (run_within p cs)
  where
    go : (b : Bool) → run p cs ≤ length cs → (if b then 1 + run p cs else 0) ≤ suc (length cs)
    go true h = omega arith
    go false h = omega arith

pub run_length : (p : ℕ → Bool) (units : List ℕ) → length (take (run p units) units) ≡ run p units
run_length p units = length-take-le (run p units) units (run_within p units)

-- Suffixes

-- the suffix at the front, as a unit or none, and what follows it
pub record SuffixSplit (after : List ℕ) (s : Suffix) (Is : Option ℕ → List ℕ → Type 0) : Type 0 where
  pub unit : Option ℕ
  pub rest : List ℕ
  pub spelt : after ≡ unit_spelling unit ++ rest
  pub shaped : Is unit rest
  pub named : suffix_named unit ≡ s
  pub units : length (unit_spelling unit) ≡ suffix_units s

none_of : (a b c d e f : Bool) → (a || b || c || d || e || f) ≡ false
    → (if a then suffix.Integer else if b then suffix.Long else if c then suffix.Currency else if d then suffix.Str else if e then suffix.Single else if f then suffix.Double else suffix.Absent) ≡ suffix.Absent
none_of true b c d e f h = absurd cc
none_of false true c d e f h = absurd cc
none_of false false true d e f h = absurd cc
none_of false false false true e f h = absurd cc
none_of false false false false true f h = absurd cc
none_of false false false false false true h = absurd cc
none_of false false false false false false h = refl

no_suffix : (c : ℕ) → is_suffix c ≡ false → suffix_of c ≡ suffix.Absent
no_suffix c h = none_of (c == 37) (c == 38) (c == 64) (c == 36) (c == 33) (c == 35) h

abbrev Unless : Bool → ℕ → Suffix
Unless b c = if b then suffix.Absent else suffix_of c

-- a unit that is a suffix unless a test forbids it
split_unless : (c : ℕ) (after : List ℕ) (bars : Bool) (Is : Option ℕ → List ℕ → Type 0)
    → ((rest : List ℕ) → Is None rest) → (is_suffix c ≡ true → bars ≡ false → Is (Some c) after) → SuffixSplit (c ∷ after) (Unless bars c) Is
split_unless c after bars Is none some = go bars refl (is_suffix c) refl
  where
    go : (b : Bool) → bars ≡ b → (d : Bool) → is_suffix c ≡ d → SuffixSplit (c ∷ after) (Unless b c) Is
    go true e d h = record { unit = None; rest = c ∷ after; spelt = refl; shaped = none (c ∷ after); named = refl; units = refl }
    go false e true h = record { unit = Some c; rest = after; spelt = refl; shaped = some h e; named = refl; units = sym (suffix_is_unit c h) }
    go false e false h =
        let absent : suffix.Absent ≡ suffix_of c = sym (no_suffix c h) in
        subst (λ (s : Suffix). SuffixSplit (c ∷ after) s Is) absent
        (record { unit = None; rest = c ∷ after; spelt = refl; shaped = none (c ∷ after); named = refl; units = refl })

pub split_name : (after : List ℕ) → SuffixSplit after (name_suffix after) IsNameSuffix
split_name [] = record { unit = None; rest = []; spelt = refl; shaped = tt; named = refl; units = refl }
split_name (c ∷ after) = split_unless c after (c == 33 && begins is_letter after) IsNameSuffix (λ rest. tt) (λ h e. (h, e))

pub split_number : (after : List ℕ) → SuffixSplit after (number_suffix after) (λ s rest. IsNumberSuffix s)
split_number [] = record { unit = None; rest = []; spelt = refl; shaped = tt; named = refl; units = refl }
split_number (c ∷ after) = split_unless c after (c == 36) (λ s rest. IsNumberSuffix s) (λ rest. tt) (λ h e. (h, e))

pub split_radix : (after : List ℕ) → SuffixSplit after (radix_suffix after) (λ s rest. IsRadixSuffix s)
split_radix [] = record { unit = None; rest = []; spelt = refl; shaped = tt; named = refl; units = refl }
split_radix (c ∷ after) = go (c == 37) (c == 38) refl refl
  where
    Here : Type 0
    Here = SuffixSplit (c ∷ after) (radix_suffix (c ∷ after)) (λ s rest. IsRadixSuffix s)

    go : (a b : Bool) → (c == 37) ≡ a → (c == 38) ≡ b → SuffixSplit (c ∷ after) (if a || b then suffix_of c else suffix.Absent) (λ s rest. IsRadixSuffix s)
    go true b e f = record { unit = Some c; rest = after; spelt = refl; shaped = rw e refl; named = refl; units = rw e refl }
    go false true e f = record { unit = Some c; rest = after; spelt = refl; shaped = rw (e, f) refl; named = refl; units = rw (e, f) refl }
    go false false e f = record { unit = None; rest = c ∷ after; spelt = refl; shaped = tt; named = refl; units = refl }

-- Words

-- what is read by a test, and what a token is by the same test
by_length : (b : Bool) (k l : TokenKind) (n : ℕ) → k ≡ l
    → if◌then◌else◌ {A = Option (TokenKind × ℕ)} b (Some (k, n)) None ≡ option_map (λ m. (m, n)) (if b then Some l else None)
by_length true k l n e = ap (λ (m : TokenKind). Some (m, n)) e
by_length false k l n e = refl

named_value : (make : List ℕ → Suffix → TokenKind) (name after : List ℕ) (n : ℕ) (unit : Option ℕ) → suffix_named unit ≡ name_suffix after
    → named make name after n ≡ option_map (λ k. (k, n + suffix_units (name_suffix after))) (name_kind make name unit)
unfolding named
named_value make name after n unit e =
    let suffixes : ℕ = suffix_units (name_suffix after) in
    by_length (nat_le (length name) 255) (make name (name_suffix after)) (make name (suffix_named unit)) (n + suffixes) (ap (make name) (sym e))

name_at : (units : List ℕ) → begins is_letter units ≡ true → is_name (take (run is_name_unit units) units) ≡ true
name_at units h = both_are (first_kept units (run_some units h) h) (run_all is_name_unit units)
  where
    first_kept : (units : List ℕ) → 0 < run is_name_unit units → begins is_letter units ≡ true → begins is_letter (take (run is_name_unit units) units) ≡ true
    first_kept units some h = go (run is_name_unit units) units some h
      where
        go : (n : ℕ) (units : List ℕ) → 0 < n → begins is_letter units ≡ true → begins is_letter (take n units) ≡ true
        go zero units some h = absurd (omega arith)
        go (suc n) [] some h = h
        go (suc n) (c ∷ cs) some h = h

at_letter : (c : ℕ) (units : List ℕ) → is_letter c ≡ true → token_at (c ∷ units) ≡ word_at (c ∷ units)
unfolding token_at
at_letter c units h = rw h refl

pub word_is_read : (c : ℕ) (cs : List ℕ) → is_letter c ≡ true → IsRead (c ∷ cs) (word_read (c ∷ cs))
unfolding word_at
word_is_read c cs h =
    let units : List ℕ = c ∷ cs in
    let n : ℕ = run is_name_unit units in
    let name : List ℕ = take n units in
    let split : SuffixSplit (drop n units) (name_suffix (drop n units)) IsNameSuffix = split_name (drop n units) in
    let spelt : units ≡ (name ++ unit_spelling split.unit) ++ split.rest =
    sym (take_drop n units) ∙ ap (λ (u : List ℕ). name ++ u) split.spelt ∙ sym (append_assoc name (unit_spelling split.unit) split.rest) in
    let count : length name ≡ n = run_length is_name_unit units in
    let more : length (unit_spelling split.unit) ≡ suffix_units (name_suffix (drop n units)) = split.units in
    record {
      shape = word name split.unit;
      stands = record { after = split.rest; spelt = spelt; shaped = (name_at units h, split.shaped) };
      size = simp length-append (omega arith);
      value = at_letter c cs h ∙ named_value kind.Word name (drop n units) n split.unit split.named;
    }

at_bracket : (units : List ℕ) → token_at (91 ∷ units) ≡ bracketed_at units
unfolding token_at
at_bracket units = refl

past_bracket : (units : List ℕ) → begins (λ c. c == 93) units ≡ true → units ≡ 93 ∷ drop 1 units
past_bracket [] h = absurd cc
past_bracket (c ∷ cs) h = let same : c ≡ 93 = grind (arith, nat_tests) in ap (λ (d : ℕ). d ∷ cs) same

pub bracketed_is_read : (units : List ℕ) → is_bracketed units ≡ true → IsRead (91 ∷ units) (bracketed_read units)
unfolding bracketed_at
bracketed_is_read units h =
    let n : ℕ = run is_name_unit units in
    let name : List ℕ = take n units in
    let parts = both_true (begins is_letter units) (begins (λ c. c == 93) (drop n units)) h in
    let behind : List ℕ = drop (n + 1) units in
    let split : SuffixSplit behind (name_suffix behind) IsNameSuffix = split_name behind in
    let closed : drop n units ≡ 93 ∷ behind = past_bracket (drop n units) parts.1 ∙ ap (λ (u : List ℕ). 93 ∷ u) (drop_more n 1 units) in
    let spelt : units ≡ (name ++ (93 ∷ unit_spelling split.unit)) ++ split.rest =
    sym (take_drop n units) ∙ ap (λ (u : List ℕ). name ++ u) (closed ∙ ap (λ (u : List ℕ). 93 ∷ u) split.spelt) ∙ sym (append_assoc name (93 ∷ unit_spelling split.unit) split.rest) in
    let count : length name ≡ n = run_length is_name_unit units in
    let more : length (unit_spelling split.unit) ≡ suffix_units (name_suffix behind) = split.units in
    let read : bracketed_at units ≡ named kind.Bracketed name behind (n + 2) = rw h refl in
    record {
      shape = bracketed name split.unit;
      stands = record { after = split.rest; spelt = ap (λ (u : List ℕ). 91 ∷ u) spelt; shaped = (name_at units parts.0, split.shaped) };
      size = simp length-append (omega arith);
      value = at_bracket units ∙ read ∙ named_value kind.Bracketed name behind (n + 2) split.unit split.named;
    }
