-- Runs of units, suffixes and words: no word at a place is longer than the one that is read there.
use Rattle.std.proofs.Common.{◌≡◌, ℕ, suc, ◌+◌, ◌≤◌, ◌==◌, ◌&&◌, ◌||◌, Bool, true, false, Option, Some, None, inl, inr, List, [], ◌∷◌, ◌++◌, length, drop, arith, refl, ap, subst, sym, ◌∙◌, append_assoc, length-append}
use Rattle.std.specs.List.{list_all}
use Rattle.std.proofs.lemmas.Bool.Decides.{nat_tests}
use Rattle.vb_tree.specs.Tokens.{is_letter, is_digit, is_name_unit, run, begins, suffix_of, suffix_units, name_suffix}
use Rattle.vb_tree.specs.TokenClasses.{word, bracketed, unit_spelling, spelling, is_suffix, IsNameSuffix, IsShape}
use Rattle.vb_lexer.proofs.Runs.{both_true}
use Rattle.token_laws.proofs.Lengths.{Reaches, length_at, word_read, is_bracketed, bracketed_read}
use Rattle.up_base.proofs.Tests.{either}

-- a run goes over all units that pass
pub run_covers : (p : ℕ → Bool) (units more : List ℕ) → list_all p units ≡ true → run p (units ++ more) ≡ length units + run p more
run_covers p [] more h = omega arith
run_covers p (c ∷ cs) more h =
    let parts = both_true (p c) (list_all p cs) h in
    let rest : run p (cs ++ more) ≡ length cs + run p more = run_covers p cs more parts.1 in
    rw parts.0 (omega arith)

pub run_none : (p : ℕ → Bool) (units : List ℕ) → begins p units ≡ false → run p units ≡ 0
run_none p [] h = refl
run_none p (c ∷ cs) h = rw h refl

pub drop_front : (front more : List ℕ) → drop (length front) (front ++ more) ≡ more
drop_front [] more = refl
drop_front (c ∷ front) more = drop_front front more

-- A run of units that pass, and behind it what does not begin with one: what reads the run and then that, by G, reads both.
pub run_then : (p : ℕ → Bool) (G : List ℕ → ℕ) (units tail after : List ℕ) → list_all p units ≡ true → begins p tail ≡ false
    → length tail ≤ G (tail ++ after)
    → length units + length tail ≤ run p (units ++ (tail ++ after)) + G (drop (run p (units ++ (tail ++ after))) (units ++ (tail ++ after)))
run_then p G units [] after all stops reads =
    let covers : run p (units ++ after) ≡ length units + run p after = run_covers p units after all in
    omega arith
run_then p G units (c ∷ cs) after all stops reads =
    let more : List ℕ = (c ∷ cs) ++ after in
    let none : run p more ≡ 0 = run_none p more stops in
    let covers : run p (units ++ more) ≡ length units + run p more = run_covers p units more all in
    let exact : length units ≡ run p (units ++ more) = omega arith in
    let left : G (drop (length units) (units ++ more)) ≡ G more = ap G (drop_front units more) in
    subst (λ (n : ℕ). length units + length (c ∷ cs) ≤ n + G (drop n (units ++ more))) exact (omega arith)

-- Suffixes

pub suffix_no_name : (c : ℕ) → is_suffix c ≡ true → is_name_unit c ≡ false
suffix_no_name c h = grind (arith, nat_tests)

pub suffix_no_digit : (c : ℕ) → is_suffix c ≡ true → is_digit c ≡ false
suffix_no_digit c h = grind (arith, nat_tests)

pub unit_at : (c k : ℕ) → (c == k) ≡ true → suffix_units (suffix_of k) ≡ 1 → suffix_units (suffix_of c) ≡ 1
unit_at c k e h = let same : c ≡ k = grind (arith, nat_tests) in rw same h

pub suffix_is_unit : (c : ℕ) → is_suffix c ≡ true → suffix_units (suffix_of c) ≡ 1
suffix_is_unit c h =
    elim (either (c == 37 || c == 38 || c == 64 || c == 36 || c == 33) (c == 35) h) [
      | inr e ↦ unit_at c 35 e refl
      | inl h ↦ elim (either (c == 37 || c == 38 || c == 64 || c == 36) (c == 33) h) [
        | inr e ↦ unit_at c 33 e refl
        | inl h ↦ elim (either (c == 37 || c == 38 || c == 64) (c == 36) h) [
          | inr e ↦ unit_at c 36 e refl
          | inl h ↦ elim (either (c == 37 || c == 38) (c == 64) h) [
            | inr e ↦ unit_at c 64 e refl
            | inl h ↦ elim (either (c == 37) (c == 38) h) [ inr e ↦ unit_at c 38 e refl | inl e ↦ unit_at c 37 e refl ]
          ]
        ]
      ]
    ]

name_suffix_stops : (s : Option ℕ) (after : List ℕ) → IsNameSuffix s after → begins is_name_unit (unit_spelling s) ≡ false
name_suffix_stops None after h = refl
name_suffix_stops (Some c) after h = suffix_no_name c h.0

name_suffix_read : (s : Option ℕ) (after : List ℕ) → IsNameSuffix s after → length (unit_spelling s) ≤ suffix_units (name_suffix (unit_spelling s ++ after))
name_suffix_read None after h = omega arith
name_suffix_read (Some c) after h = let one : suffix_units (suffix_of c) ≡ 1 = suffix_is_unit c h.0 in rw h.1 (omega arith)

pub both_are : {a b : Bool} → a ≡ true → b ≡ true → (a && b) ≡ true
both_are p q = rw (p, q) refl

-- Words

at_word : (c : ℕ) (units : List ℕ) → is_letter c ≡ true → length_at (c ∷ units) ≡ Some (word_read (c ∷ units))
unfolding length_at
at_word c units h = rw h refl

pub word_reaches : (name : List ℕ) (s : Option ℕ) (after : List ℕ) → IsShape (word name s) after → Reaches (spelling (word name s) ++ after) (length (spelling (word name s)))
word_reaches [] s after h = absurd (let no : false ≡ true = h.0 in cc)
word_reaches (c ∷ cs) s after h =
    let name : List ℕ = c ∷ cs in
    let parts = both_true (is_letter c) (list_all is_name_unit name) h.0 in
    let grouped : (name ++ unit_spelling s) ++ after ≡ name ++ (unit_spelling s ++ after) = append_assoc name (unit_spelling s) after in
    let reach : length name + length (unit_spelling s) ≤ word_read (name ++ (unit_spelling s ++ after)) =
    run_then is_name_unit (λ u. suffix_units (name_suffix u)) name (unit_spelling s) after parts.1 (name_suffix_stops s after h.1) (name_suffix_read s after h.1) in
    record {
      read = word_read (name ++ (unit_spelling s ++ after));
      there = ap length_at grouped ∙ at_word c (cs ++ (unit_spelling s ++ after)) parts.0;
      far = rw (length-append name (unit_spelling s)) reach;
    }

-- Words in brackets

at_bracket : (units : List ℕ) → is_bracketed units ≡ true → length_at (91 ∷ units) ≡ Some (bracketed_read units)
unfolding length_at
at_bracket units h = rw h refl

drop_past : (front : List ℕ) (c : ℕ) (more : List ℕ) → drop (length front + 1) (front ++ (c ∷ more)) ≡ more
drop_past [] c more = refl
drop_past (d ∷ front) c more =
    let e : suc (length front + 1) ≡ suc (length front) + 1 = omega arith in
    sym (ap (λ (n : ℕ). drop n ((d ∷ front) ++ (c ∷ more))) e) ∙ drop_past front c more

begins_more : (p : ℕ → Bool) (units more : List ℕ) → begins p units ≡ true → begins p (units ++ more) ≡ true
begins_more p [] more h = absurd cc
begins_more p (c ∷ cs) more h = h

pub bracketed_reaches : (name : List ℕ) (s : Option ℕ) (after : List ℕ) → IsShape (bracketed name s) after → Reaches (spelling (bracketed name s) ++ after) (length (spelling (bracketed name s)))
bracketed_reaches name s after h =
    let parts = both_true (begins is_letter name) (list_all is_name_unit name) h.0 in
    let sf : List ℕ = unit_spelling s in
    let u : List ℕ = name ++ (93 ∷ (sf ++ after)) in
    let grouped : (name ++ (93 ∷ sf)) ++ after ≡ u = append_assoc name (93 ∷ sf) after in
    let covers : run is_name_unit u ≡ length name + 0 = run_covers is_name_unit name (93 ∷ (sf ++ after)) parts.1 in
    let exact : run is_name_unit u ≡ length name = omega arith in
    let closed : begins (λ c. c == 93) (drop (length name) u) ≡ true = ap (begins (λ c. c == 93)) (drop_front name (93 ∷ (sf ++ after))) in
    let shut : begins (λ c. c == 93) (drop (run is_name_unit u) u) ≡ true = subst (λ (n : ℕ). begins (λ c. c == 93) (drop n u) ≡ true) (sym exact) closed in
    let opened : begins is_letter u ≡ true = begins_more is_letter name (93 ∷ (sf ++ after)) parts.0 in
    let both : is_bracketed u ≡ true = both_are opened shut in
    let left : suffix_units (name_suffix (drop (length name + 1) u)) ≡ suffix_units (name_suffix (sf ++ after)) = ap (λ (v : List ℕ). suffix_units (name_suffix v)) (drop_past name 93 (sf ++ after)) in
    let reads : length sf ≤ suffix_units (name_suffix (sf ++ after)) = name_suffix_read s after h.1 in
    let total : bracketed_read u ≡ length name + 2 + suffix_units (name_suffix (drop (length name + 1) u)) =
    ap (λ (n : ℕ). n + 2 + suffix_units (name_suffix (drop (n + 1) u))) exact in
    record {
      read = bracketed_read u;
      there = ap (λ (v : List ℕ). length_at (91 ∷ v)) grouped ∙ at_bracket u both;
      far = simp length-append (omega arith);
    }
