-- The only place of a line at which a continuation can stand: behind its underscore there are blanks alone.
use Rattle.std.proofs.Common.{◌≡◌, ℕ, zero, suc, ◌-◌, ◌<◌, ◌≤◌, ◌==◌, ◌&&◌, Bool, true, false, Option, Some, None, option_map, if◌then◌else◌, List, [], ◌∷◌, length, take, drop, get_or, arith, refl, ap, subst, sym, ◌∙◌}
use Rattle.std.proofs.Math.Seq.{drop-cons}
use Rattle.std.proofs.lemmas.Bool.Decides.{nat_tests}
use Rattle.std.proofs.lemmas.List.Folds.{list_all_at}
use Rattle.std.specs.List.{list_all}
use Rattle.vb_tree.specs.Tokens.{is_blank}
use Rattle.vb_tree.specs.LogicalLines.{is_continuation, continued}
use Rattle.vb_lexer.proofs.PhysicalLines.{unit_before}
use Rattle.vb_lexer.proofs.Runs.{both_true}

and_false : (a : Bool) → (a && false) ≡ false
and_false true = refl
and_false false = refl

-- a unit that is no blank stands behind
far_unit : (c : ℕ) (cs : List ℕ) (i : ℕ) → suc i < length cs → is_blank (get_or cs (suc i) 0) ≡ false → is_continuation (c ∷ cs) ≡ false
far_unit c [] i within solid = refl
far_unit c (u ∷ blanks) i within solid =
    let none : list_all is_blank blanks ≡ false = list_all_at is_blank blanks i 0 (omega arith) solid in
    rw none (and_false (is_blank c && u == 95))

-- the first unit is no blank
solid_unit : (c : ℕ) (cs : List ℕ) → is_blank c ≡ false → is_continuation (c ∷ cs) ≡ false
solid_unit c [] solid = refl
solid_unit c (u ∷ blanks) solid = rw solid refl

no_underscore : (u : ℕ) → is_blank u ≡ true → (u == 95) ≡ false
no_underscore u h = grind (arith, nat_tests)

-- the second unit is a blank
blank_second : (c u : ℕ) (blanks : List ℕ) → is_blank u ≡ true → is_continuation (c ∷ u ∷ blanks) ≡ false
blank_second c u blanks h = rw (no_underscore u h) (rw (and_false (is_blank c)) refl)

all_blank : (line : List ℕ) → list_all is_blank line ≡ true → continued line ≡ None
all_blank [] h = refl
all_blank (c ∷ cs) h =
    let both = both_true (is_blank c) (list_all is_blank cs) h in
    unit_before c cs (first c cs both.1) ∙ ap (option_map (λ f. c ∷ f)) (all_blank cs both.1)
  where
    first : (c : ℕ) (cs : List ℕ) → list_all is_blank cs ≡ true → is_continuation (c ∷ cs) ≡ false
    first c [] blank = refl
    first c (u ∷ us) blank = blank_second c u us (both_true (is_blank u) (list_all is_blank us) blank).0

alone : (c : ℕ) (blanks : List ℕ) → is_blank c ≡ false → list_all is_blank blanks ≡ true → continued (c ∷ blanks) ≡ None
alone c blanks solid blank = unit_before c blanks (solid_unit c blanks solid) ∙ ap (option_map (λ f. c ∷ f)) (all_blank blanks blank)

onto_front : (c : ℕ) (goes_on : Bool) (front : List ℕ) → option_map (λ f. c ∷ f) (if goes_on then Some front else None) ≡ (if goes_on then Some (c ∷ front) else None)
onto_front c true front = refl
onto_front c false front = refl

only_place : (k : ℕ) (line : List ℕ) → suc k < length line → list_all is_blank (drop (suc (suc k)) line) ≡ true → is_blank (get_or line (suc k) 0) ≡ false
    → continued line ≡ (if is_continuation (drop k line) then Some (take k line) else None)
only_place k [] within blank solid = absurd (omega arith)
only_place zero (b ∷ []) within blank solid = absurd (omega arith)
only_place zero (b ∷ u ∷ blanks) within blank solid =
    ap (λ (behind : Option (List ℕ)). if is_continuation (b ∷ u ∷ blanks) then Some [] else option_map (λ f. b ∷ f) behind) (alone u blanks solid blank)
only_place (suc k) (c ∷ cs) within blank solid =
    unit_before c cs (far_unit c cs k (omega arith) solid) ∙ ap (option_map (λ f. c ∷ f)) (only_place k cs (omega arith) blank solid)
    ∙ onto_front c (is_continuation (drop k cs)) (take k cs)

two_before : (n : ℕ) (line : List ℕ) → 2 ≤ n → n ≤ length line → list_all is_blank (drop n line) ≡ true → is_blank (get_or line (n - 1) 0) ≡ false
    → continued line ≡ (if is_continuation (drop (n - 2) line) then Some (take (n - 2) line) else None)
two_before zero line some within blank solid = absurd (omega arith)
two_before (suc zero) line some within blank solid = absurd (omega arith)
two_before (suc (suc k)) line some within blank solid =
    let place : suc (suc k) - 1 ≡ suc k = omega arith in
    let two : k ≡ suc (suc k) - 2 = omega arith in
    let there : is_blank (get_or line (suc k) 0) ≡ false = subst (λ (m : ℕ). is_blank (get_or line m 0) ≡ false) place solid in
    subst (λ (m : ℕ). continued line ≡ (if is_continuation (drop m line) then Some (take m line) else None)) two (only_place k line (omega arith) blank there)

-- a line with less than two units before the blanks at its end
pub no_place : (n : ℕ) (line : List ℕ) → n < 2 → list_all is_blank (drop n line) ≡ true → (0 < n → is_blank (get_or line (n - 1) 0) ≡ false)
    → continued line ≡ None
no_place zero line few blank solid = all_blank line blank
no_place (suc zero) [] few blank solid = refl
no_place (suc zero) (c ∷ cs) few blank solid = alone c cs (solid (omega arith)) blank
no_place (suc (suc n)) line few blank solid = absurd (omega arith)

pub other_place : (n : ℕ) (line : List ℕ) → 2 ≤ n → n ≤ length line → list_all is_blank (drop n line) ≡ true → is_blank (get_or line (n - 1) 0) ≡ false
    → is_continuation (drop (n - 2) line) ≡ false → continued line ≡ None
other_place n line some within blank solid ends =
    two_before n line some within blank solid ∙ ap (λ (b : Bool). if b then Some (take (n - 2) line) else None) ends

pub last_place : (n : ℕ) (line : List ℕ) → 2 ≤ n → n ≤ length line → list_all is_blank (drop n line) ≡ true → is_blank (get_or line (n - 1) 0) ≡ false
    → is_continuation (drop (n - 2) line) ≡ true → continued line ≡ Some (take (n - 2) line)
last_place n line some within blank solid ends =
    two_before n line some within blank solid ∙ ap (λ (b : Bool). if b then Some (take (n - 2) line) else None) ends

-- one blank more at the end
pub blank_before : (line : List ℕ) (n : ℕ) → 0 < n → n ≤ length line → is_blank (get_or line (n - 1) 0) ≡ true → list_all is_blank (drop n line) ≡ true
    → list_all is_blank (drop (n - 1) line) ≡ true
blank_before line zero some within here blank = absurd (omega arith)
blank_before line (suc k) some within here blank =
    let place : suc k - 1 ≡ k = omega arith in
    let there : is_blank (get_or line k 0) ≡ true = subst (λ (m : ℕ). is_blank (get_or line m 0) ≡ true) place here in
    let split : drop k line ≡ get_or line k 0 ∷ drop (suc k) line = drop-cons line k 0 (omega arith) in
    let both : list_all is_blank (get_or line k 0 ∷ drop (suc k) line) ≡ true = rw there blank in
    subst (λ (m : ℕ). list_all is_blank (drop m line) ≡ true) (sym place) (subst (λ (xs : List ℕ). list_all is_blank xs ≡ true) (sym split) both)
