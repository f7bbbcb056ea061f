-- The tokens of a line stand in order, each behind the one before it, with blanks and continuations alone between them.
use Rattle.std.proofs.Common.{◌≡◌, ℕ, zero, suc, ◌+◌, ◌-◌, ◌<◌, ◌≤◌, ◌==◌, ◌&&◌, ◌||◌, Bool, true, false, if◌then◌else◌, Option, Some, None, inl, inr, List, [], ◌∷◌, ◌++◌, length, take, drop, arith, refl, ap, subst, sym, ◌∙◌, length-append}
use Rattle.std.specs.List.{list_all}
use Rattle.std.proofs.Math.Seq.{take-add}
use Rattle.vb_tree.specs.declared.token.TokenKind.{TokenKind}
use Rattle.vb_tree.specs.Tokens.{is_blank, is_line_end, token_at}
use Rattle.vb_tree.specs.TokenClasses.{Shape, word, bracketed, decimal, radix, text, date, sign_of_one, sign_of_two, fraction_spelling, spelling, HasDigit, IsShape, kind_of}
use Rattle.vb_tree.specs.LogicalLines.{Part, gap, note, lexeme, stuck, token_part, is_rem, part_at, begins_statement, content_from, joint, is_gap, AreSpread}
use Rattle.vb_lexer.proofs.Runs.{both_true}
use Rattle.vb_lexer.proofs.ReadingContents.{drop_more}
use Rattle.token_laws.proofs.LongestTokens.{both_are}
use Rattle.token_laws.proofs.OtherShapes.{longest_or_none}
use Rattle.token_laws.proofs.PlacedTokens.{IsLexeme, lexeme_read, counted, no_token, next_drop}

has_unit : (whole : List ℕ) (f : Option (List ℕ)) → HasDigit whole f → 0 < length whole + length (fraction_spelling f)
has_unit whole None h = omega arith
has_unit whole (Some digits) h = omega arith

shape_some : (s : Shape) (after : List ℕ) → IsShape s after → 0 < length (spelling s)
shape_some (word [] s) after h = absurd (let no : false ≡ true = h.0 in cc)
shape_some (word (c ∷ cs) s) after h = omega arith
shape_some (bracketed name s) after h = omega arith
shape_some (decimal whole f e s) after h =
    let some : 0 < length whole + length (fraction_spelling f) = has_unit whole f h.2 in
    simp length-append (omega arith)
shape_some (radix letter digits s) after h = omega arith
shape_some (text units) after h = omega arith
shape_some (date units) after h = omega arith
shape_some (sign_of_one c) after h = omega arith
shape_some (sign_of_two c d) after h = omega arith

token_some : (units : List ℕ) (kind : TokenKind) (n : ℕ) → token_at units ≡ Some (kind, n) → 0 < n
token_some units kind n e = elim (longest_or_none units) [
  | inl l ↦
      let number : length (spelling l.shape) ≡ n = counted kind n (length (spelling l.shape)) (kind_of l.shape) (sym e ∙ l.value) in
      let some : 0 < length (spelling l.shape) = shape_some l.shape l.stands.after l.stands.shaped in
      omega arith
  | inr none ↦ absurd (no_token kind n (sym e ∙ none.0))
]

no_gap : (statement : Bool) (x : TokenKind × ℕ) → ◌≡◌ {A = Part} (token_part statement (Some x)) gap → ⊥
no_gap statement x e = go (statement && is_rem x.0) e
  where
    go : (b : Bool) → if◌then◌else◌ {A = Part} b (note x.1) (lexeme x.0 x.1) ≡ gap → ⊥
    go true h = cc
    go false h = cc

-- what separates tokens is a gap
gap_read : (statement : Bool) (c : ℕ) (cs : List ℕ) → part_at statement (c ∷ cs) ≡ gap → is_gap c ≡ true
unfolding part_at
gap_read statement c cs e = go (is_blank c || is_line_end c) (c == 39) (token_at (c ∷ cs)) e
  where
    go : (a d : Bool) (found : Option (TokenKind × ℕ)) → if◌then◌else◌ {A = Part} a gap (if d then note 1 else token_part statement found) ≡ gap → a ≡ true
    go true d found h = refl
    go false true found h = absurd cc
    go false false None h = absurd cc
    go false false (Some x) h = absurd (no_gap statement x h)

-- gaps alone from one place up to another
abbrev Gaps : List ℕ → ℕ → ℕ → Type 0
Gaps units a b = (a ≤ b) × (list_all is_gap (take (b - a) (drop a units)) ≡ true)

no_gaps : (units : List ℕ) (a : ℕ) → Gaps units a a
no_gaps units a =
    let none : 0 ≡ a - a = omega arith in
    (omega arith, subst (λ (n : ℕ). list_all is_gap (take n (drop a units)) ≡ true) none refl)

all_and : (xs ys : List ℕ) → list_all is_gap xs ≡ true → list_all is_gap ys ≡ true → list_all is_gap (xs ++ ys) ≡ true
all_and [] ys h i = i
all_and (c ∷ cs) ys h i = let parts = both_true (is_gap c) (list_all is_gap cs) h in both_are parts.0 (all_and cs ys parts.1 i)

more_gaps : (units : List ℕ) (a b c : ℕ) (cs : List ℕ) → drop b units ≡ c ∷ cs → is_gap c ≡ true → Gaps units a b → Gaps units a (b + 1)
more_gaps units a b c cs e h g =
    let order : a ≤ b = g.0 in
    let one : (b - a) + 1 ≡ (b + 1) - a = omega arith in
    let place : a + (b - a) ≡ b = omega arith in
    let here : drop (b - a) (drop a units) ≡ c ∷ cs = drop_more a (b - a) units ∙ ap (λ (n : ℕ). drop n units) place ∙ e in
    let split : take ((b - a) + 1) (drop a units) ≡ take (b - a) (drop a units) ++ c ∷ [] =
    take-add (b - a) 1 (drop a units) ∙ ap (λ (u : List ℕ). take (b - a) (drop a units) ++ take 1 u) here in
    let last : list_all is_gap (c ∷ []) ≡ true = both_are h refl in
    let all : list_all is_gap (take ((b - a) + 1) (drop a units)) ≡ true = ap (list_all is_gap) split ∙ all_and (take (b - a) (drop a units)) (c ∷ []) g.1 last in
    (omega arith, subst (λ (n : ℕ). list_all is_gap (take n (drop a units)) ≡ true) one all)

spread_from : (units : List ℕ) (before : List TokenKind) (line i inside last : ℕ) (rest : List ℕ) → drop i units ≡ rest → Gaps units last (i + inside)
    → AreSpread units last (content_from before line i inside rest).tokens
spread_from units before line i inside last [] e g = tt
spread_from units before line i (suc inside) last (c ∷ cs) e g =
    let same : i + suc inside ≡ (i + 1) + inside = omega arith in
    spread_from units before line (i + 1) inside last cs (next_drop units i c cs e) (subst (Gaps units last) same g)
spread_from units before line i zero last (c ∷ cs) e g = go (part_at (begins_statement before) (c ∷ cs)) refl
    (λ m k b l w. spread_from units b m (i + 1) k l cs (next_drop units i c cs e) w)
  where
    here : Gaps units last i
    here = let same : i + 0 ≡ i = omega arith in subst (Gaps units last) same g

    go : (p : Part) → part_at (begins_statement before) (c ∷ cs) ≡ p
        → ((m k : ℕ) (b : List TokenKind) (l : ℕ) → Gaps units l ((i + 1) + k) → AreSpread units l (content_from b m (i + 1) k cs).tokens)
        → AreSpread units last (content_from before line i 0 (c ∷ cs)).tokens
    go gap q more =
        let same : i + 1 ≡ (i + 1) + 0 = omega arith in
        rw (q, content_from) (more (line + joint c) 0 before last (subst (Gaps units last) same (more_gaps units last i c cs e (gap_read (begins_statement before) c cs q) here)))
    go (note n) q more = rw (q, content_from) tt
    go stuck q more = rw (q, content_from) tt
    go (lexeme kind n) q more =
        let read : IsLexeme (c ∷ cs) kind n = lexeme_read (begins_statement before) (c ∷ cs) kind n q in
        let some : 0 < n = token_some (c ∷ cs) kind n read.read in
        let same : i + n ≡ (i + 1) + (n - 1) = omega arith in
        let front : Gaps units last i = here in
        rw (q, content_from) (front.0, front.1, omega arith, more line (n - 1) (kind ∷ before) (i + n) (subst (Gaps units (i + n)) same (no_gaps units (i + n))))

pub spread : (units : List ℕ) (number : ℕ) → AreSpread units 0 (content_from [] number 0 0 units).tokens
spread units number = spread_from units [] number 0 0 0 units refl (no_gaps units 0)
