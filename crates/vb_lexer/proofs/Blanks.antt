-- Blanks in front of what is read, and behind a line.
use Rattle.std.proofs.Common.{◌≡◌, ℕ, suc, ◌+◌, Bool, true, false, List, [], ◌∷◌, drop, arith, refl, ap, subst, sym, ◌∙◌}
use Rattle.std.proofs.lemmas.Bool.Decides.{nat_tests}
use Rattle.vb_tree.specs.declared.token.Token.{Token}
use Rattle.vb_tree.specs.declared.token.TokenKind.{TokenKind}
use Rattle.vb_tree.specs.Tokens.{is_blank, is_line_end, run}
use Rattle.vb_tree.specs.LogicalLines.{gap, part_at, Content, content_from, begins_statement, joint}
use Rattle.vb_lexer.specs.Contents.{kinds_back, with_front}
use Rattle.vb_lexer.proofs.ReadingContents.{drop_more}

no_line_end : (c : ℕ) → is_blank c ≡ true → is_line_end c ≡ false
no_line_end c h = grind (arith, nat_tests)

no_joint : (c : ℕ) → is_blank c ≡ true → joint c ≡ 0
no_joint c h = rw (no_line_end c h) refl

a_gap : (statement : Bool) (c : ℕ) (cs : List ℕ) → is_blank c ≡ true → part_at statement (c ∷ cs) ≡ gap
unfolding part_at
a_gap statement c cs h = rw h refl

gap_first : (before : List TokenKind) (line i c : ℕ) (cs : List ℕ) → part_at (begins_statement before) (c ∷ cs) ≡ gap
    → content_from before line i 0 (c ∷ cs) ≡ content_from before (line + joint c) (i + 1) 0 cs
gap_first before line i c cs e = rw (e, content_from) refl

blank_first : (before : List TokenKind) (line i c : ℕ) (cs : List ℕ) → is_blank c ≡ true → content_from before line i 0 (c ∷ cs) ≡ content_from before line (i + 1) 0 cs
blank_first before line i c cs h =
    let none : joint c ≡ 0 = no_joint c h in
    let same : line + joint c ≡ line = omega arith in
    gap_first before line i c cs (a_gap (begins_statement before) c cs h) ∙ ap (λ (n : ℕ). content_from before n (i + 1) 0 cs) same

-- the blanks at the front are passed over
blanks_passed : (before : List TokenKind) (line i : ℕ) (units : List ℕ)
    → content_from before line i 0 units ≡ content_from before line (i + run is_blank units) 0 (drop (run is_blank units) units)
blanks_passed before line i [] = refl
blanks_passed before line i (c ∷ cs) = go (blanks_passed before line (i + 1) cs) (is_blank c) refl
  where
    go : content_from before line (i + 1) 0 cs ≡ content_from before line ((i + 1) + run is_blank cs) 0 (drop (run is_blank cs) cs)
        → (b : Bool) → is_blank c ≡ b
        → content_from before line i 0 (c ∷ cs) ≡ content_from before line (i + run is_blank (c ∷ cs)) 0 (drop (run is_blank (c ∷ cs)) (c ∷ cs))
    go rest true e =
        let n : ℕ = run is_blank cs in
        let one : suc n ≡ run is_blank (c ∷ cs) = rw e (omega arith) in
        let place : (i + 1) + n ≡ i + suc n = omega arith in
        let at_suc : content_from before line i 0 (c ∷ cs) ≡ content_from before line (i + suc n) 0 (drop (suc n) (c ∷ cs)) =
        blank_first before line i c cs e ∙ rest ∙ ap (λ (m : ℕ). content_from before line m 0 (drop n cs)) place in
        subst (λ (m : ℕ). content_from before line i 0 (c ∷ cs) ≡ content_from before line (i + m) 0 (drop m (c ∷ cs))) one at_suc
    go rest false e =
        let none : 0 ≡ run is_blank (c ∷ cs) = rw e refl in
        let place : i ≡ i + 0 = omega arith in
        subst (λ (m : ℕ). content_from before line i 0 (c ∷ cs) ≡ content_from before line (i + m) 0 (drop m (c ∷ cs))) none
        (ap (λ (m : ℕ). content_from before line m 0 (c ∷ cs)) place)

-- blanks are passed over behind tokens
pub blanks_step : (tokens : List Token) (line i n : ℕ) (units : List ℕ) (whole : Content) → n ≡ run is_blank (drop i units)
    → with_front tokens (content_from (kinds_back tokens) line i 0 (drop i units)) ≡ whole
    → with_front tokens (content_from (kinds_back tokens) line (i + n) 0 (drop (i + n) units)) ≡ whole
blanks_step tokens line i n units whole e h =
    let k : ℕ = run is_blank (drop i units) in
    let there : with_front tokens (content_from (kinds_back tokens) line (i + k) 0 (drop (i + k) units)) ≡ whole =
    sym (ap (λ (u : List ℕ). with_front tokens (content_from (kinds_back tokens) line (i + k) 0 u)) (drop_more i k units))
    ∙ sym (ap (with_front tokens) (blanks_passed (kinds_back tokens) line i (drop i units))) ∙ h in
    subst (λ (m : ℕ). with_front tokens (content_from (kinds_back tokens) line (i + m) 0 (drop (i + m) units)) ≡ whole) (sym e) there
