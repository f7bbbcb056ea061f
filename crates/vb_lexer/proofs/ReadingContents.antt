-- The steps of reading what a line holds.
use Rattle.std.proofs.Common.{◌≡◌, ℕ, zero, suc, ◌+◌, ◌-◌, ◌<◌, ◌≤◌, Some, None, List, [], ◌∷◌, ◌++◌, length, drop, map, reverse, arith, refl, ap, sym, ◌∙◌, append_assoc, length-drop}
use Rattle.std.proofs.Math.Seq.{drop-nil}
use Rattle.std.proofs.lemmas.List.{append-nil, map-append, reverse-append}
use Rattle.vb_tree.specs.declared.token.Token.{Token}
use Rattle.vb_tree.specs.declared.token.TokenKind.{TokenKind}
use Rattle.vb_tree.specs.LogicalLines.{note, lexeme, stuck, part_at, Content, content_from, with_token, begins_statement, joints, shown}
use Rattle.vb_lexer.specs.Contents.{kinds_back, with_front}

-- fewer units hold no more continuations
pub joints-drop : (n : ℕ) (units : List ℕ) → joints (drop n units) ≤ joints units
joints-drop zero units = omega arith
joints-drop (suc n) [] = omega arith
joints-drop (suc n) (c ∷ cs) = let rest : joints (drop n cs) ≤ joints cs = joints-drop n cs in omega arith

pub drop_more : (n k : ℕ) (units : List ℕ) → drop k (drop n units) ≡ drop (n + k) units
drop_more zero k units = ap (λ (m : ℕ). drop m units) (omega arith)
drop_more (suc n) k [] = drop-nil k ∙ sym (drop-nil (suc n + k))
drop_more (suc n) k (c ∷ cs) = let e : suc (n + k) ≡ suc n + k = omega arith in drop_more n k cs ∙ ap (λ (m : ℕ). drop m (c ∷ cs)) e

-- the units of a token are passed over
skipped : (before : List TokenKind) (line i k : ℕ) (units : List ℕ) → content_from before line i k units ≡ content_from before line (i + k) 0 (drop k units)
skipped before line i zero units = let e : i ≡ i + 0 = omega arith in ap (λ (m : ℕ). content_from before line m 0 units) e
skipped before line i (suc k) [] = refl
skipped before line i (suc k) (c ∷ cs) =
    let e : (i + 1) + k ≡ i + suc k = omega arith in
    skipped before line (i + 1) k cs ∙ ap (λ (m : ℕ). content_from before line m 0 (drop k cs)) e

-- one token more
pub kinds_back-push : (tokens : List Token) (t : Token) → kinds_back (tokens ++ t ∷ []) ≡ t.kind ∷ kinds_back tokens
kinds_back-push tokens t = ap reverse (map-append (λ (x : Token). x.kind) tokens (t ∷ [])) ∙ reverse-append (map (λ (x : Token). x.kind) tokens) (t.kind ∷ [])

moved : (tokens : List Token) (t : Token) (content : Content) → with_front tokens (with_token t content) ≡ with_front (tokens ++ t ∷ []) content
moved tokens t content = let e : tokens ++ (t ∷ content.tokens) ≡ (tokens ++ t ∷ []) ++ content.tokens = simp append_assoc in ap (λ (ts : List Token). record content { tokens = ts }) e

at_lexeme : (before : List TokenKind) (line i : ℕ) (units : List ℕ) (kind : TokenKind) (n : ℕ) → 0 < length units → part_at (begins_statement before) units ≡ lexeme kind (suc n)
    → content_from before line i 0 units ≡ with_token (record { kind = kind; line = line; from = i; to = i + suc n }) (content_from (kind ∷ before) line (i + suc n) 0 (drop (suc n) units))
at_lexeme before line i [] kind n some e = absurd (omega arith)
at_lexeme before line i (c ∷ cs) kind n some e =
    let t : Token = record { kind = kind; line = line; from = i; to = i + suc n } in
    let step : content_from before line i 0 (c ∷ cs) ≡ with_token t (content_from (kind ∷ before) line (i + 1) (suc n - 1) cs) = rw (e, content_from) refl in
    let less : suc n - 1 ≡ n = omega arith in
    let sum : (i + 1) + n ≡ i + suc n = omega arith in
    step ∙ ap (λ (k : ℕ). with_token t (content_from (kind ∷ before) line (i + 1) k cs)) less
    ∙ ap (with_token t) (skipped (kind ∷ before) line (i + 1) n cs ∙ ap (λ (m : ℕ). content_from (kind ∷ before) line m 0 (drop n cs)) sum)

pub lexeme_step : (tokens : List Token) (kind : TokenKind) (line i n : ℕ) (units : List ℕ) (whole : Content) → i < length units → 0 < n
    → part_at (begins_statement (kinds_back tokens)) (drop i units) ≡ lexeme kind n
    → with_front tokens (content_from (kinds_back tokens) line i 0 (drop i units)) ≡ whole
    → with_front (tokens ++ (record { kind = kind; line = line; from = i; to = i + n }) ∷ []) (content_from (kind ∷ kinds_back tokens) line (i + n) 0 (drop (i + n) units)) ≡ whole
lexeme_step tokens kind line i zero units whole within some e h = absurd (omega arith)
lexeme_step tokens kind line i (suc n) units whole within some e h =
    let t : Token = record { kind = kind; line = line; from = i; to = i + suc n } in
    let left : 0 < length (drop i units) = simp length-drop (omega arith) in
    sym (ap (λ (u : List ℕ). with_front (tokens ++ t ∷ []) (content_from (kind ∷ kinds_back tokens) line (i + suc n) 0 u)) (drop_more i (suc n) units))
    ∙ sym (moved tokens t (content_from (kind ∷ kinds_back tokens) line (i + suc n) 0 (drop (suc n) (drop i units))))
    ∙ sym (ap (with_front tokens) (at_lexeme (kinds_back tokens) line i (drop i units) kind n left e)) ∙ h

at_note : (before : List TokenKind) (line i n : ℕ) (units : List ℕ) → 0 < length units → part_at (begins_statement before) units ≡ note n
    → content_from before line i 0 units ≡ record { tokens = []; comment = Some (shown (drop n units)); stop = None }
at_note before line i n [] some e = absurd (omega arith)
at_note before line i n (c ∷ cs) some e = rw (e, content_from) refl

at_stuck : (before : List TokenKind) (line i : ℕ) (units : List ℕ) → 0 < length units → part_at (begins_statement before) units ≡ stuck
    → content_from before line i 0 units ≡ record { tokens = []; comment = None; stop = Some i }
at_stuck before line i [] some e = absurd (omega arith)
at_stuck before line i (c ∷ cs) some e = rw (e, content_from) refl

-- a comment ends the reading
pub note_step : (tokens : List Token) (line i n : ℕ) (units : List ℕ) (whole : Content) → i < length units
    → part_at (begins_statement (kinds_back tokens)) (drop i units) ≡ note n
    → with_front tokens (content_from (kinds_back tokens) line i 0 (drop i units)) ≡ whole
    → record { tokens = tokens; comment = Some (shown (drop (i + n) units)); stop = None } ≡ whole
note_step tokens line i n units whole within e h =
    let left : 0 < length (drop i units) = simp length-drop (omega arith) in
    let all : tokens ≡ tokens ++ [] = sym (append-nil tokens) in
    ap (λ (ts : List Token). record { tokens = ts; comment = Some (shown (drop (i + n) units)); stop = None }) all
    ∙ ap (λ (u : List ℕ). record { tokens = tokens ++ []; comment = Some (shown u); stop = None }) (sym (drop_more i n units))
    ∙ sym (ap (with_front tokens) (at_note (kinds_back tokens) line i n (drop i units) left e)) ∙ h

-- a place at which no token begins ends the reading
pub stuck_step : (tokens : List Token) (line i : ℕ) (units : List ℕ) (whole : Content) → i < length units
    → part_at (begins_statement (kinds_back tokens)) (drop i units) ≡ stuck
    → with_front tokens (content_from (kinds_back tokens) line i 0 (drop i units)) ≡ whole
    → record { tokens = tokens; comment = None; stop = Some i } ≡ whole
stuck_step tokens line i units whole within e h =
    let left : 0 < length (drop i units) = simp length-drop (omega arith) in
    let all : tokens ≡ tokens ++ [] = sym (append-nil tokens) in
    ap (λ (ts : List Token). record { tokens = ts; comment = None; stop = Some i }) all
    ∙ sym (ap (with_front tokens) (at_stuck (kinds_back tokens) line i (drop i units) left e)) ∙ h
