-- The steps of reading a text between quotes.
use Rattle.std.proofs.Common.{◌≡◌, ℕ, suc, ◌+◌, ◌<◌, ◌≤◌, ◌==◌, Bool, true, Option, Some, None, option_map, List, [], ◌∷◌, ◌++◌, length, get_or, drop, arith, refl, ap, subst, sym, ◌∙◌, append_assoc, length-drop}
use Rattle.std.proofs.Math.Seq.{drop-cons}
use Rattle.vb_tree.specs.Tokens.{text_from, behind_quote, longer, begins}

-- what is read with this text, of so many units, before it
abbrev pub behind : List ℕ → ℕ → Option (List ℕ × ℕ) → Option (List ℕ × ℕ)
behind text units found = option_map (λ x. (text ++ x.0, units + x.1)) found

moved : (text : List ℕ) (units c n : ℕ) (found : Option (List ℕ × ℕ)) → behind text units (longer c n found) ≡ behind (text ++ c ∷ []) (units + n) found
moved text units c n None = refl
moved text units c n (Some x) =
    let texts : text ++ (c ∷ x.0) ≡ (text ++ c ∷ []) ++ x.0 = simp append_assoc in
    let numbers : units + (n + x.1) ≡ (units + n) + x.1 = omega arith in
    rw (texts, numbers) refl

-- a list that begins with something isn't empty
begins_within : (p : ℕ → Bool) (units : List ℕ) (i : ℕ) → begins p (drop i units) ≡ true → i < length units
begins_within p units i h = go (drop i units) refl h
  where
    go : (rest : List ℕ) → drop i units ≡ rest → begins p rest ≡ true → i < length units
    go [] e b = absurd cc
    go (c ∷ cs) e b = let counts : length (drop i units) ≡ suc (length cs) = ap length e in omega (arith, simp length-drop at counts)

at_quote : (c : ℕ) (cs : List ℕ) → (c == 34) ≡ true → text_from (c ∷ cs) ≡ behind_quote cs
at_quote c cs quote = rw (quote, text_from) refl

at_second : (c : ℕ) (cs : List ℕ) → (c == 34) ≡ true → behind_quote (c ∷ cs) ≡ longer 34 2 (text_from cs)
at_second c cs quote = rw (quote, behind_quote) refl

-- a doubled quote
pub doubled_quote : (text units : List ℕ) (i : ℕ) → i < length units → (get_or units i 0 == 34) ≡ true
    → begins (λ c. c == 34) (drop (i + 1) units) ≡ true
    → behind text i (text_from (drop i units)) ≡ text_from units
    → (i + 2 ≤ length units) × (behind (text ++ 34 ∷ []) (i + 2) (text_from (drop (i + 2) units)) ≡ text_from units)
doubled_quote text units i within quote next h =
    let one : i + 1 ≡ suc i = omega arith in
    let two : suc (suc i) ≡ i + 2 = omega arith in
    let second : begins (λ c. c == 34) (drop (suc i) units) ≡ true = subst (λ (k : ℕ). begins (λ c. c == 34) (drop k units) ≡ true) one next in
    let place : suc i < length units = begins_within (λ c. c == 34) units (suc i) second in
    let first : drop i units ≡ get_or units i 0 ∷ drop (suc i) units = drop-cons units i 0 within in
    let after : drop (suc i) units ≡ get_or units (suc i) 0 ∷ drop (suc (suc i)) units = drop-cons units (suc i) 0 place in
    let there : (get_or units (suc i) 0 == 34) ≡ true = subst (λ (xs : List ℕ). begins (λ c. c == 34) xs ≡ true) after second in
    let reads : text_from (drop i units) ≡ longer 34 2 (text_from (drop (suc (suc i)) units)) =
    ap text_from first ∙ at_quote (get_or units i 0) (drop (suc i) units) quote ∙ ap behind_quote after
    ∙ at_second (get_or units (suc i) 0) (drop (suc (suc i)) units) there in
    let moved_on : behind text i (longer 34 2 (text_from (drop (suc (suc i)) units))) ≡ behind (text ++ 34 ∷ []) (i + 2) (text_from (drop (suc (suc i)) units)) =
    moved text i 34 2 (text_from (drop (suc (suc i)) units)) in
    let whole : behind (text ++ 34 ∷ []) (i + 2) (text_from (drop (suc (suc i)) units)) ≡ text_from units =
    sym moved_on ∙ sym (ap (behind text i) reads) ∙ h in
    (omega arith, subst (λ (k : ℕ). behind (text ++ 34 ∷ []) (i + 2) (text_from (drop k units)) ≡ text_from units) two whole)
