-- The physical lines of a text, and how they are joined.
use Rattle.std.proofs.Common.{◌≡◌, ℕ, zero, suc, ◌+◌, ◌<◌, ◌≤◌, ◌==◌, ◌&&◌, Bool, true, false, Option, Some, None, option_map, if◌then◌else◌, List, [], ◌∷◌, ◌++◌, length, take, drop, arith, refl, ap, subst, sym, ◌∙◌, append_assoc}
use Rattle.std.proofs.lemmas.Bool.Decides.{nat_tests}
use Rattle.vb_tree.specs.Tokens.{run, is_line_end}
use Rattle.vb_tree.specs.LogicalLines.{physical_lines, cut, onto, joint, joints, shown, is_continuation, continued, join, joined}
use Rattle.vb_lexer.specs.Physical.{in_line, line_end_units, onto_first}

-- a text without its first line and that line's end
abbrev pub behind_line : List ℕ → List ℕ
behind_line text = drop (run in_line text + line_end_units (drop (run in_line text) text)) text

abbrev IsCut : List ℕ → Type 0
IsCut text = physical_lines text ≡ take (run in_line text) text ∷ physical_lines (behind_line text)

cut_at_feed : (c : ℕ) (cs : List ℕ) → c ≡ 10 → IsCut (c ∷ cs)
cut_at_feed c [] e = subst (λ (b : ℕ). IsCut (b ∷ [])) (sym e) refl
cut_at_feed c (d ∷ ds) e = subst (λ (b : ℕ). IsCut (b ∷ d ∷ ds)) (sym e) refl

lone_return : (feed : Bool) (lines : List (List ℕ)) → feed ≡ false → cut feed 13 lines ≡ [] ∷ lines
lone_return feed lines e = rw e refl

cut_at_return : (c : ℕ) (cs : List ℕ) → c ≡ 13 → IsCut (c ∷ cs)
cut_at_return c [] e = subst (λ (b : ℕ). IsCut (b ∷ [])) (sym e) refl
cut_at_return c (d ∷ ds) e = subst (λ (b : ℕ). IsCut (b ∷ d ∷ ds)) (sym e) (go (d == 10) refl)
  where
    go : (b : Bool) → (d == 10) ≡ b → IsCut (13 ∷ d ∷ ds)
    go true f = let ten : d ≡ 10 = grind (arith, nat_tests) in subst (λ (x : ℕ). IsCut (13 ∷ x ∷ ds)) (sym ten) refl
    go false f =
        let one : 1 ≡ 0 + line_end_units (13 ∷ d ∷ ds) = rw f refl in
        let lone : physical_lines (13 ∷ d ∷ ds) ≡ [] ∷ physical_lines (d ∷ ds) = lone_return (d == 10) (physical_lines (d ∷ ds)) f in
        subst (λ (k : ℕ). physical_lines (13 ∷ d ∷ ds) ≡ [] ∷ physical_lines (drop k (13 ∷ d ∷ ds))) one lone

cut_in_line : (c : ℕ) (cs : List ℕ) → (c == 10) ≡ false → (c == 13) ≡ false → IsCut cs → IsCut (c ∷ cs)
cut_in_line c cs e f rest =
    let n : ℕ = run in_line cs in
    let more : suc n ≡ run in_line (c ∷ cs) = rw (e, f) (omega arith) in
    let on : physical_lines (c ∷ cs) ≡ onto c (physical_lines cs) = rw (e, f) refl in
    let whole : suc (n + line_end_units (drop n cs)) ≡ suc n + line_end_units (drop n cs) = omega arith in
    let at_suc : physical_lines (c ∷ cs) ≡ take (suc n) (c ∷ cs) ∷ physical_lines (drop (suc n + line_end_units (drop (suc n) (c ∷ cs))) (c ∷ cs)) =
    on ∙ ap (onto c) rest ∙ ap (λ (k : ℕ). (c ∷ take n cs) ∷ physical_lines (drop k (c ∷ cs))) whole in
    subst (λ (m : ℕ). physical_lines (c ∷ cs) ≡ take m (c ∷ cs) ∷ physical_lines (drop (m + line_end_units (drop m (c ∷ cs))) (c ∷ cs))) more at_suc

cut_alone : (c : ℕ) → (c == 10) ≡ false → (c == 13) ≡ false → IsCut (c ∷ [])
cut_alone c e f = rw (e, f) refl

pub first_line : (text : List ℕ) → 0 < length text → IsCut text
first_line [] h = absurd (omega arith)
first_line (c ∷ cs) h = go cs (first_line cs) (c == 10) (c == 13) refl refl
  where
    go : (cs : List ℕ) → (0 < length cs → IsCut cs) → (a b : Bool) → (c == 10) ≡ a → (c == 13) ≡ b → IsCut (c ∷ cs)
    go cs rest true b e f = cut_at_feed c cs (grind (arith, nat_tests))
    go cs rest false true e f = cut_at_return c cs (grind (arith, nat_tests))
    go [] rest false false e f = cut_alone c e f
    go (d ∷ ds) rest false false e f = cut_in_line c (d ∷ ds) e f (rest (omega arith))

two_or_one : (b : Bool) → 0 < (if b then 2 else 1)
two_or_one true = omega arith
two_or_one false = omega arith

end_some : (text : List ℕ) → 0 < length text → 0 < line_end_units text
end_some [] h = absurd (omega arith)
end_some (c ∷ []) h = omega arith
end_some (c ∷ d ∷ text) h = two_or_one (c == 13 && d == 10)

pub line_taken : (text : List ℕ) → 0 < length text → 0 < run in_line text + line_end_units (drop (run in_line text) text)
line_taken text h = go (run in_line text)
  where
    go : (n : ℕ) → 0 < n + line_end_units (drop n text)
    go zero = let some : 0 < line_end_units text = end_some text h in omega arith
    go (suc n) = omega arith

pub line_joints : (text : List ℕ) → joints (take (run in_line text) text) ≡ 0
line_joints [] = refl
line_joints (c ∷ cs) = go (line_joints cs) (is_line_end c) refl
  where
    go : joints (take (run in_line cs) cs) ≡ 0 → (b : Bool) → is_line_end c ≡ b → joints (take (run in_line (c ∷ cs)) (c ∷ cs)) ≡ 0
    go rest true e = rw e refl
    go rest false e =
        let one : suc (run in_line cs) ≡ run in_line (c ∷ cs) = rw e (omega arith) in
        let at_suc : joints (take (suc (run in_line cs)) (c ∷ cs)) ≡ 0 = rw (e, rest) refl in
        subst (λ (m : ℕ). joints (take m (c ∷ cs)) ≡ 0) one at_suc

pub joints-append : (a b : List ℕ) → joints (a ++ b) ≡ joints a + joints b
joints-append [] b = omega arith
joints-append (c ∷ a) b = let rest : joints (a ++ b) ≡ joints a + joints b = joints-append a b in omega arith

-- fewer units hold no more continuations
pub joints-take : (n : ℕ) (units : List ℕ) → joints (take n units) ≤ joints units
joints-take zero units = omega arith
joints-take (suc n) [] = omega arith
joints-take (suc n) (c ∷ cs) = let rest : joints (take n cs) ≤ joints cs = joints-take n cs in omega arith

-- where there are lines there are joined ones
pub joined_some : (lines : List (List ℕ)) → 0 < length lines → 0 < length (joined lines)
joined_some [] h = absurd (omega arith)
joined_some (line ∷ lines) h = go (continued line) (joined lines)
  where
    go : (front : Option (List ℕ)) (next : List (List ℕ)) → 0 < length (join line front next)
    go None next = omega arith
    go (Some f) [] = omega arith
    go (Some f) (l ∷ ls) = omega arith

pub lines_some : (text : List ℕ) → 0 < length text → 0 < length (physical_lines text)
lines_some text h = rw (first_line text h) (omega arith)

pub unit_before : (c : ℕ) (cs : List ℕ) → is_continuation (c ∷ cs) ≡ false → continued (c ∷ cs) ≡ option_map (λ front. c ∷ front) (continued cs)
unit_before c cs e = rw (e, continued) refl

-- a line that goes on, behind others
pub onto_next : (units front line : List ℕ) (lines : List (List ℕ)) → continued line ≡ Some front → 0 < length lines
    → onto_first units (joined (line ∷ lines)) ≡ onto_first ((units ++ front) ++ 10 ∷ []) (joined lines)
onto_next units front line lines e h = go (joined lines) (joined_some lines h)
  where
    go : (next : List (List ℕ)) → 0 < length next → onto_first units (join line (continued line) next) ≡ onto_first ((units ++ front) ++ 10 ∷ []) next
    go [] some = absurd (omega arith)
    go (l ∷ ls) some = rw e (simp append_assoc)

-- what begins a logical line
pub onto_none : (text : List ℕ) → 0 < length text → onto_first [] (joined (physical_lines text)) ≡ joined (physical_lines text)
onto_none text h = go (joined (physical_lines text)) (joined_some (physical_lines text) (lines_some text h))
  where
    go : (next : List (List ℕ)) → 0 < length next → onto_first [] next ≡ next
    go [] some = absurd (omega arith)
    go (l ∷ ls) some = refl

-- a line without a continuation is shown as it stands
pub shown_unjoined : (units : List ℕ) → joints units ≡ 0 → shown units ≡ units
shown_unjoined [] h = refl
shown_unjoined (c ∷ cs) h =
    let here : joint c ≡ 0 = omega arith in
    let rest : joints cs ≡ 0 = omega arith in
    go (is_line_end c) refl here (shown_unjoined cs rest)
  where
    go : (b : Bool) → is_line_end c ≡ b → joint c ≡ 0 → shown cs ≡ cs → shown (c ∷ cs) ≡ c ∷ cs
    go true e here rest = let one : joint c ≡ 1 = rw e refl in absurd (omega arith)
    go false e here rest = rw e (ap (λ (xs : List ℕ). c ∷ xs) rest)
