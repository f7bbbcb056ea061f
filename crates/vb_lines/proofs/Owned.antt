-- Lines that are read one after the other, behind those of a head.
use Rattle.std.proofs.Common.{◌≡◌, ◌⊎◌, inl, inr, ℕ, ◌<◌, ◌≤◌, ◌+◌, List, [], ◌∷◌, ◌++◌, length, drop, refl, sym, ap, ◌∙◌, subst, append_assoc, arith}
use Rattle.std.proofs.lemmas.List.{append-nil, drop-append-le, drop_all, length-append}
use Rattle.std.proofs.lemmas.Grind.{flat_map-append}
use Rattle.up_base.specs.declared.place.Fault.{Fault}
use Rattle.vb_tree.specs.declared.token.Line.{Line}
use Rattle.vb_lines.specs.declared.building.ModuleBuild.{ModuleBuild}
use Rattle.vb_lines.specs.Modules.{comment_at, comments_of}
use Rattle.vb_lines.specs.Parts.{all_parts, parts_of}
use Rattle.vb_lines.specs.Reading.{AddsParts, FaultOfParts}
use Rattle.vb_lines.proofs.Readings.{parts_then_parts, parts_then_fault, fault_before_parts}

-- so many lines of a head were passed where so many lines came
abbrev pub IsPassed : (head passed count : ℕ) → Type 0
IsPassed head passed count = ((passed ≡ head) × (head ≤ count)) ⊎ ((passed ≡ count) × (count ≤ head))

pub none_passed : (head : ℕ) → IsPassed head 0 0
none_passed head = inr (refl, omega arith)

pub one_passed : (head passed count : ℕ) → passed < head → IsPassed head passed count → IsPassed head (passed + 1) (count + 1)
one_passed head passed count less (inl h) = absurd (omega (arith, less, h.0))
one_passed head passed count less (inr h) = inr (ap (λ n. n + 1) h.0, omega (arith, less, h.0))

pub all_passed : (head passed count : ℕ) → head ≤ passed → IsPassed head passed count → head ≤ count
all_passed head passed count most (inl h) = h.1
all_passed head passed count most (inr h) = omega (arith, most, h.0)

pub still_passed : (head passed count : ℕ) → head ≤ passed → IsPassed head passed count → IsPassed head passed (count + 1)
still_passed head passed count most (inl h) = inl (h.0, omega (arith, h.1))
still_passed head passed count most (inr h) = inl (omega (arith, most, h.0, h.1), omega (arith, most, h.0))

pub line_of_head : (head : ℕ) (done : List Line) (x : Line) → length done < head → drop head (done ++ x ∷ []) ≡ drop head done
line_of_head head done x less =
    drop_all head (done ++ x ∷ []) (omega (arith, less, length-append done (x ∷ []))) ∙ sym (drop_all head done (omega (arith, less)))

pub line_behind : (head : ℕ) (done rest : List Line) (x : Line) → head ≤ length done → drop head (done ++ x ∷ rest) ≡ drop head done ++ x ∷ rest
line_behind head done rest x most = drop-append-le head done (x ∷ rest) most

parts_behind : (lines rest : List Line) (x : Line) → all_parts (lines ++ x ∷ rest) ≡ (all_parts lines ++ parts_of x) ++ all_parts rest
parts_behind lines rest x = flat_map-append parts_of lines (x ∷ rest) ∙ sym (append_assoc (all_parts lines) (parts_of x) (all_parts rest))

pub owned_more : (head : ℕ) (done : List Line) (x : Line) (a b c : ModuleBuild) → head ≤ length done → AddsParts (all_parts (drop head done)) a b → AddsParts (parts_of x) b c
    → AddsParts (all_parts (drop head (done ++ x ∷ []))) a c
owned_more head done x a b c most first second =
    subst (λ parts. AddsParts parts a c)
    (sym (ap all_parts (line_behind head done [] x most) ∙ parts_behind (drop head done) [] x ∙ append-nil (all_parts (drop head done) ++ parts_of x)))
    (parts_then_parts (all_parts (drop head done)) (parts_of x) a b c first second)

pub comments_more : (head : ℕ) (done : List Line) (x : Line) (start before after : List (ℕ × List ℕ)) → head ≤ length done → before ≡ start ++ comments_of (drop head done)
    → after ≡ before ++ comment_at x.place x.comment → after ≡ start ++ comments_of (drop head (done ++ x ∷ []))
comments_more head done x start before after most first second =
    let new = comment_at x.place x.comment in
    let old = comments_of (drop head done) in
    let all : comments_of (drop head (done ++ x ∷ [])) ≡ old ++ new =
    ap comments_of (line_behind head done [] x most) ∙ flat_map-append (λ (l : Line). comment_at l.place l.comment) (drop head done) (x ∷ []) ∙ ap (λ cs. old ++ cs) (append-nil new) in
    second ∙ ap (λ cs. cs ++ new) first ∙ append_assoc start old new ∙ ap (λ cs. start ++ cs) (sym all)

pub owned_fault : (head : ℕ) (lines done rest : List Line) (x : Line) (a b : ModuleBuild) (f : Fault) → done ++ x ∷ rest ≡ lines → head ≤ length done
    → AddsParts (all_parts (drop head done)) a b → FaultOfParts (parts_of x) b f → FaultOfParts (all_parts (drop head lines)) a f
owned_fault head lines done rest x a b f cut most first second =
    let front = all_parts (drop head done) in
    subst (λ parts. FaultOfParts parts a f)
    (sym (ap (λ ls. all_parts (drop head ls)) (sym cut) ∙ ap all_parts (line_behind head done rest x most) ∙ parts_behind (drop head done) rest x))
    (fault_before_parts (front ++ parts_of x) (all_parts rest) a f (parts_then_fault front (parts_of x) a b f first second))
