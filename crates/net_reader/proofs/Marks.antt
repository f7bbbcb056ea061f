-- The mark of UTF-8 stands before the first line of a file: files begin alike where they do behind it.
use Rattle.std.proofs.Common.{◌≡◌, ℕ, zero, suc, ◌≤◌, Bool, true, false, cond, eqb, nat_le, List, [], ◌∷◌, ◌++◌, length, take, refl, sym, ap, subst, ◌∙◌, arith, eqb-true, if◌then◌else◌, Some, None}
use Rattle.std.specs.Prelude.{drop}
use Rattle.std.specs.List.{concat}
use Rattle.std.proofs.lemmas.Bool.{leb-true, le-leb}
use Rattle.std.proofs.lemmas.Option.{none-some, same_Some}
use Rattle.net_tree.specs.Text.{byte_order_mark}
use Rattle.net_exprs.specs.Readers.{after}
use Rattle.net_exprs.proofs.Words.{by_test, never}
use Rattle.net_reader.specs.FileLines.{file_lines, onto_first}
use Rattle.net_reader.specs.Places.{BeginsAs}
use Rattle.net_reader.proofs.FileCuts.{as_first, as_second, first_type, lines_joined}

-- ---- texts

after_is : (front s rest : List ℕ) → after front s ≡ Some rest → s ≡ front ++ rest
after_is [] s rest h = same_Some s rest h
after_is (c ∷ front) [] rest h = absurd (none-some rest h)
after_is (c ∷ front) (d ∷ s) rest h =
    by_test (eqb d c) (λ b. eqb d c ≡ b → (if b then after front s else None) ≡ Some rest → d ∷ s ≡ c ∷ front ++ rest)
    (λ t e k. ap (λ x. x ∷ s) (eqb-true d c e) ∙ ap (λ x. c ∷ x) (after_is front s rest k)) (λ f e k. absurd (none-some rest k)) refl h

pub behind_mark : (file rest : List ℕ) → after byte_order_mark file ≡ Some rest → file ≡ byte_order_mark ++ rest
behind_mark file rest h = after_is byte_order_mark file rest h

-- ---- lines

-- lines with the mark before the first
abbrev marked : List (List ℕ) → List (List ℕ)
marked [] = byte_order_mark ∷ []
marked (line ∷ lines) = (byte_order_mark ++ line) ∷ lines

onto_marked : (lines : List (List ℕ)) → onto_first 0xEF (onto_first 0xBB (onto_first 0xBF lines)) ≡ marked lines
onto_marked [] = refl
onto_marked (line ∷ lines) = refl

marked_lines : (text : List ℕ) → file_lines (byte_order_mark ++ text) ≡ marked (file_lines text)
marked_lines text = onto_marked (file_lines text)

-- no first line is empty
abbrev is_filled : List (List ℕ) → Bool
is_filled [] = true
is_filled ([] ∷ lines) = false
is_filled ((c ∷ line) ∷ lines) = true

onto_filled : (c : ℕ) (lines : List (List ℕ)) → is_filled (onto_first c lines) ≡ true
onto_filled c [] = refl
onto_filled c (line ∷ lines) = refl

filled : (text : List ℕ) → is_filled (file_lines text) ≡ true
filled [] = refl
filled (c ∷ cs) = by_test (eqb c 10) (λ b. is_filled (cond b ((c ∷ []) ∷ file_lines cs) (onto_first c (file_lines cs))) ≡ true) (λ t. refl) (λ f. onto_filled c (file_lines cs))

first_same : (a b : List ℕ) (xs ys : List (List ℕ)) → (byte_order_mark ++ a) ∷ xs ≡ (byte_order_mark ++ b) ∷ ys → (a ≡ b) × (xs ≡ ys)
first_same a b xs ys h = (cc h, cc h)

none_more : (a : List ℕ) (lines xs ys : List (List ℕ)) → is_filled (a ∷ lines) ≡ true → byte_order_mark ∷ xs ≡ (byte_order_mark ++ a) ∷ ys → ⊥
none_more [] lines xs ys h e = never h
none_more (c ∷ a) lines xs ys h e = absurd (cc e)

unmark : (n : ℕ) (own lines : List (List ℕ)) → is_filled own ≡ true → is_filled lines ≡ true → take n (marked own) ≡ take n (marked lines) → take n own ≡ take n lines
unmark zero own lines h k e = refl
unmark (suc n) [] [] h k e = refl
unmark (suc n) [] (line ∷ lines) h k e = absurd (none_more line lines (take n []) (take n lines) k e)
unmark (suc n) (line ∷ own) [] h k e = absurd (none_more line own (take n []) (take n own) h (sym e))
unmark (suc n) (first ∷ own) (line ∷ lines) h k e = let same = first_same first line (take n own) (take n lines) e in cc (same.0, same.1)

mark : (n : ℕ) (own lines : List (List ℕ)) → take n own ≡ take n lines → take n (marked own) ≡ take n (marked lines)
mark zero own lines e = refl
mark (suc n) [] [] e = refl
mark (suc n) [] (line ∷ lines) e = absurd (cc e)
mark (suc n) (line ∷ own) [] e = absurd (cc e)
mark (suc n) (first ∷ own) (line ∷ lines) e = cc e

marked_count : (lines : List (List ℕ)) → length lines ≤ length (marked lines)
marked_count [] = omega arith
marked_count (line ∷ lines) = omega arith

-- a text with the mark has no fewer lines
pub no_fewer_lines : (text : List ℕ) → length (file_lines text) ≤ length (file_lines (byte_order_mark ++ text))
no_fewer_lines text = subst (λ (lines : List (List ℕ)). length (file_lines text) ≤ length lines) (sym (marked_lines text)) (marked_count (file_lines text))

-- ---- files

pub begins_itself : (n : ℕ) (text : List ℕ) → BeginsAs n text text
begins_itself n text = either (nat_le n (length (file_lines text))) _ _ refl refl
  where
    either : (b : Bool) (A B : Type 0) → A → B → cond b A B
    either true A B x y = x
    either false A B x y = y

pub same_begins : (n : ℕ) (text own : List ℕ) → own ≡ text → BeginsAs n text own
same_begins n text own e = subst (λ (t : List ℕ). BeginsAs n text t) (sym e) (begins_itself n text)

-- how many lines are the same, or the texts
abbrev WithLines : (n : ℕ) (lines own : List (List ℕ)) (Same : Type 0) → Type 0
WithLines n lines own Same = cond (nat_le n (length lines)) (take n own ≡ take n lines) Same

pub lines_begin : (n : ℕ) (text own : List ℕ) → n ≤ length (file_lines text) → take n (file_lines own) ≡ take n (file_lines text) → BeginsAs n text own
lines_begin n text own within e =
    first_type (nat_le n (length (file_lines text))) (take n (file_lines own) ≡ take n (file_lines text)) (own ≡ text) (le-leb n (length (file_lines text)) within) e

-- behind the mark, and with it
pub begins_marked : (n : ℕ) (text own : List ℕ) → BeginsAs n text own → BeginsAs n (byte_order_mark ++ text) (byte_order_mark ++ own)
begins_marked n text own h =
    by_test (nat_le n (length (file_lines text))) (λ b. nat_le n (length (file_lines text)) ≡ b → BeginsAs n (byte_order_mark ++ text) (byte_order_mark ++ own))
    (λ t e. lines_begin n (byte_order_mark ++ text) (byte_order_mark ++ own) (within (leb-true n (length (file_lines text)) e))
    (ap (take n) (marked_lines own)
    ∙ mark n (file_lines own) (file_lines text) (as_first (nat_le n (length (file_lines text))) (take n (file_lines own) ≡ take n (file_lines text)) (own ≡ text) e h)
    ∙ ap (take n) (sym (marked_lines text))))
    (λ f e. same_begins n (byte_order_mark ++ text) (byte_order_mark ++ own)
    (ap (λ t. byte_order_mark ++ t) (as_second (nat_le n (length (file_lines text))) (take n (file_lines own) ≡ take n (file_lines text)) (own ≡ text) e h)))
    refl
  where
    within : n ≤ length (file_lines text) → n ≤ length (file_lines (byte_order_mark ++ text))
    within h = omega (arith, h, marked_count (file_lines text), ap length (marked_lines text))

no_first : (n : ℕ) (own : List (List ℕ)) → 1 ≤ n → take n own ≡ [] → own ≡ []
no_first zero own h e = absurd (omega (arith, h))
no_first (suc n) [] h e = refl
no_first (suc n) (line ∷ own) h e = absurd (cc e)

take_nothing : (n : ℕ) → ◌≡◌ {A = List (List ℕ)} (take n []) []
take_nothing zero = refl
take_nothing (suc n) = refl

no_text : (text : List ℕ) → file_lines text ≡ [] → text ≡ []
no_text text e = sym (lines_joined text) ∙ ap concat e

-- the first lines of a marked text, where there are so many
unmarked_lines : (n : ℕ) (text own : List ℕ) → take n (file_lines own) ≡ take n (file_lines text) → (lines : List (List ℕ)) → file_lines text ≡ lines → n ≤ length (marked lines) → BeginsAs n text own
unmarked_lines zero text own e lines are within = lines_begin zero text own (omega arith) refl
unmarked_lines (suc n) text own e [] are within =
    same_begins (suc n) text own
    (no_text own (no_first (suc n) (file_lines own) (omega arith) (e ∙ ap (take (suc n)) are)) ∙ sym (no_text text are))
unmarked_lines (suc n) text own e (line ∷ lines) are within = lines_begin (suc n) text own (omega (arith, within, ap length are)) e

pub begins_unmarked : (n : ℕ) (text own : List ℕ) → BeginsAs n (byte_order_mark ++ text) (byte_order_mark ++ own) → BeginsAs n text own
begins_unmarked n text own h =
    by_test (nat_le n (length (file_lines (byte_order_mark ++ text)))) (λ b. nat_le n (length (file_lines (byte_order_mark ++ text))) ≡ b → BeginsAs n text own)
    (λ t e. unmarked_lines n text own
    (unmark n (file_lines own) (file_lines text) (filled own) (filled text) (ap (take n) (sym (marked_lines own)) ∙ first e ∙ ap (take n) (marked_lines text)))
    (file_lines text) refl (omega (arith, leb-true n (length (file_lines (byte_order_mark ++ text))) e, ap length (marked_lines text))))
    (λ f e. same_begins n text own (ap (drop 3) (second e)))
    refl
  where
    first : nat_le n (length (file_lines (byte_order_mark ++ text))) ≡ true → take n (file_lines (byte_order_mark ++ own)) ≡ take n (file_lines (byte_order_mark ++ text))
    first e =
        as_first (nat_le n (length (file_lines (byte_order_mark ++ text)))) (take n (file_lines (byte_order_mark ++ own)) ≡ take n (file_lines (byte_order_mark ++ text)))
        (byte_order_mark ++ own ≡ byte_order_mark ++ text) e h

    second : nat_le n (length (file_lines (byte_order_mark ++ text))) ≡ false → byte_order_mark ++ own ≡ byte_order_mark ++ text
    second e =
        as_second (nat_le n (length (file_lines (byte_order_mark ++ text)))) (take n (file_lines (byte_order_mark ++ own)) ≡ take n (file_lines (byte_order_mark ++ text)))
        (byte_order_mark ++ own ≡ byte_order_mark ++ text) e h

-- ---- files without the mark

-- a text whose first line is that of a marked one has the mark
first_marked : (own lines : List (List ℕ)) → take 1 (marked own) ≡ take 1 lines → (rest : List ℕ) × (concat lines ≡ byte_order_mark ++ rest)
first_marked [] [] e = absurd (cc e)
first_marked (first ∷ own) [] e = absurd (cc e)
first_marked [] (line ∷ lines) e = let same : byte_order_mark ≡ line = cc e in (concat lines, ap (λ x. x ++ concat lines) (sym same))
first_marked (first ∷ own) (line ∷ lines) e =
    let same : byte_order_mark ++ first ≡ line = cc e in (first ++ concat lines, ap (λ x. x ++ concat lines) (sym same))

pub first_line_marked : (text own : List ℕ) → BeginsAs 1 text (byte_order_mark ++ own) → (rest : List ℕ) × (text ≡ byte_order_mark ++ rest)
first_line_marked text own h =
    by_test (nat_le 1 (length (file_lines text))) (λ b. nat_le 1 (length (file_lines text)) ≡ b → (rest : List ℕ) × (text ≡ byte_order_mark ++ rest))
    (λ t e. let marks = first_marked (file_lines own) (file_lines text) (ap (take 1) (sym (marked_lines own)) ∙ first e) in
    (marks.0, sym (lines_joined text) ∙ marks.1))
    (λ f e. (own, sym (second e)))
    refl
  where
    first : nat_le 1 (length (file_lines text)) ≡ true → take 1 (file_lines (byte_order_mark ++ own)) ≡ take 1 (file_lines text)
    first e = as_first (nat_le 1 (length (file_lines text))) (take 1 (file_lines (byte_order_mark ++ own)) ≡ take 1 (file_lines text)) (byte_order_mark ++ own ≡ text) e h

    second : nat_le 1 (length (file_lines text)) ≡ false → byte_order_mark ++ own ≡ text
    second e = as_second (nat_le 1 (length (file_lines text))) (take 1 (file_lines (byte_order_mark ++ own)) ≡ take 1 (file_lines text)) (byte_order_mark ++ own ≡ text) e h
