-- What is read of a response file is what its text is written for.
use Rattle.std.proofs.Common.{◌≡◌, ℕ, suc, ◌-◌, ◌≤◌, true, false, cond, ◌&&◌, List, [], ◌∷◌, ◌++◌, codes, refl, sym, ap, subst, ◌∙◌, append_assoc, append-nil, Option, Some}
use Rattle.std.specs.List.{list_all}
use Rattle.net_tree.specs.Spelling.{at_depth, is_identifier}
use Rattle.net_tree.specs.Text.{is_writable_module, main_text, target_text}
use Rattle.net_tree.specs.Tree.{Module}
use Rattle.net_exprs.specs.Fitting.{fits_name}
use Rattle.net_exprs.specs.Readers.{after}
use Rattle.net_exprs.proofs.Words.{both_true, by_test}
use Rattle.net_reader.specs.FileLines.{file_lines, text_of_line}
use Rattle.net_reader.specs.ModuleReader.{Reading, behind_line, complete, is_line, stuck, taken}
use Rattle.net_reader.specs.Places.{BeginsAs}
use Rattle.net_reader.specs.ProjectReader.{ResponseState, among_texts, at_main, at_target, main_line, response_end, response_in, response_lines, response_step, run_response}
use Rattle.net_reader.proofs.FileCuts.{ends_line}
use Rattle.net_reader.proofs.Machines.{StopsAtEnd, faults, runs, same_number, stands, stuck_complete}
use Rattle.net_reader.proofs.ResponsesRead.{IsMain, response_file, response_read, texts_text}
use Rattle.net_reader.proofs.TakenLines.{depth_ends, if_some, is_written, mapped, was_taken}

-- what was read up to a state
abbrev Holds : List Module → List ℕ → ResponseState → Type 0
Holds ms bytes at_target = bytes ≡ []
Holds ms bytes at_main = bytes ≡ at_depth 0 (target_text false)
Holds ms bytes (among_texts main texts) = IsMain main × (response_file ms main ≡ bytes ++ texts_text texts)

abbrev Grows : List Module → List ℕ → List ℕ → ResponseState → Type 0
Grows ms bytes line next = Holds ms (bytes ++ line) next × (ends_line line ≡ true)

written_line : (depth : ℕ) (text line : List ℕ) → at_depth depth text ≡ line → ends_line line ≡ true
written_line depth text line h = subst (λ l. ends_line l ≡ true) h (depth_ends depth text)

library_grows : (ms : List Module) (bytes line : List ℕ) (next : ResponseState) → bytes ≡ [] → at_depth 0 (target_text true) ≡ line → among_texts Option.None (response_lines ms) ≡ next → Grows ms bytes line next
library_grows ms bytes line next h k e = (
  subst (λ s. Holds ms (bytes ++ line) s) e
      (record { writable = refl; fits = refl }, ap (λ l. l ++ texts_text (response_lines ms)) (k ∙ ap (λ b. b ++ line) (sym h))),
  written_line 0 (target_text true) line k,
)

target_grows : (ms : List Module) (bytes line : List ℕ) (next : ResponseState) → bytes ≡ [] → response_step ms at_target line ≡ Some next → Grows ms bytes line next
target_grows ms bytes line next h e =
    by_test (is_line 0 (target_text true) line) (λ b. cond b (Some (among_texts Option.None (response_lines ms))) (cond (is_line 0 (target_text false) line) (Some at_main) Option.None) ≡ Some next → is_line 0 (target_text true) line ≡ b → Grows ms bytes line next)
    (λ t k is. library_grows ms bytes line next h (is_written 0 (target_text true) line is) (cc k))
    (λ f k is.
    let found = if_some (is_line 0 (target_text false) line) at_main next k in
    let written = is_written 0 (target_text false) line found.0 in
    (subst (λ s. Holds ms (bytes ++ line) s) found.1 (ap (λ b. b ++ line) h ∙ sym written), written_line 0 (target_text false) line written))
    e refl

main_grows : (ms : List Module) (bytes line : List ℕ) (next : ResponseState) → bytes ≡ at_depth 0 (target_text false) → response_step ms at_main line ≡ Some next → Grows ms bytes line next
main_grows ms bytes line next h e =
    let passes = λ (name : List ℕ). is_identifier name && fits_name name in
    let found = mapped (λ (name : List ℕ). among_texts (Some name) (response_lines ms)) (taken passes (λ (name : List ℕ). at_depth 0 (main_line name)) line (after (codes "/main:") (text_of_line line))) next e in
    let was = was_taken passes (λ (name : List ℕ). at_depth 0 (main_line name)) line (after (codes "/main:") (text_of_line line)) found.item found.is in
    let both = both_true (is_identifier found.item) (fits_name found.item) was.passed in (
      subst (λ s. Holds ms (bytes ++ line) s) found.gives (
        record { writable = both.0; fits = both.1 },
        sym (append_assoc (at_depth 0 (target_text false)) (at_depth 0 (main_line found.item)) (texts_text (response_lines ms)))
            ∙ ap (λ l. l ++ texts_text (response_lines ms)) (ap (λ l. at_depth 0 (target_text false) ++ l) was.same ∙ ap (λ b. b ++ line) (sym h)),
      ),
      written_line 0 (main_line found.item) line was.same,
    )

text_grows : (ms : List Module) (main : Option (List ℕ)) (text : List ℕ) (texts : List (List ℕ)) (bytes line : List ℕ) (next : ResponseState) → Holds ms bytes (among_texts main (text ∷ texts)) → response_step ms (among_texts main (text ∷ texts)) line ≡ Some next → Grows ms bytes line next
text_grows ms main text texts bytes line next h e =
    let found = if_some (is_line 0 text line) (among_texts main texts) next e in
    let written = is_written 0 text line found.0 in (
      subst (λ s. Holds ms (bytes ++ line) s) found.1
          (h.0, h.1 ∙ ap (λ l. bytes ++ (l ++ texts_text texts)) written ∙ sym (append_assoc bytes line (texts_text texts))),
      written_line 0 text line written,
    )

pub grows : (ms : List Module) (bytes : List ℕ) (s : ResponseState) (line : List ℕ) (next : ResponseState) → Holds ms bytes s → response_step ms s line ≡ Some next → Grows ms bytes line next
grows ms bytes at_target line next h e = target_grows ms bytes line next h e
grows ms bytes at_main line next h e = main_grows ms bytes line next h e
grows ms bytes (among_texts main []) line next h e = absurd (cc e)
grows ms bytes (among_texts main (text ∷ texts)) line next h e = text_grows ms main text texts bytes line next h e

pub stops : (ms : List Module) → StopsAtEnd (response_step ms) response_end
stops ms at_target n l e = sym (same_number n l e)
stops ms at_main n l e = sym (same_number n l e)
stops ms (among_texts main []) n l e = absurd (cc e)
stops ms (among_texts main (text ∷ texts)) n l e = sym (same_number n l e)

-- a run is one from line to line
pub runs_response : (ms : List Module) (s : ResponseState) (n : ℕ) (lines : List (List ℕ)) → run_response ms s n lines ≡ runs (response_step ms) response_end s n lines
runs_response ms s n [] = refl
runs_response ms s n (line ∷ lines) = go (response_step ms s line) (λ next. runs_response ms next (suc n) lines)
  where
    go : (o : Option ResponseState) → ((next : ResponseState) → run_response ms next (suc n) lines ≡ runs (response_step ms) response_end next (suc n) lines)
        → behind_line n o (λ (next : ResponseState). run_response ms next (suc n) lines) ≡ behind_line n o (λ (next : ResponseState). runs (response_step ms) response_end next (suc n) lines)
    go Option.None later = refl
    go (Some next) later = later next

-- ---- whole files

one_name : List ℕ
one_name = codes "M"

pub completes : (ms : List Module) (bytes : List ℕ) (s : ResponseState) → Holds ms bytes s → (main : Option (List ℕ)) × IsMain main × ((more : List ℕ) × (response_file ms main ≡ bytes ++ more))
completes ms bytes at_target h = (Option.None, record { writable = refl; fits = refl }, (response_file ms Option.None, ap (λ b. b ++ response_file ms Option.None) (sym h)))
completes ms bytes at_main h =
    (Some (codes "M"), record { writable = refl; fits = refl }, (main_text (Some (codes "M")) ++ texts_text (response_lines ms), ap (λ b. b ++ (main_text (Some (codes "M")) ++ texts_text (response_lines ms))) (sym h)))
completes ms bytes (among_texts main texts) h = (main, h.0, (texts_text texts, h.1))

pub ended : (ms : List Module) (bytes : List ℕ) (s : ResponseState) (n : ℕ) (main : Option (List ℕ)) → Holds ms bytes s → response_end s n ≡ complete main → IsMain main × (response_file ms main ≡ bytes)
ended ms bytes at_target n main h e = stuck_complete n main e
ended ms bytes at_main n main h e = stuck_complete n main e
ended ms bytes (among_texts own []) n main h e = subst (λ m. IsMain m × (response_file ms m ≡ bytes)) (same_main own main e) (h.0, h.1 ∙ append-nil bytes)
  where
    main_in : Reading (Option (List ℕ)) → Option (List ℕ)
    main_in (complete m) = m
    main_in (stuck n) = Option.None

    same_main : (a b : Option (List ℕ)) → ◌≡◌ {A = Reading (Option (List ℕ))} (complete a) (complete b) → a ≡ b
    same_main a b e = ap main_in e
ended ms bytes (among_texts own (text ∷ texts)) n main h e = stuck_complete n main e

-- ---- the laws of response files

pub responses_stand : (ms : List Module) (text : List ℕ) (main : Option (List ℕ)) → response_in ms text ≡ complete main → IsMain main × (text ≡ response_file ms main)
responses_stand ms text main e =
    stands (response_step ms) response_end (Holds ms) (stops ms) (grows ms) at_target IsMain (response_file ms) refl (ended ms) text main
    (sym (runs_response ms at_target 1 (file_lines text)) ∙ e)

pub response_faults : (ms : List Module) (text : List ℕ) (line : ℕ) → list_all is_writable_module ms ≡ true → response_in ms text ≡ stuck line →
    (1 ≤ line) × ((main : Option (List ℕ)) × IsMain main × BeginsAs (line - 1) text (response_file ms main)) × (((main : Option (List ℕ)) × IsMain main × BeginsAs line text (response_file ms main)) → ⊥)
response_faults ms text line can e =
    faults (response_step ms) response_end (Holds ms) (stops ms) (grows ms) at_target IsMain (response_file ms) refl (completes ms) (λ main is. sym (runs_response ms at_target 1 (file_lines (response_file ms main))) ∙ response_read ms main can is) text line
    (sym (runs_response ms at_target 1 (file_lines text)) ∙ e)
