-- The lines of a response file, by their ends.
use Rattle.std.proofs.Common.{◌≡◌, ◌≢◌, ℕ, true, false, ◌&&◌, List, ◌++◌, codes, refl, sym, ap, subst, ◌∙◌, Option, Some, MatchOption, Bor}
use Rattle.std.specs.Cmp.Lexicographic.{bytes_decides}
use Rattle.std.proofs.lemmas.Bool.Decides.{same_from_decides}
use Rattle.std.proofs.lemmas.List.{append_cancel_left, append_cancel_right}
use Rattle.up_base.specs.LineEnd.{line_end}
use Rattle.net_tree.specs.Spelling.{at_depth, is_identifier, is_same_text}
use Rattle.net_exprs.specs.Fitting.{fits_name}
use Rattle.net_exprs.specs.Readers.{after}
use Rattle.net_exprs.proofs.Words.{by_test, never}
use Rattle.net_reader.specs.FileLines.{text_of_line}
use Rattle.net_reader.specs.FileSteps.{IsMainLine}
use Rattle.net_reader.specs.ModuleReader.{is_line}
use Rattle.net_reader.specs.ProjectReader.{main_in, main_line}
use Rattle.net_reader.proofs.ResponsesRead.{main_found}
use Rattle.net_reader.proofs.TakenLines.{is_written, was_taken}

-- ---- a line of one text

-- a line without the line's end is no text's
pub line_lacks : (text line : List ℕ) → ((front : List ℕ) → line ≢ front ++ line_end) → is_line 0 text line ≡ false
line_lacks text line h =
    by_test (is_line 0 text line) (λ b. is_line 0 text line ≡ b → b ≡ false)
    (λ t is. absurd (h text (sym (is_written 0 text line is)))) (λ f is. refl) refl

-- nor is one without the text's ending
pub ending_lacks : (text ending said line : List ℕ) → line ≡ said ++ line_end → ((front : List ℕ) → said ≢ front ++ ending) → is_line 0 (text ++ ending) line ≡ false
ending_lacks text ending said line e h =
    by_test (is_line 0 (text ++ ending) line) (λ b. is_line 0 (text ++ ending) line ≡ b → b ≡ false)
    (λ t is. absurd (h text (append_cancel_right said (text ++ ending) line_end (sym e ∙ sym (is_written 0 (text ++ ending) line is))))) (λ f is. refl) refl

-- what stands before both is compared
pub start_same : (text ending start said line : List ℕ) → line ≡ said ++ line_end → said ≡ start ++ ending → is_same_text start text ≡ is_line 0 (text ++ ending) line
start_same text ending start said line e s =
    let whole : line ≡ (start ++ ending) ++ line_end = e ∙ ap (λ said. said ++ line_end) s in
    same_from_decides {P = start ≡ text} (is_same_text start text) (is_line 0 (text ++ ending) line) (bytes_decides start text) (
      λ is. append_cancel_right start text ending (append_cancel_right (start ++ ending) (text ++ ending) line_end (sym whole ∙ sym (is_written 0 (text ++ ending) line is))),
      λ same. (bytes_decides (at_depth 0 (text ++ ending)) line).1 (ap (λ (text : List ℕ). (text ++ ending) ++ line_end) (sym same) ∙ sym whole),
    )

-- ---- the line of the main module

pub no_main : (line : List ℕ) → ((name : List ℕ) → line ≢ at_depth 0 (main_line name)) → main_in line ≡ Option.None
no_main line h = go (main_in line) refl
  where
    go : (o : Option (List ℕ)) → main_in line ≡ o → o ≡ Option.None
    go Option.None e = refl
    go (Some name) e =
        let was = was_taken (λ (name : List ℕ). is_identifier name && fits_name name) (λ (name : List ℕ). at_depth 0 (main_line name)) line (after (codes "/main:") (text_of_line line)) name e in
        absurd (h name (sym was.same))

same_main : (name other : List ℕ) → at_depth 0 (main_line name) ≡ at_depth 0 (main_line other) → name ≡ other
same_main name other h = append_cancel_left (codes "/main:") name other (append_cancel_right (main_line name) (main_line other) line_end h)

-- a name that passes no test isn't taken
pub other_main : (line name : List ℕ) → line ≡ at_depth 0 (main_line name) → is_identifier name && fits_name name ≡ false → main_in line ≡ Option.None
other_main line name e fails = go (main_in line) refl
  where
    go : (o : Option (List ℕ)) → main_in line ≡ o → o ≡ Option.None
    go Option.None k = refl
    go (Some other) k =
        let was = was_taken (λ (name : List ℕ). is_identifier name && fits_name name) (λ (name : List ℕ). at_depth 0 (main_line name)) line (after (codes "/main:") (text_of_line line)) other k in
        never (sym fails ∙ subst (λ (name : List ℕ). is_identifier name && fits_name name ≡ true) (same_main other name (was.same ∙ e)) was.passed)

pub main_is : (line name : List ℕ) → line ≡ at_depth 0 (main_line name) → is_identifier name ≡ true → fits_name name ≡ true → main_in line ≡ Some name
main_is line name e h k = ap main_in e ∙ main_found name h k

pub in_main_line : (line said : List ℕ) (found : Option (Bor (List ℕ))) → line ≡ said ++ line_end → MatchOption found ((rest : List ℕ) → said ≢ codes "/main:" ++ rest) (λ name. said ≡ codes "/main:" ++ name.now) → IsMainLine line found
in_main_line line said Option.None e h = λ name is. h name (append_cancel_right said (main_line name) line_end (sym e ∙ is))
in_main_line line said (Some name) e h = e ∙ ap (λ said. said ++ line_end) h
