-- A response file is read as what it is written for.
use Rattle.std.proofs.Common.{◌≡◌, ℕ, suc, Bool, true, false, ◌&&◌, List, [], ◌∷◌, ◌++◌, map, codes, refl, ap, ◌∙◌, arith, append_assoc, Option, Some}
use Rattle.std.specs.Prelude.{is_none, option_map}
use Rattle.std.specs.List.{flat_map, list_all}
use Rattle.std.proofs.lemmas.Bool.Decides.{nat_tests}
use Rattle.net_tree.specs.Tree.{Module, Project}
use Rattle.net_tree.specs.Comments.{is_within_line}
use Rattle.net_tree.specs.Spelling.{at_depth, is_identifier, is_word_part}
use Rattle.net_tree.specs.Text.{file_name, is_main, is_writable_module, main_text, response_text, target_text, written_modules}
use Rattle.net_exprs.specs.Fitting.{fits_name}
use Rattle.net_exprs.specs.Readers.{after}
use Rattle.net_exprs.proofs.Words.{both_true, is_other, is_word, never}
use Rattle.net_reader.specs.FileLines.{file_lines, text_of_line}
use Rattle.net_reader.specs.Fits.{fits_main}
use Rattle.net_reader.specs.ModuleReader.{behind_line, complete, is_line}
use Rattle.net_reader.specs.ProjectReader.{ResponseState, among_texts, at_main, at_target, main_in, main_line, main_step, response_in, response_lines, response_step, run_response}
use Rattle.net_reader.proofs.CutLines.{IsLine, begins_line, line_cut, line_says}
use Rattle.net_reader.proofs.Taking.{line_is_itself, own_taken}
use Rattle.net_reader.proofs.Tests.{all_append, all_more, and_true, if_true}

part_within : (c : ℕ) → is_word_part c ≡ true → is_within_line c ≡ true
part_within c h = grind (arith, nat_tests)

name_within : (name : List ℕ) → is_identifier name ≡ true → list_all is_within_line name ≡ true
name_within name h = all_more is_word_part is_within_line name part_within (is_word name h)

target_is : (library : Bool) → IsLine (target_text library)
target_is true = record { within = refl; begins = refl }
target_is false = record { within = refl; begins = refl }

main_is : (name : List ℕ) → is_identifier name ≡ true → IsLine (main_line name)
main_is name h = record { within = name_within name h; begins = refl }

file_name_begins : (name : List ℕ) → is_identifier name ≡ true → begins_line (name ++ codes ".vb") ≡ true
file_name_begins [] h = never h
file_name_begins (c ∷ cs) h = rw (is_other c 32 (both_true (is_word_part c) (list_all is_word_part cs) (is_word (c ∷ cs) h)).0 refl) refl

file_name_is : (m : Module) → is_identifier m.name ≡ true → IsLine (file_name m)
file_name_is m h = record { within = all_append is_within_line m.name (codes ".vb") (name_within m.name h) refl; begins = file_name_begins m.name h }

-- the next line leads from a state to another, whatever follows it
response_line : (ms : List Module) (s next : ResponseState) (number : ℕ) (text rest : List ℕ) → IsLine text → response_step ms s (at_depth 0 text) ≡ Some next →
    run_response ms s number (file_lines (at_depth 0 text ++ rest)) ≡ run_response ms next (suc number) (file_lines rest)
response_line ms s next number text rest is e =
    ap (run_response ms s number) (line_cut 0 text rest is)
    ∙ ap (λ o. behind_line number o (λ next. run_response ms next (suc number) (file_lines rest))) e

-- texts each of which can be written as one line
abbrev AreLines : List (List ℕ) → Type 0
AreLines [] = Unit {0}
AreLines (text ∷ texts) = IsLine text × AreLines texts

abbrev pub texts_text : List (List ℕ) → List ℕ
texts_text texts = flat_map (λ (text : List ℕ). at_depth 0 text) texts

texts_read : (ms : List Module) (main : Option (List ℕ)) (number : ℕ) (texts : List (List ℕ)) → AreLines texts →
    run_response ms (among_texts main texts) number (file_lines (texts_text texts)) ≡ complete main
texts_read ms main number [] are = refl
texts_read ms main number (text ∷ texts) are =
    response_line ms (among_texts main (text ∷ texts)) (among_texts main texts) number text (texts_text texts) are.0
    (if_true (is_line 0 text (at_depth 0 text)) (Some (among_texts main texts)) Option.None (line_is_itself 0 text))
    ∙ texts_read ms main (suc number) texts are.1

names_are_lines : (ms : List Module) → list_all is_writable_module ms ≡ true → AreLines (map file_name ms)
names_are_lines [] h = tt
names_are_lines (m ∷ ms) h =
    let both = both_true (is_writable_module m) (list_all is_writable_module ms) h in
    (file_name_is m (both_true (is_identifier m.name) _ both.0).0, names_are_lines ms both.1)

response_are_lines : (ms : List Module) → list_all is_writable_module ms ≡ true → AreLines (response_lines ms)
response_are_lines ms h = (record { within = refl; begins = refl }, (record { within = refl; begins = refl }, names_are_lines ms h))

pub main_found : (name : List ℕ) → is_identifier name ≡ true → fits_name name ≡ true → main_in (at_depth 0 (main_line name)) ≡ Some name
main_found name h k =
    own_taken (λ (name : List ℕ). is_identifier name && fits_name name) (λ (name : List ℕ). at_depth 0 (main_line name)) name (at_depth 0 (main_line name))
    (after (codes "/main:") (text_of_line (at_depth 0 (main_line name)))) (ap (after (codes "/main:")) (line_says 0 (main_line name) (main_is name h)))
    (and_true (is_identifier name) (fits_name name) h k) refl

main_taken : (ms : List Module) (name : List ℕ) → is_identifier name ≡ true → fits_name name ≡ true →
    main_step ms (at_depth 0 (main_line name)) ≡ Some (among_texts (Some name) (response_lines ms))
main_taken ms name h k = ap (option_map (λ (name : List ℕ). among_texts (Some name) (response_lines ms))) (main_found name h k)

-- the lines before the compiler's options, with the number of the line behind them
front_read : (ms : List Module) (main : Option (List ℕ)) (rest : List ℕ) → is_main main ≡ true → fits_main main ≡ true →
    (number : ℕ) × (run_response ms at_target 1 (file_lines (at_depth 0 (target_text (is_none main)) ++ (main_text main ++ rest)))
    ≡ run_response ms (among_texts main (response_lines ms)) number (file_lines rest))
front_read ms Option.None rest h k = (2, response_line ms at_target (among_texts Option.None (response_lines ms)) 1 (target_text true) rest (target_is true) refl)
front_read ms (Some name) rest h k = (
  3,
  response_line ms at_target at_main 1 (target_text false) (at_depth 0 (main_line name) ++ rest) (target_is false) refl
      ∙ response_line ms at_main (among_texts (Some name) (response_lines ms)) 2 (main_line name) rest (main_is name h) (main_taken ms name h k),
)

-- ---- the text of a response file

pub record IsMain (main : Option (List ℕ)) : Type 0 where
  pub writable : is_main main ≡ true
  pub fits : fits_main main ≡ true

abbrev pub response_file : List Module → Option (List ℕ) → List ℕ
response_file ms main = at_depth 0 (target_text (is_none main)) ++ (main_text main ++ texts_text (response_lines ms))

pub response_read : (ms : List Module) (main : Option (List ℕ)) → list_all is_writable_module ms ≡ true → IsMain main → response_in ms (response_file ms main) ≡ complete main
response_read ms main can is =
    let front = front_read ms main (texts_text (response_lines ms)) is.writable is.fits in
    front.1 ∙ texts_read ms main front.0 (response_lines ms) (response_are_lines ms can)

names_text : (ms : List Module) → flat_map (λ (m : Module). at_depth 0 (file_name m)) ms ≡ texts_text (map file_name ms)
names_text [] = refl
names_text (m ∷ ms) = ap (λ more. at_depth 0 (file_name m) ++ more) (names_text ms)

in_parts : (t m e s f : List ℕ) → t ++ m ++ e ++ s ++ f ≡ t ++ (m ++ (e ++ (s ++ f)))
in_parts t m e s f = simp append_assoc

-- the response file of a project
pub response_of_project : (N : Project) → N.library ≡ is_none N.main → response_text N ≡ response_file (written_modules N) N.main
response_of_project N h =
    let names = flat_map (λ (m : Module). at_depth 0 (file_name m)) (written_modules N) in
    in_parts (at_depth 0 (target_text N.library)) (main_text N.main) (at_depth 0 (codes "/optionexplicit+")) (at_depth 0 (codes "/optionstrict-")) names
    ∙ ap (λ library. at_depth 0 (target_text library) ++ (main_text N.main ++ (at_depth 0 (codes "/optionexplicit+") ++ (at_depth 0 (codes "/optionstrict-") ++ names)))) h
    ∙ ap (λ names. at_depth 0 (target_text (is_none N.main)) ++ (main_text N.main ++ (at_depth 0 (codes "/optionexplicit+") ++ (at_depth 0 (codes "/optionstrict-") ++ names)))) (names_text (written_modules N))
