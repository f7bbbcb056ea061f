-- How a response file is read from one text to the next.
use Rattle.std.proofs.Common.{◌≡◌, ℕ, suc, ◌+◌, ◌≤◌, ◌<◌, Bool, true, false, cond, List, [], ◌∷◌, length, map, drop, get_or, refl, sym, ap, ◌∙◌, arith, Option, Some}
use Rattle.std.proofs.lemmas.List.{at_drop_more, drop_all}
use Rattle.net_tree.specs.Text.{file_name, target_text}
use Rattle.net_tree.specs.Tree.{Module}
use Rattle.net_tree.specs.View.{module_of}
use Rattle.net_tree.specs.declared.project.NetModule.{NetModule}
use Rattle.net_exprs.proofs.Words.{by_test}
use Rattle.net_reader.specs.FileLines.{file_lines}
use Rattle.net_reader.specs.FileSteps.{behind_text}
use Rattle.net_reader.specs.ModuleReader.{Reading, behind_line, complete, is_line, stuck}
use Rattle.net_reader.specs.ProjectReader.{ResponseState, among_texts, at_main, at_target, response_lines, run_response}
use Rattle.net_reader.proofs.LineLengths.{first_line}
use Rattle.net_reader.proofs.TakenLines.{if_some}

module _ (ms : List Module) (main : Option (List ℕ)) where
  abbrev run_texts : List (List ℕ) → ℕ → List (List ℕ) → Reading (Option (List ℕ))
  run_texts texts n lines = run_response ms (among_texts main texts) n lines

  -- the next line is the next text, or it is stuck there
  text_step : (text : List ℕ) (texts : List (List ℕ)) (n : ℕ) (lines : List (List ℕ)) → run_texts (text ∷ texts) n lines ≡ behind_line n (behind_text text lines) (λ more. run_texts texts (suc n) more)
  text_step text texts n [] = refl
  text_step text texts n (line ∷ lines) =
      by_test (is_line 0 text line) (λ b. behind_line n (cond b (Some (among_texts main texts)) Option.None) (λ (next : ResponseState). run_response ms next (suc n) lines)
      ≡ behind_line n (cond b (Some lines) Option.None) (λ more. run_texts texts (suc n) more)) (λ t. refl) (λ f. refl)

  pub text_taken : (text : List ℕ) (texts : List (List ℕ)) (n : ℕ) (lines more : List (List ℕ)) → Some more ≡ behind_text text lines → run_texts (text ∷ texts) n lines ≡ run_texts texts (n + 1) more
  text_taken text texts n lines more h = text_step text texts n lines ∙ ap (λ o. behind_line n o (λ more. run_texts texts (suc n) more)) (sym h) ∙ ap (λ n. run_texts texts n more) (omega arith)

  pub text_lacks : (text : List ℕ) (texts : List (List ℕ)) (n : ℕ) (lines : List (List ℕ)) → Option.None ≡ behind_text text lines → run_texts (text ∷ texts) n lines ≡ stuck n
  text_lacks text texts n lines h = text_step text texts n lines ∙ ap (λ o. behind_line n o (λ more. run_texts texts (suc n) more)) (sym h)

  -- behind all texts stands the end of the file
  pub at_last : (n : ℕ) (rest : List ℕ) → length rest ≡ 0 → run_texts [] n (file_lines rest) ≡ complete main
  at_last n [] h = refl
  at_last n (c ∷ cs) h = absurd (omega (arith, h))

  line_more : (n : ℕ) (lines : List (List ℕ)) (line : List ℕ) (more : List (List ℕ)) → lines ≡ line ∷ more → run_texts [] n lines ≡ stuck n
  line_more n lines line more h = ap (run_texts [] n) h

  pub past_last : (n : ℕ) (rest : List ℕ) → 0 < length rest → run_texts [] n (file_lines rest) ≡ stuck n
  past_last n rest h = line_more n (file_lines rest) _ _ (first_line rest h)

  -- ---- the names of the modules' files

  abbrev names_of : List NetModule → List (List ℕ)
  names_of sources = map file_name (map module_of sources)

  abbrev pub left : List NetModule → ℕ → ℕ → List (List ℕ) → Reading (Option (List ℕ))
  left sources i n lines = run_texts (names_of (drop i sources)) n lines

  next_source : (sources : List NetModule) (i : ℕ) (source : NetModule) (n : ℕ) (lines : List (List ℕ)) → i < length sources → source ≡ get_or sources i source
      → left sources i n lines ≡ run_texts (file_name (module_of source) ∷ names_of (drop (i + 1) sources)) n lines
  next_source sources i source n lines within at =
      at_drop_more (λ sources. run_texts (names_of sources) n lines) sources i source within
      ∙ ap (λ (source : NetModule). run_texts (file_name (module_of source) ∷ names_of (drop (i + 1) sources)) n lines) (sym at)

  pub source_lacks : (sources : List NetModule) (i : ℕ) (source : NetModule) (n : ℕ) (lines : List (List ℕ)) → i < length sources → source ≡ get_or sources i source
      → Option.None ≡ behind_text (file_name (module_of source)) lines → left sources i n lines ≡ stuck n
  source_lacks sources i source n lines within at h = next_source sources i source n lines within at ∙ text_lacks (file_name (module_of source)) (names_of (drop (i + 1) sources)) n lines h

  pub sources_done : (sources : List NetModule) (i n : ℕ) (lines : List (List ℕ)) → length sources ≤ i → left sources i n lines ≡ run_texts [] n lines
  sources_done sources i n lines past = ap (λ sources. run_texts (names_of sources) n lines) (drop_all i sources past)

-- ---- the first two lines

not_some : {A : Type 0} (b : Bool) (x : A) → Option.None ≡ cond b (Some x) Option.None → b ≡ false
not_some true x h = absurd (cc h)
not_some false x h = refl

no_library : (ms : List Module) (n : ℕ) (line : List ℕ) (lines : List (List ℕ)) → Option.None ≡ behind_text (target_text true) (line ∷ lines)
    → run_response ms at_target n (line ∷ lines) ≡ behind_line n (cond (is_line 0 (target_text false) line) (Some at_main) Option.None) (λ (next : ResponseState). run_response ms next (suc n) lines)
no_library ms n line lines h =
    ap (λ b. behind_line n (cond b (Some (among_texts Option.None (response_lines ms))) (cond (is_line 0 (target_text false) line) (Some at_main) Option.None)) (λ (next : ResponseState). run_response ms next (suc n) lines))
    (not_some (is_line 0 (target_text true) line) lines h)

pub program : (ms : List Module) (n : ℕ) (lines more : List (List ℕ)) → Option.None ≡ behind_text (target_text true) lines → Some more ≡ behind_text (target_text false) lines → run_response ms at_target n lines ≡ run_response ms at_main (n + 1) more
program ms n [] more h k = absurd (cc k)
program ms n (line ∷ lines) more h k =
    let found = if_some (is_line 0 (target_text false) line) lines more (sym k) in
    no_library ms n line lines h
    ∙ ap (λ b. behind_line n (cond b (Some at_main) Option.None) (λ (next : ResponseState). run_response ms next (suc n) lines)) found.0
    ∙ ap (λ lines. run_response ms at_main (suc n) lines) found.1
    ∙ ap (λ n. run_response ms at_main n more) (omega arith)

pub no_target : (ms : List Module) (n : ℕ) (lines : List (List ℕ)) → Option.None ≡ behind_text (target_text true) lines → Option.None ≡ behind_text (target_text false) lines → run_response ms at_target n lines ≡ stuck n
no_target ms n [] h k = refl
no_target ms n (line ∷ lines) h k =
    no_library ms n line lines h
    ∙ ap (λ b. behind_line n (cond b (Some at_main) Option.None) (λ (next : ResponseState). run_response ms next (suc n) lines)) (not_some (is_line 0 (target_text false) line) lines k)
