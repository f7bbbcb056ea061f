-- What is written piece by piece.
use Rattle.std.proofs.Common.{◌≡◌, ℕ, ◌+◌, List, [], ◌∷◌, ◌++◌, map, ap, sym, ◌∙◌, append_assoc, arith}
use Rattle.std.proofs.lemmas.Grind.{flat_map-append}
use Rattle.std.proofs.lemmas.List.FromFn.{map-range_with_len_more}
use Rattle.up_base.specs.LineEnd.{line_end}
use Rattle.generated_project.specs.Generated.{entry_line, module_file, module_numbers, project_file, text_of}

-- lines, and further lines behind them
pub more_lines : (start to_first to_second : List ℕ) (first second : List (List ℕ)) → to_first ≡ start ++ text_of first → to_second ≡ to_first ++ text_of second → to_second ≡ start ++ text_of (first ++ second)
more_lines start to_first to_second first second p q =
    q ∙ ap (λ bytes. bytes ++ text_of second) p
    ∙ append_assoc start (text_of first) (text_of second)
    ∙ ap (λ bytes. start ++ bytes) (sym (flat_map-append (λ text. text ++ line_end) first second))

-- the entries of so many modules, and that of the next one
pub more_entries : (start before after : List ℕ) (k : ℕ) → before ≡ start ++ text_of (map entry_line (module_numbers k)) → after ≡ before ++ text_of (map entry_line ((k + 1) ∷ [])) → after ≡ start ++ text_of (map entry_line (module_numbers (k + 1)))
more_entries start before after k p q =
    more_lines start before after (map entry_line (module_numbers k)) (map entry_line ((k + 1) ∷ [])) p q
    ∙ ap (λ lines. start ++ text_of lines) (sym (map-range_with_len_more entry_line 1 k (k + 1) (omega arith)))

-- the files of so many modules, and that of the next one
pub more_files : (n k : ℕ) (before after : List (List ℕ × List ℕ)) (file : List ℕ × List ℕ) → before ≡ project_file n ∷ map module_file (module_numbers k) → file ≡ module_file (k + 1) → after ≡ before ++ file ∷ [] → after ≡ project_file n ∷ map module_file (module_numbers (k + 1))
more_files n k before after file p q r =
    r ∙ ap (λ files. files ++ file ∷ []) p
    ∙ ap (λ last. project_file n ∷ (map module_file (module_numbers k) ++ last ∷ [])) q
    ∙ ap (λ files. project_file n ∷ files) (sym (map-range_with_len_more module_file 1 k (k + 1) (omega arith)))
