-- A written line is the next line of its file, and says what was written.
use Rattle.std.proofs.Common.{◌≡◌, ℕ, zero, suc, ◌*◌, Bool, true, false, not, ◌||◌, List, [], ◌∷◌, ◌++◌, refl, ap, ◌∙◌, eqb, replicate}
use Rattle.std.specs.List.{list_all}
use Rattle.std.proofs.lemmas.Bool.{not-true}
use Rattle.up_base.specs.LineEnd.{line_end}
use Rattle.net_tree.specs.Comments.{is_within_line}
use Rattle.net_tree.specs.Spelling.{at_depth}
use Rattle.net_exprs.proofs.Words.{both_true}
use Rattle.net_reader.specs.FileLines.{before_lines, file_lines, text_of_line, without_end, without_indent}
use Rattle.net_reader.proofs.Tests.{if_false, all_append}

neither : (a b : Bool) → not (a || b) ≡ true → (a ≡ false) × (b ≡ false)
neither false false h = (refl, refl)
neither false true h = absurd (cc h)
neither true b h = absurd (cc h)

cut_line : (line rest : List ℕ) → list_all is_within_line line ≡ true → file_lines (line ++ line_end ++ rest) ≡ (line ++ line_end) ∷ file_lines rest
cut_line [] rest h = refl
cut_line (c ∷ cs) rest h =
    let both = both_true (is_within_line c) (list_all is_within_line cs) h in
    ap (before_lines c) (cut_line cs rest both.1) ∙ if_false (eqb c 10) _ _ (neither (eqb c 10) (eqb c 13) both.0).0

end_left : (line : List ℕ) → list_all is_within_line line ≡ true → without_end (line ++ line_end) ≡ line
end_left [] h = refl
end_left (c ∷ cs) h =
    let both = both_true (is_within_line c) (list_all is_within_line cs) h in
    rw ((neither (eqb c 10) (eqb c 13) both.0).1) (ap (λ more. c ∷ more) (end_left cs both.1))

-- a line that is neither empty nor begins with a blank
abbrev pub begins_line : List ℕ → Bool
begins_line [] = false
begins_line (c ∷ cs) = not (eqb c 32)

unindented : (line : List ℕ) → begins_line line ≡ true → without_indent line ≡ line
unindented [] h = refl
unindented (c ∷ cs) h = if_false (eqb c 32) _ _ (not-true (eqb c 32) h)

indent_left : (n : ℕ) (line : List ℕ) → begins_line line ≡ true → without_indent (replicate n 32 ++ line) ≡ line
indent_left zero line h = unindented line h
indent_left (suc n) line h = indent_left n line h

blanks_within : (n : ℕ) → list_all is_within_line (replicate n 32) ≡ true
blanks_within zero = refl
blanks_within (suc n) = blanks_within n

-- what can be written as one line
pub record IsLine (text : List ℕ) : Type 0 where
  pub within : list_all is_within_line text ≡ true
  pub begins : begins_line text ≡ true

indented_within : (depth : ℕ) (text : List ℕ) → IsLine text → list_all is_within_line (replicate (4 * depth) 32 ++ text) ≡ true
indented_within depth text is = all_append is_within_line (replicate (4 * depth) 32) text (blanks_within (4 * depth)) is.within

pub line_cut : (depth : ℕ) (text rest : List ℕ) → IsLine text → file_lines (at_depth depth text ++ rest) ≡ at_depth depth text ∷ file_lines rest
line_cut depth text rest is = cut_line (replicate (4 * depth) 32 ++ text) rest (indented_within depth text is)

pub line_says : (depth : ℕ) (text : List ℕ) → IsLine text → text_of_line (at_depth depth text) ≡ text
line_says depth text is =
    ap without_indent (end_left (replicate (4 * depth) 32 ++ text) (indented_within depth text is)) ∙ indent_left (4 * depth) text is.begins
