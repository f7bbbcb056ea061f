-- The words of lines are looked up in groups.
use Rattle.std.proofs.Common.{◌≡◌, ℕ, if◌then◌else◌, List, [], ◌∷◌, ◌++◌, refl, ap, ◌∙◌, Some}
use Rattle.net_tree.specs.Spelling.{is_same_text}
use Rattle.net_exprs.specs.Readers.{look_up}
use Rattle.net_exprs.proofs.Words.{by_test}
use Rattle.net_reader.specs.WordView.{block_words, first_of, jump_words, loop_words, procedure_words, type_words}
use Rattle.net_reader.specs.Words.{line_words}

either : {A : Type 0} (word : List ℕ) (xs ys : List (List ℕ × A)) → look_up word (xs ++ ys) ≡ first_of (look_up word xs) (look_up word ys)
either word [] ys = refl
either word (x ∷ xs) ys =
    by_test (is_same_text word x.0) (λ b. (if b then Some x.1 else look_up word (xs ++ ys)) ≡ first_of (if b then Some x.1 else look_up word xs) (look_up word ys))
    (λ t. refl) (λ t. either word xs ys)

are_groups : line_words ≡ block_words ++ (loop_words ++ (jump_words ++ (procedure_words ++ type_words)))
unfolding line_words block_words loop_words jump_words procedure_words type_words
are_groups = refl

pub in_groups : (word : List ℕ) → look_up word line_words
    ≡ first_of (look_up word block_words) (first_of (look_up word loop_words) (first_of (look_up word jump_words) (first_of (look_up word procedure_words) (look_up word type_words))))
in_groups word =
    ap (look_up word) are_groups
    ∙ either word block_words (loop_words ++ (jump_words ++ (procedure_words ++ type_words)))
    ∙ ap (first_of (look_up word block_words)) (either word loop_words (jump_words ++ (procedure_words ++ type_words))
    ∙ ap (first_of (look_up word loop_words)) (either word jump_words (procedure_words ++ type_words)
    ∙ ap (first_of (look_up word jump_words)) (either word procedure_words type_words)))
