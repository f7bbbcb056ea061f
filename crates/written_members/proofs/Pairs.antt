-- Code lines with their rules.
use Rattle.std.proofs.Common.{◌≡◌, ◌≤◌, ℕ, List, [], ◌∷◌, ◌++◌, length, drop, map, refl, sym, ap, ◌∙◌, append-nil}
use Rattle.std.specs.Prelude.{zip}
use Rattle.std.proofs.lemmas.List.{drop_all}
use Rattle.bound_tree.specs.declared.lines.LineRef.{LineRef}
use Rattle.bound_tree.specs.declared.rule_set.RuleSet.{RuleSet}
use Rattle.bound_tree.specs.Tree.{Line}
use Rattle.bound_tree.specs.View.{shown_line}
use Rattle.written_trees.specs.Prologues.{Code}

abbrev no_lines : List Line
no_lines = []

abbrev no_code : List Code
no_code = []

pub none_joined : (sets : List RuleSet) → zip sets no_lines ≡ no_code
none_joined [] = refl
none_joined (s ∷ sets) = refl

-- the end of a loop over lines
pub joined_end : (code whole : List Code) (sets : List RuleSet) (refs : List LineRef) (i : ℕ) → length refs ≤ i
    → code ++ zip sets (map shown_line (drop i refs)) ≡ whole → code ≡ whole
joined_end code whole sets refs i h so_far =
    sym (append-nil code) ∙ ap (λ ps. code ++ ps) (sym (none_joined sets) ∙ ap (λ ls. zip sets (map shown_line ls)) (sym (drop_all i refs h))) ∙ so_far
