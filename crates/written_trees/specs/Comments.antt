-- Where comments stand: before the lines of their logical lines. A comment that says which rule a line breaks stands right before
-- that line.
use Rattle.std.specs.Prelude.{ℕ, nat_le, nat_lt, cond, List, [], ◌∷◌, ◌++◌, map, codes, Option, Some, None}
use Rattle.std.specs.Fmt.{decimal}
use Rattle.bound_tree.specs.declared.rule_set.RuleSet.{RuleSet}
use Rattle.bound_tree.specs.RuleSets.{has, first, rule_numbers}

-- a comment with the first physical line of its logical line; comments are in order
abbrev pub Comment : Type 0
Comment = ℕ × List ℕ

-- ---- comments by lines

-- those up to a line, and those behind it
abbrev pub up_to : ℕ → List Comment → List Comment
up_to n [] = []
up_to n (c ∷ cs) = cond (nat_le c.0 n) (c ∷ up_to n cs) []

abbrev pub past : ℕ → List Comment → List Comment
past n [] = []
past n (c ∷ cs) = cond (nat_le c.0 n) (past n cs) (c ∷ cs)

-- those before a line, and those from it on
abbrev pub before : ℕ → List Comment → List Comment
before n [] = []
before n (c ∷ cs) = cond (nat_lt c.0 n) (c ∷ before n cs) []

abbrev pub from : ℕ → List Comment → List Comment
from n [] = []
from n (c ∷ cs) = cond (nat_lt c.0 n) (from n cs) (c ∷ cs)

abbrev pub texts : List Comment → List (List ℕ)
texts cs = map (λ (c : Comment). c.1) cs

-- ---- rules

abbrev pub two_digits : ℕ → List ℕ
two_digits n = cond (nat_lt n 10) (codes "0" ++ decimal n) (decimal n)

abbrev pub upgrade_text : (rule : ℕ) → (line : List ℕ) → List ℕ
upgrade_text n line = codes "UPGRADE U" ++ (two_digits n ++ (codes ": " ++ line))

abbrev pub upgrade_texts_by : Option ℕ → (line : List ℕ) → List (List ℕ)
upgrade_texts_by None line = []
upgrade_texts_by (Some n) line = upgrade_text n line ∷ []

-- the comment on a line that breaks rules, with the least of them
abbrev pub upgrade_texts : RuleSet → (line : List ℕ) → List (List ℕ)
upgrade_texts rules line = upgrade_texts_by (first (has rules) rule_numbers) line
