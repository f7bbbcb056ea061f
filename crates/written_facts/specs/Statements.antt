-- The rules that the statements of a module break by their form alone. A statement that declares something, a code line and the lines
-- of groups break theirs where they are bound: here they have none.
use Rattle.std.specs.Prelude.{ℕ, suc, cond, nat_eq, List, [], ◌∷◌, ◌++◌, map, max}
use Rattle.std.specs.List.{flat_map, range_with_len}
use Rattle.vb_tree.specs.Blocks.{is_code}
use Rattle.vb_tree.specs.FlatLines.{flat_lines}
use Rattle.vb_tree.specs.Tree.{Line, Member, alone, group, proc, Module, Project}
use Rattle.bound_tree.specs.declared.rule_set.RuleSet.{RuleSet}
use Rattle.bound_tree.specs.RuleSets.{none}
use Rattle.declared_names.specs.Rules.{line_rules}
use Rattle.written_trees.specs.Facts.{set_at}

-- of a line in a procedure of the module of a name
abbrev pub plain_set : (name : List ℕ) → Line → RuleSet
plain_set name l = cond (is_code l.form) none (line_rules name l.form)

abbrev pub no_set : Line → RuleSet
no_set l = none

-- those of the lines of a member, in the order in which statements are numbered
abbrev pub member_sets : (name : List ℕ) → Member → List RuleSet
member_sets name (alone l) = line_rules name l.form ∷ []
member_sets name (group head lines close) = none ∷ map no_set lines ++ none ∷ []
member_sets name (proc head body close) = none ∷ map (plain_set name) (flat_lines body) ++ none ∷ []

abbrev pub module_sets : Module → List RuleSet
module_sets m = flat_map (member_sets m.name) m.members

-- those of the first module with a file number
abbrev pub file_sets : (file : ℕ) → List Module → List RuleSet
file_sets file [] = []
file_sets file (m ∷ ms) = cond (nat_eq m.file file) (module_sets m) (file_sets file ms)

-- those of a statement of the module of a file, by its number there
abbrev pub form_set : Project → (file number : ℕ) → RuleSet
form_set P file n = set_at (file_sets file P.modules) n

-- ---- as lists

-- the file number behind those of all modules
abbrev pub files_end : List Module → ℕ
files_end [] = 0
files_end (m ∷ ms) = max (suc m.file) (files_end ms)

abbrev pub sets_by_file : List Module → List (List RuleSet)
sets_by_file ms = map (λ (file : ℕ). file_sets file ms) (range_with_len 0 (files_end ms))
