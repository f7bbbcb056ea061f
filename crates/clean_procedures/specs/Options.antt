-- Option and Def lines that break a rule, by module.
use Rattle.std.specs.Prelude.{ℕ, Bool, false, cond, nat_eq, Option, Some, None, List, [], ◌∷◌, map, slice_get}
use Rattle.std.specs.List.{list_any}
use Rattle.vb_tree.specs.declared.form_parts.Compare.{Compare}
use Rattle.vb_tree.specs.declared.form_parts.Compare.TheVariants as compare
use Rattle.vb_tree.specs.declared.form_parts.DefWord.{DefWord}
use Rattle.vb_tree.specs.FlatLines.{module_lines}
use Rattle.vb_tree.specs.Tree.{Module, Line}
use Rattle.bound_tree.specs.declared.rule_set.RuleSet.{RuleSet}
use Rattle.bound_tree.specs.RuleSets.{is_broken, none, with_rule}
use Rattle.bound_facts.specs.Clean.{is_floating_word, option_rules}
use Rattle.clean_procedures.specs.declared.options.ModuleLines.{ModuleLines}

abbrev pub compare_rules : Compare → RuleSet
compare_rules compare.Text = with_rule none 17
compare_rules _ = none

abbrev pub def_rules : DefWord → RuleSet
def_rules word = cond (is_floating_word word) (with_rule none 1) none

abbrev pub is_broken_line : Line → Bool
is_broken_line l = is_broken (option_rules l.form)

-- a module by its file, and for each of its lines whether it is such a line
pub record Noted : Type 0 where
  pub file : ℕ
  pub broken : List Bool

abbrev pub noted : Module → Noted
noted m = record { file = m.file; broken = map is_broken_line (module_lines m) }

abbrev pub shown : ModuleLines → Noted
shown m = record { file = m.file; broken = m.broken.items }

abbrev pub is_set : Option Bool → Bool
is_set None = false
is_set (Some b) = b

-- whether the first module with this file has such a line, and whether its line with this number is one
abbrev pub has_broken : (file : ℕ) → List Noted → Bool
has_broken file [] = false
has_broken file (m ∷ ms) = cond (nat_eq m.file file) (list_any (λ b. b) m.broken) (has_broken file ms)

abbrev pub is_broken_at : (file statement : ℕ) → List Noted → Bool
is_broken_at file n [] = false
is_broken_at file n (m ∷ ms) = cond (nat_eq m.file file) (is_set (slice_get m.broken n)) (is_broken_at file n ms)
