-- One walk over the code lines of a procedure, with the heads of the blocks that are open: the same sets as those of the rows.
use Rattle.std.specs.Prelude.{ℕ, suc, Bool, false, cond, ◌||◌, Option, Some, None, List, [], ◌∷◌, ◌++◌, drop}
use Rattle.vb_tree.specs.declared.block.BlockKind.{BlockKind}
use Rattle.vb_tree.specs.declared.declared.ProcKind.{ProcKind}
use Rattle.vb_tree.specs.Tree.{Form}
use Rattle.bound_tree.specs.declared.rule_set.RuleSet.{RuleSet}
use Rattle.bound_tree.specs.Labels.{Label, is_same_label, label_in}
use Rattle.bound_tree.specs.RuleSets.{none, with_if}
use Rattle.bound_tree.specs.Targets.{Step, opens, closes, step_of, heads_behind}
use Rattle.bound_tree.specs.Tree.{Line, Declarations}
use Rattle.error_handlers.specs.declared.blocks.Change.{Change}
use Rattle.error_handlers.specs.declared.blocks.Change.TheVariants as change
use Rattle.error_handlers.specs.Heads.{breaks_head}
use Rattle.error_handlers.specs.Jumps.{Head, aim, enters, leaves_nothing}

-- what a line does to the open blocks
abbrev pub change_by : Step → Change
change_by (opens kind tests) = change.Opens kind
change_by (closes kind) = change.Closes
change_by _ = change.Stays

abbrev pub changed : Change → ℕ → List Head → List Head
changed (change.Opens kind) n heads = (kind, n) ∷ heads
changed change.Closes n heads = drop 1 heads
changed change.Stays n heads = heads

-- ---- labels

-- a label and the heads round it
abbrev pub Mark : Type 0
Mark = Label × List Head

abbrev pub marked : Option Label → List Head → List Mark
marked None heads = []
marked (Some a) heads = (a, heads) ∷ []

-- the labels of lines behind n others, where these heads are open
abbrev pub marks_along : ℕ → List Head → List Line → List Mark
marks_along n heads [] = []
marks_along n heads (l ∷ lines) = marked (label_in l.source.form) heads ++ marks_along (suc n) (heads_behind (step_of l.source.form) (suc n) heads) lines

abbrev pub first_mark : Label → List Mark → Option (List Head)
first_mark a [] = None
first_mark a (m ∷ marks) = cond (is_same_label a m.0) (Some m.1) (first_mark a marks)

-- ---- rules, of lines behind n others

abbrev pub enters_heads : List Head → Option (List Head) → Bool
enters_heads from None = false
enters_heads from (Some to) = enters from to

abbrev pub enters_mark : List Mark → List Head → Option Label → Bool
enters_mark marks from None = false
enters_mark marks from (Some a) = enters_heads from (first_mark a marks)

abbrev pub breaks_by : Option ProcKind → List Mark → List Head → Form → Bool
breaks_by kind marks heads form = enters_mark marks heads (aim form) || leaves_nothing kind heads form

abbrev pub rules_by : Declarations → Option ProcKind → (resumable : Bool) → List Mark → List Head → Line → RuleSet
rules_by D kind resumable marks heads l = with_if (with_if none 14 (breaks_head D resumable l)) 15 (breaks_by kind marks heads l.source.form)

abbrev pub rules_along : Declarations → Option ProcKind → (resumable : Bool) → List Mark → ℕ → List Head → List Line → List RuleSet
rules_along D kind resumable marks n heads [] = []
rules_along D kind resumable marks n heads (l ∷ lines) =
    rules_by D kind resumable marks heads l ∷ rules_along D kind resumable marks (suc n) (heads_behind (step_of l.source.form) (suc n) heads) lines
