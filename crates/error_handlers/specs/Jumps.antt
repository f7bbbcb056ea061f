-- Jumps that aren't allowed: into a For or a With that the line isn't in, and an Exit where there is nothing of its kind to
-- leave.
use Rattle.std.specs.Prelude.{ℕ, Bool, true, false, not, ◌||◌, ◌&&◌, nat_eq, Option, Some, None, List, map}
use Rattle.std.specs.List.{list_any}
use Rattle.vb_tree.specs.declared.block.BlockKind.{BlockKind}
use Rattle.vb_tree.specs.declared.block.BlockKind.TheVariants as block
use Rattle.vb_tree.specs.declared.declared.ProcKind.{ProcKind}
use Rattle.vb_tree.specs.declared.declared.ProcKind.TheVariants as kind
use Rattle.vb_tree.specs.declared.form_parts.ExitKind.{ExitKind}
use Rattle.vb_tree.specs.declared.form_parts.ExitKind.TheVariants as leaving
use Rattle.vb_tree.specs.Tree.{Form, goto, on_error_goto, resume_at, exit}
use Rattle.vb_tree.specs.Tree as vb
use Rattle.bound_tree.specs.Labels.{Label, label_of, labels, label_at}
use Rattle.bound_tree.specs.Targets.{heads_round, steps, is_same_kind}

-- the head of a block: its kind and the number of its line
abbrev pub Head : Type 0
Head = BlockKind × ℕ

-- ---- labels

-- the label that a line goes to, or that an error or a Resume goes to by it
abbrev pub aim : Form → Option Label
aim (goto l) = Some (label_of l)
aim (on_error_goto l) = Some (label_of l)
aim (resume_at l) = Some (label_of l)
aim _ = None

-- whether the head of a block leaves something to its lines: the limits of a For, the object of a With
abbrev pub is_kept : BlockKind → Bool
is_kept block.For = true
is_kept block.With = true
is_kept _ = false

abbrev pub is_among : List Head → ℕ → Bool
is_among heads n = list_any (λ h. nat_eq n h.1) heads

-- whether one of the second heads is that of a For or a With and none of the first
abbrev pub enters : (from to : List Head) → Bool
enters from to = list_any (λ h. is_kept h.0 && not (is_among from h.1)) to

-- whether a jump to a line enters a For or a With from a line with these heads round it
abbrev pub enters_at : List vb.Line → List Head → Option ℕ → Bool
enters_at lines from None = false
enters_at lines from (Some n) = enters from (heads_round (steps lines) n)

-- the same of a jump to a label; one that is declared nowhere breaks another rule
abbrev pub jumps_into : List vb.Line → List Head → Option Label → Bool
jumps_into lines from None = false
jumps_into lines from (Some a) = enters_at lines from (label_at (labels lines) a)

-- ---- Exit

abbrev pub is_in_kind : BlockKind → List Head → Bool
is_in_kind kind heads = list_any (λ h. is_same_kind kind h.0) heads

-- whether an Exit leaves a procedure of this kind
abbrev pub leaves_procedure : Option ProcKind → ExitKind → Bool
leaves_procedure (Some kind.Sub) leaving.Sub = true
leaves_procedure (Some kind.Function) leaving.Function = true
leaves_procedure (Some kind.Get) leaving.Property = true
leaves_procedure (Some kind.Let) leaving.Property = true
leaves_procedure (Some kind.Set) leaving.Property = true
leaves_procedure _ _ = false

-- whether an Exit leaves a block round it or its procedure
abbrev pub leaves : Option ProcKind → List Head → ExitKind → Bool
leaves home heads leaving.For = is_in_kind block.For heads
leaves home heads leaving.Do = is_in_kind block.Do heads
leaves home heads e = leaves_procedure home e

abbrev pub leaves_nothing : Option ProcKind → List Head → Form → Bool
leaves_nothing home heads (exit e) = not (leaves home heads e)
leaves_nothing home heads _ = false

-- ---- lines

-- whether the code line n of a procedure of this kind, among all its code lines, is a jump that isn't allowed
abbrev pub breaks_jumps : Option ProcKind → List vb.Line → ℕ → Form → Bool
breaks_jumps home lines n form =
    let heads = heads_round (steps lines) n in
    jumps_into lines heads (aim form) || leaves_nothing home heads form
