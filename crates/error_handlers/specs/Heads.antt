-- Heads of blocks that may raise where the procedure goes on after an error.
use Rattle.std.specs.Prelude.{Bool, true, false, ◌&&◌}
use Rattle.std.specs.List.{list_any}
use Rattle.vb_tree.specs.Tree.{Form, if_head, else_if, line_if, select, case_line, for_head, do_while, do_until, loop_while, loop_until, while_head, with_head}
use Rattle.bound_tree.specs.Tree.{Line, Declarations}
use Rattle.bound_facts.specs.CanRaise.{head_can_raise}

-- a line whose expressions say how its block is gone through
abbrev pub is_head : Form → Bool
is_head (if_head condition) = true
is_head (else_if condition) = true
is_head (line_if condition) = true
is_head (select value) = true
is_head (case_line items) = true
is_head (for_head counter start limit step) = true
is_head (do_while condition) = true
is_head (do_until condition) = true
is_head (loop_while condition) = true
is_head (loop_until condition) = true
is_head (while_head condition) = true
is_head (with_head object) = true
is_head _ = false

-- whether a line is such a head and one of its expressions can raise
abbrev pub breaks_head : Declarations → (resumable : Bool) → Line → Bool
breaks_head D resumable l = resumable && (is_head l.source.form && list_any (head_can_raise D) l.bindings.exprs)
