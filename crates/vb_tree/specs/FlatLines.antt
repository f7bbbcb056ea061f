-- The lines of a procedure in order, and where control goes from each.
use Rattle.std.specs.Prelude.{ℕ, ◌+◌, cond, nat_eq, Option, Some, None, List, [], ◌∷◌, ◌++◌, filter}
use Rattle.std.specs.List.{flat_map}
use Rattle.vb_tree.specs.declared.form_parts.ExitKind.{ExitKind}
use Rattle.vb_tree.specs.declared.form_parts.ExitKind.TheVariants as leaving
use Rattle.vb_tree.specs.Tree.{Form, sub_head, function_head, get_head, let_head, set_head, if_head, else_if, line_if, select, case_line, for_head, for_each, next, do_head, do_while, do_until, loop, loop_while, loop_until, while_head, wend, exit, Line, Node, line, block, Nodes, no_nodes, next_node, Middles, no_middles, next_middle, Member, alone, group, proc, Module}
use Rattle.vb_tree.specs.Blocks.{is_code}

-- the lines of a body in order, declarations included
abbrev mutual
  pub flat_lines : Nodes → List Line
  flat_lines no_nodes = []
  flat_lines (next_node a rest) = node_lines a ++ flat_lines rest

  pub node_lines : Node → List Line
  node_lines (line l) = l ∷ []
  node_lines (block head body middles close) = head ∷ flat_lines body ++ middle_lines middles ++ close ∷ []

  pub middle_lines : Middles → List Line
  middle_lines no_middles = []
  middle_lines (next_middle l body more) = l ∷ flat_lines body ++ middle_lines more

-- the code lines among lines, in order
abbrev pub code_lines : List Line → List Line
code_lines lines = filter (λ l. is_code l.form) lines

-- A code line and where control goes from it. Code lines are numbered from 1 in the order of a body; the number behind the
-- last one is the end of the procedure.
pub record Flat : Type 0 where
  pub line : Line
  -- the line that comes after it: at the end of a branch the closing line of its block, at Select Case the first Case or
  -- the closing line, else the next line
  pub after : ℕ
  -- where a head or a Case goes that doesn't hold, and a loop that is over before it began
  pub otherwise : Option ℕ
  -- where the closing line of a loop goes back to
  pub back : Option ℕ
  -- where an Exit goes
  pub leave : Option ℕ

-- where an Exit of each kind goes: behind the innermost For and the innermost Do round it, and to the procedure's end
pub record Exits : Type 0 where
  pub for_end : Option ℕ
  pub do_end : Option ℕ
  pub procedure_end : ℕ

abbrev pub exit_of : Exits → ExitKind → Option ℕ
exit_of x leaving.For = x.for_end
exit_of x leaving.Do = x.do_end
exit_of x leaving.Sub = Some x.procedure_end
exit_of x leaving.Function = Some x.procedure_end
exit_of x leaving.Property = Some x.procedure_end

abbrev pub leave_of : Exits → Form → Option ℕ
leave_of x (exit kind) = exit_of x kind
leave_of x _ = None

-- the exits inside of a block with this head, behind which the line n comes
abbrev pub exits_inside : Exits → Form → ℕ → Exits
exits_inside x (for_head counter start limit step) n = record x { for_end = Some n }
exits_inside x (for_each name suffix items) n = record x { for_end = Some n }
exits_inside x do_head n = record x { do_end = Some n }
exits_inside x (do_while condition) n = record x { do_end = Some n }
exits_inside x (do_until condition) n = record x { do_end = Some n }
exits_inside x _ n = x

-- how many code lines there are
abbrev mutual
  pub count_lines : Nodes → ℕ
  count_lines no_nodes = 0
  count_lines (next_node a rest) = count_node a + count_lines rest

  pub count_node : Node → ℕ
  count_node (line l) = cond (is_code l.form) 1 0
  count_node (block head body middles close) = 1 + count_lines body + count_middles middles + 1

  pub count_middles : Middles → ℕ
  count_middles no_middles = 0
  count_middles (next_middle l body more) = 1 + count_lines body + count_middles more

-- where lines begin that are numbered from n: there, or where control goes behind them if there are none
abbrev pub begin : Nodes → ℕ → ℕ → ℕ
begin body n behind = cond (nat_eq (count_lines body) 0) behind n

-- where the head of a block goes on, where its body begins and the first line that parts or closes it
abbrev pub head_after : Form → ℕ → ℕ → ℕ
head_after (select value) body part = part
head_after _ body part = body

-- where the head of a block goes that doesn't hold: the first line that parts or closes it, or behind the block
abbrev pub head_otherwise : Form → ℕ → ℕ → Option ℕ
head_otherwise (if_head condition) part behind = Some part
head_otherwise (line_if condition) part behind = Some part
head_otherwise (for_head counter start limit step) part behind = Some behind
head_otherwise (for_each name suffix items) part behind = Some behind
head_otherwise (do_while condition) part behind = Some behind
head_otherwise (do_until condition) part behind = Some behind
head_otherwise (while_head condition) part behind = Some behind
head_otherwise _ part behind = None

-- where a line that parts a block goes if it doesn't hold: the next one that parts or closes it
abbrev pub middle_otherwise : Form → ℕ → Option ℕ
middle_otherwise (else_if condition) part = Some part
middle_otherwise (case_line items) part = Some part
middle_otherwise _ part = None

-- where the closing line of a loop goes back to: behind the head of a For, else to the head
abbrev pub close_back : Form → ℕ → ℕ → Option ℕ
close_back (next name) head body = Some body
close_back loop head body = Some head
close_back (loop_while condition) head body = Some head
close_back (loop_until condition) head body = Some head
close_back wend head body = Some head
close_back _ head body = None

abbrev mutual
  -- the code lines of a body that are numbered from n, where control goes on behind them
  pub flat : Exits → Nodes → ℕ → ℕ → List Flat
  flat x no_nodes n behind = []
  flat x (next_node a rest) n behind =
      let m = n + count_node a in
      flat_node x a n (begin rest m behind) ++ flat x rest m behind

  pub flat_node : Exits → Node → ℕ → ℕ → List Flat
  flat_node x (line l) n behind =
      cond (is_code l.form) (record { line = l; after = behind; otherwise = None; back = None; leave = leave_of x l.form } ∷ []) []
  flat_node x (block head body middles close) n behind =
      let part = n + 1 + count_lines body in
      let end = part + count_middles middles in
      let start = begin body (n + 1) end in
      let inside = exits_inside x head.form behind in
      record { line = head; after = head_after head.form start part; otherwise = head_otherwise head.form part behind; back = None; leave = None }
      ∷ flat inside body (n + 1) end ++ flat_middles inside middles part end
      ++ record { line = close; after = behind; otherwise = None; back = close_back close.form n start; leave = None } ∷ []

  -- the lines that part a block, from the number n on, with what stands behind each; the block's closing line is the line end
  pub flat_middles : Exits → Middles → ℕ → ℕ → List Flat
  flat_middles x no_middles n end = []
  flat_middles x (next_middle l body more) n end =
      let part = n + 1 + count_lines body in
      record { line = l; after = begin body (n + 1) end; otherwise = middle_otherwise l.form part; back = None; leave = None }
      ∷ flat x body (n + 1) end ++ flat_middles x more part end

-- the code lines of the body of a procedure with their targets
abbrev pub flat_body : Nodes → List Flat
flat_body body =
    let end = 1 + count_lines body in
    flat (record { for_end = None; do_end = None; procedure_end = end }) body 1 end

-- the lines of a member and of a module, heads and closing lines included, in the order in which they are read
abbrev pub member_lines : Member → List Line
member_lines (alone l) = l ∷ []
member_lines (group head lines close) = head ∷ lines ++ close ∷ []
member_lines (proc head body close) = head ∷ flat_lines body ++ close ∷ []

abbrev pub module_lines : Module → List Line
module_lines m = flat_map member_lines m.members

-- the name that the head of a procedure declares
abbrev pub name_of : Form → List ℕ
name_of (sub_head s) = s.name
name_of (function_head s result) = s.name
name_of (get_head s result) = s.name
name_of (let_head s) = s.name
name_of (set_head s) = s.name
name_of _ = []
