-- That control goes from written lines where it goes in the source: what target_laws has proved of a procedure.
use Rattle.std.specs.Prelude.{◌≡◌, ◌≤◌, true, length, map, slice_get}
use Rattle.std.specs.List.{list_all}
use Rattle.vb_tree.specs.declared.form_parts.Label6.{Label6}
use Rattle.vb_tree.specs.FlatLines.{code_lines, flat_lines}
use Rattle.vb_tree.specs.Tree.{Nodes}
use Rattle.bound_tree.specs.Labels.{label_of, label_at, labels}
use Rattle.bound_tree.specs.Tree.{Program}
use Rattle.net_tree.specs.declared.declaration.NetClose.{NetClose}
use Rattle.net_tree.specs.Tree.{Head}
use Rattle.written_trees.specs.Bodies.{procedure_with}
use Rattle.written_trees.specs.Bodies as bound
use Rattle.written_trees.specs.Lines.{jump}
use Rattle.written_trees.specs.Names.{Scope}
use Rattle.written_trees.specs.Placing.{Placed}
use Rattle.vb6_run.specs.Forms.{SourceLine, body_of}
use Rattle.vb6_run.specs.Lines.{lines_in}
use Rattle.net_run.specs.Lines.{NetLine, target_of}
use Rattle.net_run.specs.Members.{Code}
use Rattle.net_run.specs.Program as net_program
use Rattle.target_laws.specs.Kept.{AreBound, code_of, is_unsigned, is_unsigned_in, keep_steps, keep_tests, keeps_label}

-- it goes to the lines of the same numbers
abbrev pub AimsAreSame : Type 0
AimsAreSame =
    (P : Program) (S : Scope) (p : Placed) (body : Nodes) (head : Head) (close : NetClose) (c : Code)
    → c.procedure ≡ procedure_with P S p body head close
    → length (lines_in (slice_get P.bodies p.at.procedure)) ≤ length (code_lines (flat_lines body))
    → keep_steps (code_of P S p body) ≡ true
    → map (λ (l : NetLine). l.aims) (net_program.body_of c) ≡ map (λ (l : SourceLine). l.aims) (body_of (bound.lines_in (slice_get P.bodies p.at.procedure)))

-- the same lines compute something for their blocks
abbrev pub TestsAreSame : Type 0
TestsAreSame =
    (P : Program) (S : Scope) (p : Placed) (body : Nodes) (head : Head) (close : NetClose) (c : Code)
    → c.procedure ≡ procedure_with P S p body head close
    → length (lines_in (slice_get P.bodies p.at.procedure)) ≤ length (code_lines (flat_lines body))
    → keep_tests (code_of P S p body) ≡ true
    → map (λ (l : NetLine). l.tests) (net_program.body_of c) ≡ map (λ (l : SourceLine). l.tests) (body_of (bound.lines_in (slice_get P.bodies p.at.procedure)))

-- a jump finds its label at the line of the same number, if that line isn't replaced
abbrev pub LabelsAreSame : Type 0
LabelsAreSame =
    (P : Program) (S : Scope) (p : Placed) (body : Nodes) (head : Head) (close : NetClose) (c : Code) (l : Label6)
    → c.procedure ≡ procedure_with P S p body head close
    → AreBound P p body
    → list_all is_unsigned_in (labels (flat_lines body)) ≡ true
    → is_unsigned (label_of l) ≡ true
    → keeps_label (label_of l) (code_of P S p body) ≡ true
    → target_of c (jump (labels (flat_lines body)) l) ≡ label_at (labels (lines_in (slice_get P.bodies p.at.procedure))) (label_of l)
