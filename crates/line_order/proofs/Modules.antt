-- The lines of a module that was read stand in the order of their numbers.
use Rattle.std.proofs.Common.{ℕ, List, [], sym, subst}
use Rattle.vb_tree.specs.declared.project.Entry.{Entry}
use Rattle.vb_tree.specs.declared.token.Line.{Line}
use Rattle.vb_tree.specs.Tree.{Module}
use Rattle.vb_tree.specs.Tree as tree
use Rattle.vb_lines.specs.Modules.{Head, ended, malformed, unended, head_of, IsModuleOf, IsModule}
use Rattle.vb_lines.specs.Parts.{all_parts}
use Rattle.project_loader.specs.Modules.{TextIsModule}
use Rattle.line_order.specs.Order.{AreRising, LinesAreInOrder}
use Rattle.line_order.proofs.Readings.{numbers, lines_rise}
use Rattle.line_order.proofs.Heads.{RisingHead, head_rises}
use Rattle.line_order.proofs.Lines.{code_numbers, parts_rise, read_rise}

of_body : (entry : Entry) (number : ℕ) (body : List Line) (m : Module) → AreRising 0 (numbers body) → IsModuleOf entry number body m → LinesAreInOrder m
of_body entry number body m h is =
    subst (λ (ls : List tree.Line). AreRising 0 (code_numbers ls)) (sym is.tree.in_order)
    (read_rise 0 [] (all_parts body) is.lines (parts_rise 0 body h) is.read)

of_head : (entry : Entry) (number : ℕ) (head : Head) (m : Module) → RisingHead 0 head → IsModule entry number head m → LinesAreInOrder m
of_head entry number (ended body) m h is = of_body entry number body m h is
of_head entry number (malformed place) m h is = absurd is
of_head entry number unended m h is = absurd is

pub ordered_module : (entry : Entry) (number : ℕ) (text : List ℕ) (m : Module) → TextIsModule entry number text m → LinesAreInOrder m
ordered_module entry number text m is =
    of_head entry number (head_of entry.class is.lines) m
    (head_rises 0 entry.class is.lines (subst (λ (ls : List Line). AreRising 0 (numbers ls)) is.lexed.before (lines_rise number text)))
    is.is
