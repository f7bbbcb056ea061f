use Rattle.std.proofs.Common.{sym, ◌∙◌, arith}
use Rattle.net_tree.specs.View.{line_of}
use Rattle.net_reader.proofs.Compared.{line_differs, line_same}
use Rattle.net_reader.proofs.taken.checked_line.Goals as goal

pub returns-then-not-same : goal.returns-then-not-same
returns-then-not-same c =
    line_differs c.args.depth _ c.args.blocks.now.items c.args.line.now (line_of c.args.read) (omega (arith, c.len.ensures, c.args.blocks.now.ok.0))
    (sym c.in_ok-same.ensures ∙ c.if-not-same.true)

pub returns : goal.returns
returns c =
    line_same c.args.depth _ c.args.blocks.now.items c.args.line.now (line_of c.args.read) (omega (arith, c.len.ensures, c.args.blocks.now.ok.0))
    (sym c.if-not-can_stand.ensures) c.requires.held (sym c.in_ok-same.ensures ∙ c.if-not-same.false)
