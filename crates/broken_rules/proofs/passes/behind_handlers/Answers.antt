use Rattle.std.proofs.Common.{ap, ◌∙◌}
use Rattle.bound_tree.specs.View.{program_of}
use Rattle.fixed_strings.specs.Rows.{lines_rules}
use Rattle.broken_rules.proofs.passes.behind_handlers.Goals as goal

pub returns-in-Ok : goal.returns-in-Ok
returns-in-Ok c = record {
  objects = c.requires.objects;
  facts = c.requires.refs.facts;
  facts_are = c.requires.refs.facts_are;
  references = c.requires.refs.references;
  fixed = record { lines = c.requires.fixed.lines ∙ ap (lines_rules (program_of c.args.bound.now)) c.requires.refs.quiet; vars = c.requires.fixed.vars; others = c.requires.fixed.others };
  handlers = c.requires.handlers;
  arrays = c.in-Ok.ensures.marks c.requires.refs.calls;
  lows = c.in-Ok.ensures.lows;
  ranks = c.in-Ok.ensures.ranks;
}
