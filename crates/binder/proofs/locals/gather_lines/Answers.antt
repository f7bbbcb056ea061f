use Rattle.std.proofs.Common.{◌∙◌, map, arith}
use Rattle.expression_words.specs.View.{scope_of}
use Rattle.binder.specs.View.{implicit_of}
use Rattle.binder.proofs.Gathering.{laters_more, lines_more}
use Rattle.binder.proofs.locals.gather_lines.Goals as goal

pub loop-line-preserved : goal.loop-line-preserved
loop-line-preserved c = record {
  variables =
      lines_more (scope_of c.args.search.scope) c.args.search.procedure c.args.search.explicit (map implicit_of c.loop-line.all.variables.items) (map implicit_of c.gather_line.new.to.variables.items)
      c.args.lines.now c.loop-line.line-index c.line-item.result c.loop-line-test.true c.line-item.is c.in_ok-gather_line.ensures.all
      ∙ c.loop-line.invariant.variables;
  laters =
      laters_more (scope_of c.args.search.scope) c.args.search.procedure c.args.search.explicit c.args.first c.loop-line.laters.items c.push.new.self.items c.in_ok-later.later
      (map implicit_of c.loop-line.all.variables.items) c.gather_line.new.to.variables.items c.args.lines.now c.loop-line.line-index c.line-item.result
      c.loop-line-test.true c.line-item.is c.in_ok-gather_line.ensures.all
      (omega (arith, c.in_ok-later.ensures, c.len.ensures, c.gather_line.new.to.variables.ok.0)) c.in_ok-push.ensures.items
      ∙ c.loop-line.invariant.laters;
  table = c.in_ok-gather_line.ensures.table;
}
