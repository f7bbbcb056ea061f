use Rattle.std.proofs.Common.{◌≡◌, [], ◌++◌, map, drop}
use Rattle.std.specs.List.{flat_map}
use Rattle.expression_words.specs.View.{scope_of}
use Rattle.binder.specs.ImplicitLocals.{implicit_in, laters_after, variables_in, with_new}
use Rattle.binder.specs.View.{implicit_of, placed_of, IsGathered}
use Rattle.binder.proofs.locals.gather_lines.Given as goal

abbrev pub invariant-loop-line : goal.invariant-loop-line
invariant-loop-line l = record {
  variables :
      with_new (map implicit_of l.all.variables.items) (flat_map (implicit_in (scope_of l.search.scope) l.search.procedure l.search.explicit) (map placed_of (drop l.line-index l.lines)))
      ≡ variables_in (scope_of l.search.scope) l.search.procedure l.search.explicit (map placed_of l.lines);
  laters :
      l.laters.items ++ laters_after (scope_of l.search.scope) l.search.procedure l.search.explicit l.first (map implicit_of l.all.variables.items) (map placed_of (drop l.line-index l.lines))
      ≡ laters_after (scope_of l.search.scope) l.search.procedure l.search.explicit l.first [] (map placed_of l.lines);
  table : IsGathered l.all;
}
