use Rattle.std.proofs.Common.{◌≡◌, drop}
use Rattle.std.specs.Prelude.{◌||◌, ◌&&◌}
use Rattle.bound_tree.specs.View.{passed_of}
use Rattle.byref_analysis.specs.Arguments.{some_stir, stirs_later}
use Rattle.byref_analysis.specs.FactsOf.{stirs_by}
use Rattle.byref_analysis.proofs.arguments.stirs_later.Given as goal

abbrev pub invariant-loop-arg : goal.invariant-loop-arg
invariant-loop-arg l =
    stirs_later (stirs_by l.stirring) (passed_of l.args)
    ≡ ((l.given && some_stir (stirs_by l.stirring) (passed_of (drop l.arg-index l.args)))
    || stirs_later (stirs_by l.stirring) (passed_of (drop l.arg-index l.args)))
