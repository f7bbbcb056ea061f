use Rattle.std.proofs.Common.{◌≡◌, ◌++◌, drop, map}
use Rattle.expression_words.specs.View.{scope_of}
use Rattle.bound_exprs.specs.SpelledView.{arg_of, spelled_arg}
use Rattle.bound_exprs.proofs.spelling.+spellings.Given as goal

abbrev pub invariant-spelled_args-loop-arg : goal.invariant-spelled_args-loop-arg
invariant-spelled_args-loop-arg l =
    map arg_of l.all.items ++ map (spelled_arg (scope_of l.scope)) (map arg_of (drop l.arg-index l.args))
    ≡ map (spelled_arg (scope_of l.scope)) (map arg_of l.args)
