use Rattle.std.proofs.Common.{◌≡◌, ◌++◌, drop, map}
use Rattle.vb_tree.specs.View.{args_of}
use Rattle.binder.specs.ImplicitLocals.{words_in_args}
use Rattle.binder.specs.View.{word_of}
use Rattle.binder.proofs.words.+words.Given as goal

abbrev pub invariant-push_args-loop-arg : goal.invariant-push_args-loop-arg
invariant-push_args-loop-arg l =
    map word_of l.to.items ++ words_in_args (args_of (drop l.arg-index l.args)) ≡ map word_of l.initial.to.items ++ words_in_args (args_of l.args)
