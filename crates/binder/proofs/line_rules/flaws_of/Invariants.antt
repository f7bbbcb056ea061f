use Rattle.std.proofs.Common.{◌≡◌, map, drop}
use Rattle.expression_words.specs.Flaws.{flaws_after, flaws_of}
use Rattle.expression_words.specs.View.{typed_of}
use Rattle.binder.proofs.line_rules.flaws_of.Given as goal

abbrev pub invariant-loop-t : goal.invariant-loop-t
invariant-loop-t l =
    flaws_after l.flaw (map typed_of (drop l.t-index l.typed)) ≡ flaws_of (map typed_of l.typed)
