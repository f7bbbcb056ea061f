use Rattle.std.proofs.Common.{◌≡◌, length, List, ◌++◌, map}
use Rattle.vb_tree.specs.declared.token.Token.{Token}
use Rattle.form_parts.specs.Answer.{Answers}
use Rattle.form_parts.specs.Cuts.{pieces, Each}
use Rattle.form_parts.specs.Items.{deepest}
use Rattle.form_parts.proofs.lists.items.Given as goal

abbrev pub invariant-loop-piece : goal.invariant-loop-piece
invariant-loop-piece g l =
    (done : List (List Token)) × (pieces l.separator l.tokens ≡ done ++ pieces l.separator l.rest) × Answers (map g.T.Part.view) (Each g.T.Part.Is done) (deepest g.T.Part.depth) l.so_far

abbrev pub decreases-loop-piece : goal.decreases-loop-piece
decreases-loop-piece g l = length l.rest
