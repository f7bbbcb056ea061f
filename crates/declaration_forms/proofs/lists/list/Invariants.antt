use Rattle.std.proofs.Common.{◌≡◌, length, List, ◌++◌, map}
use Rattle.form_parts.specs.declared.cuts.Separator.TheVariants.{Comma}
use Rattle.vb_tree.specs.declared.token.Token.{Token}
use Rattle.form_parts.specs.Answer.{Answers}
use Rattle.form_parts.specs.Cuts.{pieces, Each}
use Rattle.form_parts.specs.Items.{deepest}
use Rattle.declaration_forms.proofs.lists.list.Given as goal

abbrev pub invariant-loop-piece : goal.invariant-loop-piece
invariant-loop-piece g l =
    (done : List (List Token)) × (pieces Comma l.tokens ≡ done ++ pieces Comma l.rest) × Answers (map g.T.Item.view) (Each g.T.Item.Is done) (deepest g.T.Item.depth) l.so_far

abbrev pub decreases-loop-piece : goal.decreases-loop-piece
decreases-loop-piece g l = length l.rest
