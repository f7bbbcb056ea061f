use Rattle.std.proofs.Common.{arith, ◌≤◌, length}
use Rattle.std.proofs.lemmas.Grind.{common_steps}
use Rattle.statement_forms.proofs.Sharing.{items_answers}
use Rattle.statement_forms.proofs.printing.print_items.Goals as goal

pub returns : goal.returns
returns c =
    let low : 1 ≤ length c.args.tokens.now = grind (arith, common_steps, c.is_empty.ensures) in
    items_answers c.args.tokens.now low c.items.result c.items.ensures
