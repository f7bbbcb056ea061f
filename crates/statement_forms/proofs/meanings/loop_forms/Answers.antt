use Rattle.std.proofs.Common.{[], ◌∷◌}
use Rattle.statement_forms.specs.LineForms.{counting, for_each_item, next_end, do_while_head, do_until_head, loop_while_end, loop_until_end, while_line, with_line}
use Rattle.statement_forms.proofs.Choosing.{chosen, last_chosen}
use Rattle.statement_forms.proofs.meanings.loop_forms.Goals as goal

pub returns : goal.returns
returns c =
    let r7 = last_chosen with_line c.args.tokens.now c.with_line.result c.with_line.ensures in
    let r6 = chosen while_line (with_line ∷ []) c.args.tokens.now c.while_line.result c.with_line.result c.first_found-last.result c.while_line.ensures r7 c.first_found-last.ensures in
    let r5 = chosen loop_until_end (while_line ∷ with_line ∷ []) c.args.tokens.now c.loop_until_end.result c.first_found-last.result c.first_found-until_end.result c.loop_until_end.ensures r6 c.first_found-until_end.ensures in
    let r4 = chosen loop_while_end (loop_until_end ∷ while_line ∷ with_line ∷ []) c.args.tokens.now c.loop_while_end.result c.first_found-until_end.result c.first_found-while_end.result c.loop_while_end.ensures r5 c.first_found-while_end.ensures in
    let r3 = chosen do_until_head (loop_while_end ∷ loop_until_end ∷ while_line ∷ with_line ∷ []) c.args.tokens.now c.do_until_head.result c.first_found-while_end.result c.first_found-until_head.result c.do_until_head.ensures r4 c.first_found-until_head.ensures in
    let r2 = chosen do_while_head (do_until_head ∷ loop_while_end ∷ loop_until_end ∷ while_line ∷ with_line ∷ []) c.args.tokens.now c.do_while_head.result c.first_found-until_head.result c.first_found-while_head.result c.do_while_head.ensures r3 c.first_found-while_head.ensures in
    let r1 = chosen next_end (do_while_head ∷ do_until_head ∷ loop_while_end ∷ loop_until_end ∷ while_line ∷ with_line ∷ []) c.args.tokens.now c.next_end.result c.first_found-while_head.result c.first_found-next.result c.next_end.ensures r2 c.first_found-next.ensures in
    let r0 = chosen for_each_item (next_end ∷ do_while_head ∷ do_until_head ∷ loop_while_end ∷ loop_until_end ∷ while_line ∷ with_line ∷ []) c.args.tokens.now c.for_each_item.result c.first_found-next.result c.first_found-each.result c.for_each_item.ensures r1 c.first_found-each.ensures in
    chosen counting (for_each_item ∷ next_end ∷ do_while_head ∷ do_until_head ∷ loop_while_end ∷ loop_until_end ∷ while_line ∷ with_line ∷ []) c.args.tokens.now c.counting.result c.first_found-each.result c.first_found.result c.counting.ensures r0 c.first_found.ensures
