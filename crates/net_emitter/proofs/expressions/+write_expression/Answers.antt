use Rattle.std.proofs.Common.{◌++◌, map, codes, sym, ap, ◌∙◌}
use Rattle.std.proofs.lemmas.Result.{on_ok_weaker}
use Rattle.std.proofs.lemmas.List.{length-map}
use Rattle.net_tree.specs.View.{exp_of, exps_of, type_name_of}
use Rattle.net_tree.specs.Expressions.{exp_text, arguments_text, type_text}
use Rattle.net_emitter.proofs.Emitting.{separated_turn, below_map, at_map, closed_list, two_pieces, three_pieces}
use Rattle.net_emitter.proofs.Listed.{text_at, arguments_listed, call_text, object_text, array_text}
use Rattle.net_emitter.proofs.expressions.+write_expression.Goals as goal

pub write_arguments-loop-i-preserved : goal.write_arguments-loop-i-preserved
write_arguments-loop-i-preserved t c =
    let xs = c.args.arguments.now in
    let i = c.loop-i.i in
    let x = c.index-arguments-i.result in
    separated_turn (codes ", ") (map text_at xs) i (text_at x) c.push.new.self c.loop-i.out c.write_separator.new.out _ (below_map text_at xs i c.loop-i-test.true) (at_map text_at xs i x c.index-arguments-i.is) c.loop-i.invariant c.in_ok-write_separator.ensures c.in_ok-write_expression.ensures

pub write_arguments-returns : goal.write_arguments-returns
write_arguments-returns t c =
    let xs = c.args.arguments.now in
    on_ok_weaker c.push-2.result
    (λ e. closed_list (codes ", ") (codes "(") (codes ")") (map text_at xs) c.loop-i.i c.args.out.now c.push.new.self c.loop-i.out c.push-2.new.self (rw length-map c.loop-i-test.false) c.in_ok-push.ensures.ok c.loop-i.invariant e
    ∙ ap (λ text. c.args.out.now ++ text) (arguments_listed xs))
    c.push-2.ensures.ok

pub write_expression-returns-in_ok-write_expression-in-Call : goal.write_expression-returns-in_ok-write_expression-in-Call
write_expression-returns-in_ok-write_expression-in-Call t c =
    let out = c.args.out.now in
    on_ok_weaker c.write_arguments.result
    (λ e. two_pieces out _ _ c.write_expression-in-Call.new.out c.write_arguments.new.out c.in_ok-write_expression-in-Call.ensures (e ∙ ap (λ xs. c.write_expression-in-Call.new.out ++ arguments_text (exps_of xs)) c.deref-in-Call-2.ensures.value)
    ∙ ap (λ a. out ++ (exp_text (exp_of a) ++ arguments_text (exps_of c.in-Call.arguments.items))) c.deref-in-Call.ensures
    ∙ ap (λ text. out ++ text) (sym (call_text c.in-Call.callee c.in-Call.arguments))
    ∙ ap (λ a. out ++ exp_text (exp_of a)) (sym c.in-Call.is))
    c.write_arguments.ensures

pub write_expression-returns-in_ok-write_new-in-NewObject : goal.write_expression-returns-in_ok-write_new-in-NewObject
write_expression-returns-in_ok-write_new-in-NewObject t c =
    let out = c.args.out.now in
    on_ok_weaker c.write_arguments-in-NewObject.result
    (λ e. two_pieces out (codes "New " ++ type_text (type_name_of c.in-NewObject.ty)) (arguments_text (exps_of c.in-NewObject.arguments.items)) c.write_new.new.out c.write_arguments-in-NewObject.new.out c.in_ok-write_new-in-NewObject.ensures (e ∙ ap (λ xs. c.write_new.new.out ++ arguments_text (exps_of xs)) c.deref-in-NewObject.ensures.value)
    ∙ ap (λ text. out ++ text) (sym (object_text c.in-NewObject.ty c.in-NewObject.arguments))
    ∙ ap (λ a. out ++ exp_text (exp_of a)) (sym c.in-NewObject.is))
    c.write_arguments-in-NewObject.ensures

pub write_expression-returns-in_ok-write_arguments-in-NewArray : goal.write_expression-returns-in_ok-write_arguments-in-NewArray
write_expression-returns-in_ok-write_arguments-in-NewArray t c =
    let out = c.args.out.now in
    let mid = c.write_new-in-NewArray.new.out in
    on_ok_weaker c.extend_from_slice-in-NewArray.result
    (λ e. three_pieces out (codes "New " ++ type_text (type_name_of c.in-NewArray.ty)) (arguments_text (exps_of c.in-NewArray.bounds.items)) (codes " {}") mid c.write_arguments-in-NewArray.new.out c.extend_from_slice-in-NewArray.new.self c.in_ok-write_new-in-NewArray.ensures (c.in_ok-write_arguments-in-NewArray.ensures ∙ ap (λ xs. mid ++ arguments_text (exps_of xs)) c.deref-in-NewArray.ensures.value) e
    ∙ ap (λ text. out ++ text) (sym (array_text c.in-NewArray.ty c.in-NewArray.bounds))
    ∙ ap (λ a. out ++ exp_text (exp_of a)) (sym c.in-NewArray.is))
    c.extend_from_slice-in-NewArray.ensures.ok
