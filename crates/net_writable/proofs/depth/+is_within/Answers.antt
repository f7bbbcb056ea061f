use Rattle.std.proofs.Common.{suc, nat_le, ap, sym, ◌∙◌}
use Rattle.net_tree.specs.Depth.{depth_exp, depth_exps}
use Rattle.net_tree.specs.View.{exp_of, exps_of}
use Rattle.net_writable.proofs.Depths.{array_within, call_within, object_within, without_room}
use Rattle.net_writable.proofs.depth.+is_within.Goals as goal

pub is_within-returns-else-room-ne0 : goal.is_within-returns-else-room-ne0
is_within-returns-else-room-ne0 t c = without_room (exp_of c.args.e.now) c.args.room c.if-room-ne0.false

pub are_parts_within-returns-then-is_within : goal.are_parts_within-returns-then-is_within
are_parts_within-returns-then-is_within t c =
    c.are_within.ensures
    ∙ ap (λ xs. nat_le (depth_exps (exps_of xs)) c.args.room) c.deref-then-is_within.ensures.value
    ∙ call_within c.in-Call.callee c.in-Call.arguments c.args.room
    (ap (λ a. nat_le (depth_exp (exp_of a)) c.args.room) (sym c.deref-in-Call.ensures) ∙ sym c.is_within-in-Call.ensures ∙ c.if-is_within.true)
    ∙ ap (λ a. nat_le (depth_exp (exp_of a)) (suc c.args.room)) (sym c.in-Call.is)

pub are_parts_within-returns-in-NewObject : goal.are_parts_within-returns-in-NewObject
are_parts_within-returns-in-NewObject t c =
    c.are_within-in-NewObject.ensures
    ∙ ap (λ xs. nat_le (depth_exps (exps_of xs)) c.args.room) c.deref-in-NewObject.ensures.value
    ∙ object_within c.in-NewObject.field-0 c.in-NewObject.arguments c.args.room
    ∙ ap (λ a. nat_le (depth_exp (exp_of a)) (suc c.args.room)) (sym c.in-NewObject.is)

pub are_parts_within-returns-in-NewArray : goal.are_parts_within-returns-in-NewArray
are_parts_within-returns-in-NewArray t c =
    c.are_within-in-NewArray.ensures
    ∙ ap (λ xs. nat_le (depth_exps (exps_of xs)) c.args.room) c.deref-in-NewArray.ensures.value
    ∙ array_within c.in-NewArray.field-0 c.in-NewArray.bounds c.args.room
    ∙ ap (λ a. nat_le (depth_exp (exp_of a)) (suc c.args.room)) (sym c.in-NewArray.is)
