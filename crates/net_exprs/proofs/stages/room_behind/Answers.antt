use Rattle.std.proofs.Common.{arith, subst, sym, suc, ◌+◌, ◌<◌, ◌≡◌, IfSome, reverse}
use Rattle.net_tree.specs.Depth.{depth_exp}
use Rattle.net_tree.specs.View.{type_name_of}
use Rattle.net_exprs.specs.Expressions.{object_of, value_of}
use Rattle.net_exprs.specs.Stages.{StageLeaves, items_view, stage_view}
use Rattle.net_exprs.proofs.Rooms.{object_leaves, object_over, some_up, with_leaves, with_over}
use Rattle.net_exprs.proofs.stages.room_behind.Goals as goal

pub returns-in-Ranked-clause-some : goal.returns-in-Ranked-clause-some
returns-in-Ranked-clause-some c = λ h.
    let room = c.args.room in
    let ranks = c.in-Ranked.ranks in
    let t = type_name_of c.in-Ranked.field-0 in
    subst (λ stage. IfSome c.left_of.result (λ left. left + depth_exp (value_of (stage_view stage)) ≡ suc room)) (sym c.in-Ranked.is)
    (some_up c.left_of.result (λ left. left + c.saturating_sub.result ≡ room) (λ left. left + depth_exp (object_of t (reverse ranks.items)) ≡ suc room)
    (λ left e. object_leaves t ranks.items room left (omega (arith, e, c.saturating_sub.ensures, c.len.ensures, ranks.ok.0))) c.left_of.ensures.some)

pub returns-in-Ranked-clause-none : goal.returns-in-Ranked-clause-none
returns-in-Ranked-clause-none c = λ h none.
    let ranks = c.in-Ranked.ranks in
    subst (λ stage. suc c.args.room < depth_exp (value_of (stage_view stage))) (sym c.in-Ranked.is)
    (object_over (type_name_of c.in-Ranked.field-0) ranks.items c.args.room (omega (arith, c.left_of.ensures.none none, c.saturating_sub.ensures, c.len.ensures, ranks.ok.0)))

pub returns-in-Some-clause-some : goal.returns-in-Some-clause-some
returns-in-Some-clause-some c = λ h.
    let room = c.args.room in
    let ranks = c.in-Bounded.ranks in
    let bounds = c.in-Bounded.bounds in
    let leaves = subst (λ stage. StageLeaves room stage) c.in-Bounded.is h in
    subst (λ stage. c.min.result + depth_exp (value_of (stage_view stage)) ≡ suc room) (sym c.in-Bounded.is)
    (omega (
      arith,
      c.min.ensures,
      with_leaves (type_name_of c.in-Bounded.field-0) ranks.items (items_view bounds) room c.in-Some.left bounds.room (omega (arith, c.in-Some.ensures.some, c.len-in-Bounded.ensures, ranks.ok.0)) leaves,
    ))

pub returns-in-None-clause-none : goal.returns-in-None-clause-none
returns-in-None-clause-none c = λ h none.
    let ranks = c.in-Bounded.ranks in
    subst (λ stage. suc c.args.room < depth_exp (value_of (stage_view stage))) (sym c.in-Bounded.is)
    (with_over (type_name_of c.in-Bounded.field-0) ranks.items (items_view c.in-Bounded.bounds) c.args.room
    (omega (arith, c.in-None.ensures.none none, c.len-in-Bounded.ensures, ranks.ok.0)))
