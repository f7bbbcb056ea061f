use Rattle.std.proofs.Common.{◌≡◌, ℕ, ◌<◌, ap, arith, length, subst}
use Rattle.std.specs.List.{Contains}
use Rattle.std.proofs.lemmas.List.Sums.{sum_by-take-le, sum_by_more_le}
use Rattle.reach_table.specs.Worklists.{FollowedTo, out_degree}
use Rattle.reach_table.proofs.Following.{FollowedTo-follow, GrowsBy-follow, length-le_from_IsReached, length_grows, sum_by-follow, total_degree-le-length}
use Rattle.reach_table.proofs.reach.follow_all.Goals as goal

pub returns-in_err-follow-clause-grows : goal.returns-in_err-follow-clause-grows
returns-in_err-follow-clause-grows g c =
    GrowsBy-follow c.args.arrows.now.pairs c.args.list.now c.loop-place.list c.follow.new.list c.args.from c.loop-place.place c.at.result c.requires.from c.loop-place.invariant.behind (omega arith) c.at.ensures c.loop-place.invariant.grows c.follow.ensures.grows

pub returns-in_err-follow-clause-steps : goal.returns-in_err-follow-clause-steps
returns-in_err-follow-clause-steps g c =
    let pairs = c.args.arrows.now.pairs in
    let nodes = c.loop-place.list.nodes in
    omega (arith, c.follow.ensures.steps, c.loop-place.invariant.reads, ap (out_degree pairs) c.at.ensures, sum_by_more_le (out_degree pairs) nodes c.loop-place.place 0 (omega arith), total_degree-le-length pairs nodes c.len.ensures.list.distinct)

pub loop-place-smaller : goal.loop-place-smaller
loop-place-smaller g c =
    omega (arith, length-le_from_IsReached c.loop-place.list c.len.ensures.list, (length_grows (λ next. Contains c.args.arrows.now.pairs (c.at.result, next)) c.loop-place.list c.follow.new.list c.follow.ensures.grows).1)

pub loop-place-preserved : goal.loop-place-preserved
loop-place-preserved g c =
    let pairs = c.args.arrows.now.pairs in
    let list = c.loop-place.list in
    let new = c.follow.new.list in
    let place = c.loop-place.place in
    let within : place < length list.nodes = omega arith in
    let grown = c.follow.ensures.grows in
    let P = λ (next : ℕ). Contains pairs (c.at.result, next) in
    record {
      within = omega (arith, (length_grows P list new grown).0);
      behind = omega arith;
      grows = GrowsBy-follow pairs c.args.list.now list new c.args.from place c.at.result c.requires.from c.loop-place.invariant.behind within c.at.ensures c.loop-place.invariant.grows grown;
      followed = FollowedTo-follow pairs P list new place c.at.result within c.at.ensures grown c.loop-place.invariant.followed c.in_ok-follow.ensures.followed;
      reads = omega (arith, c.follow.ensures.steps, c.loop-place.invariant.reads, sum_by-follow (out_degree pairs) P list new place c.at.result within c.at.ensures grown);
    }

pub returns-clause-followed : goal.returns-clause-followed
returns-clause-followed g c =
    let whole : c.loop-place.place ≡ length c.loop-place.list.nodes = omega arith in
    subst (FollowedTo c.args.arrows.now.pairs c.loop-place.list.nodes) whole c.loop-place.invariant.followed

pub returns-clause-steps : goal.returns-clause-steps
returns-clause-steps g c =
    omega (arith, c.loop-place.invariant.reads, sum_by-take-le (out_degree c.args.arrows.now.pairs) c.loop-place.list.nodes c.loop-place.place, total_degree-le-length c.args.arrows.now.pairs c.loop-place.list.nodes c.len.ensures.list.distinct)
