use Rattle.std.proofs.Common.{ℕ, ◌<◌, ◌∙◌, arith, drop, length, subst, sym}
use Rattle.std.specs.List.{All}
use Rattle.std.proofs.lemmas.List.Elements.{All-drop}
use Rattle.reach_table.specs.Worklists.{IsReachedFrom}
use Rattle.reach_table.proofs.Following.{FollowedTo-with, limit_grows, total_degree-le-length}
use Rattle.reach_table.proofs.Reaching.{HasParts-more, has_below}
use Rattle.reach_table.proofs.partition.add_part.Goals as goal

pub returns-then-contains-clause-steps : goal.returns-then-contains-clause-steps
returns-then-contains-clause-steps g c = omega (arith, total_degree-le-length c.args.arrows.now.pairs c.args.list.now.nodes c.contains.ensures.list.distinct)

pub returns-in_err-insert-clause-steps : goal.returns-in_err-insert-clause-steps
returns-in_err-insert-clause-steps g c = omega (arith, total_degree-le-length c.args.arrows.now.pairs c.args.list.now.nodes c.contains.ensures.list.distinct)

pub follow_all-requires-clause-followed : goal.follow_all-requires-clause-followed
follow_all-requires-clause-followed g c =
    FollowedTo-with c.args.arrows.now.pairs c.args.list.now c.insert.new.self c.args.root c.len-from.result c.len-from.ensures.len c.in_ok-insert.ensures.ok c.requires.parts.whole

pub set_all-requires : goal.set_all-requires
set_all-requires g c =
    let P = IsReachedFrom c.args.arrows.now.pairs (drop c.len-from.result c.insert.new.self.nodes) in
    let limit = limit_grows P c.args.list.now c.insert.new.self c.follow_all.new.list c.args.root c.in_ok-insert.ensures.ok c.follow_all.ensures.grows ∙ c.requires.limit ∙ sym c.requires.len in
    rw c.rest.ensures.rest (All-drop (λ n. n < length c.args.least.now) c.len-from.result c.follow_all.new.list.nodes (subst (λ (k : ℕ). All (λ n. n < k) c.follow_all.new.list.nodes) limit c.rest.ensures.list.below))

pub returns-clause-parts : goal.returns-clause-parts
returns-clause-parts g c =
    let P = IsReachedFrom c.args.arrows.now.pairs (drop c.len-from.result c.insert.new.self.nodes) in
    let limit = limit_grows P c.args.list.now c.insert.new.self c.follow_all.new.list c.args.root c.in_ok-insert.ensures.ok c.follow_all.ensures.grows ∙ c.requires.limit ∙ sym c.requires.len in
    HasParts-more c.args.arrows.now.pairs c.args.list.now c.insert.new.self c.follow_all.new.list c.args.least.now c.set_all.new.least c.rest.result.now c.args.root c.len-from.result
    c.requires.symmetric c.requires.parts (sym c.if-contains.ensures.contains) c.len-from.ensures.len c.in_ok-insert.ensures.ok c.follow_all.ensures.grows c.in_ok-follow_all.ensures.followed c.rest.ensures.rest
    (λ n h. let below = has_below c.follow_all.new.list.nodes c.follow_all.new.list.limit n c.rest.ensures.list.below h in c.set_all.ensures n (omega (arith, limit, below)))
