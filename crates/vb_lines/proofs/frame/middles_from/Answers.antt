use Rattle.std.proofs.Common.{sym, ap, ◌∙◌}
use Rattle.std.proofs.lemmas.List.{map-id}
use Rattle.std.proofs.lemmas.Iterator.Adapters.{YieldsList-from_vec}
use Rattle.std.proofs.lemmas.Iterator.Consumers.{YieldsList-end}
use Rattle.vb_lines.specs.Building.{branches_of}
use Rattle.vb_lines.proofs.Frames.{pushed_alike}
use Rattle.vb_lines.proofs.frame.middles_from.Goals as goal

pub loop-branch-preserved : goal.loop-branch-preserved
loop-branch-preserved c = pushed_alike _ _ _ c.in-Some.branch c.in_ok-push.ensures.items c.loop-branch.invariant

pub returns : goal.returns
returns c =
    let items = c.into_iter-branch-iterator.ensures.into_iter_gives in
    let all = YieldsList-from_vec c.args.branches.items items.0 (items.1 ∙ c.args.branches.ok.0) in
    let end = YieldsList-end all c.loop-branch.yielded _ c.loop-branch.yielded_by _ c.next.new.self c.in-None.is c.next.ensures.steps in
    c.loop-branch.invariant ∙ ap branches_of (sym (map-id _) ∙ end.0)
