use Rattle.std.proofs.Common.{refl}
use Rattle.vb_lines.proofs.Frames.{none_popped, adds_to_body, adds_to_branch}
use Rattle.vb_lines.proofs.frame.Frame.push.Goals as goal

pub returns-in_ok-push-in-None : goal.returns-in_ok-push-in-None
returns-in_ok-push-in-None c =
    let none = none_popped _ _ _ c.in-None.ensures.rest c.in-None.ensures.cases.0 c.in-None.ensures.items in
    adds_to_body c.args.node c.args.self.now _ refl refl none.0 none.1 c.in_ok-push-in-None.ensures.items

pub returns-in_ok-push-in-Some-2 : goal.returns-in_ok-push-in-Some-2
returns-in_ok-push-in-Some-2 c =
    adds_to_branch c.args.node c.args.self.now _ _ _ _ refl refl refl c.in-Some.ensures.items c.in_ok-push-in-Some-2.ensures.items refl c.in_ok-push-in-Some.ensures.items
