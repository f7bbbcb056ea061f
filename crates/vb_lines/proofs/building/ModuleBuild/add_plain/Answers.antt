use Rattle.std.proofs.Common.{refl, sym, ◌∙◌}
use Rattle.vb_lines.proofs.Frames.{none_popped}
use Rattle.vb_lines.proofs.Adds.{adds_plain_in_group, adds_plain_alone, adds_plain_in_frame}
use Rattle.vb_lines.proofs.building.ModuleBuild.add_plain.Goals as goal

pub returns-in-Some : goal.returns-in-Some
returns-in-Some c = λ lines old. adds_plain_in_group c.args.line _ c.args.self.now.group _ c.in-Some.group _ _ lines (sym c.take.ensures.value ∙ c.in-Some.is) refl refl refl c.in_ok-push.ensures.ok c.requires old

pub returns-in_ok-push-in-None : goal.returns-in_ok-push-in-None
returns-in_ok-push-in-None c = λ lines old. adds_plain_alone c.args.line _ _ c.args.self.now.group _ _ _ lines (sym c.take.ensures.value ∙ c.in_default.is) c.take.ensures.after (none_popped _ _ _ c.in-None.ensures.rest c.in-None.ensures.cases.0 c.in-None.ensures.items) c.in_ok-push-in-None.ensures.ok c.requires old

pub returns-in_ok-push-in-Some-pop-2 : goal.returns-in_ok-push-in-Some-pop-2
returns-in_ok-push-in-Some-pop-2 c = λ lines old. adds_plain_in_frame c.args.line _ c.args.self.now.group _ _ _ _ c.in-Some-pop.frame _ lines (sym c.take.ensures.value ∙ c.in_default.is) c.take.ensures.after c.in-Some-pop.ensures.items c.in_ok-push-in-Some-pop-2.ensures.items c.in_ok-push-in-Some-pop.ensures c.requires old
