use Rattle.std.proofs.Common.{refl}
use Rattle.vb_lines.proofs.Adds.{adds_middle}
use Rattle.vb_lines.proofs.building.ModuleBuild.add_middle.Goals as goal

pub returns : goal.returns
returns c = λ lines old. adds_middle c.args.line c.args.kind _ c.args.self.now.group _ _ _ c.in-Some.frame _ _ lines c.in-Some.ensures.items c.in_ok-push-2.ensures.items refl refl refl c.in_ok-push.ensures.items refl c.new.ensures.items c.requires.parts c.requires.right old
