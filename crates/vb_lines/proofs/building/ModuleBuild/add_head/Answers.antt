use Rattle.std.proofs.Common.{refl, sym}
use Rattle.vb_lines.proofs.Adds.{adds_group, adds_frame}
use Rattle.vb_lines.proofs.building.ModuleBuild.add_head.Goals as goal

pub returns-then-is_group : goal.returns-then-is_group
returns-then-is_group c = λ lines old. adds_group c.args.line c.args.kind _ c.args.self.now.group _ _ lines refl refl c.new.ensures c.requires.opens (sym c.if-is_group.ensures) c.requires.right old

pub returns : goal.returns
returns c = λ lines old. adds_frame c.args.line c.args.kind _ c.args.self.now.group _ _ _ lines c.in_ok-push.ensures.items refl refl c.new-2.ensures.items c.new-3.ensures.items c.requires.opens (sym c.if-is_group.ensures) c.requires.right old
