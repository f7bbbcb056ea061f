use Rattle.std.proofs.Common.{sym, ap, ◌∙◌, ◌++◌, ◌∷◌, []}
use Rattle.vb_tree.specs.declared.module.Member6.TheVariants as m
use Rattle.vb_lines.proofs.Frames.{none_popped}
use Rattle.vb_lines.proofs.Adds.{adds_group_end, adds_procedure_end, adds_block_end}
use Rattle.vb_lines.proofs.building.ModuleBuild.add_close.Goals as goal

pub returns-in-Some : goal.returns-in-Some
returns-in-Some c = λ lines old. adds_group_end c.args.line c.args.kind _ _ c.args.self.now.group _ c.in-Some.group _ lines (sym c.take.ensures.value ∙ c.in-Some.is) c.take.ensures.after c.in_ok-push.ensures.ok c.requires.closes c.requires.right old

pub returns-in_default-pop-2 : goal.returns-in_default-pop-2
returns-in_default-pop-2 c =
    let frame = c.in-Some-pop.frame in
    λ lines old. adds_procedure_end c.args.line c.args.kind c.args.self.now.members _ c.args.self.now.group _ _ _ _ frame lines (sym c.take.ensures.value ∙ c.in_default.is) c.take.ensures.after
    c.in-Some-pop.ensures.items (none_popped _ _ _ c.in_default-pop-2.ensures.rest c.in_default-pop-2.ensures.cases.0 c.in_default-pop-2.ensures.items)
    (c.in_ok-push-2.ensures.ok ∙ ap (λ body. c.args.self.now.members ++ m.Proc frame.head body c.args.line ∷ []) (c.from_vec.ensures ∙ c.shrink_to_fit.ensures.items))
    c.requires.closes c.requires.right old

pub returns : goal.returns
returns c =
    λ lines old. adds_block_end c.args.line c.args.kind _ c.args.self.now.group _ _ _ _ _ c.in-Some-pop.frame c.in-Some-pop-2.outer _ _ lines (sym c.take.ensures.value ∙ c.in_default.is) c.take.ensures.after
    c.in-Some-pop.ensures.items c.in-Some-pop-2.ensures.items c.in_ok-push-4.ensures.items c.in_ok-close.ensures c.in_ok-push-3.ensures c.requires.closes c.requires.right old
