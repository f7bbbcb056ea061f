use Rattle.std.proofs.Common.{◌∙◌, ap, map, refl, sym, List, ℕ}
use Rattle.vb_tree.specs.declared.module.Member6.{Member6}
use Rattle.vb_tree.specs.View.{member_of}
use Rattle.declared_names.specs.Declaring.{follow, member_declares, module_declares}
use Rattle.declared_names.specs.View.{names_of}
use Rattle.declared_names.proofs.Loops.{loop_done, loop_more}
use Rattle.declared_names.proofs.project.put_members.Goals as goal

pub loop-member-preserved : goal.loop-member-preserved
loop-member-preserved c =
    loop_more (λ (xs : List Member6). module_declares c.args.file c.loop-member.next (map member_of xs))
    (λ (xs : List Member6). module_declares c.args.file c.in_ok-next.next (map member_of xs))
    (member_declares c.args.file c.loop-member.next (member_of c.member-item.result))
    c.args.members.now c.loop-member.member-index c.member-item.result _ _ c.loop-member-test.true c.member-item.is
    (λ (rest : List Member6). ap (λ (n : ℕ). follow (member_declares c.args.file c.loop-member.next (member_of c.member-item.result)) (module_declares c.args.file n (map member_of rest))) (sym c.in_ok-next.ensures.next))
    c.in_ok-next.ensures.lists
    ∙ c.loop-member.invariant

pub returns : goal.returns
returns c =
    sym (loop_done (λ (xs : List Member6). module_declares c.args.file c.loop-member.next (map member_of xs))
    c.args.members.now c.loop-member.member-index (names_of c.loop-member.to) c.loop-member-test.false refl)
    ∙ c.loop-member.invariant
