use Rattle.std.proofs.Common.{◌∙◌, ap, map, refl, sym, List}
use Rattle.vb_tree.specs.declared.module.Module6.{Module6}
use Rattle.vb_tree.specs.View.{member_of, module_of}
use Rattle.declared_names.specs.Declaring.{module_declares, project_declares, with_declared}
use Rattle.declared_names.specs.View.{names_of}
use Rattle.declared_names.proofs.Loops.{loop_done, loop_more}
use Rattle.declared_names.proofs.project.put_modules.Goals as goal

pub loop-module-preserved : goal.loop-module-preserved
loop-module-preserved c =
    loop_more (λ (xs : List Module6). project_declares (map module_of xs)) (λ (xs : List Module6). project_declares (map module_of xs))
    (module_declares c.module-item.result.file 0 (map member_of c.module-item.result.members))
    c.args.modules.now c.loop-module.module-index c.module-item.result _ _ c.loop-module-test.true c.module-item.is (λ rest. refl)
    (c.in_ok-put_members.ensures
    ∙ ap (λ ms. with_declared (module_declares c.module-item.result.file 0 (map member_of ms)) (names_of c.loop-module.to)) c.as_slice.ensures)
    ∙ c.loop-module.invariant

pub returns : goal.returns
returns c =
    sym (loop_done (λ (xs : List Module6). project_declares (map module_of xs))
    c.args.modules.now c.loop-module.module-index (names_of c.loop-module.to) c.loop-module-test.false refl)
    ∙ c.loop-module.invariant
