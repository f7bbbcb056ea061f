use Rattle.std.proofs.Common.{ℕ, List, map}
use Rattle.net_tree.specs.Tree.{Module}
use Rattle.net_tree.specs.View.{module_of}
use Rattle.net_tree.specs.Text.{file_name, module_text}
use Rattle.up_base.specs.Names.{is_name}
use Rattle.net_emitter.proofs.Emitting.{passes_at, passes_before, map_turn, map_end}
use Rattle.net_emitter.proofs.files.emit.Goals as goal

pub module_file-requires : goal.module_file-requires
module_file-requires c =
    let p = c.args.project.now in
    passes_at (λ m. is_name (file_name m)) module_of c.as_slice-net_module-items.result.now _ _ (rw c.as_slice-net_module-items.ensures (passes_before (λ m. is_name (file_name m)) (map module_of p.modules) (module_of p.support) c.requires.file_names)) c.loop-net_module-test.true c.net_module-item.is

pub loop-net_module-preserved : goal.loop-net_module-preserved
loop-net_module-preserved c =
    let file_of : Module → List ℕ × List ℕ = λ m. (file_name m, module_text c.args.project.now.note m) in
    map_turn file_of module_of c.as_slice-net_module-items.result.now c.loop-net_module.net_module-index c.net_module-item.result _ _ _ c.loop-net_module-test.true c.net_module-item.is c.loop-net_module.invariant c.in_ok-module_file.ensures c.in_ok-push.ensures.ok

pub returns : goal.returns
returns c =
    let p = c.args.project.now in
    let file_of : Module → List ℕ × List ℕ = λ m. (file_name m, module_text p.note m) in
    let written = map_end file_of module_of c.as_slice-net_module-items.result.now c.loop-net_module.net_module-index (module_of p.support) _ _ _ _ _ c.loop-net_module-test.false c.loop-net_module.invariant c.in_ok-module_file-2.ensures c.in_ok-push-2.ensures.ok c.in_ok-push-3.ensures.ok in
    rw (c.as_slice-net_module-items.ensures, c.in_ok-response_file.ensures) at written
