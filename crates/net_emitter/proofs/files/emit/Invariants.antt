use Rattle.std.proofs.Common.{◌≡◌, map, take}
use Rattle.net_tree.specs.View.{module_of}
use Rattle.net_tree.specs.Text.{file_name, module_text}
use Rattle.net_emitter.proofs.files.emit.Given as goal

abbrev pub invariant-loop-net_module : goal.invariant-loop-net_module
invariant-loop-net_module l = l.files ≡ map (λ m. (file_name m, module_text l.fn.project.note m)) (map module_of (take l.net_module-index l.net_module-items))
