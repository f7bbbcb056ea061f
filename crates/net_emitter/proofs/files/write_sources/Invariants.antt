use Rattle.std.proofs.Common.{◌≡◌, ◌++◌, map, take}
use Rattle.std.specs.List.{flat_map}
use Rattle.net_tree.specs.View.{module_of}
use Rattle.net_tree.specs.Spelling.{at_depth}
use Rattle.net_tree.specs.Text.{file_name}
use Rattle.net_emitter.proofs.files.write_sources.Given as goal

abbrev pub invariant-loop-net_module : goal.invariant-loop-net_module
invariant-loop-net_module l = l.out ≡ l.initial.out ++ flat_map (λ m. at_depth 0 (file_name m)) (map module_of (take l.net_module-index l.net_module-items))
