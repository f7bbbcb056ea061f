use Rattle.std.proofs.Common.{◌≡◌, map, take}
use Rattle.std.specs.List.{fold}
use Rattle.net_tree.specs.View.{module_of}
use Rattle.support_text.specs.Noting.{noted}
use Rattle.support_text.specs.Walk.{walk_module}
use Rattle.support_text.proofs.walk.walk_modules.Given as goal

abbrev pub invariant-loop-source : goal.invariant-loop-source
invariant-loop-source l = l.used ≡ fold (walk_module noted) l.initial.used (map module_of (take l.source-index l.modules))
