use Rattle.std.proofs.Common.{◌≡◌, map, take}
use Rattle.vb_tree.specs.View.{module_of}
use Rattle.bound_tree.specs.View.{declarations_of}
use Rattle.net_rewrite.specs.Starts.{mains}
use Rattle.net_rewrite.proofs.starts.mains.Given as goal

abbrev pub invariant-loop-m : goal.invariant-loop-m
invariant-loop-m l = map (λ x. module_of x.now) l.found.items ≡ mains (declarations_of l.declared) (map module_of (take l.m-index l.modules))
