use Rattle.std.proofs.Common.{◌≡◌, ◌++◌, drop, map}
use Rattle.bound_tree.specs.declared.declared.ConstId.{ConstId}
use Rattle.declarations.proofs.constants.push_members.Given as goal

abbrev pub invariant-loop-c : goal.invariant-loop-c
invariant-loop-c l =
    l.to.items ++ map (λ (c : ConstId). c.0) (drop l.c-index l.members) ≡ l.initial.to.items ++ map (λ (c : ConstId). c.0) l.members
