use Rattle.std.proofs.Common.{◌≡◌, ◌++◌, drop, length, map}
use Rattle.vb_tree.specs.View.{middles_of, nodes_of}
use Rattle.bound_tree.specs.View.{bindings_of}
use Rattle.expression_words.specs.View.{kept_of}
use Rattle.binder.specs.Bodies.{bound_middles, bound_nodes}
use Rattle.binder.specs.View.{bound_shown, inside_of}
use Rattle.binder.proofs.bodies.+bodies.Given as goal

abbrev pub invariant-push_nodes-loop-node : goal.invariant-push_nodes-loop-node
invariant-push_nodes-loop-node l =
    map bindings_of l.to ++ map bound_shown (bound_nodes (inside_of l.inside) (kept_of l.kept) (length l.to) (nodes_of (drop l.node-index l.nodes)))
    ≡ map bindings_of l.initial.to ++ map bound_shown (bound_nodes (inside_of l.inside) (kept_of l.kept) (length l.initial.to) (nodes_of l.nodes))

abbrev pub invariant-push_middles-loop-middle : goal.invariant-push_middles-loop-middle
invariant-push_middles-loop-middle l =
    map bindings_of l.to ++ map bound_shown (bound_middles (inside_of l.inside) (kept_of l.kept) l.cases (length l.to) (middles_of (drop l.middle-index l.middles)))
    ≡ map bindings_of l.initial.to ++ map bound_shown (bound_middles (inside_of l.inside) (kept_of l.kept) l.cases (length l.initial.to) (middles_of l.middles))
