use Rattle.std.proofs.Common.{ap}
use Rattle.vb_tree.specs.BoundView.{type_of}
use Rattle.bound_tree.specs.Tree.{typed}
use Rattle.bound_tree.proofs.Views.{call_shown}
use Rattle.expression_words.specs.Converting.{id}
use Rattle.expression_words.proofs.converting.call_of.Goals as goal

pub returns : goal.returns
returns c = ap (typed (type_of c.args.ty)) (call_shown (id c.args.p) c.args.qualified c.args.of c.args.args)
