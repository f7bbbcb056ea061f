use Rattle.std.proofs.Common.{ap}
use Rattle.vb_tree.specs.BoundView.{type_of}
use Rattle.bound_tree.specs.Tree.{Term, typed}
use Rattle.bound_tree.proofs.Views.{lib_shown}
use Rattle.expression_words.specs.Flaws.{known}
use Rattle.expression_words.proofs.targets.library_call.Goals as goal

pub returns : goal.returns
returns c = ap (λ (t : Term). known (typed (type_of c.args.ty) t)) (lib_shown c.args.call c.args.args)
