use Rattle.vb_tree.specs.BoundView.{type_of}
use Rattle.declarations.proofs.Values.{value_put}
use Rattle.declarations.proofs.rounds.put_value.Goals as goal

pub returns-then-k-consts : goal.returns-then-k-consts
returns-then-k-consts c =
    value_put c.args.consts.now c.args.k c.index-consts-k.result c.set_value.new.c (type_of c.args.ty) c.args.value c.if-k-consts.true c.set_value.ensures
