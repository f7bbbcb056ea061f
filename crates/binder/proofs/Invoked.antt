-- A callee with arguments behind it.
use Rattle.std.proofs.Common.{◌≡◌, ◌<◌, List, [], ◌∷◌, length, refl, arith}
use Rattle.vb_tree.specs.declared.expression.Arg6.{Arg6}
use Rattle.vb_tree.specs.Tree.{Exp, index}
use Rattle.vb_tree.specs.View.{args_of}
use Rattle.binder.specs.Parts.{invoked}

pub with_arguments : (e : Exp) (args : List Arg6) → 0 < length args → index e (args_of args) ≡ invoked e (args_of args)
with_arguments e [] h = absurd (omega (arith, h))
with_arguments e (x ∷ args) h = refl
