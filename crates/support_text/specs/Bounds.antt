-- What keeps amounts and places within bounds.
use Rattle.std.specs.Prelude.{false, pos, [], ◌∷◌, codes, Some}
use Rattle.net_tree.specs.declared.declaration.NetClose.TheVariants as close
use Rattle.net_tree.specs.declared.declaration.NetPassing.TheVariants as passing
use Rattle.net_tree.specs.declared.declaration.NetVisibility.TheVariants.{Public}
use Rattle.net_tree.specs.declared.expression.CastWord.TheVariants as word
use Rattle.net_tree.specs.declared.expression.NetBin.TheVariants as op
use Rattle.net_tree.specs.declared.expression.NetUn.TheVariants as un
use Rattle.net_tree.specs.Types as ty
use Rattle.net_tree.specs.Tree as tree
use Rattle.net_tree.specs.Tree.{Procedure, assign, binary, call, call_of, cast, else_line, end_if, function, if_head, integer, lit, local, long, next_exp, no_exps, path, unary}

abbrev pub the_cur : Procedure
the_cur = record {
  head = function Public (codes "Cur") (record { passing = passing.Value; name = codes "d"; ty = ty.decimal } ∷ []) ty.decimal;
  prologue = [];
  lines = if_head (binary op.Or (binary op.Less (path (codes "d" ∷ [])) (unary un.Neg (lit (tree.decimal (pos 9223372036854775808))))) (binary op.Greater (path (codes "d" ∷ [])) (lit (tree.decimal (pos 9223372036854775807))))) ∷ call (path (codes "Raise" ∷ [])) (next_exp (lit (integer (pos 6) false)) no_exps) ∷ end_if ∷ assign (path (codes "Cur" ∷ [])) (path (codes "d" ∷ [])) ∷ [];
  close = close.EndFunction;
}

abbrev pub the_at : Procedure
the_at = record {
  head = function Public (codes "At") (record { passing = passing.Value; name = codes "i"; ty = ty.integer } ∷ record { passing = passing.Value; name = codes "b"; ty = ty.integer } ∷ []) ty.integer;
  prologue = local (record { name = codes "d"; ty = ty.long; value = Some (binary op.Sub (cast word.CLng (path (codes "i" ∷ []))) (cast word.CLng (path (codes "b" ∷ [])))) }) ∷ [];
  lines = if_head (binary op.Or (binary op.Less (path (codes "d" ∷ [])) (lit (long (pos 0)))) (binary op.Greater (path (codes "d" ∷ [])) (lit (long (pos 2147483647))))) ∷ assign (path (codes "At" ∷ [])) (unary un.Neg (lit (integer (pos 1) false))) ∷ else_line ∷ assign (path (codes "At" ∷ [])) (cast word.CInt (path (codes "d" ∷ []))) ∷ end_if ∷ [];
  close = close.EndFunction;
}

abbrev pub the_top : Procedure
the_top = record {
  head = function Public (codes "Top") (record { passing = passing.Value; name = codes "h"; ty = ty.integer } ∷ record { passing = passing.Value; name = codes "b"; ty = ty.integer } ∷ []) ty.integer;
  prologue = [];
  lines = if_head (binary op.Less (path (codes "h" ∷ [])) (path (codes "b" ∷ []))) ∷ call (path (codes "Raise" ∷ [])) (next_exp (lit (integer (pos 9) false)) no_exps) ∷ end_if ∷ assign (path (codes "Top" ∷ [])) (binary op.Sub (path (codes "h" ∷ [])) (path (codes "b" ∷ []))) ∷ [];
  close = close.EndFunction;
}

abbrev pub the_hi : Procedure
the_hi = record {
  head = function Public (codes "Hi") (record { passing = passing.Value; name = codes "a"; ty = ty.system_array } ∷ record { passing = passing.Value; name = codes "d"; ty = ty.integer } ∷ record { passing = passing.Value; name = codes "b"; ty = ty.integer } ∷ []) ty.integer;
  prologue = [];
  lines = if_head (binary op.Equal (path (codes "a" ∷ codes "Length" ∷ [])) (lit (integer (pos 0) false))) ∷ call (path (codes "Raise" ∷ [])) (next_exp (lit (integer (pos 9) false)) no_exps) ∷ end_if ∷ assign (path (codes "Hi" ∷ [])) (binary op.Add (call_of (path (codes "a" ∷ codes "GetUpperBound" ∷ [])) (next_exp (path (codes "d" ∷ [])) no_exps)) (path (codes "b" ∷ []))) ∷ [];
  close = close.EndFunction;
}

abbrev pub the_lo : Procedure
the_lo = record {
  head = function Public (codes "Lo") (record { passing = passing.Value; name = codes "a"; ty = ty.system_array } ∷ record { passing = passing.Value; name = codes "b"; ty = ty.integer } ∷ []) ty.integer;
  prologue = [];
  lines = if_head (binary op.Equal (path (codes "a" ∷ codes "Length" ∷ [])) (lit (integer (pos 0) false))) ∷ call (path (codes "Raise" ∷ [])) (next_exp (lit (integer (pos 9) false)) no_exps) ∷ end_if ∷ assign (path (codes "Lo" ∷ [])) (path (codes "b" ∷ [])) ∷ [];
  close = close.EndFunction;
}
