-- What a Variant holds, as a rank and as a number, and what a number fits.
use Rattle.std.specs.Prelude.{false, pos, [], ◌∷◌, codes}
use Rattle.net_tree.specs.declared.declaration.NetClose.TheVariants as close
use Rattle.net_tree.specs.declared.declaration.NetPassing.TheVariants as passing
use Rattle.net_tree.specs.declared.declaration.NetVisibility.TheVariants.{Public}
use Rattle.net_tree.specs.declared.expression.CastWord.TheVariants as word
use Rattle.net_tree.specs.declared.expression.NetBin.TheVariants as op
use Rattle.net_tree.specs.declared.expression.NetUn.TheVariants as un
use Rattle.net_tree.specs.Types as ty
use Rattle.net_tree.specs.Tree as tree
use Rattle.net_tree.specs.Tree.{Procedure, assign, binary, call, call_of, cast, else_if, else_line, end_if, function, if_head, integer, lit, next_exp, no_exps, path, type_of, unary}

abbrev pub the_rank : Procedure
the_rank = record {
  head = function Public (codes "Rank") (record { passing = passing.Value; name = codes "v"; ty = ty.object } ∷ []) ty.integer;
  prologue = [];
  lines = if_head (type_of (path (codes "v" ∷ [])) ty.str) ∷ assign (path (codes "Rank" ∷ [])) (lit (integer (pos 6) false)) ∷ else_if (type_of (path (codes "v" ∷ [])) ty.decimal) ∷ assign (path (codes "Rank" ∷ [])) (lit (integer (pos 5) false)) ∷ else_if (type_of (path (codes "v" ∷ [])) ty.integer) ∷ assign (path (codes "Rank" ∷ [])) (lit (integer (pos 4) false)) ∷ else_if (type_of (path (codes "v" ∷ [])) ty.byte) ∷ assign (path (codes "Rank" ∷ [])) (lit (integer (pos 2) false)) ∷ else_line ∷ assign (path (codes "Rank" ∷ [])) (lit (integer (pos 3) false)) ∷ end_if ∷ [];
  close = close.EndFunction;
}

abbrev pub the_wider : Procedure
the_wider = record {
  head = function Public (codes "Wider") (record { passing = passing.Value; name = codes "a"; ty = ty.object } ∷ record { passing = passing.Value; name = codes "b"; ty = ty.object } ∷ []) ty.integer;
  prologue = [];
  lines = assign (path (codes "Wider" ∷ [])) (call_of (path (codes "System" ∷ codes "Math" ∷ codes "Max" ∷ [])) (next_exp (call_of (path (codes "Rank" ∷ [])) (next_exp (path (codes "a" ∷ [])) no_exps)) (next_exp (call_of (path (codes "Rank" ∷ [])) (next_exp (path (codes "b" ∷ [])) no_exps)) no_exps))) ∷ [];
  close = close.EndFunction;
}

abbrev pub the_num : Procedure
the_num = record {
  head = function Public (codes "Num") (record { passing = passing.Value; name = codes "v"; ty = ty.object } ∷ []) ty.decimal;
  prologue = [];
  lines = if_head (binary op.Equal (call_of (path (codes "Rank" ∷ [])) (next_exp (path (codes "v" ∷ [])) no_exps)) (lit (integer (pos 6) false))) ∷ call (path (codes "Raise" ∷ [])) (next_exp (lit (integer (pos 13) false)) no_exps) ∷ end_if ∷ assign (path (codes "Num" ∷ [])) (cast word.CDec (path (codes "v" ∷ []))) ∷ [];
  close = close.EndFunction;
}

abbrev pub the_fit : Procedure
the_fit = record {
  head = function Public (codes "Fit") (record { passing = passing.Value; name = codes "d"; ty = ty.decimal } ∷ record { passing = passing.Value; name = codes "k"; ty = ty.integer } ∷ []) ty.object;
  prologue = [];
  lines = if_head (binary op.Equal (path (codes "k" ∷ [])) (lit (integer (pos 5) false))) ∷ assign (path (codes "Fit" ∷ [])) (call_of (path (codes "Cur" ∷ [])) (next_exp (path (codes "d" ∷ [])) no_exps)) ∷ else_if (binary op.And (binary op.And (binary op.Equal (path (codes "k" ∷ [])) (lit (integer (pos 2) false))) (binary op.GreaterEqual (path (codes "d" ∷ [])) (lit (tree.decimal (pos 0))))) (binary op.LessEqual (path (codes "d" ∷ [])) (lit (tree.decimal (pos 2550000))))) ∷ assign (path (codes "Fit" ∷ [])) (cast word.CByte (path (codes "d" ∷ []))) ∷ else_if (binary op.And (binary op.And (binary op.Less (path (codes "k" ∷ [])) (lit (integer (pos 4) false))) (binary op.GreaterEqual (path (codes "d" ∷ [])) (unary un.Neg (lit (tree.decimal (pos 327680000)))))) (binary op.LessEqual (path (codes "d" ∷ [])) (lit (tree.decimal (pos 327670000))))) ∷ assign (path (codes "Fit" ∷ [])) (cast word.CShort (path (codes "d" ∷ []))) ∷ else_line ∷ assign (path (codes "Fit" ∷ [])) (cast word.CInt (path (codes "d" ∷ []))) ∷ end_if ∷ [];
  close = close.EndFunction;
}
