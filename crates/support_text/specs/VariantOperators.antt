-- Operators on Variants.
use Rattle.std.specs.Prelude.{false, pos, [], ◌∷◌, codes}
use Rattle.net_tree.specs.declared.declaration.NetClose.TheVariants as close
use Rattle.net_tree.specs.declared.declaration.NetPassing.TheVariants as passing
use Rattle.net_tree.specs.declared.declaration.NetVisibility.TheVariants.{Public}
use Rattle.net_tree.specs.declared.expression.CastWord.TheVariants as word
use Rattle.net_tree.specs.declared.expression.NetBin.TheVariants as op
use Rattle.net_tree.specs.declared.expression.NetUn.TheVariants as un
use Rattle.net_tree.specs.Types as ty
use Rattle.net_tree.specs.Tree.{Procedure, assign, binary, call_of, cast, else_line, end_if, function, if_head, integer, lit, next_exp, no_exps, path, str, type_of, unary}

abbrev pub the_var_add : Procedure
the_var_add = record {
  head = function Public (codes "VarAdd") (record { passing = passing.Value; name = codes "a"; ty = ty.object } ∷ record { passing = passing.Value; name = codes "b"; ty = ty.object } ∷ []) ty.object;
  prologue = [];
  lines = if_head (binary op.Equal (call_of (path (codes "Wider" ∷ [])) (next_exp (path (codes "a" ∷ [])) (next_exp (path (codes "b" ∷ [])) no_exps))) (lit (integer (pos 6) false))) ∷ assign (path (codes "VarAdd" ∷ [])) (binary op.Concat (call_of (path (codes "VarStr" ∷ [])) (next_exp (path (codes "a" ∷ [])) no_exps)) (call_of (path (codes "VarStr" ∷ [])) (next_exp (path (codes "b" ∷ [])) no_exps))) ∷ else_line ∷ assign (path (codes "VarAdd" ∷ [])) (call_of (path (codes "Fit" ∷ [])) (next_exp (binary op.Add (call_of (path (codes "Num" ∷ [])) (next_exp (path (codes "a" ∷ [])) no_exps)) (call_of (path (codes "Num" ∷ [])) (next_exp (path (codes "b" ∷ [])) no_exps))) (next_exp (call_of (path (codes "Wider" ∷ [])) (next_exp (path (codes "a" ∷ [])) (next_exp (path (codes "b" ∷ [])) no_exps))) no_exps))) ∷ end_if ∷ [];
  close = close.EndFunction;
}

abbrev pub the_var_sub : Procedure
the_var_sub = record {
  head = function Public (codes "VarSub") (record { passing = passing.Value; name = codes "a"; ty = ty.object } ∷ record { passing = passing.Value; name = codes "b"; ty = ty.object } ∷ []) ty.object;
  prologue = [];
  lines = assign (path (codes "VarSub" ∷ [])) (call_of (path (codes "Fit" ∷ [])) (next_exp (binary op.Sub (call_of (path (codes "Num" ∷ [])) (next_exp (path (codes "a" ∷ [])) no_exps)) (call_of (path (codes "Num" ∷ [])) (next_exp (path (codes "b" ∷ [])) no_exps))) (next_exp (call_of (path (codes "Wider" ∷ [])) (next_exp (path (codes "a" ∷ [])) (next_exp (path (codes "b" ∷ [])) no_exps))) no_exps))) ∷ [];
  close = close.EndFunction;
}

abbrev pub the_var_mul : Procedure
the_var_mul = record {
  head = function Public (codes "VarMul") (record { passing = passing.Value; name = codes "a"; ty = ty.object } ∷ record { passing = passing.Value; name = codes "b"; ty = ty.object } ∷ []) ty.object;
  prologue = [];
  lines = assign (path (codes "VarMul" ∷ [])) (call_of (path (codes "Fit" ∷ [])) (next_exp (binary op.Mul (call_of (path (codes "Num" ∷ [])) (next_exp (path (codes "a" ∷ [])) no_exps)) (call_of (path (codes "Num" ∷ [])) (next_exp (path (codes "b" ∷ [])) no_exps))) (next_exp (call_of (path (codes "Wider" ∷ [])) (next_exp (path (codes "a" ∷ [])) (next_exp (path (codes "b" ∷ [])) no_exps))) no_exps))) ∷ [];
  close = close.EndFunction;
}

abbrev pub the_var_div : Procedure
the_var_div = record {
  head = function Public (codes "VarDiv") (record { passing = passing.Value; name = codes "a"; ty = ty.object } ∷ record { passing = passing.Value; name = codes "b"; ty = ty.object } ∷ []) ty.object;
  prologue = [];
  lines = assign (path (codes "VarDiv" ∷ [])) (call_of (path (codes "Fit" ∷ [])) (next_exp (cast word.CDec (binary op.IntDiv (cast word.CInt (call_of (path (codes "Num" ∷ [])) (next_exp (path (codes "a" ∷ [])) no_exps))) (cast word.CInt (call_of (path (codes "Num" ∷ [])) (next_exp (path (codes "b" ∷ [])) no_exps))))) (next_exp (call_of (path (codes "System" ∷ codes "Math" ∷ codes "Min" ∷ [])) (next_exp (call_of (path (codes "Wider" ∷ [])) (next_exp (path (codes "a" ∷ [])) (next_exp (path (codes "b" ∷ [])) no_exps))) (next_exp (lit (integer (pos 4) false)) no_exps))) no_exps))) ∷ [];
  close = close.EndFunction;
}

abbrev pub the_var_mod : Procedure
the_var_mod = record {
  head = function Public (codes "VarMod") (record { passing = passing.Value; name = codes "a"; ty = ty.object } ∷ record { passing = passing.Value; name = codes "b"; ty = ty.object } ∷ []) ty.object;
  prologue = [];
  lines = assign (path (codes "VarMod" ∷ [])) (call_of (path (codes "Fit" ∷ [])) (next_exp (cast word.CDec (binary op.Mod (cast word.CInt (call_of (path (codes "Num" ∷ [])) (next_exp (path (codes "a" ∷ [])) no_exps))) (cast word.CInt (call_of (path (codes "Num" ∷ [])) (next_exp (path (codes "b" ∷ [])) no_exps))))) (next_exp (call_of (path (codes "System" ∷ codes "Math" ∷ codes "Min" ∷ [])) (next_exp (call_of (path (codes "Wider" ∷ [])) (next_exp (path (codes "a" ∷ [])) (next_exp (path (codes "b" ∷ [])) no_exps))) (next_exp (lit (integer (pos 4) false)) no_exps))) no_exps))) ∷ [];
  close = close.EndFunction;
}

abbrev pub the_var_neg : Procedure
the_var_neg = record {
  head = function Public (codes "VarNeg") (record { passing = passing.Value; name = codes "a"; ty = ty.object } ∷ []) ty.object;
  prologue = [];
  lines = assign (path (codes "VarNeg" ∷ [])) (call_of (path (codes "Fit" ∷ [])) (next_exp (unary un.Neg (call_of (path (codes "Num" ∷ [])) (next_exp (path (codes "a" ∷ [])) no_exps))) (next_exp (call_of (path (codes "Rank" ∷ [])) (next_exp (path (codes "a" ∷ [])) no_exps)) no_exps))) ∷ [];
  close = close.EndFunction;
}

abbrev pub the_var_not : Procedure
the_var_not = record {
  head = function Public (codes "VarNot") (record { passing = passing.Value; name = codes "a"; ty = ty.object } ∷ []) ty.object;
  prologue = [];
  lines = if_head (type_of (path (codes "a" ∷ [])) ty.boolean) ∷ assign (path (codes "VarNot" ∷ [])) (unary un.Not (cast word.CBool (path (codes "a" ∷ [])))) ∷ else_line ∷ assign (path (codes "VarNot" ∷ [])) (call_of (path (codes "Fit" ∷ [])) (next_exp (cast word.CDec (unary un.Not (cast word.CInt (call_of (path (codes "Num" ∷ [])) (next_exp (path (codes "a" ∷ [])) no_exps))))) (next_exp (call_of (path (codes "System" ∷ codes "Math" ∷ codes "Min" ∷ [])) (next_exp (call_of (path (codes "Rank" ∷ [])) (next_exp (path (codes "a" ∷ [])) no_exps)) (next_exp (lit (integer (pos 4) false)) no_exps))) no_exps))) ∷ end_if ∷ [];
  close = close.EndFunction;
}

abbrev pub the_var_and : Procedure
the_var_and = record {
  head = function Public (codes "VarAnd") (record { passing = passing.Value; name = codes "a"; ty = ty.object } ∷ record { passing = passing.Value; name = codes "b"; ty = ty.object } ∷ []) ty.object;
  prologue = [];
  lines = if_head (binary op.And (type_of (path (codes "a" ∷ [])) ty.boolean) (type_of (path (codes "b" ∷ [])) ty.boolean)) ∷ assign (path (codes "VarAnd" ∷ [])) (binary op.And (cast word.CBool (path (codes "a" ∷ []))) (cast word.CBool (path (codes "b" ∷ [])))) ∷ else_line ∷ assign (path (codes "VarAnd" ∷ [])) (call_of (path (codes "Fit" ∷ [])) (next_exp (cast word.CDec (binary op.And (cast word.CInt (call_of (path (codes "Num" ∷ [])) (next_exp (path (codes "a" ∷ [])) no_exps))) (cast word.CInt (call_of (path (codes "Num" ∷ [])) (next_exp (path (codes "b" ∷ [])) no_exps))))) (next_exp (call_of (path (codes "System" ∷ codes "Math" ∷ codes "Min" ∷ [])) (next_exp (call_of (path (codes "Wider" ∷ [])) (next_exp (path (codes "a" ∷ [])) (next_exp (path (codes "b" ∷ [])) no_exps))) (next_exp (lit (integer (pos 4) false)) no_exps))) no_exps))) ∷ end_if ∷ [];
  close = close.EndFunction;
}

abbrev pub the_var_or : Procedure
the_var_or = record {
  head = function Public (codes "VarOr") (record { passing = passing.Value; name = codes "a"; ty = ty.object } ∷ record { passing = passing.Value; name = codes "b"; ty = ty.object } ∷ []) ty.object;
  prologue = [];
  lines = if_head (binary op.And (type_of (path (codes "a" ∷ [])) ty.boolean) (type_of (path (codes "b" ∷ [])) ty.boolean)) ∷ assign (path (codes "VarOr" ∷ [])) (binary op.Or (cast word.CBool (path (codes "a" ∷ []))) (cast word.CBool (path (codes "b" ∷ [])))) ∷ else_line ∷ assign (path (codes "VarOr" ∷ [])) (call_of (path (codes "Fit" ∷ [])) (next_exp (cast word.CDec (binary op.Or (cast word.CInt (call_of (path (codes "Num" ∷ [])) (next_exp (path (codes "a" ∷ [])) no_exps))) (cast word.CInt (call_of (path (codes "Num" ∷ [])) (next_exp (path (codes "b" ∷ [])) no_exps))))) (next_exp (call_of (path (codes "System" ∷ codes "Math" ∷ codes "Min" ∷ [])) (next_exp (call_of (path (codes "Wider" ∷ [])) (next_exp (path (codes "a" ∷ [])) (next_exp (path (codes "b" ∷ [])) no_exps))) (next_exp (lit (integer (pos 4) false)) no_exps))) no_exps))) ∷ end_if ∷ [];
  close = close.EndFunction;
}

abbrev pub the_var_xor : Procedure
the_var_xor = record {
  head = function Public (codes "VarXor") (record { passing = passing.Value; name = codes "a"; ty = ty.object } ∷ record { passing = passing.Value; name = codes "b"; ty = ty.object } ∷ []) ty.object;
  prologue = [];
  lines = if_head (binary op.And (type_of (path (codes "a" ∷ [])) ty.boolean) (type_of (path (codes "b" ∷ [])) ty.boolean)) ∷ assign (path (codes "VarXor" ∷ [])) (binary op.Xor (cast word.CBool (path (codes "a" ∷ []))) (cast word.CBool (path (codes "b" ∷ [])))) ∷ else_line ∷ assign (path (codes "VarXor" ∷ [])) (call_of (path (codes "Fit" ∷ [])) (next_exp (cast word.CDec (binary op.Xor (cast word.CInt (call_of (path (codes "Num" ∷ [])) (next_exp (path (codes "a" ∷ [])) no_exps))) (cast word.CInt (call_of (path (codes "Num" ∷ [])) (next_exp (path (codes "b" ∷ [])) no_exps))))) (next_exp (call_of (path (codes "System" ∷ codes "Math" ∷ codes "Min" ∷ [])) (next_exp (call_of (path (codes "Wider" ∷ [])) (next_exp (path (codes "a" ∷ [])) (next_exp (path (codes "b" ∷ [])) no_exps))) (next_exp (lit (integer (pos 4) false)) no_exps))) no_exps))) ∷ end_if ∷ [];
  close = close.EndFunction;
}

abbrev pub the_var_comp : Procedure
the_var_comp = record {
  head = function Public (codes "VarComp") (record { passing = passing.Value; name = codes "a"; ty = ty.object } ∷ record { passing = passing.Value; name = codes "b"; ty = ty.object } ∷ []) ty.integer;
  prologue = [];
  lines = if_head (binary op.Equal (call_of (path (codes "Wider" ∷ [])) (next_exp (path (codes "a" ∷ [])) (next_exp (path (codes "b" ∷ [])) no_exps))) (lit (integer (pos 6) false))) ∷ assign (path (codes "VarComp" ∷ [])) (call_of (path (codes "System" ∷ codes "String" ∷ codes "CompareOrdinal" ∷ [])) (next_exp (binary op.Concat (lit (str (codes ""))) (call_of (path (codes "VarStr" ∷ [])) (next_exp (path (codes "a" ∷ [])) no_exps))) (next_exp (binary op.Concat (lit (str (codes ""))) (call_of (path (codes "VarStr" ∷ [])) (next_exp (path (codes "b" ∷ [])) no_exps))) no_exps))) ∷ else_line ∷ assign (path (codes "VarComp" ∷ [])) (call_of (path (codes "System" ∷ codes "Decimal" ∷ codes "Compare" ∷ [])) (next_exp (call_of (path (codes "Num" ∷ [])) (next_exp (path (codes "a" ∷ [])) no_exps)) (next_exp (call_of (path (codes "Num" ∷ [])) (next_exp (path (codes "b" ∷ [])) no_exps)) no_exps))) ∷ end_if ∷ [];
  close = close.EndFunction;
}
