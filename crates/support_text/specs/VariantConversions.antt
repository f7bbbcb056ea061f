-- Conversions of Variants.
use Rattle.std.specs.Prelude.{[], ◌∷◌, codes}
use Rattle.net_tree.specs.declared.declaration.NetClose.TheVariants as close
use Rattle.net_tree.specs.declared.declaration.NetPassing.TheVariants as passing
use Rattle.net_tree.specs.declared.declaration.NetVisibility.TheVariants.{Public}
use Rattle.net_tree.specs.declared.expression.CastWord.TheVariants as word
use Rattle.net_tree.specs.Types as ty
use Rattle.net_tree.specs.Tree.{Procedure, assign, call_of, cast, else_line, end_if, function, if_head, next_exp, no_exps, path, type_of}

abbrev pub the_var_str : Procedure
the_var_str = record {
  head = function Public (codes "VarStr") (record { passing = passing.Value; name = codes "v"; ty = ty.object } ∷ []) ty.str;
  prologue = [];
  lines = if_head (type_of (path (codes "v" ∷ [])) ty.decimal) ∷ assign (path (codes "VarStr" ∷ [])) (call_of (path (codes "CurText" ∷ [])) (next_exp (cast word.CDec (path (codes "v" ∷ []))) no_exps)) ∷ else_line ∷ assign (path (codes "VarStr" ∷ [])) (cast word.CStr (path (codes "v" ∷ []))) ∷ end_if ∷ [];
  close = close.EndFunction;
}

abbrev pub the_var_byte : Procedure
the_var_byte = record {
  head = function Public (codes "VarByte") (record { passing = passing.Value; name = codes "v"; ty = ty.object } ∷ []) ty.byte;
  prologue = [];
  lines = if_head (type_of (path (codes "v" ∷ [])) ty.boolean) ∷ assign (path (codes "VarByte" ∷ [])) (cast word.CByte (cast word.CBool (path (codes "v" ∷ [])))) ∷ else_line ∷ assign (path (codes "VarByte" ∷ [])) (cast word.CByte (call_of (path (codes "Num" ∷ [])) (next_exp (path (codes "v" ∷ [])) no_exps))) ∷ end_if ∷ [];
  close = close.EndFunction;
}

abbrev pub the_var_short : Procedure
the_var_short = record {
  head = function Public (codes "VarShort") (record { passing = passing.Value; name = codes "v"; ty = ty.object } ∷ []) ty.short;
  prologue = [];
  lines = assign (path (codes "VarShort" ∷ [])) (cast word.CShort (call_of (path (codes "Num" ∷ [])) (next_exp (path (codes "v" ∷ [])) no_exps))) ∷ [];
  close = close.EndFunction;
}

abbrev pub the_var_int : Procedure
the_var_int = record {
  head = function Public (codes "VarInt") (record { passing = passing.Value; name = codes "v"; ty = ty.object } ∷ []) ty.integer;
  prologue = [];
  lines = assign (path (codes "VarInt" ∷ [])) (cast word.CInt (call_of (path (codes "Num" ∷ [])) (next_exp (path (codes "v" ∷ [])) no_exps))) ∷ [];
  close = close.EndFunction;
}

abbrev pub the_var_bool : Procedure
the_var_bool = record {
  head = function Public (codes "VarBool") (record { passing = passing.Value; name = codes "v"; ty = ty.object } ∷ []) ty.boolean;
  prologue = [];
  lines = assign (path (codes "VarBool" ∷ [])) (cast word.CBool (call_of (path (codes "Num" ∷ [])) (next_exp (path (codes "v" ∷ [])) no_exps))) ∷ [];
  close = close.EndFunction;
}

abbrev pub the_var_cur : Procedure
the_var_cur = record {
  head = function Public (codes "VarCur") (record { passing = passing.Value; name = codes "v"; ty = ty.object } ∷ []) ty.decimal;
  prologue = [];
  lines = assign (path (codes "VarCur" ∷ [])) (call_of (path (codes "Cur" ∷ [])) (next_exp (call_of (path (codes "Num" ∷ [])) (next_exp (path (codes "v" ∷ [])) no_exps)) no_exps)) ∷ [];
  close = close.EndFunction;
}
