-- What prints and asks, and how numbers are printed.
use Rattle.std.specs.Prelude.{false, pos, [], ◌∷◌, codes}
use Rattle.net_tree.specs.declared.declaration.NetClose.TheVariants as close
use Rattle.net_tree.specs.declared.declaration.NetPassing.TheVariants as passing
use Rattle.net_tree.specs.declared.declaration.NetVisibility.TheVariants.{Public}
use Rattle.net_tree.specs.declared.expression.NetBin.TheVariants as op
use Rattle.net_tree.specs.Types as ty
use Rattle.net_tree.specs.Tree as tree
use Rattle.net_tree.specs.Tree.{Procedure, assign, binary, call, call_of, else_line, end_if, function, if_head, integer, lit, next_exp, no_exps, nothing, path, str, sub, type_of}

abbrev pub the_print_line : Procedure
the_print_line = record {
  head = sub Public (codes "PrintLine") (record { passing = passing.Value; name = codes "s"; ty = ty.str } ∷ []);
  prologue = [];
  lines = call (path (codes "System" ∷ codes "Console" ∷ codes "WriteLine" ∷ [])) (next_exp (path (codes "s" ∷ [])) no_exps) ∷ [];
  close = close.EndSub;
}

abbrev pub the_print_part : Procedure
the_print_part = record {
  head = sub Public (codes "PrintPart") (record { passing = passing.Value; name = codes "s"; ty = ty.str } ∷ []);
  prologue = [];
  lines = call (path (codes "System" ∷ codes "Console" ∷ codes "Write" ∷ [])) (next_exp (path (codes "s" ∷ [])) no_exps) ∷ [];
  close = close.EndSub;
}

abbrev pub the_box : Procedure
the_box = record {
  head = sub Public (codes "Box") (record { passing = passing.Value; name = codes "s"; ty = ty.str } ∷ []);
  prologue = [];
  lines = call (path (codes "Microsoft" ∷ codes "VisualBasic" ∷ codes "Interaction" ∷ codes "MsgBox" ∷ [])) (next_exp (path (codes "s" ∷ [])) no_exps) ∷ [];
  close = close.EndSub;
}

abbrev pub the_ask : Procedure
the_ask = record {
  head = function Public (codes "Ask") (record { passing = passing.Value; name = codes "s"; ty = ty.str } ∷ []) ty.str;
  prologue = [];
  lines = assign (path (codes "Ask" ∷ [])) (call_of (path (codes "Microsoft" ∷ codes "VisualBasic" ∷ codes "Interaction" ∷ codes "InputBox" ∷ [])) (next_exp (path (codes "s" ∷ [])) no_exps)) ∷ [];
  close = close.EndFunction;
}

abbrev pub the_cur_text : Procedure
the_cur_text = record {
  head = function Public (codes "CurText") (record { passing = passing.Value; name = codes "d"; ty = ty.decimal } ∷ []) ty.str;
  prologue = [];
  lines = assign (path (codes "CurText" ∷ [])) (call_of (path (codes "d" ∷ codes "ToString" ∷ [])) (next_exp (lit (str (codes "0.####"))) (next_exp (path (codes "System" ∷ codes "Globalization" ∷ codes "CultureInfo" ∷ codes "InvariantCulture" ∷ [])) no_exps))) ∷ [];
  close = close.EndFunction;
}

abbrev pub the_print_num : Procedure
the_print_num = record {
  head = function Public (codes "PrintNum") (record { passing = passing.Value; name = codes "d"; ty = ty.decimal } ∷ []) ty.str;
  prologue = [];
  lines = if_head (binary op.Less (path (codes "d" ∷ [])) (lit (tree.decimal (pos 0)))) ∷ assign (path (codes "PrintNum" ∷ [])) (binary op.Concat (call_of (path (codes "CurText" ∷ [])) (next_exp (path (codes "d" ∷ [])) no_exps)) (lit (str (codes " ")))) ∷ else_line ∷ assign (path (codes "PrintNum" ∷ [])) (binary op.Concat (binary op.Concat (lit (str (codes " "))) (call_of (path (codes "CurText" ∷ [])) (next_exp (path (codes "d" ∷ [])) no_exps))) (lit (str (codes " ")))) ∷ end_if ∷ [];
  close = close.EndFunction;
}

abbrev pub the_print_var : Procedure
the_print_var = record {
  head = function Public (codes "PrintVar") (record { passing = passing.Value; name = codes "v"; ty = ty.object } ∷ []) ty.str;
  prologue = [];
  lines = if_head (binary op.Or (binary op.Equal (call_of (path (codes "Rank" ∷ [])) (next_exp (path (codes "v" ∷ [])) no_exps)) (lit (integer (pos 6) false))) (binary op.Or (binary op.Is (path (codes "v" ∷ [])) nothing) (type_of (path (codes "v" ∷ [])) ty.boolean))) ∷ assign (path (codes "PrintVar" ∷ [])) (call_of (path (codes "VarStr" ∷ [])) (next_exp (path (codes "v" ∷ [])) no_exps)) ∷ else_line ∷ assign (path (codes "PrintVar" ∷ [])) (call_of (path (codes "PrintNum" ∷ [])) (next_exp (call_of (path (codes "Num" ∷ [])) (next_exp (path (codes "v" ∷ [])) no_exps)) no_exps)) ∷ end_if ∷ [];
  close = close.EndFunction;
}
