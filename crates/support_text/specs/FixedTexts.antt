-- Texts of a fixed length.
use Rattle.std.specs.Prelude.{false, pos, [], ◌∷◌, codes}
use Rattle.net_tree.specs.declared.declaration.NetClose.TheVariants as close
use Rattle.net_tree.specs.declared.declaration.NetPassing.TheVariants as passing
use Rattle.net_tree.specs.declared.declaration.NetVisibility.TheVariants.{Public}
use Rattle.net_tree.specs.Types as ty
use Rattle.net_tree.specs.Tree.{Procedure, assign, call_of, dot, function, integer, lit, new_object, next_exp, no_exps, path}

abbrev pub the_fix : Procedure
the_fix = record {
  head = function Public (codes "Fix") (record { passing = passing.Value; name = codes "s"; ty = ty.str } ∷ record { passing = passing.Value; name = codes "n"; ty = ty.integer } ∷ []) ty.str;
  prologue = [];
  lines = assign (path (codes "Fix" ∷ [])) (call_of (dot (call_of (path (codes "Microsoft" ∷ codes "VisualBasic" ∷ codes "Strings" ∷ codes "Left" ∷ [])) (next_exp (path (codes "s" ∷ [])) (next_exp (path (codes "n" ∷ [])) no_exps))) (codes "PadRight")) (next_exp (path (codes "n" ∷ [])) no_exps)) ∷ [];
  close = close.EndFunction;
}

abbrev pub the_fix_new : Procedure
the_fix_new = record {
  head = function Public (codes "FixNew") (record { passing = passing.Value; name = codes "n"; ty = ty.integer } ∷ []) ty.str;
  prologue = [];
  lines = assign (path (codes "FixNew" ∷ [])) (new_object (ty.named (codes "System" ∷ codes "String" ∷ [])) (next_exp (call_of (path (codes "Microsoft" ∷ codes "VisualBasic" ∷ codes "Strings" ∷ codes "ChrW" ∷ [])) (next_exp (lit (integer (pos 0) false)) no_exps)) (next_exp (path (codes "n" ∷ [])) no_exps))) ∷ [];
  close = close.EndFunction;
}
