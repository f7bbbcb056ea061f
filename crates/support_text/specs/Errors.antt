-- What reads and raises errors.
use Rattle.std.specs.Prelude.{false, pos, [], ◌∷◌, codes}
use Rattle.net_tree.specs.declared.declaration.NetClose.TheVariants as close
use Rattle.net_tree.specs.declared.declaration.NetPassing.TheVariants as passing
use Rattle.net_tree.specs.declared.declaration.NetVisibility.TheVariants.{Public}
use Rattle.net_tree.specs.declared.expression.NetBin.TheVariants as op
use Rattle.net_tree.specs.Types as ty
use Rattle.net_tree.specs.Tree.{Procedure, assign, binary, call, call_of, dot, function, integer, lit, next_exp, no_exps, path, sub}

abbrev pub the_err_number : Procedure
the_err_number = record {
  head = function Public (codes "ErrNumber") [] ty.integer;
  prologue = [];
  lines = assign (path (codes "ErrNumber" ∷ [])) (dot (call_of (path (codes "Microsoft" ∷ codes "VisualBasic" ∷ codes "Information" ∷ codes "Err" ∷ [])) no_exps) (codes "Number")) ∷ [];
  close = close.EndFunction;
}

abbrev pub the_raise : Procedure
the_raise = record {
  head = sub Public (codes "Raise") (record { passing = passing.Value; name = codes "n"; ty = ty.integer } ∷ []);
  prologue = [];
  lines = call (dot (call_of (path (codes "Microsoft" ∷ codes "VisualBasic" ∷ codes "Information" ∷ codes "Err" ∷ [])) no_exps) (codes "Raise")) (next_exp (path (codes "n" ∷ [])) no_exps) ∷ [];
  close = close.EndSub;
}

abbrev pub the_err_clear : Procedure
the_err_clear = record {
  head = sub Public (codes "ErrClear") [];
  prologue = [];
  lines = call (dot (call_of (path (codes "Microsoft" ∷ codes "VisualBasic" ∷ codes "Information" ∷ codes "Err" ∷ [])) no_exps) (codes "Clear")) no_exps ∷ [];
  close = close.EndSub;
}

abbrev pub the_not_upgraded : Procedure
the_not_upgraded = record {
  head = function Public (codes "NotUpgraded") (record { passing = passing.Value; name = codes "n"; ty = ty.integer } ∷ []) ty.integer;
  prologue = [];
  lines = call (path (codes "Raise" ∷ [])) (next_exp (binary op.Add (lit (integer (pos 1000) false)) (path (codes "n" ∷ []))) no_exps) ∷ [];
  close = close.EndFunction;
}
