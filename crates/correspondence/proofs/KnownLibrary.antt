-- The paths in what is written for calls of the library are known.
use Rattle.std.proofs.Common.{◌≡◌, ℕ, true, List, [], ◌∷◌, ◌++◌, codes, refl}
use Rattle.vb_tree.specs.BoundTree as types
use Rattle.vb_tree.specs.BoundTree.{Ty}
use Rattle.vb_tree.specs.declared.bound.LibCall.{LibCall}
use Rattle.vb_tree.specs.declared.bound.LibCall.TheVariants as lib
use Rattle.bound_tree.specs.Tree.{Declarations, Expr, Exprs, no_exprs, next_expr}
use Rattle.net_tree.specs.Tree as net
use Rattle.support_text.specs.Printing.{the_box, the_ask}
use Rattle.written_trees.specs.Conversions.{call_path, support_call, converted}
use Rattle.written_trees.specs.Exprs.{exp_of, exps_of, library_of}
use Rattle.written_trees.specs.Library.{text_call, absolute_path}
use Rattle.written_trees.specs.Names.{Path, Scope}
use Rattle.run_matches.specs.CoveredExprs.{covers_library}
use Rattle.correspondence.specs.Paths.{paths_of_exp, paths_of_exps}
use Rattle.correspondence.proofs.KnownPaths.{AreKnown, HasKnown, IsFunction, checked_known, converted_known, fixed}

module _ (D : Declarations) where
  pub is_box : IsFunction D (codes "Box")
  is_box = record { function = the_box; among = fixed D 2 the_box refl; named = refl }

  is_ask : IsFunction D (codes "Ask")
  is_ask = record { function = the_ask; among = fixed D 3 the_ask refl; named = refl }

  known_first : (ps qs : List Path) → AreKnown D (ps ++ qs) → AreKnown D ps
  known_first [] qs h = tt
  known_first (p ∷ ps) qs h = (h.0, known_first ps qs h.1)

  text_known : (f : List ℕ) (es : net.Exps) → AreKnown D (paths_of_exps es) → HasKnown D (text_call f es)
  text_known f es h = (λ s. absurd (cc s), h)

  function_known : (f : List ℕ) (es : net.Exps) → IsFunction D f → AreKnown D (paths_of_exps es) → HasKnown D (support_call f es)
  function_known f es k h = (λ s. (k, refl), h)

  conversion_known : (S : Scope) (to : Ty) (e : Expr) (rest : Exprs) → AreKnown D (paths_of_exps (exps_of S (next_expr e rest)))
      → HasKnown D (converted to e (exp_of S e))
  conversion_known S to e rest h =
      converted_known D to e (exp_of S e) (known_first (paths_of_exp (exp_of S e)) (paths_of_exps (exps_of S rest)) h)

  pub library_known : (S : Scope) (ty : Ty) (g : LibCall) (args : Exprs) → covers_library g ≡ true → AreKnown D (paths_of_exps (exps_of S args))
      → HasKnown D (library_of S ty g args)
  library_known S ty g no_exprs c h = tt
  library_known S ty lib.Len (next_expr e rest) c h = text_known (codes "Len") (exps_of S (next_expr e rest)) h
  library_known S ty lib.Left (next_expr e rest) c h = text_known (codes "Left") (exps_of S (next_expr e rest)) h
  library_known S ty lib.Right (next_expr e rest) c h = text_known (codes "Right") (exps_of S (next_expr e rest)) h
  library_known S ty lib.Mid (next_expr e rest) c h = text_known (codes "Mid") (exps_of S (next_expr e rest)) h
  library_known S ty lib.Trim (next_expr e rest) c h = text_known (codes "Trim") (exps_of S (next_expr e rest)) h
  library_known S ty lib.LTrim (next_expr e rest) c h = text_known (codes "LTrim") (exps_of S (next_expr e rest)) h
  library_known S ty lib.RTrim (next_expr e rest) c h = text_known (codes "RTrim") (exps_of S (next_expr e rest)) h
  library_known S ty lib.UCase (next_expr e rest) c h = text_known (codes "UCase") (exps_of S (next_expr e rest)) h
  library_known S ty lib.LCase (next_expr e rest) c h = text_known (codes "LCase") (exps_of S (next_expr e rest)) h
  library_known S ty lib.Space (next_expr e rest) c h = text_known (codes "Space") (exps_of S (next_expr e rest)) h
  library_known S ty lib.Chr (next_expr e rest) c h = text_known (codes "Chr") (exps_of S (next_expr e rest)) h
  library_known S ty lib.Asc (next_expr e rest) c h = text_known (codes "Asc") (exps_of S (next_expr e rest)) h
  library_known S ty lib.InStr (next_expr e rest) c h = text_known (codes "InStr") (exps_of S (next_expr e rest)) h
  library_known S ty lib.Abs (next_expr e rest) c h =
      checked_known D ty (call_path absolute_path (exps_of S (next_expr e rest))) (λ s. absurd (cc s), h)
  library_known S ty lib.CBool (next_expr e rest) c h = conversion_known S types.boolean e rest h
  library_known S ty lib.CByte (next_expr e rest) c h = conversion_known S types.byte e rest h
  library_known S ty lib.CInt (next_expr e rest) c h = conversion_known S types.integer e rest h
  library_known S ty lib.CLng (next_expr e rest) c h = conversion_known S types.long e rest h
  library_known S ty lib.CCur (next_expr e rest) c h = conversion_known S types.currency e rest h
  library_known S ty lib.CStr (next_expr e rest) c h = conversion_known S types.str e rest h
  library_known S ty lib.IsEmpty (next_expr e rest) c h = absurd (cc c)
  library_known S ty lib.UBound (next_expr e rest) c h = absurd (cc c)
  library_known S ty lib.LBound (next_expr e rest) c h = absurd (cc c)
  library_known S ty lib.MsgBox (next_expr e rest) c h = function_known (codes "Box") (exps_of S (next_expr e rest)) is_box h
  library_known S ty lib.InputBox (next_expr e rest) c h = function_known (codes "Ask") (exps_of S (next_expr e rest)) is_ask h
