-- The written procedure that stands for one of the source, and the names of its frames.
use Rattle.std.proofs.Common.{◌≡◌, ap, subst, ◌∙◌, ℕ, zero, suc, ◌<◌, arith, true, Some, List, [], ◌∷◌, length, nat_lt}
use Rattle.std.specs.Prelude.{option_and_then, slice_get}
use Rattle.std.proofs.lemmas.Bool.Decides.{nat_tests}
use Rattle.bound_tree.specs.Tree.{Procedure}
use Rattle.net_run.specs.Lines.{NetFrame}
use Rattle.net_run.specs.Members.{code_at}
use Rattle.run_matches.specs.Frames.{HasNames}
use Rattle.run_matches.specs.Sites.{Site}
use Rattle.run_matches.specs.Upgrades.{Upgrade, code_of}
use Rattle.run_statements.specs.Written.{WrittenProcedure}

pub code_is : (U : Upgrade) (p : ℕ) (s : Site) (x : Procedure) (W : WrittenProcedure U p s x) → code_of U p ≡ Some W.code
code_is U p s x W = ap (λ o. option_and_then (code_at U.written) o) W.is_number ∙ W.is_code

pub names_in_code : (U : Upgrade) (p : ℕ) (s : Site) (x : Procedure) (W : WrittenProcedure U p s x) (g : NetFrame) → HasNames (code_of U p) g
    → HasNames (Some W.code) g
names_in_code U p s x W g h = subst (λ o. HasNames o g) (code_is U p s x W) h

pub below : {X : Type 0} (xs : List X) (i : ℕ) (x : X) → slice_get xs i ≡ Some x → i < length xs
below [] i x e = absurd (cc e)
below (y ∷ ys) zero x e = omega arith
below (y ∷ ys) (suc i) x e = let h = below ys i x e in omega (arith, h)

-- what is there has a number below that of all
pub is_below : {X : Type 0} (xs : List X) (i : ℕ) (x : X) → slice_get xs i ≡ Some x → nat_lt i (length xs) ≡ true
is_below xs i x e = let h = below xs i x e in grind (arith, nat_tests, h)
