-- A list of constants of which one has got a value.
use Rattle.std.proofs.Common.{◌≡◌, ℕ, zero, suc, ◌<◌, List, [], ◌∷◌, length, get_or, map, refl, ap, sym, ◌∙◌, arith}
use Rattle.std.specs.Prelude.{Option, Some, slice_get, slice_set}
use Rattle.vb_tree.specs.BoundTree.{Ty}
use Rattle.vb_tree.specs.declared.value.Value6.{Value6}
use Rattle.bound_tree.specs.declared.declared.ConstDecl.{ConstDecl}
use Rattle.bound_tree.specs.Tree.{Constant}
use Rattle.bound_tree.specs.View.{constant_of}
use Rattle.declarations.specs.Constants.{constant_with, with_value}

set_shown : (cs : List ConstDecl) (k : ℕ) (new : ConstDecl) → map constant_of (slice_set cs k new) ≡ slice_set (map constant_of cs) k (constant_of new)
set_shown [] k new = refl
set_shown (c ∷ cs) zero new = refl
set_shown (c ∷ cs) (suc k) new = ap (λ (ks : List Constant). constant_of c ∷ ks) (set_shown cs k new)

get_shown : (cs : List ConstDecl) (k : ℕ) (any : ConstDecl) → k < length cs → slice_get (map constant_of cs) k ≡ Some (constant_of (get_or cs k any))
get_shown [] k any h = absurd (omega arith)
get_shown (c ∷ cs) zero any h = refl
get_shown (c ∷ cs) (suc k) any h = get_shown cs k any (omega arith)

pub value_put : (cs : List ConstDecl) (k : ℕ) (any new : ConstDecl) (ty : Ty) (x : Value6) → k < length cs
    → constant_of new ≡ constant_with (constant_of (get_or cs k any)) ty x
    → map constant_of (slice_set cs k new) ≡ with_value k (slice_get (map constant_of cs) k) (map constant_of cs) ty x
value_put cs k any new ty x h e =
    set_shown cs k new
    ∙ ap (slice_set (map constant_of cs) k) e
    ∙ sym (ap (λ (o : Option Constant). with_value k o (map constant_of cs) ty x) (get_shown cs k any h))
