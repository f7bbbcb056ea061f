-- The functions that are the same for all projects, taken one after the other.
use Rattle.std.proofs.Common.{◌≡◌, ℕ, ◌+◌, List, [], ◌∷◌, ◌++◌, length, take, refl, ap, ◌∙◌, arith}
use Rattle.std.specs.Prelude.{Some, slice_get}
use Rattle.std.proofs.lemmas.List.{take_all, take_more}
use Rattle.std.proofs.lemmas.Option.{get_or_from_slice_get, slice_get_within}
use Rattle.net_tree.specs.Tree.{Procedure}
use Rattle.support_text.specs.FixedFunctions.{fixed_functions, printing_functions, basic_functions, variant_functions, arithmetic_functions, logic_functions, conversion_functions, assignment_functions}

take_next : (xs : List Procedure) (i : ℕ) (x : Procedure) → slice_get xs i ≡ Some x → take (i + 1) xs ≡ take i xs ++ x ∷ []
take_next xs i x h =
    take_more xs i x (slice_get_within xs i x h) ∙ ap (λ y. take i xs ++ y ∷ []) (get_or_from_slice_get xs i x x h)

pub next_fixed : (i : ℕ) (x : Procedure) → slice_get fixed_functions i ≡ Some x → take (i + 1) fixed_functions ≡ take i fixed_functions ++ x ∷ []
next_fixed i x h = take_next fixed_functions i x h

how_many : length fixed_functions ≡ 46
unfolding fixed_functions printing_functions basic_functions variant_functions arithmetic_functions logic_functions conversion_functions assignment_functions
how_many = refl

pub all_fixed : take 46 fixed_functions ≡ fixed_functions
all_fixed = take_all 46 fixed_functions (omega (arith, how_many))
