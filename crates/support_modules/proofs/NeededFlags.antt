-- The flags of the code are those of the functions that modules need.
use Rattle.std.proofs.Common.{◌≡◌, ℕ, zero, suc, Bool, false, ◌||◌, cond, List, [], ◌∷◌, map, length, refl, sym, ap, ◌∙◌}
use Rattle.std.specs.List.{filter, flat_map, fold, list_any}
use Rattle.std.proofs.lemmas.List.Elements.{filter_agree}
use Rattle.net_tree.specs.Tree.{Module, Procedure}
use Rattle.written_trees.specs.Names.{Path, alone, support}
use Rattle.written_trees.specs.Supports.{function_name, is_needed, is_used, leads_within, met}
use Rattle.support_modules.specs.Flags.{flags_after, kept, needed, next_flags, with_called, with_paths_of}
use Rattle.support_modules.specs.Paths.{is_among, paths_of_module, paths_of_procedure}
use Rattle.support_modules.proofs.Among.{filter_same}
use Rattle.support_modules.proofs.WalkedPaths.{among, modules_met}
use Rattle.support_modules.proofs.Noted.{noted_among}
use Rattle.support_modules.proofs.Rounds.{NameSet, members, next_set, reached, reached_in_rounds, sets_after}

-- ---- flags of sets

abbrev flags_of : List Procedure → NameSet → List Bool
flags_of all set = map (λ f. set (function_name f)) all

kept_of : {A : Type 0} (p : A → Bool) (xs : List A) → kept xs (map p xs) ≡ filter p xs
kept_of p [] = refl
kept_of p (x ∷ xs) = ap (λ ys. cond (p x) (x ∷ ys) ys) (kept_of p xs)

called_of : (paths : List Path) (set : NameSet) (all : List Procedure) → with_called paths all (flags_of all set) ≡ flags_of all (λ name. set name || is_among paths (alone name))
called_of paths set [] = refl
called_of paths set (f ∷ fs) = ap (λ bs. (set (function_name f) || is_among paths (alone (function_name f))) ∷ bs) (called_of paths set fs)

next_of : (all : List Procedure) (set : NameSet) → next_flags all (flags_of all set) ≡ flags_of all (next_set all set)
next_of all set =
    ap (λ fs. with_called (flat_map paths_of_procedure fs) all (flags_of all set)) (kept_of (λ f. set (function_name f)) all)
    ∙ called_of (flat_map paths_of_procedure (members all set)) set all

after_of : (all : List Procedure) (n : ℕ) (set : NameSet) → flags_after all n (flags_of all set) ≡ flags_of all (sets_after all n set)
after_of all zero set = refl
after_of all (suc n) set = ap (flags_after all n) (next_of all set) ∙ after_of all n (next_set all set)

-- ---- the functions that modules use

abbrev used_set : List Module → NameSet
used_set modules name = is_among (fold with_paths_of [] modules) (support name)

is_used_by : (modules : List Module) (f : Procedure) → is_used modules f ≡ used_set modules (function_name f)
is_used_by modules f =
    modules_met (met (support (function_name f))) false modules
    ∙ among (support (function_name f)) (flat_map paths_of_module modules)
    ∙ sym (noted_among modules (function_name f))

-- ---- those that are needed

is_needed_by : (all : List Procedure) (modules : List Module) (g : Procedure) → is_needed all modules g ≡ reached all (used_set modules) (length all) g
is_needed_by all modules g =
    ap (λ fs. list_any (λ f. leads_within all (length all) f g) fs) (filter_agree (is_used modules) (λ f. used_set modules (function_name f)) (is_used_by modules) all)

pub needed_are : (all : List Procedure) (modules : List Module) → needed all modules ≡ filter (is_needed all modules) all
needed_are all modules =
    ap (kept all) (after_of all (length all) (used_set modules))
    ∙ kept_of (λ f. sets_after all (length all) (used_set modules) (function_name f)) all
    ∙ sym (filter_same (is_needed all modules) (λ f. sets_after all (length all) (used_set modules) (function_name f)) all
    (λ g i. is_needed_by all modules g ∙ reached_in_rounds all (length all) (used_set modules) g i))
