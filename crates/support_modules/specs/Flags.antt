-- Which functions of a list are needed, as a flag for each.
use Rattle.std.specs.Prelude.{ℕ, zero, suc, Bool, false, not, ◌&&◌, ◌||◌, cond, List, [], ◌∷◌, ◌++◌, codes, map, length}
use Rattle.std.specs.List.{flat_map, fold}
use Rattle.net_tree.specs.Spelling.{is_same_text}
use Rattle.net_tree.specs.Tree.{Module, Procedure}
use Rattle.written_trees.specs.Names.{Path, alone, support}
use Rattle.written_trees.specs.Supports.{function_name}
use Rattle.support_modules.specs.Paths.{is_among, paths_of_module, paths_of_procedure}

-- the items whose flag holds
abbrev pub kept : {A : Type 0} → List A → List Bool → List A
kept [] flags = []
kept (x ∷ xs) [] = []
kept (x ∷ xs) (b ∷ bs) = cond b (x ∷ kept xs bs) (kept xs bs)

-- a path of a function of the support module
abbrev pub is_support : Path → Bool
is_support (outer ∷ name ∷ []) = is_same_text outer (codes "UpgradeSupport")
is_support [] = false
is_support (outer ∷ []) = false
is_support (outer ∷ name ∷ inner ∷ more) = false

-- a path of a function of the support module behind others, unless it is one of them
abbrev pub with_path : List Path → Path → List Path
with_path paths p = cond (is_support p && not (is_among paths p)) (paths ++ p ∷ []) paths

abbrev pub with_paths_of : List Path → Module → List Path
with_paths_of paths m = fold with_path paths (paths_of_module m)

-- the functions whose paths stand among others
abbrev pub used_flags : List Path → List Procedure → List Bool
used_flags paths all = map (λ f. is_among paths (support (function_name f))) all

-- those, and the functions that are called by their names alone
abbrev pub with_called : List Path → List Procedure → List Bool → List Bool
with_called paths [] flags = []
with_called paths (f ∷ fs) [] = []
with_called paths (f ∷ fs) (b ∷ bs) = (b || is_among paths (alone (function_name f))) ∷ with_called paths fs bs

abbrev pub paths_of_kept : List Procedure → List Bool → List Path
paths_of_kept all flags = flat_map paths_of_procedure (kept all flags)

-- with the functions that these call
abbrev pub next_flags : List Procedure → List Bool → List Bool
next_flags all flags = with_called (paths_of_kept all flags) all flags

abbrev pub flags_after : List Procedure → ℕ → List Bool → List Bool
flags_after all zero flags = flags
flags_after all (suc n) flags = flags_after all n (next_flags all flags)

abbrev pub needed_flags : List Procedure → List Module → List Bool
needed_flags all modules = flags_after all (length all) (used_flags (fold with_paths_of [] modules) all)

-- the functions of a list that modules need
abbrev pub needed : List Procedure → List Module → List Procedure
needed all modules = kept all (needed_flags all modules)
