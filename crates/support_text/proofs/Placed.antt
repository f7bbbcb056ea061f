-- The places of the functions that are the same for all projects.
use Rattle.std.proofs.Common.{◌≡◌, ◌≤◌, ◌-◌, ℕ, zero, suc, List, [], ◌∷◌, ◌++◌, length, map, refl, sym, ap, ◌∙◌, arith}
use Rattle.std.specs.Prelude.{Option, Some, None, slice_get}
use Rattle.std.proofs.lemmas.Option.{same_Some, none-some}
use Rattle.net_tree.specs.Tree.{Procedure}
use Rattle.support_text.specs.declared.row.SupportRow.{SupportRow}
use Rattle.support_text.specs.declared.row.SupportRow.TheVariants.{PrintLine, PrintPart, CurText, PrintNum, Cur, Raise}
use Rattle.support_text.specs.FixedFunctions.{fixed_functions, printing_functions, basic_functions, variant_functions, arithmetic_functions, logic_functions, conversion_functions, assignment_functions}
use Rattle.support_text.specs.Rows.{row_place, row_procedure}

some_at : (fs : List Procedure) (k : ℕ) (p : Procedure) → slice_get (map Some fs) k ≡ Some (Some p) → slice_get fs k ≡ Some p
some_at [] k p h = absurd (none-some (Some p) h)
some_at (f ∷ fs) zero p h = same_Some (Some f) (Some p) h
some_at (f ∷ fs) (suc k) p h = some_at fs k p h

kept : (xs ys : List Procedure) (k : ℕ) (p : Procedure) → slice_get xs k ≡ Some p → slice_get (xs ++ ys) k ≡ Some p
kept [] ys k p h = absurd (none-some p h)
kept (x ∷ xs) ys zero p h = h
kept (x ∷ xs) ys (suc k) p h = kept xs ys k p h

behind : (before fs : List Procedure) (k : ℕ) → length before ≤ k → slice_get (before ++ fs) k ≡ slice_get fs (k - length before)
behind [] fs k h = let e : k ≡ k - 0 = omega arith in ap (slice_get fs) e
behind (b ∷ before) fs zero h = absurd (omega (arith, h))
behind (b ∷ before) fs (suc k) h =
    let e : k - length before ≡ suc k - suc (length before) = omega arith in
    behind before fs k (omega (arith, h)) ∙ ap (slice_get fs) e

-- a function of a list that stands behind another one
placed : (before fs : List Procedure) (first k : ℕ) (p : Procedure) → length before ≡ first → first ≤ k → slice_get fs (k - first) ≡ Some p → slice_get (before ++ fs) k ≡ Some p
placed before fs first k p counted within h =
    behind before fs k (omega (arith, counted, within)) ∙ ap (λ n. slice_get fs (k - n)) counted ∙ h

-- a function that a routine of a list makes
pub made_at : (made : List (Option Procedure)) (fs : List Procedure) (k : ℕ) (p : Procedure) → made ≡ map Some fs → slice_get made k ≡ Some (Some p) → slice_get fs k ≡ Some p
made_at made fs k p same h = some_at fs k p (sym (ap (λ xs. slice_get xs k) same) ∙ h)

-- ---- the lists from the first one to each

abbrev to_basic : List Procedure
to_basic = printing_functions ++ basic_functions

abbrev to_variant : List Procedure
to_variant = to_basic ++ variant_functions

abbrev to_arithmetic : List Procedure
to_arithmetic = to_variant ++ arithmetic_functions

abbrev to_logic : List Procedure
to_logic = to_arithmetic ++ logic_functions

abbrev to_conversion : List Procedure
to_conversion = to_logic ++ conversion_functions

printing_count : length printing_functions ≡ 7
unfolding printing_functions
printing_count = refl

basic_count : length to_basic ≡ 18
unfolding printing_functions basic_functions
basic_count = refl

variant_count : length to_variant ≡ 22
unfolding printing_functions basic_functions variant_functions
variant_count = refl

arithmetic_count : length to_arithmetic ≡ 28
unfolding printing_functions basic_functions variant_functions arithmetic_functions
arithmetic_count = refl

logic_count : length to_logic ≡ 32
unfolding printing_functions basic_functions variant_functions arithmetic_functions logic_functions
logic_count = refl

conversion_count : length to_conversion ≡ 39
unfolding printing_functions basic_functions variant_functions arithmetic_functions logic_functions conversion_functions
conversion_count = refl

-- ---- the place of a function of each list

from_conversion : (k : ℕ) (p : Procedure) → slice_get to_conversion k ≡ Some p → slice_get fixed_functions k ≡ Some p
unfolding fixed_functions
from_conversion k p h = kept to_conversion assignment_functions k p h

from_logic : (k : ℕ) (p : Procedure) → slice_get to_logic k ≡ Some p → slice_get fixed_functions k ≡ Some p
from_logic k p h = from_conversion k p (kept to_logic conversion_functions k p h)

from_arithmetic : (k : ℕ) (p : Procedure) → slice_get to_arithmetic k ≡ Some p → slice_get fixed_functions k ≡ Some p
from_arithmetic k p h = from_logic k p (kept to_arithmetic logic_functions k p h)

from_variant : (k : ℕ) (p : Procedure) → slice_get to_variant k ≡ Some p → slice_get fixed_functions k ≡ Some p
from_variant k p h = from_arithmetic k p (kept to_variant arithmetic_functions k p h)

from_basic : (k : ℕ) (p : Procedure) → slice_get to_basic k ≡ Some p → slice_get fixed_functions k ≡ Some p
from_basic k p h = from_variant k p (kept to_basic variant_functions k p h)

pub printing_placed : (k : ℕ) (p : Procedure) → slice_get printing_functions k ≡ Some p → slice_get fixed_functions k ≡ Some p
printing_placed k p h = from_basic k p (kept printing_functions basic_functions k p h)

pub basic_placed : (k : ℕ) (p : Procedure) → 7 ≤ k → slice_get basic_functions (k - 7) ≡ Some p → slice_get fixed_functions k ≡ Some p
basic_placed k p within h = from_basic k p (placed printing_functions basic_functions 7 k p printing_count within h)

pub variant_placed : (k : ℕ) (p : Procedure) → 18 ≤ k → slice_get variant_functions (k - 18) ≡ Some p → slice_get fixed_functions k ≡ Some p
variant_placed k p within h = from_variant k p (placed to_basic variant_functions 18 k p basic_count within h)

pub arithmetic_placed : (k : ℕ) (p : Procedure) → 22 ≤ k → slice_get arithmetic_functions (k - 22) ≡ Some p → slice_get fixed_functions k ≡ Some p
arithmetic_placed k p within h = from_arithmetic k p (placed to_variant arithmetic_functions 22 k p variant_count within h)

pub logic_placed : (k : ℕ) (p : Procedure) → 28 ≤ k → slice_get logic_functions (k - 28) ≡ Some p → slice_get fixed_functions k ≡ Some p
logic_placed k p within h = from_logic k p (placed to_arithmetic logic_functions 28 k p arithmetic_count within h)

pub conversion_placed : (k : ℕ) (p : Procedure) → 32 ≤ k → slice_get conversion_functions (k - 32) ≡ Some p → slice_get fixed_functions k ≡ Some p
conversion_placed k p within h = from_conversion k p (placed to_logic conversion_functions 32 k p logic_count within h)

pub assignment_placed : (k : ℕ) (p : Procedure) → 39 ≤ k → slice_get assignment_functions (k - 39) ≡ Some p → slice_get fixed_functions k ≡ Some p
unfolding fixed_functions
assignment_placed k p within h = placed to_conversion assignment_functions 39 k p conversion_count within h

-- ---- the functions that the walk notes

pub row_placed : (row : SupportRow) → slice_get fixed_functions (row_place row) ≡ Some (row_procedure row)
unfolding fixed_functions printing_functions basic_functions
row_placed PrintLine = refl
row_placed PrintPart = refl
row_placed CurText = refl
row_placed PrintNum = refl
row_placed Cur = refl
row_placed Raise = refl
