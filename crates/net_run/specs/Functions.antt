-- The functions of the support module and of the run-time library, by their names.
use Rattle.std.specs.Prelude.{ℕ, ◌+◌, nat_le, nat_lt, ℤ, pos, negsuc, ◌+ℤ◌, ◌&&◌, Bool, cond, List, [], ◌∷◌, ◌++◌, codes, Option, Some, None, slice_get}
use Rattle.up_base.specs.Names.{is_same_name}
use Rattle.vb_tree.specs.BoundTree as vb
use Rattle.vb6_meaning.specs.Answers.{Answer}
use Rattle.vb6_meaning.specs.Answers as value
use Rattle.net_tree.specs.declared.declaration.NetPassing.{NetPassing}
use Rattle.net_tree.specs.declared.declaration.NetPassing.TheVariants as passing
use Rattle.net_tree.specs.Types.{TypeName}
use Rattle.net_tree.specs.Types as t
use Rattle.net_meaning.specs.declared.value.ValueN.{ValueN}
use Rattle.net_meaning.specs.declared.value.ValueN.TheVariants as n
use Rattle.net_meaning.specs.declared.whole.WholeKind.TheVariants.{Integer}
use Rattle.net_meaning.specs.Whole.{is_whole}
use Rattle.net_meaning.specs.Library.{len, left, right, mid_on, mid, trim, left_trim, right_trim, upper, lower, space, character, unit_text, character_number, place, absolute}
use Rattle.net_meaning.specs.Support.{cur, cur_text, print_num, at, top, fix, fix_new, var_add, var_sub, var_mul, var_div, var_mod, var_and, var_or, var_xor, var_neg, var_not, var_as, var_str, print_var, var_comp}
use Rattle.run_base.specs.Outcomes.{Output, printed, boxed, line_end}
use Rattle.net_run.specs.Constants.{strings, is_same_path}
use Rattle.net_run.specs.Structures.{is_new_name, is_copy_name, is_auto_name}
use Rattle.net_run.specs.Store.{Array, product, most_elements}

-- What a function takes and does.
pub data Function : Type 0 where
  -- a value of one, two or three values
  of_one : (ValueN → Answer ValueN) → Function
  of_two : (ValueN → ValueN → Answer ValueN) → Function
  of_two_or_three : (ValueN → ValueN → Answer ValueN) → (ValueN → ValueN → ValueN → Answer ValueN) → Function
  -- puts out a String, of which Nothing is the empty one
  puts_out : (List ℕ → Output) → Function
  -- puts out a String, and gives the next input
  asks : Function
  -- a bound of an array in a dimension, by its lower bound
  upper_bound : Function
  lower_bound : Function
  -- the Err number; a number that is raised, behind a number that is added; the Err number 0
  gives_err : Function
  raises_from : ℕ → Function
  clears_err : Function
  -- `PutT`, by its type
  puts : TypeName → Function
  -- `NewK`, `CopyK` and `Auto_C`
  makes_structure : Function
  copies_structure : Function
  makes_object : Function

-- ---- rows of values

-- `At` and `Top`
abbrev pub at_row : ValueN → ValueN → Answer ValueN
at_row (n.Integer i) (n.Integer low) = value.gives (n.Integer (at i low))
at_row _ _ = value.outside

abbrev pub top_row : ValueN → ValueN → Answer ValueN
top_row (n.Integer high) (n.Integer low) = top high low
top_row _ _ = value.outside

-- `Fix` and `FixNew`: no length is below 0
abbrev pub fix_row : ValueN → ValueN → Answer ValueN
fix_row x (n.Integer (pos k)) = fix x k
fix_row x _ = value.outside

abbrev pub fix_new_row : ValueN → Answer ValueN
fix_new_row (n.Integer (pos k)) = value.gives (fix_new k)
fix_new_row _ = value.outside

-- ---- bounds of arrays

abbrev pub integer_row : ℤ → Answer ValueN
integer_row z = cond (is_whole Integer z) (value.gives (n.Integer z)) value.outside

-- an array with more elements than there may be, and a dimension that it lacks, have no row
abbrev pub upper_row : (low : ℤ) → Option ℕ → Answer ValueN
upper_row low None = value.outside
upper_row low (Some count) = integer_row ((pos count +ℤ negsuc 0) +ℤ low)

abbrev pub if_held : Array → Answer ValueN → Answer ValueN
if_held a row = cond (nat_lt 0 (product a.counts)) (cond (nat_le (product a.counts) most_elements) row value.outside) (value.raises 9)

-- `Hi`: 9 where the array has no element
abbrev pub high_of : Array → (dimension low : ValueN) → Answer ValueN
high_of a (n.Integer (pos d)) (n.Integer low) = if_held a (upper_row low (slice_get a.counts d))
high_of a _ _ = value.outside

-- `Lo`
abbrev pub low_of : Array → (low : ValueN) → Answer ValueN
low_of a (n.Integer low) = if_held a (value.gives (n.Integer low))
low_of a _ = value.outside

-- ---- raised numbers

-- a number outside of 1 to 65535 can't be raised
abbrev pub raised_number : ℕ → Answer ValueN
raised_number e = cond (nat_le 1 e && nat_le e 65535) (value.raises e) value.outside

abbrev pub raised_from : (added : ℕ) → ValueN → Answer ValueN
raised_from added (n.Integer (pos e)) = raised_number (added + e)
raised_from added _ = value.outside

-- ---- tables

abbrev pub support_table : List (List ℕ × Function)
support_table =
    (codes "PrintLine", puts_out (λ s. printed (s ++ line_end)))
    ∷ (codes "PrintPart", puts_out printed)
    ∷ (codes "Box", puts_out boxed)
    ∷ (codes "Ask", asks)
    ∷ (codes "CurText", of_one cur_text)
    ∷ (codes "PrintNum", of_one print_num)
    ∷ (codes "PrintVar", of_one print_var)
    ∷ (codes "Cur", of_one cur)
    ∷ (codes "At", of_two at_row)
    ∷ (codes "Top", of_two top_row)
    ∷ (codes "Hi", upper_bound)
    ∷ (codes "Lo", lower_bound)
    ∷ (codes "Fix", of_two fix_row)
    ∷ (codes "FixNew", of_one fix_new_row)
    ∷ (codes "ErrNumber", gives_err)
    ∷ (codes "Raise", raises_from 0)
    ∷ (codes "ErrClear", clears_err)
    ∷ (codes "NotUpgraded", raises_from 1000)
    ∷ (codes "VarAdd", of_two var_add)
    ∷ (codes "VarSub", of_two var_sub)
    ∷ (codes "VarMul", of_two var_mul)
    ∷ (codes "VarDiv", of_two var_div)
    ∷ (codes "VarMod", of_two var_mod)
    ∷ (codes "VarNeg", of_one var_neg)
    ∷ (codes "VarNot", of_one var_not)
    ∷ (codes "VarAnd", of_two var_and)
    ∷ (codes "VarOr", of_two var_or)
    ∷ (codes "VarXor", of_two var_xor)
    ∷ (codes "VarStr", of_one var_str)
    ∷ (codes "VarComp", of_two var_comp)
    ∷ (codes "VarByte", of_one (var_as vb.byte))
    ∷ (codes "VarShort", of_one (var_as vb.integer))
    ∷ (codes "VarInt", of_one (var_as vb.long))
    ∷ (codes "VarBool", of_one (var_as vb.boolean))
    ∷ (codes "VarCur", of_one (var_as vb.currency))
    ∷ (codes "PutShort", puts t.short)
    ∷ (codes "PutBoolean", puts t.boolean)
    ∷ (codes "PutByte", puts t.byte)
    ∷ (codes "PutInteger", puts t.integer)
    ∷ (codes "PutDecimal", puts t.decimal)
    ∷ (codes "PutString", puts t.str)
    ∷ (codes "PutObject", puts t.object)
    ∷ []

-- the run-time library, those of texts and one of numbers
abbrev pub library_table : List (List (List ℕ) × Function)
library_table =
    (strings (codes "Len"), of_one len)
    ∷ (strings (codes "Left"), of_two left)
    ∷ (strings (codes "Right"), of_two right)
    ∷ (strings (codes "Mid"), of_two_or_three mid_on mid)
    ∷ (strings (codes "Trim"), of_one trim)
    ∷ (strings (codes "LTrim"), of_one left_trim)
    ∷ (strings (codes "RTrim"), of_one right_trim)
    ∷ (strings (codes "UCase"), of_one upper)
    ∷ (strings (codes "LCase"), of_one lower)
    ∷ (strings (codes "Space"), of_one space)
    ∷ (strings (codes "Chr"), of_one character)
    ∷ (strings (codes "ChrW"), of_one unit_text)
    ∷ (strings (codes "Asc"), of_one character_number)
    ∷ (strings (codes "InStr"), of_two place)
    ∷ (codes "System" ∷ codes "Math" ∷ codes "Abs" ∷ [], of_one absolute)
    ∷ []

-- the first of a name, which is compared by a test
abbrev pub function_in : {K : Type 0} → (K → K → Bool) → K → List (K × Function) → Option Function
function_in is_same k [] = None
function_in is_same k (x ∷ table) = cond (is_same x.0 k) (Some x.1) (function_in is_same k table)

-- the functions for single types go by how their names begin
abbrev pub made_function : List ℕ → Option Function
made_function name =
    cond (is_new_name name) (Some makes_structure)
    (cond (is_copy_name name) (Some copies_structure)
    (cond (is_auto_name name) (Some makes_object) None))

abbrev pub or_made : Option Function → List ℕ → Option Function
or_made (Some f) name = Some f
or_made None name = made_function name

abbrev pub support_function : List ℕ → Option Function
support_function name = or_made (function_in is_same_name name support_table) name

abbrev pub library_function : List (List ℕ) → Option Function
library_function names = function_in is_same_path names library_table

-- ---- how arguments are taken: those that aren't named here are values

abbrev pub function_passing : Function → List NetPassing
function_passing (of_one row) = []
function_passing (of_two row) = []
function_passing (of_two_or_three row more) = []
function_passing (puts_out out) = []
function_passing asks = []
function_passing upper_bound = []
function_passing lower_bound = []
function_passing gives_err = []
function_passing (raises_from added) = []
function_passing clears_err = []
function_passing (puts ty) = passing.Value ∷ passing.Reference ∷ []
function_passing makes_structure = []
function_passing copies_structure = []
function_passing makes_object = passing.Reference ∷ []

abbrev pub passing_of_some : Option Function → List NetPassing
passing_of_some None = []
passing_of_some (Some f) = function_passing f
