-- The functions that are the same for all projects, in the order in which they stand in the module of support functions.
use Rattle.std.specs.Prelude.{List, [], ◌∷◌, ◌++◌}
use Rattle.net_tree.specs.Tree.{Procedure}
use Rattle.support_text.specs.Assignments.{the_put_short, the_put_boolean, the_put_byte, the_put_integer, the_put_decimal, the_put_string, the_put_object}
use Rattle.support_text.specs.Bounds.{the_cur, the_at, the_top, the_hi, the_lo}
use Rattle.support_text.specs.Errors.{the_err_number, the_raise, the_err_clear, the_not_upgraded}
use Rattle.support_text.specs.FixedTexts.{the_fix, the_fix_new}
use Rattle.support_text.specs.Printing.{the_print_line, the_print_part, the_box, the_ask, the_cur_text, the_print_num, the_print_var}
use Rattle.support_text.specs.Variants.{the_rank, the_wider, the_num, the_fit}
use Rattle.support_text.specs.VariantConversions.{the_var_str, the_var_byte, the_var_short, the_var_int, the_var_bool, the_var_cur}
use Rattle.support_text.specs.VariantOperators.{the_var_add, the_var_sub, the_var_mul, the_var_div, the_var_mod, the_var_neg, the_var_not, the_var_and, the_var_or, the_var_xor, the_var_comp}

-- what prints and asks
unfoldable pub printing_functions : List Procedure
printing_functions = the_print_line ∷ the_print_part ∷ the_box ∷ the_ask ∷ the_cur_text ∷ the_print_num ∷ the_print_var ∷ []

-- what keeps amounts and places within bounds, texts of a fixed length, and errors
unfoldable pub basic_functions : List Procedure
basic_functions = the_cur ∷ the_at ∷ the_top ∷ the_hi ∷ the_lo ∷ the_fix ∷ the_fix_new ∷ the_err_number ∷ the_raise ∷ the_err_clear ∷ the_not_upgraded ∷ []

-- what a Variant holds
unfoldable pub variant_functions : List Procedure
variant_functions = the_rank ∷ the_wider ∷ the_num ∷ the_fit ∷ []

-- arithmetic on Variants
unfoldable pub arithmetic_functions : List Procedure
arithmetic_functions = the_var_add ∷ the_var_sub ∷ the_var_mul ∷ the_var_div ∷ the_var_mod ∷ the_var_neg ∷ []

-- logic on Variants
unfoldable pub logic_functions : List Procedure
logic_functions = the_var_not ∷ the_var_and ∷ the_var_or ∷ the_var_xor ∷ []

-- conversions and the comparison of Variants
unfoldable pub conversion_functions : List Procedure
conversion_functions = the_var_str ∷ the_var_comp ∷ the_var_byte ∷ the_var_short ∷ the_var_int ∷ the_var_bool ∷ the_var_cur ∷ []

-- assignments to what is passed by reference
unfoldable pub assignment_functions : List Procedure
assignment_functions = the_put_short ∷ the_put_boolean ∷ the_put_byte ∷ the_put_integer ∷ the_put_decimal ∷ the_put_string ∷ the_put_object ∷ []

-- all of them
unfoldable pub fixed_functions : List Procedure
fixed_functions = printing_functions ++ basic_functions ++ variant_functions ++ arithmetic_functions ++ logic_functions ++ conversion_functions ++ assignment_functions
