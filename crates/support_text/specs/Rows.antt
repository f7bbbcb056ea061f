-- The functions that written modules can use, in the order in which they stand in the module of support functions.
use Rattle.std.specs.Prelude.{ℕ, List, [], ◌∷◌, codes}
use Rattle.net_tree.specs.Tree.{Procedure}
use Rattle.support_text.specs.declared.row.SupportRow.{SupportRow}
use Rattle.support_text.specs.declared.row.SupportRow.TheVariants.{PrintLine, PrintPart, CurText, PrintNum, Cur, Raise}
use Rattle.support_text.specs.Printing.{the_print_line, the_print_part, the_cur_text, the_print_num}
use Rattle.support_text.specs.Bounds.{the_cur}
use Rattle.support_text.specs.Errors.{the_raise}

abbrev pub all_rows : List SupportRow
all_rows = PrintLine ∷ PrintPart ∷ CurText ∷ PrintNum ∷ Cur ∷ Raise ∷ []

abbrev pub row_name : SupportRow → List ℕ
row_name PrintLine = codes "PrintLine"
row_name PrintPart = codes "PrintPart"
row_name CurText = codes "CurText"
row_name PrintNum = codes "PrintNum"
row_name Cur = codes "Cur"
row_name Raise = codes "Raise"

-- the function as it is written
abbrev pub row_procedure : SupportRow → Procedure
row_procedure PrintLine = the_print_line
row_procedure PrintPart = the_print_part
row_procedure CurText = the_cur_text
row_procedure PrintNum = the_print_num
row_procedure Cur = the_cur
row_procedure Raise = the_raise

-- the place of the function among those that are the same for all projects
abbrev pub row_place : SupportRow → ℕ
row_place PrintLine = 0
row_place PrintPart = 1
row_place CurText = 4
row_place PrintNum = 5
row_place Cur = 7
row_place Raise = 15

-- the name of the module of support functions
abbrev pub support_name : List ℕ
support_name = codes "UpgradeSupport"

-- the path by which other modules call a function
abbrev pub row_path : SupportRow → List (List ℕ)
row_path row = support_name ∷ row_name row ∷ []
