-- Sets of functions as the walk notes them.
use Rattle.std.specs.Prelude.{ℕ, Bool, false, ◌||◌, cond, List, [], ◌∷◌, codes}
use Rattle.net_tree.specs.Spelling.{is_same_text}
use Rattle.support_text.specs.declared.row.SupportRow.{SupportRow}
use Rattle.support_text.specs.declared.row.SupportRow.TheVariants.{PrintLine, PrintPart, CurText, PrintNum, Cur, Raise}
use Rattle.support_text.specs.declared.used.Used.{Used}
use Rattle.support_text.specs.Rows.{support_name}

abbrev pub none_used : Used
none_used = record { print_line = false; print_part = false; cur_text = false; print_num = false; cur = false; raise = false }

abbrev pub has : Used → SupportRow → Bool
has used PrintLine = used.print_line
has used PrintPart = used.print_part
has used CurText = used.cur_text
has used PrintNum = used.print_num
has used Cur = used.cur
has used Raise = used.raise

-- with the function of a name, where there is one
abbrev pub with_name : Used → List ℕ → Used
with_name used name = record {
  print_line = is_same_text name (codes "PrintLine") || used.print_line;
  print_part = is_same_text name (codes "PrintPart") || used.print_part;
  cur_text = is_same_text name (codes "CurText") || used.cur_text;
  print_num = is_same_text name (codes "PrintNum") || used.print_num;
  cur = is_same_text name (codes "Cur") || used.cur;
  raise = is_same_text name (codes "Raise") || used.raise;
}

-- with the function that a path names, where it names one
abbrev pub noted : Used → List (List ℕ) → Used
noted used (outer ∷ name ∷ []) = cond (is_same_text outer support_name) (with_name used name) used
noted used [] = used
noted used (outer ∷ []) = used
noted used (outer ∷ name ∷ inner ∷ more) = used

-- with the functions that these call
abbrev pub with_called : Used → Used
with_called used = record used { cur_text = used.cur_text || used.print_num; raise = used.cur || used.raise }
