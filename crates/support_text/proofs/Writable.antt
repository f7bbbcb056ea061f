-- The module of support functions can be written.
use Rattle.std.proofs.Common.{◌≡◌, true, List, [], ◌∷◌, map, refl, ap, ◌∙◌}
use Rattle.std.specs.Prelude.{◌&&◌}
use Rattle.std.specs.List.{filter, list_all}
use Rattle.net_tree.specs.Declarations.{is_writable_member}
use Rattle.net_tree.specs.Tree.{Module, proc}
use Rattle.support_text.specs.declared.row.SupportRow.{SupportRow}
use Rattle.support_text.specs.declared.row.SupportRow.TheVariants.{PrintLine, PrintPart, CurText, PrintNum, Cur, Raise}
use Rattle.support_text.specs.Rows.{all_rows, row_procedure}
use Rattle.support_text.specs.Needs.{needed, support_module, uses, CanBeWritten}

row_can : (row : SupportRow) → is_writable_member (proc (row_procedure row)) ≡ true
row_can PrintLine = refl
row_can PrintPart = refl
row_can CurText = refl
row_can PrintNum = refl
row_can Cur = refl
row_can Raise = refl

rows_can : (rows : List SupportRow) → list_all is_writable_member (map (λ row. proc (row_procedure row)) rows) ≡ true
rows_can [] = refl
rows_can (row ∷ rows) = ap (λ b. b && list_all is_writable_member (map (λ r. proc (row_procedure r)) rows)) (row_can row) ∙ rows_can rows

pub support_can : (modules : List Module) → CanBeWritten (support_module modules)
support_can modules = record { writable = rows_can (filter (needed (λ row. uses row modules)) all_rows); support = refl; file_name = refl }
