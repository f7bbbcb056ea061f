-- The module of the needed functions is that of the functions that the walk notes, with those that they call.
use Rattle.std.proofs.Common.{◌≡◌, Bool, true, false, ◌||◌, List, [], ◌∷◌, map, refl, sym, ap, ◌∙◌}
use Rattle.std.specs.List.{fold, filter, list_any}
use Rattle.std.proofs.lemmas.List.Elements.{filter_agree}
use Rattle.net_tree.specs.Tree.{Module, proc}
use Rattle.support_text.specs.declared.row.SupportRow.{SupportRow}
use Rattle.support_text.specs.declared.row.SupportRow.TheVariants.{PrintLine, PrintPart, CurText, PrintNum, Cur, Raise}
use Rattle.support_text.specs.declared.used.Used.{Used}
use Rattle.support_text.specs.Rows.{all_rows, row_path, row_procedure, support_name}
use Rattle.support_text.specs.Walk.{walk_module}
use Rattle.support_text.specs.Needs.{leads_to, met, needed, support_module, uses}
use Rattle.support_text.specs.Noting.{has, noted, none_used, with_called}
use Rattle.support_text.proofs.NotedRows.{modules_noted}

or_false : (a : Bool) → a || false ≡ a
or_false true = refl
or_false false = refl

needed_noted : (used : Used) (row : SupportRow) → needed (has used) row ≡ has (with_called used) row
needed_noted used PrintLine = or_false used.print_line
needed_noted used PrintPart = or_false used.print_part
needed_noted used CurText = ap (λ b. used.cur_text || b) (or_false used.print_num)
needed_noted used PrintNum = or_false used.print_num
needed_noted used Cur = or_false used.cur
needed_noted used Raise = ap (λ b. used.cur || b) (or_false used.raise)

any_agree : (f g : SupportRow → Bool) → ((row : SupportRow) → f row ≡ g row) → (rows : List SupportRow) → list_any f rows ≡ list_any g rows
any_agree f g same [] = refl
any_agree f g same (row ∷ rows) = ap (λ b. b || list_any f rows) (same row) ∙ ap (λ b. g row || b) (any_agree f g same rows)

-- the functions that modules use, as the walk notes them
abbrev pub used_by : List Module → Used
used_by modules = fold (walk_module noted) none_used modules

none_has : (row : SupportRow) → has none_used row ≡ false
none_has PrintLine = refl
none_has PrintPart = refl
none_has CurText = refl
none_has PrintNum = refl
none_has Cur = refl
none_has Raise = refl

uses_noted : (modules : List Module) (row : SupportRow) → uses row modules ≡ has (used_by modules) row
uses_noted modules row = sym (modules_noted row none_used modules ∙ ap (λ b. fold (walk_module (met (row_path row))) b modules) (none_has row))

needed_by : (modules : List Module) (row : SupportRow) → needed (λ r. uses r modules) row ≡ has (with_called (used_by modules)) row
needed_by modules row =
    any_agree (λ r. uses r modules) (has (used_by modules)) (uses_noted modules) (filter (λ other. leads_to other row) all_rows)
    ∙ needed_noted (used_by modules) row

-- the module of the functions of a set
abbrev pub module_with : (SupportRow → Bool) → Module
module_with set = record { name = support_name; class = false; members = map (λ row. proc (row_procedure row)) (filter set all_rows) }

pub module_noted : (modules : List Module) → module_with (has (with_called (used_by modules))) ≡ support_module modules
module_noted modules =
    ap (λ rows. record { name = support_name; class = false; members = map (λ row. proc (row_procedure row)) rows })
    (sym (filter_agree (needed (λ r. uses r modules)) (has (with_called (used_by modules))) (needed_by modules) all_rows))
