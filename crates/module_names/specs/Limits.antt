-- Lines within the limits of the grammar: expressions of a depth of at most 64, and at most 64 items that are printed.
use Rattle.std.specs.Prelude.{nat_le, Bool, true, ◌&&◌, length}
use Rattle.std.specs.List.{list_all}
use Rattle.vb_tree.specs.Expressions.{depth_of}
use Rattle.vb_tree.specs.FlatLines.{module_lines}
use Rattle.vb_tree.specs.Tree.{Exp, Form, Line, Module, assign, debug_print}

abbrev pub is_shallow_source : Exp → Bool
is_shallow_source e = nat_le (depth_of e) 64

-- whether the expressions of an assignment or of a print are within the limits
abbrev pub has_shallow_form : Form → Bool
has_shallow_form (assign target value) = is_shallow_source target && is_shallow_source value
has_shallow_form (debug_print items ended) = nat_le (length items) 64 && list_all is_shallow_source items
has_shallow_form _ = true

abbrev pub has_shallow_line : Line → Bool
has_shallow_line l = has_shallow_form l.form

abbrev pub is_shallow_module : Module → Bool
is_shallow_module m = list_all has_shallow_line (module_lines m)
