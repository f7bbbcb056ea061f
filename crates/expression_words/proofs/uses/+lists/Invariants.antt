use Rattle.std.proofs.Common.{◌+◌, ◌*◌}
use Rattle.expression_words.proofs.uses.+lists.Given as goal

-- a list goes to a procedure with one default member less
abbrev pub decreases-procedure_list : goal.decreases-procedure_list
decreases-procedure_list l = 4 * l.n

abbrev pub decreases-class_list : goal.decreases-class_list
decreases-class_list l = 4 * l.n + 1

abbrev pub decreases-list_by_type : goal.decreases-list_by_type
decreases-list_by_type l = 4 * l.n + 2

abbrev pub decreases-list_behind : goal.decreases-list_behind
decreases-list_behind l = 4 * l.n + 3
