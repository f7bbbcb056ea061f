use Rattle.std.proofs.Common.{◌≡◌, List, ◌+◌, ◌≤◌, ◌<◌, ◌*◌, length}
use Rattle.vb_tree.specs.View.{exp_of, args_of}
use Rattle.vb_tree.specs.Expressions.{Symbol, Written, WrittenArgs, symbols, depth_of, args_depth}
use Rattle.vb_exprs.specs.Reading.{Stands, ArgsStand}
use Rattle.vb_exprs.proofs.Spines.{Climbed}
use Rattle.vb_exprs.proofs.Lists.{Remains}
use Rattle.vb_exprs.proofs.reader.+read.Given as goal

abbrev pub decreases-read : goal.decreases-read
decreases-read l = 8 * l.room + 3

abbrev pub decreases-start : goal.decreases-start
decreases-start l = 8 * l.room + 2

abbrev pub decreases-link : goal.decreases-link
decreases-link l = 8 * l.room + 2

abbrev pub decreases-prefixed : goal.decreases-prefixed
decreases-prefixed l = 8 * l.room + 1

abbrev pub decreases-group : goal.decreases-group
decreases-group l = 8 * l.room + 1

abbrev pub decreases-type_test : goal.decreases-type_test
decreases-type_test l = 8 * l.room + 1

abbrev pub decreases-with_operator : goal.decreases-with_operator
decreases-with_operator l = 8 * l.room + 1

abbrev pub decreases-with_arguments : goal.decreases-with_arguments
decreases-with_arguments l = 8 * l.room + 1

abbrev pub decreases-arguments : goal.decreases-arguments
decreases-arguments l = 8 * l.room + 5

abbrev pub decreases-argument : goal.decreases-argument
decreases-argument l = 8 * l.room + 4

abbrev pub invariant-read-links : goal.invariant-read-links
invariant-read-links l = record {
  measured : l.left.depth ≡ depth_of (exp_of l.left.expr);
  bounded : l.left.depth ≤ l.room;
  shorter : length l.rest < length l.fn.tokens;
  climbed : (t : Written) (end : List Symbol) → Stands l.bound t (symbols l.fn.tokens) end → Climbed l.bound t (exp_of l.left.expr) (symbols l.rest) end;
}

abbrev pub decreases-read-links : goal.decreases-read-links
decreases-read-links l = length l.rest

abbrev pub invariant-arguments-listed : goal.invariant-arguments-listed
invariant-arguments-listed l = record {
  measured : l.depth ≡ args_depth (args_of l.args.items);
  bounded : l.depth ≤ l.room;
  shorter : length l.rest ≤ length l.fn.tokens;
  remains : (args : WrittenArgs) (end : List Symbol) → ArgsStand args (symbols l.fn.tokens) end → Remains l.args.items (symbols l.rest) args end;
}

abbrev pub decreases-arguments-listed : goal.decreases-arguments-listed
decreases-arguments-listed l = length l.rest
