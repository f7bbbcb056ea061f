-- The expressions of a code line, each with what the line does with it.
use Rattle.std.specs.Prelude.{List, [], ◌∷◌, ◌++◌, map, Option, Some, None}
use Rattle.std.specs.List.{flat_map}
use Rattle.vb_tree.specs.Tree.{Exp, word, index, Args, no_args, next_arg, Bounds, CaseItem, case_value, case_range, case_is, ReDimItem, Form, assign, set, call, invoke, debug_print, if_head, else_if, line_if, select, case_line, for_head, for_each, do_while, do_until, loop_while, loop_until, while_head, with_head, redim, erase}
use Rattle.expression_words.specs.declared.lookups.Lookup.{Lookup}
use Rattle.bound_exprs.specs.Resolved.{as_value, as_target, as_callee}
use Rattle.binder.specs.declared.parts.Task.{Task}
use Rattle.binder.specs.declared.parts.Task.TheVariants as task

pub record Part : Type 0 where
  pub task : Task
  pub exp : Exp

abbrev pub part : Task → Exp → Part
part t e = record { task = t; exp = e }

-- how the names of an expression are looked up, by what the line does with it
abbrev pub lookup_of : Task → Lookup
lookup_of task.LetTarget = as_target
lookup_of task.SetTarget = as_target
lookup_of task.Counter = as_target
lookup_of task.Array = as_target
lookup_of task.Callee = as_callee
lookup_of _ = as_value

-- a callee with arguments without parentheses is called as one with them
abbrev pub invoked : Exp → Args → Exp
invoked e no_args = e
invoked e (next_arg name marked arg rest) = index e (next_arg name marked arg rest)

abbrev pub optional : Task → Option Exp → List Part
optional t None = []
optional t (Some e) = part t e ∷ []

abbrev pub case_parts : CaseItem → List Part
case_parts (case_value e) = part task.Choice e ∷ []
case_parts (case_range e f) = part task.Choice e ∷ part task.Choice f ∷ []
case_parts (case_is op e) = part task.Choice e ∷ []

abbrev pub bound_parts : Bounds → List Part
bound_parts b = optional task.Bound b.lower ++ part task.Bound b.upper ∷ []

abbrev pub redim_parts : ReDimItem → List Part
redim_parts i = part task.Array i.array ∷ flat_map bound_parts i.bounds

-- of lines that open, part or close a block
abbrev pub block_parts : Form → List Part
block_parts (if_head e) = part task.Condition e ∷ []
block_parts (else_if e) = part task.Condition e ∷ []
block_parts (line_if e) = part task.Condition e ∷ []
block_parts (do_while e) = part task.Condition e ∷ []
block_parts (do_until e) = part task.Condition e ∷ []
block_parts (loop_while e) = part task.Condition e ∷ []
block_parts (loop_until e) = part task.Condition e ∷ []
block_parts (while_head e) = part task.Condition e ∷ []
block_parts (select e) = part task.Choice e ∷ []
block_parts (case_line items) = flat_map case_parts items
block_parts (for_head counter from to step) = part task.Counter counter ∷ part task.Limit from ∷ part task.Limit to ∷ optional task.Limit step
block_parts (for_each name s e) = part task.Array (word name s) ∷ part task.Whole e ∷ []
block_parts (with_head e) = part task.Whole e ∷ []
block_parts _ = []

-- of all other lines
abbrev pub statement_parts : Form → List Part
statement_parts (assign target e) = part task.LetTarget target ∷ part task.LetValue e ∷ []
statement_parts (set target e) = part task.SetTarget target ∷ part task.SetValue e ∷ []
statement_parts (call e) = part task.Callee e ∷ []
statement_parts (invoke e args) = part task.Callee (invoked e args) ∷ []
statement_parts (debug_print items ended) = map (part task.Printed) items
statement_parts (redim preserve items) = flat_map redim_parts items
statement_parts (erase e) = part task.Array e ∷ []
statement_parts _ = []

abbrev pub parts : Form → List Part
parts f = block_parts f ++ statement_parts f
