-- What is written for indexes, extents, inputs, boxes and the Err number.
use Rattle.std.specs.Prelude.{ℕ, ℤ, cond, List, [], ◌∷◌}
use Rattle.vb6_meaning.specs.Answers.{Answer}
use Rattle.vb6_meaning.specs.Answers as value
use Rattle.net_meaning.specs.declared.value.ValueN.{ValueN}
use Rattle.net_meaning.specs.declared.value.ValueN.TheVariants as n
use Rattle.run_base.specs.Outcomes.{asked, gives, first_input, rest_inputs}
use Rattle.written_trees.specs.Exprs.{is_zero}
use Rattle.net_run.specs.Functions.{at_row, top_row}
use Rattle.net_run.specs.Store.{Does}
use Rattle.net_run.specs.Values.{Value, single}

-- an index of an array with a lower bound
abbrev pub index_row : (low : ℤ) → ValueN → Answer ValueN
index_row low x = cond (is_zero low) (value.gives x) (at_row x (n.Integer low))

-- the extent of an upper bound
abbrev pub extent_row : (low : ℤ) → ValueN → Answer ValueN
extent_row low x = top_row x (n.Integer low)

-- a question is put out, and the next input is taken
abbrev pub answer_to : (question : List ℕ) → Does Value
answer_to units w = gives (asked units ∷ []) (single (n.Str (first_input w.inputs))) (record w { inputs = rest_inputs w.inputs })
