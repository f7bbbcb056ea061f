-- A question is put out alike, and the same input answers it.
use Rattle.std.proofs.Common.{refl, sym, ap, subst, ℕ, Bool, true, false, cond, List, [], ◌∷◌}
use Rattle.std.specs.List.{list_all}
use Rattle.vb_tree.specs.BoundTree.{str}
use Rattle.vb_tree.specs.declared.value.Value6.{Value6}
use Rattle.vb_tree.specs.declared.value.Value6.TheVariants as v6
use Rattle.net_meaning.specs.declared.value.ValueN.TheVariants as n
use Rattle.net_meaning.specs.ValueMatch.{texts, empty_text}
use Rattle.run_base.specs.Outcomes.{asked, gives, outside, then, first_input, rest_inputs}
use Rattle.vb6_run.specs.Expressions as source
use Rattle.vb6_run.specs.Expressions.{at_address, has_byte}
use Rattle.vb6_run.specs.Store.{constant}
use Rattle.vb6_run.specs.Values.{scalar}
use Rattle.net_run.specs.Values.{Value, single}
use Rattle.run_matches.specs.Agreeing.{Agrees}
use Rattle.run_matches.specs.Likeness.{LikeV, like_scalar}
use Rattle.run_matches.specs.Maps.{World}
use Rattle.run_matches.specs.Match.{MemoryMatch}
use Rattle.run_matches.specs.Pledges.{Pledge, Later}
use Rattle.run_matches.specs.Upgrades.{Upgrade}
use Rattle.agreeing_laws.specs.Beside.{beside}
use Rattle.agreeing_laws.proofs.Beside.{later_beside}
use Rattle.agreeing_laws.proofs.Lasting.{later_now}
use Rattle.row_laws.specs.Functions.{answer_to}
use Rattle.row_laws.specs.Items.{text_in}
use Rattle.expression_laws.proofs.Checks.{TermMatch}

module _ (U : Upgrade) (K : Pledge) (w : World) (start : MemoryMatch U w) where
  -- the world behind an input
  abbrev taken : World
  taken = beside w w.src.err w.net.err (rest_inputs w.src.inputs) (rest_inputs w.net.inputs) w.src.left w.net.left

  taken_later : Later U K w taken
  taken_later =
      later_beside U w w.src.err w.net.err (rest_inputs w.src.inputs) (rest_inputs w.net.inputs) w.src.left w.net.left K w start.stores.errors
      (ap rest_inputs start.inputs) start.steps (later_now U K w start)

  -- the text of the input
  input_like : LikeV U taken (scalar str (v6.Str (first_input w.src.inputs))) (single (n.Str (first_input w.net.inputs)))
  input_like =
      subst (λ i. LikeV U taken (scalar str (v6.Str (first_input w.src.inputs))) (single (n.Str (first_input i)))) (sym start.inputs)
      (like_scalar str (v6.Str (first_input w.src.inputs)) (n.Str (first_input w.src.inputs)) (texts (first_input w.src.inputs)))

  answer_agrees : (question : List ℕ) (has_bytes : Bool)
      → Agrees U K w (TermMatch U str)
      (cond has_bytes (gives (asked question ∷ []) (at_address (constant (scalar str (v6.Str (first_input w.src.inputs))))) (record w.src { inputs = rest_inputs w.src.inputs }))
      (outside (asked question ∷ [])))
      (answer_to question w.net)
  answer_agrees question true = (refl, w.map, (v6.Str (first_input w.src.inputs), refl, input_like), taken_later)
  answer_agrees question false = ([], refl)

  pub question_agrees : (z : Value6) (y : Value) → LikeV U w (scalar str z) y
      → Agrees U K w (TermMatch U str) (source.asked_text z w.src) (then (text_in y w.net) answer_to)
  question_agrees _ _ (like_scalar _ _ _ (texts units)) = answer_agrees units (list_all has_byte (first_input w.src.inputs))
  question_agrees _ _ (like_scalar _ _ _ empty_text) = answer_agrees [] (list_all has_byte (first_input w.src.inputs))
