-- The values of indexes, extents, inputs, boxes and the Err number.
use Rattle.std.proofs.Common.{◌≡◌, ℕ, ℤ, pos, Bool, true, false, cond, List, [], ◌∷◌, codes, Some, refl, sym, ap, ◌∙◌}
use Rattle.vb6_meaning.specs.Answers.{Answer, then_answer}
use Rattle.vb6_meaning.specs.Answers as value
use Rattle.vb6_meaning.specs.Kinds.{fits}
use Rattle.vb6_meaning.specs.declared.number.NumberKind.TheVariants as kinds
use Rattle.net_tree.specs.Tree.{Exp, no_exps}
use Rattle.net_meaning.specs.declared.value.ValueN.{ValueN}
use Rattle.net_meaning.specs.declared.value.ValueN.TheVariants as n
use Rattle.run_base.specs.Frames.{by_value}
use Rattle.run_base.specs.Outcomes.{boxed, gives, then, answered}
use Rattle.written_trees.specs.Conversions.{one, two, support_call}
use Rattle.written_trees.specs.Exprs.{is_zero, index_from}
use Rattle.written_trees.specs.Library.{low_exp}
use Rattle.written_trees.specs.Names as written
use Rattle.net_run.specs.Values.{Value, unknown, single, fields}
use Rattle.net_run.specs.Store.{Memory, Does}
use Rattle.net_run.specs.Names.{Scope, to_support}
use Rattle.net_run.specs.Making.{Jobs}
use Rattle.net_run.specs.Functions.{of_two, at_row, top_row, raised_from, support_function}
use Rattle.net_run.specs.Calls.{Arguments, performed, singles_given, on_one, input_taken, put_out, text_of}
use Rattle.net_run.specs.Expressions.{read, address_of, value_of}
use Rattle.row_laws.specs.Uncaptured.{IsUncaptured}
use Rattle.row_laws.specs.Follows.{single_value, on_value, on_values, Any, RowOfOne}
use Rattle.row_laws.specs.Functions.{index_row, extent_row, answer_to}
use Rattle.row_laws.specs.Items.{text_in}
use Rattle.row_laws.proofs.Composing.{after_nil, then_assoc, by_row, as_it_stands}
use Rattle.row_laws.proofs.Calls.{call_gives, one_given, one_gives}
use Rattle.row_laws.proofs.Items.{named_puts}
use Rattle.row_laws.proofs.Literals.{integer_given}
use Rattle.row_laws.proofs.Support.{support_start, support_of_two}

module _ (S : Scope) (oracle : Jobs) (free : IsUncaptured S) where
  -- ---- a call whose second argument is a literal

  beside : (row : ValueN → ValueN → Answer ValueN) (y : ValueN) (u : Value) (w : Memory) → on_values row u (single y) w ≡ on_value (λ x. row x y) u w
  beside row y (single x) w = refl
  beside row y unknown w = refl
  beside row y (fields us) w = refl

  with_literal : (name : List ℕ) (row : ValueN → ValueN → Answer ValueN) → support_function name ≡ Some (of_two row) → (a l : Exp) (y : ValueN) → ((w : Memory) → value_of S oracle l w ≡ single_value y w)
      → RowOfOne S oracle Any (support_call name (two a l)) a (λ x. row x y)
  with_literal name row is a l y e =
      by_row (value_of S oracle (support_call name (two a l))) (value_of S oracle a) (λ x. row x y)
      (λ w. support_of_two S oracle free name row is a l w ∙ ap (λ k. then (value_of S oracle a w) k) (λ i u w. second u w i))
    where
      second : (u : Value) (w : Memory) → then (value_of S oracle l w) (on_values row u) ≡ on_value (λ x. row x y) u w
      second u w = ap (λ z. then z (on_values row u)) (e w) ∙ after_nil (on_values row u (single y) w) ∙ beside row y u w

  low_given : (low : ℤ) → fits kinds.Long low ≡ true → (w : Memory) → value_of S oracle (low_exp low) w ≡ single_value (n.Integer low) w
  low_given low e w = ap (λ y. single_value y w) (integer_given false low e)

  -- an index
  pub index_gives : (low : ℤ) → fits kinds.Long low ≡ true → (a : Exp) → RowOfOne S oracle Any (index_from low a) a (index_row low)
  index_gives low e a = by_zero (is_zero low)
    where
      by_zero : (b : Bool) → RowOfOne S oracle Any (cond b a (support_call (codes "At") (two a (low_exp low)))) a (λ x. cond b (value.gives x) (at_row x (n.Integer low)))
      by_zero true = as_it_stands (value_of S oracle a)
      by_zero false = with_literal (codes "At") at_row refl a (low_exp low) (n.Integer low) (low_given low e)

  -- an extent
  pub extent_gives : (low : ℤ) → fits kinds.Long low ≡ true → (a : Exp) → RowOfOne S oracle Any (support_call (codes "Top") (two a (low_exp low))) a (extent_row low)
  extent_gives low e a = with_literal (codes "Top") top_row refl a (low_exp low) (n.Integer low) (low_given low e)

  -- ---- inputs and boxes

  input_read : (units : List ℕ) (w : Memory) → then (input_taken units w) read ≡ answer_to units w
  input_read units w = refl

  abbrev asking : Arguments → Does Value
  asking gs w = then (performed S oracle (to_support (codes "Ask")) gs w) read

  pub question_gives : (a : Exp) (w : Memory) → value_of S oracle (support_call (codes "Ask") (one a)) w ≡ then (then (value_of S oracle a w) text_in) answer_to
  question_gives a w =
      call_gives S oracle (to_support (codes "Ask")) (written.support (codes "Ask")) (support_start S oracle free (codes "Ask")) refl (one a) w
      ∙ ap (λ z. then z asking) (one_given S oracle a w)
      ∙ then_assoc (value_of S oracle a w) (λ v w. gives [] (by_value v ∷ []) w) asking
      ∙ ap (λ k. then (value_of S oracle a w) k) (λ i v w. step v w i)
      ∙ sym (then_assoc (value_of S oracle a w) text_in answer_to)
    where
      taken : (v : Value) (w : Memory) → then (then (answered (then_answer (singles_given (by_value v ∷ [])) (on_one text_of)) w) input_taken) read ≡ then (then (text_in v w) input_taken) read
      taken (single x) w = refl
      taken unknown w = refl
      taken (fields vs) w = refl

      step : (v : Value) (w : Memory) → then (gives [] (by_value v ∷ []) w) asking ≡ then (text_in v w) answer_to
      step v w =
          after_nil (asking (by_value v ∷ []) w)
          ∙ taken v w
          ∙ then_assoc (text_in v w) input_taken read
          ∙ ap (λ k. then (text_in v w) k) (λ i units w. input_read units w i)

  pub box_puts : (a : Exp) (w : Memory) → address_of S oracle (support_call (codes "Box") (one a)) w ≡ then (then (value_of S oracle a w) text_in) (put_out boxed)
  box_puts a w = named_puts S oracle free (codes "Box") boxed refl a w

  -- ---- the Err number

  pub err_number_gives : (w : Memory) → value_of S oracle (support_call (codes "ErrNumber") no_exps) w ≡ single_value (n.Integer (pos w.err)) w
  err_number_gives w =
      call_gives S oracle (to_support (codes "ErrNumber")) (written.support (codes "ErrNumber")) (support_start S oracle free (codes "ErrNumber")) refl no_exps w

  pub raise_gives : (a : Exp) → RowOfOne S oracle Any (support_call (codes "Raise") (one a)) a (raised_from 0)
  raise_gives a =
      by_row (value_of S oracle (support_call (codes "Raise") (one a))) (value_of S oracle a) (raised_from 0)
      (one_gives S oracle (to_support (codes "Raise")) (written.support (codes "Raise")) (support_start S oracle free (codes "Raise")) refl (raised_from 0) (λ gs w. refl) a)

  pub not_upgraded_gives : (a : Exp) → RowOfOne S oracle Any (support_call (codes "NotUpgraded") (one a)) a (raised_from 1000)
  not_upgraded_gives a =
      by_row (value_of S oracle (support_call (codes "NotUpgraded") (one a))) (value_of S oracle a) (raised_from 1000)
      (one_gives S oracle (to_support (codes "NotUpgraded")) (written.support (codes "NotUpgraded")) (support_start S oracle free (codes "NotUpgraded")) refl (raised_from 1000) (λ gs w. refl) a)
