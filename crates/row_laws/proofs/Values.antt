-- The values of conversions and operators.
use Rattle.std.proofs.Common.{◌≡◌, refl, ap, ◌∙◌}
use Rattle.vb6_meaning.specs.Answers.{Answer}
use Rattle.vb6_meaning.specs.Answers as value
use Rattle.net_tree.specs.declared.expression.CastWord.{CastWord}
use Rattle.net_tree.specs.declared.expression.NetBin.{NetBin}
use Rattle.net_tree.specs.declared.expression.NetUn.{NetUn}
use Rattle.net_tree.specs.declared.expression.OpN.TheVariants.{Bin, Un}
use Rattle.net_tree.specs.Tree.{Exp}
use Rattle.net_tree.specs.Tree as net
use Rattle.net_meaning.specs.declared.value.ValueN.{ValueN}
use Rattle.net_meaning.specs.Conversions.{coerce_net}
use Rattle.net_meaning.specs.Operators.{operate_net}
use Rattle.net_meaning.specs.WrittenRows.{cast_type}
use Rattle.run_base.specs.Outcomes.{Outcome, then}
use Rattle.net_run.specs.Values.{Value, unknown, single, fields}
use Rattle.net_run.specs.Store.{Memory, Does}
use Rattle.net_run.specs.Names.{Scope, Reached}
use Rattle.net_run.specs.Making.{Jobs}
use Rattle.net_run.specs.Calls.{value_answered}
use Rattle.net_run.specs.Expressions.{finished, parts_by, read, value_from, as_reached, on_single, value_of}
use Rattle.row_laws.specs.Follows.{answers, on_value, on_values}
use Rattle.row_laws.proofs.Composing.{then_assoc}

module _ (S : Scope) (oracle : Jobs) where
  -- the value of what is reached behind a computation
  pub value_behind : {A : Type 0} (r : Outcome Memory A) (k : A → Does Reached) → value_from S oracle (then r k) ≡ then r (λ a w. value_from S oracle (k a w))
  value_behind r k =
      ap (λ z. then (then z finished) read) (then_assoc r k (parts_by S oracle))
      ∙ ap (λ z. then z read) (then_assoc r (λ a w. then (k a w) (parts_by S oracle)) finished)
      ∙ then_assoc r (λ a w. then (then (k a w) (parts_by S oracle)) finished) read

  answer_read : (a : Answer ValueN) (w : Memory) → value_from S oracle (as_reached (value_answered a w)) ≡ answers a w
  answer_read (value.gives x) w = refl
  answer_read (value.raises n) w = refl
  answer_read value.outside w = refl

  row_read : (row : ValueN → Answer ValueN) (v : Value) (w : Memory) → value_from S oracle (as_reached (on_single v (λ x w. value_answered (row x) w) w)) ≡ on_value row v w
  row_read row (single x) w = answer_read (row x) w
  row_read row unknown w = refl
  row_read row (fields vs) w = refl

  pair_read : (row : ValueN → ValueN → Answer ValueN) (u v : Value) (w : Memory) → value_from S oracle (as_reached (on_single u (λ x w. on_single v (λ y w. value_answered (row x y) w) w) w)) ≡ on_values row u v w
  pair_read row (single x) v w = row_read (row x) v w
  pair_read row unknown v w = refl
  pair_read row (fields us) v w = refl

  pub cast_gives : (c : CastWord) (a : Exp) (w : Memory) → value_of S oracle (net.cast c a) w ≡ then (value_of S oracle a w) (on_value (λ x. coerce_net x (cast_type c)))
  cast_gives c a w =
      value_behind (value_of S oracle a w) (λ v w. as_reached (on_single v (λ x w. value_answered (coerce_net x (cast_type c)) w) w))
      ∙ ap (λ k. then (value_of S oracle a w) k) (λ i v w. row_read (λ x. coerce_net x (cast_type c)) v w i)

  pub unary_gives : (o : NetUn) (a : Exp) (w : Memory) → value_of S oracle (net.unary o a) w ≡ then (value_of S oracle a w) (on_value (λ x. operate_net (Un o) x x))
  unary_gives o a w =
      value_behind (value_of S oracle a w) (λ v w. as_reached (on_single v (λ x w. value_answered (operate_net (Un o) x x) w) w))
      ∙ ap (λ k. then (value_of S oracle a w) k) (λ i v w. row_read (λ x. operate_net (Un o) x x) v w i)

  second_gives : (row : ValueN → ValueN → Answer ValueN) (u : Value) (b : Exp) (w : Memory)
      → value_from S oracle (then (value_of S oracle b w) (λ v w. as_reached (on_single u (λ x w. on_single v (λ y w. value_answered (row x y) w) w) w)))
      ≡ then (value_of S oracle b w) (on_values row u)
  second_gives row u b w =
      value_behind (value_of S oracle b w) (λ v w. as_reached (on_single u (λ x w. on_single v (λ y w. value_answered (row x y) w) w) w))
      ∙ ap (λ k. then (value_of S oracle b w) k) (λ i v w. pair_read row u v w i)

  -- the operands from the left, and then the row
  pub binary_gives : (o : NetBin) (a b : Exp) (w : Memory) → value_of S oracle (net.binary o a b) w
      ≡ then (value_of S oracle a w) (λ u w. then (value_of S oracle b w) (on_values (operate_net (Bin o)) u))
  binary_gives o a b w =
      value_behind (value_of S oracle a w) (λ u w. then (value_of S oracle b w) (λ v w. as_reached (on_single u (λ x w. on_single v (λ y w. value_answered (operate_net (Bin o) x y) w) w) w)))
      ∙ ap (λ k. then (value_of S oracle a w) k) (λ i u w. second_gives (operate_net (Bin o)) u b w i)
