-- A Put function evaluates its value and then its element, and stores the value there.
use Rattle.std.proofs.Common.{◌≡◌, ◌∙◌, refl, sym, ap, ℕ, true, false, cond, List, [], ◌∷◌, ◌++◌, codes, Some, true≢false}
use Rattle.vb_tree.specs.BoundTree as types
use Rattle.vb_tree.specs.BoundTree.{Ty}
use Rattle.vb6_meaning.specs.Answers.{Answer}
use Rattle.vb6_meaning.specs.Answers as value
use Rattle.net_tree.specs.declared.declaration.NetPassing.TheVariants as passing
use Rattle.net_tree.specs.Tree as net
use Rattle.net_tree.specs.Types.{TypeName}
use Rattle.net_tree.specs.Types as word
use Rattle.net_meaning.specs.declared.value.ValueN.TheVariants as n
use Rattle.run_base.specs.Frames.{by_value, by_address}
use Rattle.run_base.specs.Outcomes.{Outcome, gives, outside, then, answered}
use Rattle.written_trees.specs.Conversions.{one, two, support_call}
use Rattle.written_trees.specs.Puts.{put_type}
use Rattle.net_run.specs.Calls.{Arguments, passings_of, performed, some_function, value_put}
use Rattle.net_run.specs.Expressions.{address_from, address_of, applied, args_of, call_parts, finished, given_by, parts_by, reach, referred_parts, started, value_of, values_of}
use Rattle.net_run.specs.Functions.{passing_of_some, puts, support_function}
use Rattle.net_run.specs.Making.{Jobs}
use Rattle.net_run.specs.Names.{Scope, at_address, at_element, called, to_support}
use Rattle.net_run.specs.Shapes.{Shape, is_same_shape, scalar}
use Rattle.net_run.specs.Store.{Address, Memory, item, nowhere, place_in, written}
use Rattle.net_run.specs.Values.{Value, single}
use Rattle.row_laws.specs.Uncaptured.{IsUncaptured}
use Rattle.row_laws.proofs.Composing.{after_nil, then_assoc, then_gives}
use Rattle.row_laws.proofs.Support.{support_start}
use Rattle.run_matches.specs.CoveredVariables.{covers_type}
use Rattle.run_matches.specs.Likeness.{scalar_word}

-- ---- the functions by their types

pub record PutOf (ty : Ty) : Type 0 where
  pub name : List ℕ
  pub of : TypeName
  pub is_name : put_type ty ≡ Some name
  pub is_word : scalar_word ty ≡ Some of
  pub does : support_function (codes "Put" ++ name) ≡ Some (puts of)
  pub alike : is_same_shape (scalar of) (scalar of) ≡ true

pub put_of : (ty : Ty) → covers_type ty ≡ true → PutOf ty
put_of types.boolean c = record { name = codes "Boolean"; of = word.boolean; is_name = refl; is_word = refl; does = refl; alike = refl }
put_of types.byte c = record { name = codes "Byte"; of = word.byte; is_name = refl; is_word = refl; does = refl; alike = refl }
put_of types.integer c = record { name = codes "Short"; of = word.short; is_name = refl; is_word = refl; does = refl; alike = refl }
put_of types.long c = record { name = codes "Integer"; of = word.integer; is_name = refl; is_word = refl; does = refl; alike = refl }
put_of types.currency c = record { name = codes "Decimal"; of = word.decimal; is_name = refl; is_word = refl; does = refl; alike = refl }
put_of types.str c = record { name = codes "String"; of = word.str; is_name = refl; is_word = refl; does = refl; alike = refl }
put_of _ c = absurd (true≢false (sym c))

-- ---- what a call of one does

module _ (S : Scope) (oracle : Jobs) (free : IsUncaptured S) (name : List ℕ) (of : TypeName) (is : support_function name ≡ Some (puts of)) (a t : net.Exp) where
  -- the element, whose index is checked at once
  abbrev reached : Memory → Outcome Memory Address
  reached w = then (then (reach S oracle false t w) (referred_parts S oracle)) finished

  abbrev put_by : Arguments → Memory → Outcome Memory Address
  put_by gs w = performed S oracle (to_support name) gs w

  alone : (w : Memory) → args_of S oracle (passing.Reference ∷ []) (one t) w ≡ then (reached w) (λ b w. gives [] (given_by b ∷ []) w)
  alone w = then_assoc (reached w) (λ b w. gives [] (given_by b) w) (λ g w. then (args_of S oracle [] net.no_exps w) (λ gs w. gives [] (g ∷ gs) w))

  behind : (v : Value) (w : Memory) → then (gives [] (by_value v) w) (λ g w. then (args_of S oracle (passing.Reference ∷ []) (one t) w) (λ gs w. gives [] (g ∷ gs) w))
      ≡ then (reached w) (λ b w. gives [] (by_value v ∷ given_by b ∷ []) w)
  behind v w =
      after_nil (then (args_of S oracle (passing.Reference ∷ []) (one t) w) (λ gs w. gives [] (by_value v ∷ gs) w))
      ∙ ap (λ z. then z (λ gs w. gives [] (by_value v ∷ gs) w)) (alone w)
      ∙ then_assoc (reached w) (λ b w. gives [] (given_by b ∷ []) w) (λ gs w. gives [] (by_value v ∷ gs) w)

  both : (w : Memory) → args_of S oracle (passing.Value ∷ passing.Reference ∷ []) (two a t) w
      ≡ then (value_of S oracle a w) (λ v w. then (reached w) (λ b w. gives [] (by_value v ∷ given_by b ∷ []) w))
  both w =
      then_assoc (value_of S oracle a w) (λ v w. gives [] (by_value v) w)
      (λ g w. then (args_of S oracle (passing.Reference ∷ []) (one t) w) (λ gs w. gives [] (g ∷ gs) w))
      ∙ ap (λ k. then (value_of S oracle a w) k) (λ i v w. behind v w i)

  called_address : (gs : Arguments) (w : Memory) → address_from S oracle (gives [] (called (to_support name) gs) w) ≡ put_by gs w
  called_address gs w =
      ap (λ z. then z finished) (after_nil (call_parts S oracle (to_support name) gs w))
      ∙ then_assoc (put_by gs w) (λ a w. gives [] (at_address a) w) finished
      ∙ then_gives (put_by gs w)

  put_reached : (w : Memory) → reach S oracle false (support_call name (two a t)) w
      ≡ then (args_of S oracle (passing.Value ∷ passing.Reference ∷ []) (two a t) w) (λ gs w. gives [] (called (to_support name) gs) w)
  put_reached w =
      ap (λ s. then (started S oracle s w) (applied S oracle (λ modes w. args_of S oracle modes (two a t) w) (λ w. values_of S oracle (two a t) w)))
      (support_start S oracle free name)
      ∙ after_nil (then (args_of S oracle (passings_of S.project (to_support name)) (two a t) w) (λ gs w. gives [] (called (to_support name) gs) w))
      ∙ ap (λ modes. then (args_of S oracle modes (two a t) w) (λ gs w. gives [] (called (to_support name) gs) w)) (ap passing_of_some is)

  -- the value, the element, and the store
  pub put_is : (w : Memory) → address_of S oracle (support_call name (two a t)) w
      ≡ then (value_of S oracle a w) (λ v w. then (reached w) (λ b w. value_put of (by_value v ∷ given_by b ∷ []) w))
  put_is w =
      let args = args_of S oracle (passing.Value ∷ passing.Reference ∷ []) (two a t) w in
      ap (address_from S oracle) (put_reached w)
      ∙ ap (λ z. then z finished) (then_assoc args (λ gs w. gives [] (called (to_support name) gs) w) (parts_by S oracle))
      ∙ then_assoc args (λ gs w. then (gives [] (called (to_support name) gs) w) (parts_by S oracle)) finished
      ∙ ap (λ k. then args k) (λ i gs w. called_address gs w i)
      ∙ ap (λ z. then z put_by) (both w)
      ∙ then_assoc (value_of S oracle a w) (λ v w. then (reached w) (λ b w. gives [] (by_value v ∷ given_by b ∷ []) w)) put_by
      ∙ ap (λ k. then (value_of S oracle a w) k) (λ i v w. stored v w i)
    where
      stored : (v : Value) (w : Memory) → then (then (reached w) (λ b w. gives [] (by_value v ∷ given_by b ∷ []) w)) put_by
          ≡ then (reached w) (λ b w. value_put of (by_value v ∷ given_by b ∷ []) w)
      stored v w =
          then_assoc (reached w) (λ b w. gives [] (by_value v ∷ given_by b ∷ []) w) put_by
          ∙ ap (λ k. then (reached w) k)
          (λ i b w. (after_nil (put_by (by_value v ∷ given_by b ∷ []) w)
          ∙ ap (λ f. some_function S.project oracle name (by_value v ∷ given_by b ∷ []) f w) is) i)

-- ---- the store

answered_put : (of : TypeName) (d : Shape) (k : ℕ) (v : Value) (x : Answer ℕ) (t : Memory) → is_same_shape d (scalar of) ≡ true
    → then (then (answered x t) (λ j w. gives [] (item d k j []) w)) (λ b w. value_put of (by_value v ∷ given_by b ∷ []) w)
    ≡ then (then (then (answered x t) (λ j w. gives [] (item d k j []) w)) (λ b w. written b v w)) (λ u w. gives [] nowhere w)
answered_put of d k v (value.gives j) t same =
    let stores = written (item d k j []) v t in
    after_nil (value_put of (by_value v ∷ by_address (item d k j []) ∷ []) t)
    ∙ ap (λ b. cond b (then stores (λ u w. gives [] nowhere w)) (outside [])) same
    ∙ ap (λ z. then z (λ u w. gives [] nowhere w)) (sym (after_nil stores))
answered_put of d k v (value.raises e) t same = refl
answered_put of d k v value.outside t same = refl

-- what a Put function does with an element is the check of its index and then the store
pub put_stores : (of : TypeName) (d : Shape) (k : ℕ) (ys : List Value) (v : Value) (t : Memory) → is_same_shape d (scalar of) ≡ true
    → then (finished (at_element d (single (n.Array k)) ys) t) (λ b w. value_put of (by_value v ∷ given_by b ∷ []) w)
    ≡ then (then (finished (at_element d (single (n.Array k)) ys) t) (λ b w. written b v w)) (λ u w. gives [] nowhere w)
put_stores of d k ys v t same = answered_put of d k v (place_in (t.arrays k).counts ys 0) t same
