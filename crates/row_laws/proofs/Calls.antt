-- The values of calls of functions of values.
use Rattle.std.proofs.Common.{◌≡◌, ℕ, true, List, [], ◌∷◌, refl, ap, ◌∙◌, false}
use Rattle.vb6_meaning.specs.Answers.{Answer, then_answer}
use Rattle.vb6_meaning.specs.Answers as value
use Rattle.net_tree.specs.Tree.{Exp, Exps, no_exps}
use Rattle.net_tree.specs.Tree as net
use Rattle.net_meaning.specs.declared.value.ValueN.{ValueN}
use Rattle.run_base.specs.Frames.{by_value}
use Rattle.run_base.specs.Outcomes.{gives, then}
use Rattle.written_trees.specs.Conversions.{one, two, three}
use Rattle.net_run.specs.Values.{Value, unknown, single, fields}
use Rattle.net_run.specs.Store.{Memory}
use Rattle.net_run.specs.Names.{Scope, Callee, called, named, at_address, starts, path_start}
use Rattle.net_run.specs.Making.{Jobs}
use Rattle.net_run.specs.Calls.{Arguments, value_answered, performed, passings_of, singles_given, on_one, on_two, on_three}
use Rattle.net_run.specs.Expressions.{finished, read, value_from, value_of, reach, started, applied, args_of, values_of, rest_passings, call_parts}
use Rattle.row_laws.specs.Follows.{answers, on_value, on_values, on_three_values}
use Rattle.row_laws.proofs.Composing.{after_nil, then_assoc}
use Rattle.row_laws.proofs.Values.{value_behind}

pub answer_taken : (a : Answer ValueN) (w : Memory) → then (value_answered a w) read ≡ answers a w
answer_taken (value.gives x) w = refl
answer_taken (value.raises n) w = refl
answer_taken value.outside w = refl

one_taken : (row : ValueN → Answer ValueN) (v : Value) (w : Memory) → then (value_answered (then_answer (singles_given (by_value v ∷ [])) (on_one row)) w) read ≡ on_value row v w
one_taken row (single x) w = answer_taken (row x) w
one_taken row unknown w = refl
one_taken row (fields vs) w = refl

two_taken : (row : ValueN → ValueN → Answer ValueN) (u v : Value) (w : Memory) → then (value_answered (then_answer (singles_given (by_value u ∷ by_value v ∷ [])) (on_two row)) w) read ≡ on_values row u v w
two_taken row (single x) (single y) w = answer_taken (row x y) w
two_taken row (single x) unknown w = refl
two_taken row (single x) (fields vs) w = refl
two_taken row unknown v w = refl
two_taken row (fields us) v w = refl

first_of_two : (row : ValueN → ValueN → Answer ValueN) (more : ValueN → ValueN → ValueN → Answer ValueN) (u v : Value) (w : Memory) → then (value_answered (then_answer (singles_given (by_value u ∷ by_value v ∷ [])) (on_three row more)) w) read ≡ on_values row u v w
first_of_two row more (single x) (single y) w = answer_taken (row x y) w
first_of_two row more (single x) unknown w = refl
first_of_two row more (single x) (fields vs) w = refl
first_of_two row more unknown v w = refl
first_of_two row more (fields us) v w = refl

three_taken : (row : ValueN → ValueN → Answer ValueN) (more : ValueN → ValueN → ValueN → Answer ValueN) (t u v : Value) (w : Memory) → then (value_answered (then_answer (singles_given (by_value t ∷ by_value u ∷ by_value v ∷ [])) (on_three row more)) w) read ≡ on_three_values more t u v w
three_taken row more (single x) (single y) (single z) w = answer_taken (more x y z) w
three_taken row more (single x) (single y) unknown w = refl
three_taken row more (single x) (single y) (fields vs) w = refl
three_taken row more (single x) unknown v w = refl
three_taken row more (single x) (fields us) v w = refl
three_taken row more unknown u v w = refl
three_taken row more (fields ts) u v w = refl

module _ (S : Scope) (oracle : Jobs) where
  -- ---- arguments that are values

  pub one_given : (a : Exp) (w : Memory) → args_of S oracle [] (one a) w ≡ then (value_of S oracle a w) (λ v w. gives [] (by_value v ∷ []) w)
  one_given a w = then_assoc (value_of S oracle a w) (λ v w. gives [] (by_value v) w) (λ g w. then (args_of S oracle (rest_passings []) no_exps w) (λ gs w. gives [] (g ∷ gs) w))

  two_given : (a b : Exp) (w : Memory) → args_of S oracle [] (two a b) w ≡ then (value_of S oracle a w) (λ u w. then (value_of S oracle b w) (λ v w. gives [] (by_value u ∷ by_value v ∷ []) w))
  two_given a b w =
      then_assoc (value_of S oracle a w) (λ v w. gives [] (by_value v) w) (λ g w. then (args_of S oracle (rest_passings []) (one b) w) (λ gs w. gives [] (g ∷ gs) w))
      ∙ ap (λ k. then (value_of S oracle a w) k) (λ i u w. behind u w i)
    where
      behind : (u : Value) (w : Memory) → then (gives [] (by_value u) w) (λ g w. then (args_of S oracle (rest_passings []) (one b) w) (λ gs w. gives [] (g ∷ gs) w)) ≡ then (value_of S oracle b w) (λ v w. gives [] (by_value u ∷ by_value v ∷ []) w)
      behind u w =
          after_nil (then (args_of S oracle [] (one b) w) (λ gs w. gives [] (by_value u ∷ gs) w))
          ∙ ap (λ z. then z (λ gs w. gives [] (by_value u ∷ gs) w)) (one_given b w)
          ∙ then_assoc (value_of S oracle b w) (λ v w. gives [] (by_value v ∷ []) w) (λ gs w. gives [] (by_value u ∷ gs) w)

  three_given : (a b c : Exp) (w : Memory) → args_of S oracle [] (three a b c) w
      ≡ then (value_of S oracle a w) (λ t w. then (value_of S oracle b w) (λ u w. then (value_of S oracle c w) (λ v w. gives [] (by_value t ∷ by_value u ∷ by_value v ∷ []) w)))
  three_given a b c w =
      then_assoc (value_of S oracle a w) (λ v w. gives [] (by_value v) w) (λ g w. then (args_of S oracle (rest_passings []) (two b c) w) (λ gs w. gives [] (g ∷ gs) w))
      ∙ ap (λ k. then (value_of S oracle a w) k) (λ i t w. behind t w i)
    where
      behind : (t : Value) (w : Memory) → then (gives [] (by_value t) w) (λ g w. then (args_of S oracle (rest_passings []) (two b c) w) (λ gs w. gives [] (g ∷ gs) w))
          ≡ then (value_of S oracle b w) (λ u w. then (value_of S oracle c w) (λ v w. gives [] (by_value t ∷ by_value u ∷ by_value v ∷ []) w))
      behind t w =
          after_nil (then (args_of S oracle [] (two b c) w) (λ gs w. gives [] (by_value t ∷ gs) w))
          ∙ ap (λ z. then z (λ gs w. gives [] (by_value t ∷ gs) w)) (two_given b c w)
          ∙ then_assoc (value_of S oracle b w) (λ u w. then (value_of S oracle c w) (λ v w. gives [] (by_value u ∷ by_value v ∷ []) w)) (λ gs w. gives [] (by_value t ∷ gs) w)
          ∙ ap (λ k. then (value_of S oracle b w) k) (λ i u w. then_assoc (value_of S oracle c w) (λ v w. gives [] (by_value u ∷ by_value v ∷ []) w) (λ gs w. gives [] (by_value t ∷ gs) w) i)

  -- ---- a call of a path that means a callee, whose arguments are values
  module _ (callee : Callee) (names : List (List ℕ)) (start : path_start S true names ≡ starts (named callee) []) (values : passings_of S.project callee ≡ []) where
    pub call_reached : (args : Exps) (w : Memory) → reach S oracle false (net.call_of (net.path names) args) w ≡ then (args_of S oracle [] args w) (λ gs w. gives [] (called callee gs) w)
    call_reached args w =
        ap (λ s. then (started S oracle s w) (applied S oracle (λ modes w. args_of S oracle modes args w) (λ w. values_of S oracle args w))) start
        ∙ after_nil (then (args_of S oracle (passings_of S.project callee) args w) (λ gs w. gives [] (called callee gs) w))
        ∙ ap (λ modes. then (args_of S oracle modes args w) (λ gs w. gives [] (called callee gs) w)) values

    called_value : (gs : Arguments) (w : Memory) → value_from S oracle (gives [] (called callee gs) w) ≡ then (performed S oracle callee gs w) read
    called_value gs w =
        ap (λ z. then (then z finished) read) (after_nil (call_parts S oracle callee gs w))
        ∙ ap (λ z. then z read) (then_assoc (performed S oracle callee gs w) (λ a w. gives [] (at_address a) w) finished)
        ∙ then_assoc (performed S oracle callee gs w) (λ a w. then (gives [] (at_address a) w) finished) read

    pub call_gives : (args : Exps) (w : Memory) → value_of S oracle (net.call_of (net.path names) args) w ≡ then (args_of S oracle [] args w) (λ gs w. then (performed S oracle callee gs w) read)
    call_gives args w =
        ap (value_from S oracle) (call_reached args w)
        ∙ value_behind S oracle (args_of S oracle [] args w) (λ gs w. gives [] (called callee gs) w)
        ∙ ap (λ k. then (args_of S oracle [] args w) k) (λ i gs w. called_value gs w i)

    pub one_gives : (row : ValueN → Answer ValueN) → ((gs : Arguments) (w : Memory) → performed S oracle callee gs w ≡ value_answered (then_answer (singles_given gs) (on_one row)) w)
        → (a : Exp) (w : Memory) → value_of S oracle (net.call_of (net.path names) (one a)) w ≡ then (value_of S oracle a w) (on_value row)
    one_gives row does a w =
        call_gives (one a) w
        ∙ ap (λ z. then z (λ gs w. then (performed S oracle callee gs w) read)) (one_given a w)
        ∙ then_assoc (value_of S oracle a w) (λ v w. gives [] (by_value v ∷ []) w) (λ gs w. then (performed S oracle callee gs w) read)
        ∙ ap (λ k. then (value_of S oracle a w) k) (λ i v w. step v w i)
      where
        step : (v : Value) (w : Memory) → then (gives [] (by_value v ∷ []) w) (λ gs w. then (performed S oracle callee gs w) read) ≡ on_value row v w
        step v w = after_nil (then (performed S oracle callee (by_value v ∷ []) w) read) ∙ ap (λ z. then z read) (does (by_value v ∷ []) w) ∙ one_taken row v w

    two_behind : (row : ValueN → ValueN → Answer ValueN) → ((u v : Value) (w : Memory) → then (performed S oracle callee (by_value u ∷ by_value v ∷ []) w) read ≡ on_values row u v w)
        → (a b : Exp) (w : Memory) → value_of S oracle (net.call_of (net.path names) (two a b)) w ≡ then (value_of S oracle a w) (λ u w. then (value_of S oracle b w) (on_values row u))
    two_behind row does a b w =
        call_gives (two a b) w
        ∙ ap (λ z. then z (λ gs w. then (performed S oracle callee gs w) read)) (two_given a b w)
        ∙ then_assoc (value_of S oracle a w) (λ u w. then (value_of S oracle b w) (λ v w. gives [] (by_value u ∷ by_value v ∷ []) w)) (λ gs w. then (performed S oracle callee gs w) read)
        ∙ ap (λ k. then (value_of S oracle a w) k) (λ i u w. second u w i)
      where
        step : (u v : Value) (w : Memory) → then (gives [] (by_value u ∷ by_value v ∷ []) w) (λ gs w. then (performed S oracle callee gs w) read) ≡ on_values row u v w
        step u v w = after_nil (then (performed S oracle callee (by_value u ∷ by_value v ∷ []) w) read) ∙ does u v w

        second : (u : Value) (w : Memory) → then (then (value_of S oracle b w) (λ v w. gives [] (by_value u ∷ by_value v ∷ []) w)) (λ gs w. then (performed S oracle callee gs w) read) ≡ then (value_of S oracle b w) (on_values row u)
        second u w =
            then_assoc (value_of S oracle b w) (λ v w. gives [] (by_value u ∷ by_value v ∷ []) w) (λ gs w. then (performed S oracle callee gs w) read)
            ∙ ap (λ k. then (value_of S oracle b w) k) (λ i v w. step u v w i)

    pub two_gives : (row : ValueN → ValueN → Answer ValueN) → ((gs : Arguments) (w : Memory) → performed S oracle callee gs w ≡ value_answered (then_answer (singles_given gs) (on_two row)) w)
        → (a b : Exp) (w : Memory) → value_of S oracle (net.call_of (net.path names) (two a b)) w ≡ then (value_of S oracle a w) (λ u w. then (value_of S oracle b w) (on_values row u))
    two_gives row does a b w = two_behind row (λ u v w. ap (λ z. then z read) (does (by_value u ∷ by_value v ∷ []) w) ∙ two_taken row u v w) a b w

    pub first_two_give : (row : ValueN → ValueN → Answer ValueN) (more : ValueN → ValueN → ValueN → Answer ValueN)
        → ((gs : Arguments) (w : Memory) → performed S oracle callee gs w ≡ value_answered (then_answer (singles_given gs) (on_three row more)) w)
        → (a b : Exp) (w : Memory) → value_of S oracle (net.call_of (net.path names) (two a b)) w ≡ then (value_of S oracle a w) (λ u w. then (value_of S oracle b w) (on_values row u))
    first_two_give row more does a b w = two_behind row (λ u v w. ap (λ z. then z read) (does (by_value u ∷ by_value v ∷ []) w) ∙ first_of_two row more u v w) a b w

    pub three_give : (row : ValueN → ValueN → Answer ValueN) (more : ValueN → ValueN → ValueN → Answer ValueN)
        → ((gs : Arguments) (w : Memory) → performed S oracle callee gs w ≡ value_answered (then_answer (singles_given gs) (on_three row more)) w)
        → (a b c : Exp) (w : Memory) → value_of S oracle (net.call_of (net.path names) (three a b c)) w
        ≡ then (value_of S oracle a w) (λ t w. then (value_of S oracle b w) (λ u w. then (value_of S oracle c w) (on_three_values more t u)))
    three_give row more does a b c w =
        call_gives (three a b c) w
        ∙ ap (λ z. then z (λ gs w. then (performed S oracle callee gs w) read)) (three_given a b c w)
        ∙ then_assoc (value_of S oracle a w) (λ t w. then (value_of S oracle b w) (λ u w. then (value_of S oracle c w) (λ v w. gives [] (by_value t ∷ by_value u ∷ by_value v ∷ []) w))) (λ gs w. then (performed S oracle callee gs w) read)
        ∙ ap (λ k. then (value_of S oracle a w) k) (λ i t w. second t w i)
      where
        step : (t u v : Value) (w : Memory) → then (gives [] (by_value t ∷ by_value u ∷ by_value v ∷ []) w) (λ gs w. then (performed S oracle callee gs w) read) ≡ on_three_values more t u v w
        step t u v w =
            after_nil (then (performed S oracle callee (by_value t ∷ by_value u ∷ by_value v ∷ []) w) read)
            ∙ ap (λ z. then z read) (does (by_value t ∷ by_value u ∷ by_value v ∷ []) w)
            ∙ three_taken row more t u v w

        third : (t u : Value) (w : Memory) → then (then (value_of S oracle c w) (λ v w. gives [] (by_value t ∷ by_value u ∷ by_value v ∷ []) w)) (λ gs w. then (performed S oracle callee gs w) read) ≡ then (value_of S oracle c w) (on_three_values more t u)
        third t u w =
            then_assoc (value_of S oracle c w) (λ v w. gives [] (by_value t ∷ by_value u ∷ by_value v ∷ []) w) (λ gs w. then (performed S oracle callee gs w) read)
            ∙ ap (λ k. then (value_of S oracle c w) k) (λ i v w. step t u v w i)

        second : (t : Value) (w : Memory) → then (then (value_of S oracle b w) (λ u w. then (value_of S oracle c w) (λ v w. gives [] (by_value t ∷ by_value u ∷ by_value v ∷ []) w))) (λ gs w. then (performed S oracle callee gs w) read)
            ≡ then (value_of S oracle b w) (λ u w. then (value_of S oracle c w) (on_three_values more t u))
        second t w =
            then_assoc (value_of S oracle b w) (λ u w. then (value_of S oracle c w) (λ v w. gives [] (by_value t ∷ by_value u ∷ by_value v ∷ []) w)) (λ gs w. then (performed S oracle callee gs w) read)
            ∙ ap (λ k. then (value_of S oracle b w) k) (λ i u w. third t u w i)
