-- The values of rows, where their operands give single values.
use Rattle.std.proofs.Common.{◌≡◌, refl, sym, ap, ◌∙◌}
use Rattle.vb6_meaning.specs.Answers.{Answer}
use Rattle.net_tree.specs.Tree.{Exp}
use Rattle.net_meaning.specs.declared.value.ValueN.{ValueN}
use Rattle.run_base.specs.Outcomes.{Outcome, gives, raises, spent, outside, after, then, answered}
use Rattle.net_run.specs.Values.{Value, single}
use Rattle.net_run.specs.Store.{Memory, Does}
use Rattle.net_run.specs.Names.{Scope}
use Rattle.net_run.specs.Making.{Jobs}
use Rattle.net_run.specs.Expressions.{value_of}
use Rattle.row_laws.specs.Follows.{single_value, answers, singly, GivesOnly, Follows, RowOfOne, RowOfTwo, Computes}
use Rattle.row_laws.proofs.Composing.{after_nil, then_assoc}

same_behind : {A : Type 0} (P : ValueN → Type 0) (r : Outcome Memory ValueN) (k j : ValueN → Memory → Outcome Memory A) → GivesOnly P r → ((x : ValueN) (w : Memory) → P x → k x w ≡ j x w) → then r k ≡ then r j
same_behind P (gives o x w) k j p h = ap (λ z. after o z) (h x w p)
same_behind P (raises o e w) k j p h = refl
same_behind P (spent o w) k j p h = refl
same_behind P (outside o) k j p h = refl

-- what follows a computation of single values
pub follows : (P : ValueN → Type 0) (whole first : Does Value) (go : ValueN → Does Value) (r : Does ValueN) → Follows P whole first go
    → ((w : Memory) → first w ≡ singly (r w)) → ((w : Memory) → GivesOnly P (r w)) → (w : Memory) → whole w ≡ then (r w) go
follows P whole first go r h e p w =
    h.is w
    ∙ ap (λ z. then z h.behind) (e w)
    ∙ then_assoc (r w) single_value h.behind
    ∙ same_behind P (r w) (λ x w. then (single_value x w) h.behind) go (p w) (λ x w q. after_nil (h.behind (single x) w) ∙ h.on_single x w q)

module _ (S : Scope) (oracle : Jobs) where
  -- a row of one value
  pub one_computes : (P : ValueN → Type 0) (whole a : Exp) (row : ValueN → Answer ValueN) (x : Does ValueN) → RowOfOne S oracle P whole a row → Computes S oracle a x → ((w : Memory) → GivesOnly P (x w))
      → Computes S oracle whole (λ w. then (x w) (λ u w. answered (row u) w))
  one_computes P whole a row x h e p w =
      follows P (value_of S oracle whole) (value_of S oracle a) (λ u. answers (row u)) x h e p w
      ∙ sym (then_assoc (x w) (λ u w. answered (row u) w) single_value)

  -- and one of two
  pub two_compute : (P : ValueN → Type 0) (whole a c : Exp) (row : ValueN → ValueN → Answer ValueN) (x y : Does ValueN) → RowOfTwo S oracle P whole a c row
      → Computes S oracle a x → Computes S oracle c y → ((w : Memory) → GivesOnly P (x w))
      → Computes S oracle whole (λ w. then (x w) (λ u w. then (y w) (λ v w. answered (row u v) w)))
  two_compute P whole a c row x y h e f p w =
      h.is w
      ∙ ap (λ z. then z h.behind) (e w)
      ∙ then_assoc (x w) single_value h.behind
      ∙ same_behind P (x w) (λ u w. then (single_value u w) h.behind) (λ u w. then (then (y w) (λ v w. answered (row u v) w)) single_value) (p w) second
      ∙ sym (then_assoc (x w) (λ u w. then (y w) (λ v w. answered (row u v) w)) single_value)
    where
      all : (r : Outcome Memory ValueN) → GivesOnly (λ x. Unit {0}) r
      all (gives o x w) = tt
      all (raises o e w) = tt
      all (spent o w) = tt
      all (outside o) = tt

      second : (u : ValueN) (w : Memory) → P u → then (single_value u w) h.behind ≡ then (then (y w) (λ v w. answered (row u v) w)) single_value
      second u w q =
          after_nil (h.behind (single u) w)
          ∙ follows (λ x. Unit {0}) (h.behind (single u)) (value_of S oracle c) (λ v. answers (row u v)) y (h.second u q) f (λ w. all (y w)) w
          ∙ sym (then_assoc (y w) (λ v w. answered (row u v) w) single_value)
