-- How computations compose.
use Rattle.std.proofs.Common.{◌≡◌, List, [], ◌++◌, refl, sym, ap, ◌∙◌, append_assoc}
use Rattle.std.proofs.lemmas.List.{append-nil}
use Rattle.vb6_meaning.specs.Answers.{Answer, then_answer}
use Rattle.vb6_meaning.specs.Answers as value
use Rattle.net_meaning.specs.declared.value.ValueN.{ValueN}
use Rattle.run_base.specs.Outcomes.{Output, Outcome, gives, raises, spent, outside, after, then}
use Rattle.net_run.specs.Values.{Value, single}
use Rattle.net_run.specs.Store.{Memory, Does}
use Rattle.row_laws.specs.Follows.{answers, on_value, Any, Follows}

pub after_nil : {M A : Type 0} (r : Outcome M A) → after [] r ≡ r
after_nil (gives p a w) = refl
after_nil (raises p e w) = refl
after_nil (spent p w) = refl
after_nil (outside p) = refl

pub after_after : {M A : Type 0} (o p : List Output) (r : Outcome M A) → after o (after p r) ≡ after (o ++ p) r
after_after o p (gives q a w) = ap (λ x. gives x a w) (sym (append_assoc o p q))
after_after o p (raises q e w) = ap (λ x. raises x e w) (sym (append_assoc o p q))
after_after o p (spent q w) = ap (λ x. spent x w) (sym (append_assoc o p q))
after_after o p (outside q) = ap (λ x. outside x) (sym (append_assoc o p q))

pub then_after : {M A B : Type 0} (o : List Output) (r : Outcome M A) (k : A → M → Outcome M B) → then (after o r) k ≡ after o (then r k)
then_after o (gives p a w) k = sym (after_after o p (k a w))
then_after o (raises p e w) k = refl
then_after o (spent p w) k = refl
then_after o (outside p) k = refl

pub then_assoc : {M A B C : Type 0} (r : Outcome M A) (k : A → M → Outcome M B) (j : B → M → Outcome M C) → then (then r k) j ≡ then r (λ a w. then (k a w) j)
then_assoc (gives o a w) k j = then_after o (k a w) j
then_assoc (raises o e w) k j = refl
then_assoc (spent o w) k j = refl
then_assoc (outside o) k j = refl

-- the value as it stands
pub then_gives : {M A : Type 0} (r : Outcome M A) → then r (λ x w. gives [] x w) ≡ r
then_gives (gives o a w) = ap (λ q. gives q a w) (append-nil o)
then_gives (raises o e w) = refl
then_gives (spent o w) = refl
then_gives (outside o) = refl

-- a computation behind the single value of an answer
pub behind_answer : (a : Answer ValueN) (k : Value → Does Value) (f : ValueN → Answer ValueN) → ((x : ValueN) (w : Memory) → k (single x) w ≡ answers (f x) w) → (w : Memory) → then (answers a w) k ≡ answers (then_answer a f) w
behind_answer (value.gives x) k f h w = after_nil (k (single x) w) ∙ h x w
behind_answer (value.raises n) k f h w = refl
behind_answer value.outside k f h w = refl

-- ---- what follows

-- the same computation
pub restated : {P : ValueN → Type 0} {whole other first : Does Value} {go : ValueN → Does Value} → ((w : Memory) → whole w ≡ other w) → Follows P other first go → Follows P whole first go
restated e h = record { behind = h.behind; is = λ w. e w ∙ h.is w; on_single = h.on_single }

-- what does the same on single values
pub goes_as : {P : ValueN → Type 0} {whole first : Does Value} {go other : ValueN → Does Value} → ((x : ValueN) (w : Memory) → go x w ≡ other x w) → Follows P whole first go → Follows P whole first other
goes_as e h = record { behind = h.behind; is = h.is; on_single = λ x w p. h.on_single x w p ∙ e x w }

-- a row on a value
pub by_row : (whole first : Does Value) (row : ValueN → Answer ValueN) → ((w : Memory) → whole w ≡ then (first w) (on_value row)) → Follows Any whole first (λ x. answers (row x))
by_row whole first row e = record { behind = on_value row; is = e; on_single = λ x w p. refl }

-- the value as it stands
pub as_it_stands : (first : Does Value) → Follows Any first first (λ x. answers (value.gives x))
as_it_stands first = record { behind = λ v w. gives [] v w; is = λ w. sym (then_gives (first w)); on_single = λ x w p. refl }

-- one row behind another
pub composed : {P : ValueN → Type 0} {whole first : Does Value} (row : ValueN → Answer ValueN) → Follows P whole first (λ x. answers (row x))
    → (k : Value → Does Value) (f : ValueN → Answer ValueN) → ((x : ValueN) (w : Memory) → k (single x) w ≡ answers (f x) w)
    → Follows P (λ w. then (whole w) k) first (λ x. answers (then_answer (row x) f))
composed {P} {whole} {first} row h k f e = record {
  behind = λ v w. then (h.behind v w) k;
  is = λ w. ap (λ z. then z k) (h.is w) ∙ then_assoc (first w) h.behind k;
  on_single = λ x w p. ap (λ z. then z k) (h.on_single x w p) ∙ behind_answer (row x) k f e w;
}
