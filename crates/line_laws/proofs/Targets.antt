-- A value is evaluated and then stored at a place. The source looks for the place behind the value, what is written before it.
use Rattle.std.proofs.Common.{◌≡◌, ◌∙◌, sym, ap, subst, true, false, []}
use Rattle.bound_tree.specs.Tree.{Expr}
use Rattle.run_base.specs.Outcomes.{Outcome, gives, outside, after, then}
use Rattle.written_trees.specs.Exprs.{exp_of}
use Rattle.written_trees.specs.Names.{Scope}
use Rattle.vb6_run.specs.Expressions as source
use Rattle.vb6_run.specs.Lines.{keeps_lows, let_to, store_at}
use Rattle.vb6_run.specs.Store.{Address, Memory, provided, write}
use Rattle.vb6_run.specs.Values.{Value}
use Rattle.net_run.specs.Expressions as target
use Rattle.net_run.specs.Lines.{assigned, assignment}
use Rattle.net_run.specs.Making.{Jobs}
use Rattle.net_run.specs.Names as net_names
use Rattle.net_run.specs.Names.{Reached, at_place}
use Rattle.net_run.specs.Store as net_store
use Rattle.net_run.specs.Values as net_value
use Rattle.run_matches.specs.Addresses.{IsTarget, Same}
use Rattle.run_matches.specs.Agreeing.{Agrees}
use Rattle.run_matches.specs.Maps.{World}
use Rattle.run_matches.specs.Match.{MemoryMatch}
use Rattle.run_matches.specs.Pledges.{Later, Pledge}
use Rattle.run_matches.specs.Upgrades.{Upgrade}
use Rattle.run_statements.specs.Frames.{AnyUnits, MayChange}
use Rattle.agreeing_laws.proofs.Agreeing.{agrees_outside, left_alone, right_alone, then_agrees}
use Rattle.agreeing_laws.proofs.Moves.{address_later}

-- What is stored to leads to a place on both sides, whatever is done before it, and the place may change.
pub record Target (U : Upgrade) (K : Pledge) (w : World) (C : source.Context) (S : net_names.Scope) (T : Scope) (oracle : Jobs) (to : Expr) (a : Address) (b : net_store.Address) : Type 0 where
  pub lets : (x : Value) (s : Memory) → let_to C to x s ≡ then (source.address_of C to s) (store_at C to x)
  pub found : (s : Memory) → source.address_of C to s ≡ gives [] a s
  pub leads : (t : net_store.Memory) → target.reach S oracle false (exp_of T to) t ≡ gives [] (at_place b) t
  pub same : Same U K w a b
  pub target : IsTarget U a
  pub change : MayChange K a

-- an assignment and what is written for it do the same
abbrev pub SameStore : Upgrade → Pledge → World → source.Context → net_names.Scope → Scope → Jobs → (to value : Expr) → Type 0
SameStore U K w C S T oracle to e =
    Agrees U K w AnyUnits (then (source.value_of C e w.src) (let_to C to)) (assignment S oracle (exp_of T to) (exp_of T e) w.net)

module _ (U : Upgrade) (K : Pledge) (w : World) (h : MemoryMatch U w) (C : source.Context) (S : net_names.Scope) (T : Scope) (oracle : Jobs) (to : Expr)
    (a : Address) (b : net_store.Address) (at : Target U K w C S T oracle to a b) (e : Expr) (R : World → Value → net_value.Value → Type 0)
    (values : Agrees U K w R (source.value_of C e w.src) (target.value_of S oracle (exp_of T e) w.net))
    (keeps : (w1 : World) (x : Value) (y : net_value.Value) → R w1 x y → keeps_lows C to x ≡ true)
    (writes : (w1 : World) (x : Value) (y : net_value.Value) → MemoryMatch U w1 → Same U K w1 a b → R w1 x y
    → Agrees U K w1 AnyUnits (write C.frame.env x a w1.src) (net_store.written b y w1.net)) where
  behind_value : (x : Value) (y : net_value.Value) (w1 : World) → R w1 x y → Later U K w w1
      → Agrees U K w1 AnyUnits (let_to C to x w1.src) (assigned S oracle (at_place b) y w1.net)
  behind_value x y w1 m later =
      let writes_x : Outcome Memory Unit = write C.frame.env x a w1.src in
      let writes_y : Outcome net_store.Memory Unit = net_store.written b y w1.net in
      subst (λ r. Agrees U K w1 AnyUnits r (assigned S oracle (at_place b) y w1.net))
      (sym (at.lets x w1.src ∙ ap (λ r. then r (store_at C to x)) (at.found w1.src)
      ∙ ap (λ t. after [] (provided t (write C.frame.env x a) w1.src)) (keeps w1 x y m)))
      (left_alone U K w1 AnyUnits writes_x (assigned S oracle (at_place b) y w1.net)
      (right_alone U K w1 AnyUnits writes_x writes_y (writes w1 x y later.match (address_later U K w w1 a b later at.same) m)))

  pub target_stored : SameStore U K w C S T oracle to e
  target_stored =
      let stores : Outcome Memory Unit = then (source.value_of C e w.src) (let_to C to) in
      let rest : Reached → net_store.Memory → Outcome net_store.Memory Unit =
      λ r t. then (target.value_of S oracle (exp_of T e) t) (λ y t. assigned S oracle r y t) in
      subst (λ z. Agrees U K w AnyUnits stores (then z rest)) (sym (at.leads w.net))
      (right_alone U K w AnyUnits stores (rest (at_place b) w.net)
      (then_agrees U K w R AnyUnits (source.value_of C e w.src) (target.value_of S oracle (exp_of T e) w.net) (let_to C to)
      (λ y t. assigned S oracle (at_place b) y t) h values behind_value))

-- what the source finds nowhere, where what is written is reached
pub outside_stored : (U : Upgrade) (K : Pledge) (w : World) → MemoryMatch U w → (C : source.Context) (S : net_names.Scope) (T : Scope) (oracle : Jobs)
    (to e : Expr) (R : World → Value → net_value.Value → Type 0) → Agrees U K w R (source.value_of C e w.src) (target.value_of S oracle (exp_of T e) w.net)
    → (r : Reached) → target.reach S oracle false (exp_of T to) w.net ≡ gives [] r w.net → ((x : Value) (s : Memory) → let_to C to x s ≡ outside [])
    → SameStore U K w C S T oracle to e
outside_stored U K w h C S T oracle to e R values r reached lets =
    let stores : Outcome Memory Unit = then (source.value_of C e w.src) (let_to C to) in
    let rest : Reached → net_store.Memory → Outcome net_store.Memory Unit =
    λ r t. then (target.value_of S oracle (exp_of T e) t) (λ y t. assigned S oracle r y t) in
    subst (λ z. Agrees U K w AnyUnits stores (then z rest)) (sym reached)
    (right_alone U K w AnyUnits stores (rest r w.net)
    (then_agrees U K w R AnyUnits (source.value_of C e w.src) (target.value_of S oracle (exp_of T e) w.net) (let_to C to)
    (λ y t. assigned S oracle r y t) h values
    (λ x y w1 m later.
    subst (λ z. Agrees U K w1 AnyUnits z (assigned S oracle r y w1.net)) (sym (lets x w1.src)) (agrees_outside U K w1 AnyUnits (assigned S oracle r y w1.net)))))

-- and to which it leads whatever it holds
pub absent_stored : (U : Upgrade) (K : Pledge) (w : World) → MemoryMatch U w → (C : source.Context) (S : net_names.Scope) (T : Scope) (oracle : Jobs)
    (to e : Expr) (R : World → Value → net_value.Value → Type 0) → Agrees U K w R (source.value_of C e w.src) (target.value_of S oracle (exp_of T e) w.net)
    → (b : net_store.Address) → ((t : net_store.Memory) → target.reach S oracle false (exp_of T to) t ≡ gives [] (at_place b) t)
    → ((x : Value) (s : Memory) → let_to C to x s ≡ outside []) → SameStore U K w C S T oracle to e
absent_stored U K w h C S T oracle to e R values b leads lets = outside_stored U K w h C S T oracle to e R values (at_place b) (leads w.net) lets
