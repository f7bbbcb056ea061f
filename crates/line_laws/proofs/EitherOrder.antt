-- The source evaluates a value and then the target that takes it, what is written the target and then the value: they do the same where one of
-- the two is known, whichever is evaluated first.
use Rattle.std.proofs.Common.{◌≡◌, sym, subst, []}
use Rattle.run_base.specs.Outcomes.{Outcome, gives, then}
use Rattle.vb6_run.specs.Store.{Memory}
use Rattle.vb6_run.specs.Values.{Value}
use Rattle.net_run.specs.Names.{Reached}
use Rattle.net_run.specs.Store as net
use Rattle.net_run.specs.Values as net_value
use Rattle.run_matches.specs.Agreeing.{Agrees, world_of}
use Rattle.run_matches.specs.Maps.{Map, World}
use Rattle.run_matches.specs.Match.{MemoryMatch}
use Rattle.run_matches.specs.Pledges.{Later, Pledge}
use Rattle.run_matches.specs.Upgrades.{Upgrade}
use Rattle.run_statements.specs.Frames.{AnyUnits}
use Rattle.agreeing_laws.proofs.Agreeing.{given_agrees, left_alone, then_agrees}

-- P is what the parts of the target are at a world, and V what values are that were evaluated from one world to another
module _ (U : Upgrade) (K : Pledge) (w : World) (h : MemoryMatch U w) (A : Type 0) (value : Memory → Outcome Memory Value)
    (written : net.Memory → Outcome net.Memory net_value.Value) (parts : Memory → Outcome Memory A) (reached : net.Memory → Outcome net.Memory Reached)
    (lets : Value → Memory → Outcome Memory Unit) (assigns : Reached → net_value.Value → net.Memory → Outcome net.Memory Unit)
    (P : World → A → Reached → Type 0) (V : World → World → Value → net_value.Value → Type 0)
    (values : (u : World) → Later U K w u → Agrees U K u (V u) (value u.src) (written u.net)) where
  abbrev rest : Reached → net.Memory → Outcome net.Memory Unit
  rest r t = then (written t) (λ y t. assigns r y t)

  abbrev pub SameEnd : Type 0
  SameEnd = Agrees U K w AnyUnits (then (value w.src) lets) (then (reached w.net) rest)

  -- the value is x, now and behind the parts
  pub value_first : (x : Value) (stores : A → Memory → Outcome Memory Unit) → value w.src ≡ gives [] x w.src
      → ((s : Memory) → lets x s ≡ then (parts s) stores)
      → Agrees U K w (λ u a r. P u a r × (value u.src ≡ gives [] x u.src)) (parts w.src) (reached w.net)
      → ((u v : World) (a : A) (r : Reached) (y : net_value.Value) → P u a r → Later U K u v → V u v x y
      → Agrees U K v AnyUnits (stores a v.src) (assigns r y v.net))
      → SameEnd
  value_first x stores now are agree stored =
      subst (λ i. Agrees U K w AnyUnits (then i lets) (then (reached w.net) rest)) (sym now)
      (left_alone U K w AnyUnits (lets x w.src) (then (reached w.net) rest)
      (subst (λ i. Agrees U K w AnyUnits i (then (reached w.net) rest)) (sym (are w.src))
      (then_agrees U K w (λ u a r. P u a r × (value u.src ≡ gives [] x u.src)) AnyUnits (parts w.src) (reached w.net) stores rest h agree
      (λ a r u m lat.
      given_agrees U K u (V u) AnyUnits x u.src (written u.net) (λ i s. stores a s) (λ y t. assigns r y t) lat.match
      (subst (λ i. Agrees U K u (V u) i (written u.net)) m.1 (values u lat))
      (λ y q t v more. stored u (world_of q u.src t) a r y m.0 more v)))))

  -- the parts are a, now and behind the value
  pub parts_first : (a : A) → parts w.src ≡ gives [] a w.src → Agrees U K w P (parts w.src) (reached w.net)
      → ((q : Map) (t : net.Memory) (r : Reached) (v : World) (x : Value) (y : net_value.Value) → P (world_of q w.src t) a r
      → Later U K w (world_of q w.src t) → V (world_of q w.src t) v x y → Later U K (world_of q w.src t) v
      → Agrees U K v AnyUnits (lets x v.src) (assigns r y v.net))
      → SameEnd
  parts_first a now agree stored =
      given_agrees U K w P AnyUnits a w.src (reached w.net) (λ i s. then (value s) lets) rest h
      (subst (λ i. Agrees U K w P i (reached w.net)) now agree)
      (λ r q t m lat.
      let u : World = world_of q w.src t in
      then_agrees U K u (V u) AnyUnits (value u.src) (written u.net) lets (λ y t. assigns r y t) lat.match (values u lat)
      (λ x y v val more. stored q t r v x y m lat val more))
