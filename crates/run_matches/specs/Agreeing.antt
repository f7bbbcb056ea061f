-- When two computations agree.
use Rattle.std.specs.Prelude.{◌≡◌, ℕ, ◌<◌, List, ◌++◌, Option, Some, None}
use Rattle.run_base.specs.Outcomes.{Output, Outcome, gives, raises, spent, outside, outputs}
use Rattle.vb6_run.specs.Store.{Memory}
use Rattle.vb6_run.specs.Values.{Value, scalar, fields, elements}
use Rattle.net_run.specs.Store as net
use Rattle.net_run.specs.Values as net_value
use Rattle.std.specs.List.{AllPairs, Contains}
use Rattle.run_matches.specs.Upgrades.{Upgrade}
use Rattle.run_matches.specs.Maps.{Map, World}
use Rattle.run_matches.specs.Likeness.{LikeV}
use Rattle.run_matches.specs.Match.{IsLoose}
use Rattle.run_matches.specs.Pledges.{Pledge, Later, arrays_in}
use Rattle.run_matches.specs.Kinds.{IsValueOf}
use Rattle.vb6_run.specs.Shapes.{user_shapes}

abbrev pub world_of : Map → Memory → net.Memory → World
world_of m s t = record { map = m; src = s; net = t }

-- From the memories w0 on, the written program ends as the source's does, with the same outputs, and under a map that was extended what is
-- given is in R and the memories match. Where the source's meaning ends as outside, what it put out before that is put out.
abbrev pub Agrees : {A B : Type 0} → Upgrade → Pledge → World → (World → A → B → Type 0) → Outcome Memory A → Outcome net.Memory B → Type 0
Agrees U K w0 R (gives o a s) (gives q b t) = (q ≡ o) × (m : Map) × R (world_of m s t) a b × Later U K w0 (world_of m s t)
Agrees U K w0 R (raises o e s) (raises q d t) = (q ≡ o) × (d ≡ e) × (m : Map) × Later U K w0 (world_of m s t)
Agrees U K w0 R (spent o s) (spent q t) = (q ≡ o) × (m : Map) × Later U K w0 (world_of m s t)
Agrees U K w0 R (outside o) r = (rest : List Output) × (outputs r ≡ o ++ rest)
Agrees U K w0 R _ _ = ⊥

-- ---- results

-- a user type has a value for each of its fields
abbrev pub HasAllFields : Upgrade → Value → Type 0
HasAllFields U (scalar ty x) = Unit {0}
HasAllFields U (fields t xs) = IsValueOf (user_shapes U.program.declarations t) (fields t xs)
HasAllFields U (elements e dims xs) = Unit {0}

-- a value on its way: each array in it occurs once, in no position that is compared
pub record SentMatch (U : Upgrade) (w : World) (x : Value) (y : net_value.Value) : Type 0 where
  pub like : LikeV U w x y
  pub whole : HasAllFields U x
  pub loose : (k : ℕ) → Contains (arrays_in y) k → (k < w.net.next_array) × IsLoose U w k
  pub once : AllPairs (λ j k. j ≡ k → ⊥) (arrays_in y)

-- a Sub gives nothing
abbrev pub ResultMatch : Upgrade → World → Option Value → Option net_value.Value → Type 0
ResultMatch U w None None = Unit {0}
ResultMatch U w None (Some y) = ⊥
ResultMatch U w (Some x) None = ⊥
ResultMatch U w (Some x) (Some y) = SentMatch U w x y
