-- What the rules on references ask of a project, as tests that it determines.
use Rattle.std.specs.Prelude.{◌≡◌, ◌↔◌, IsTrue, ℕ, ◌&&◌, nat_lt}
use Rattle.bound_tree.specs.Tree.{Program}
use Rattle.bound_facts.specs.Calls.{count_procedures, count_variables}
use Rattle.bound_facts.specs.Effects.{touched}
use Rattle.bound_facts.specs.Facts.{Known, ReachesOutward}
use Rattle.bound_facts.specs.Leading.{is_in}
use Rattle.bound_facts.specs.SelfMade.{unplain}

-- the facts of a project, but those of arrays, which are asked nowhere here
pub record Tells (P : Program) (F : Known) : Type 0 where
  pub outward_are : (p : ℕ) → IsTrue (F.outward p) ↔ ReachesOutward P p
  pub touched_are : (v : ℕ) → F.touched v ≡ (nat_lt v (count_variables P) && is_in (touched P) v)
  pub unplain_are : (p : ℕ) → F.unplain p ≡ (nat_lt p (count_procedures P) && is_in (unplain P) p)
