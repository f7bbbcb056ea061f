-- Quiet parameters, by the number of their procedure and their place among its parameters.
use Rattle.std.specs.Prelude.{◌≡◌, ℕ, Option, List, option_map, slice_get}
use Rattle.vb_tree.specs.declared.declared.VarId.{VarId}
use Rattle.bound_tree.specs.declared.facts.RefFacts.{RefFacts}
use Rattle.bound_tree.specs.Tree.{Procedure, Program}
use Rattle.bound_facts.specs.Effects.{params_at}
use Rattle.bound_facts.specs.Facts.{Known, is_quiet, some_is}
use Rattle.fixed_strings.specs.Given.{is_quiet_at}

-- the variable that is the parameter at a place of a procedure
abbrev pub param_at : List Procedure → (procedure place : ℕ) → Option ℕ
param_at procs p i = option_map (λ (w : VarId). w.0) (slice_get (params_at (slice_get procs p)) i)

-- the flag that the rule on fixed strings reads says whether that variable is a quiet parameter, and false where there is none
abbrev pub IsQuietRead : Program → Known → RefFacts → Type 0
IsQuietRead P F f = (p i : ℕ) → is_quiet_at f.quiet p i ≡ some_is (is_quiet P.declarations F) (param_at P.declarations.procs p i)
