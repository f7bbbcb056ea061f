-- A list of flags, read at a place.
use Rattle.std.proofs.Common.{◌≡◌, ℕ, zero, suc, Bool, List, [], ◌∷◌, refl, ap, ◌∙◌}
use Rattle.std.specs.Prelude.{option_map, slice_get}
use Rattle.vb_tree.specs.declared.declared.VarId.{VarId}
use Rattle.bound_tree.specs.declared.facts.RefFacts.{RefFacts}
use Rattle.bound_tree.specs.Tree.{Procedure, Program}
use Rattle.bound_facts.specs.Facts.{Known, is_quiet, some_is}
use Rattle.fixed_strings.specs.Given.{Quiet, is_quiet_at, is_set}
use Rattle.byref_analysis.specs.Quiet.{quiet_flags, quiet_params}
use Rattle.byref_analysis.specs.Rows.{AreFound}
use Rattle.analysis_laws.specs.Quiet.{IsQuietRead, param_at}

in_params : (quiet : ℕ → Bool) (params : List VarId) (i : ℕ) → is_set (slice_get (quiet_params quiet params) i) ≡ some_is quiet (option_map (λ (w : VarId). w.0) (slice_get params i))
in_params quiet [] i = refl
in_params quiet (w ∷ params) zero = refl
in_params quiet (w ∷ params) (suc i) = in_params quiet params i

in_procs : (quiet : ℕ → Bool) (procs : List Procedure) (p i : ℕ) → is_quiet_at (quiet_flags quiet procs) p i ≡ some_is quiet (param_at procs p i)
in_procs quiet [] p i = refl
in_procs quiet (q ∷ procs) zero i = in_params quiet q.params i
in_procs quiet (q ∷ procs) (suc p) i = in_procs quiet procs p i

pub quiet_read : (P : Program) (F : Known) (f : RefFacts) → AreFound P F f → IsQuietRead P F f
quiet_read P F f h p i = ap (λ (flags : Quiet). is_quiet_at flags p i) h.quiet ∙ in_procs (is_quiet P.declarations F) P.declarations.procs p i
