-- The plain declaration of a number.
use Rattle.std.proofs.Common.{◌≡◌, ℕ, refl, List, [], ◌∷◌, map}
use Rattle.std.specs.Prelude.{slice_get, option_map, zero, suc}
use Rattle.declared_names.specs.declared.lists.NamedProc.{NamedProc}
use Rattle.declared_names.specs.declared.lists.NamedVar.{NamedVar}
use Rattle.declared_names.specs.View.{procedure_of, variable_of}

pub variable_at : (vs : List NamedVar) (k : ℕ) → slice_get (map variable_of vs) k ≡ option_map variable_of (slice_get vs k)
variable_at [] k = refl
variable_at (v ∷ vs) zero = refl
variable_at (v ∷ vs) (suc k) = variable_at vs k

pub procedure_at : (ps : List NamedProc) (k : ℕ) → slice_get (map procedure_of ps) k ≡ option_map procedure_of (slice_get ps k)
procedure_at [] k = refl
procedure_at (p ∷ ps) zero = refl
procedure_at (p ∷ ps) (suc k) = procedure_at ps k
