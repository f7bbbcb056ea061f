-- Where a declaration stands, and what the expressions in it see.
use Rattle.std.specs.Prelude.{ℕ, Bool, true, false, cond, ◌&&◌, not, Option, Some, None, map, slice_get}
use Rattle.vb_tree.specs.declared.declared.Owner.{Owner}
use Rattle.vb_tree.specs.declared.declared.Owner.TheVariants as owner
use Rattle.vb_tree.specs.declared.declared.ProcId.{ProcId}
use Rattle.bound_tree.specs.declared.declared.TypeDecl.{TypeDecl}
use Rattle.bound_tree.specs.Tree.{Declarations, Procedure}
use Rattle.expression_words.specs.Meanings.{Scope, no_with}
use Rattle.declarations.specs.ModuleFacts.{facts_in, needs_declaration}

abbrev pub module_of_type : Option TypeDecl → ℕ
module_of_type None = 0
module_of_type (Some t) = t.module

abbrev pub module_of_procedure : Option Procedure → ℕ
module_of_procedure None = 0
module_of_procedure (Some p) = p.module_number

-- the file of the module in which it stands
abbrev pub file_of : Declarations → Owner → ℕ
file_of D (owner.Module file) = file
file_of D (owner.Field t) = module_of_type (slice_get D.types t.0)
file_of D (owner.Local p) = module_of_procedure (slice_get D.procs p.0)
file_of D (owner.Static p) = module_of_procedure (slice_get D.procs p.0)
file_of D (owner.Value p) = module_of_procedure (slice_get D.procs p.0)
file_of D (owner.Reference p) = module_of_procedure (slice_get D.procs p.0)
file_of D (owner.Answer p) = module_of_procedure (slice_get D.procs p.0)

-- the procedure whose locals its expressions see: a head sees those of its module alone
abbrev pub inside : Owner → Option ProcId
inside (owner.Local p) = Some p
inside (owner.Static p) = Some p
inside _ = None

abbrev pub is_in_procedure : Owner → Bool
is_in_procedure (owner.Module file) = false
is_in_procedure (owner.Field t) = false
is_in_procedure _ = true

-- a word that is declared nowhere is no constant where it would be a variable, and else isn't declared
abbrev pub missing_for : Declarations → Owner → ℕ
missing_for D o = cond (is_in_procedure o && not (needs_declaration (file_of D o) (map facts_in D.project.modules))) 25 3

abbrev pub scope_for : Declarations → Owner → Scope
scope_for D o = record {
  declarations = D;
  written = D;
  later = 4294967295;
  site = record { file = file_of D o; procedure = inside o };
  kept = no_with;
  missing = missing_for D o;
}
