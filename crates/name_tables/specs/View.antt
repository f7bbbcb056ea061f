-- The declarations without memory that references to lists of the code show.
use Rattle.std.specs.Prelude.{map}
use Rattle.vb_tree.specs.View.{project_of}
use Rattle.bound_tree.specs.Tree.{Declarations}
use Rattle.bound_tree.specs.View.{constant_of, procedure_of, variable_of}
use Rattle.name_tables.specs.declared.declared_ref.DeclaredRef.{DeclaredRef}

abbrev pub shown_declarations : DeclaredRef → Declarations
shown_declarations d = record {
  project = project_of d.project.now;
  names = d.names.now;
  vars = map variable_of d.vars.now;
  consts = map constant_of d.consts.now;
  procs = map procedure_of d.procs.now;
  types = d.types.now;
  enums = d.enums.now;
  defaults = d.defaults.now;
}
