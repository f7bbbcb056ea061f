-- The declarations without memory that those of the code stand for.
use Rattle.std.specs.Prelude.{map, Option, Some, None, option_map, List, []}
use Rattle.vb_tree.specs.Tree.{Bounds}
use Rattle.vb_tree.specs.View.{bounds_of, exp_of, type_name_of, signature_of, result_of}
use Rattle.declared_names.specs.declared.heads.HeadRef.{HeadRef}
use Rattle.declared_names.specs.declared.lists.DeclaredNames.{DeclaredNames}
use Rattle.declared_names.specs.declared.lists.Extents.{Extents}
use Rattle.declared_names.specs.declared.lists.Extents.TheVariants as extents
use Rattle.declared_names.specs.declared.lists.NamedConst.{NamedConst}
use Rattle.declared_names.specs.declared.lists.NamedProc.{NamedProc}
use Rattle.declared_names.specs.declared.lists.NamedVar.{NamedVar}
use Rattle.vb_tree.specs.declared.form_parts.Label6.{Label6}
use Rattle.bound_tree.specs.Labels.{Label, label_of}
use Rattle.std.specs.Borrow.{Bor}
use Rattle.declared_names.specs.Declaring.{NamedVariable, NamedConstant, NamedProcedure, Lists, Head}

abbrev pub extents_of : Extents → Option (List Bounds)
extents_of extents.Single = None
extents_of extents.Dynamic = Some []
extents_of (extents.Written bounds) = Some (map bounds_of bounds.now)

abbrev pub variable_of : NamedVar → NamedVariable
variable_of v = record {
  name = v.name.now;
  suffix = v.suffix;
  place = v.place;
  statement = v.statement;
  owner = v.owner;
  bounds = extents_of v.extents;
  auto = v.auto;
  ty = option_map (λ t. type_name_of t.now) v.ty;
  passing = v.passing;
  optional = v.optional;
  param_array = v.param_array;
  preset = option_map (λ e. exp_of e.now) v.preset;
}

abbrev pub constant_of : NamedConst → NamedConstant
constant_of c = record {
  name = c.name.now;
  suffix = c.suffix;
  place = c.place;
  statement = c.statement;
  owner = c.owner;
  ty = option_map (λ t. type_name_of t.now) c.ty;
  value = option_map (λ e. exp_of e.now) c.value;
  before = c.before;
}

abbrev pub procedure_of : NamedProc → NamedProcedure
procedure_of p = record {
  name = p.name.now;
  suffix = p.suffix;
  place = p.place;
  statement = p.statement;
  module_number = p.module;
  kind = p.kind;
  static = p.is_static;
  visibility = p.visibility;
  params = p.params;
  result = option_map (λ r. result_of r.now) p.result;
  answer = p.answer;
}

abbrev pub names_of : DeclaredNames → Lists
names_of d = record {
  names = d.names;
  vars = map variable_of d.vars;
  consts = map constant_of d.consts;
  procs = map procedure_of d.procs;
  types = d.types;
  enums = d.enums;
}

abbrev pub head_shown : HeadRef → Head
head_shown h = record {
  kind = h.kind;
  static = h.is_static;
  signature = signature_of h.signature.now;
  result = option_map (λ r. result_of r.now) h.ty;
}

-- the label that a line may have
abbrev pub label_shown : Option (Bor Label6) → Option Label
label_shown o = option_map (λ l. label_of l.now) o
