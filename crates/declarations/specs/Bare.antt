-- The declarations of a project before their types and values are known.
use Rattle.std.specs.Prelude.{false, None, List, [], ◌∷◌, map}
use Rattle.vb_tree.specs.BoundTree.{unknown}
use Rattle.vb_tree.specs.declared.declared.ProcId.{ProcId}
use Rattle.vb_tree.specs.Tree.{Project}
use Rattle.bound_tree.specs.Tree.{Constant, Declarations, Procedure, Variable}
use Rattle.declared_names.specs.Declaring.{Lists, NamedConstant, NamedProcedure, NamedVariable}
use Rattle.declared_names.specs.Parts.{first_parts}
use Rattle.declarations.specs.Defaults.{defaults_of}

abbrev pub bare_variable : NamedVariable → Variable
bare_variable x = record {
  name = x.name;
  place = x.place;
  statement = x.statement;
  owner = x.owner;
  ty = unknown;
  named = unknown;
  qualified = false;
  lettered = None;
  bounds = [];
  auto = x.auto;
  preset = None;
}

abbrev pub bare_constant : NamedConstant → Constant
bare_constant c = record { name = c.name; place = c.place; statement = c.statement; owner = c.owner; ty = unknown; value = None }

abbrev pub bare_procedure : ProcId → NamedProcedure → Procedure
bare_procedure first p = record {
  name = p.name;
  place = p.place;
  module_number = p.module_number;
  kind = p.kind;
  visibility = p.visibility;
  params = p.params;
  result = unknown;
  answer = p.answer;
  first = first;
}

-- procedures with the first parts of their properties
abbrev pub bare_procedures : List ProcId → List NamedProcedure → List Procedure
bare_procedures firsts [] = []
bare_procedures [] (p ∷ ps) = []
bare_procedures (first ∷ firsts) (p ∷ ps) = bare_procedure first p ∷ bare_procedures firsts ps

abbrev pub bare_of : Lists → List Procedure
bare_of L = bare_procedures (first_parts L) L.procs

abbrev pub bare : Project → Lists → Declarations
bare P L = record {
  project = P;
  names = L.names;
  vars = map bare_variable L.vars;
  consts = map bare_constant L.consts;
  procs = bare_of L;
  types = L.types;
  enums = L.enums;
  defaults = defaults_of P (bare_of L);
}
