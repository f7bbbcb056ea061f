use Rattle.std.proofs.Common.{◌∙◌, ap, map, sym, take, List}
use Rattle.std.proofs.lemmas.List.{take-map}
use Rattle.bound_tree.specs.declared.declared.NamedEntry.{NamedEntry}
use Rattle.bound_tree.specs.declared.declared.VarDecl.{VarDecl}
use Rattle.bound_tree.specs.Tree.{Variable}
use Rattle.bound_tree.specs.View.{variable_of}
use Rattle.name_tables.specs.View.{shown_declarations}
use Rattle.binder.proofs.binding.written_ref.Goals as goal

pub returns : goal.returns
returns c =
    ap (λ (xs : List NamedEntry). record (shown_declarations c.args.d) { names = xs; vars = map variable_of c.front-2.result.now }) c.front.ensures
    ∙ ap (λ (xs : List VarDecl). record (shown_declarations c.args.d) { names = take c.args.names c.args.d.names.now; vars = map variable_of xs }) c.front-2.ensures
    ∙ ap (λ (xs : List Variable). record (shown_declarations c.args.d) { names = take c.args.names c.args.d.names.now; vars = xs })
    (sym (take-map variable_of c.args.vars c.args.d.vars.now))
