use Rattle.std.proofs.Common.{◌≡◌, List, map, ap, ◌∙◌, Vec, Global}
use Rattle.vb_tree.specs.View.{project_of}
use Rattle.bound_tree.specs.declared.declared.VarDecl.{VarDecl}
use Rattle.bound_tree.specs.Tree.{Declarations}
use Rattle.bound_tree.specs.View.{variable_of}
use Rattle.declared_names.specs.declared.lists.NamedVar.{NamedVar}
use Rattle.declared_names.specs.View.{names_of, variable_of as named_variable}
use Rattle.declarations.specs.Typed.{typed, typed_variable}
use Rattle.declarations.specs.View.{filled_by}
use Rattle.declarations.proofs.Filling.{fixed_typed, typed_filled}
use Rattle.declarations.proofs.stages.typed.Goals as goal

pub returns-in_ok-with_variables-in-Ok-clause-fixed : goal.returns-in_ok-with_variables-in-Ok-clause-fixed
returns-in_ok-with_variables-in-Ok-clause-fixed c =
    let x = c.args.fixed.now in
    let P = project_of x.project.now in
    let L = names_of x.names.now in
    let f = c.args.bare in
    let g = c.in_ok-with_variables-in-Ok.field-0 in
    let is : filled_by x g ≡ typed P L =
    typed_filled x f g (map variable_of c.in-Ok.vars.items) c.requires.bare
    (ap (λ (v : Vec VarDecl Global). map variable_of v.items) c.in_ok-with_variables-in-Ok.ensures.vars)
    (c.in-Ok.ensures
    ∙ ap (λ (D : Declarations). map (typed_variable D) (map named_variable c.as_slice.result.now)) c.known_by.ensures.shown
    ∙ ap (λ (xs : List NamedVar). map (typed_variable (filled_by x f)) (map named_variable xs)) c.as_slice.ensures)
    c.in_ok-with_variables-in-Ok.ensures.procs c.in_ok-with_variables-in-Ok.ensures.consts c.in_ok-with_variables-in-Ok.ensures.defaults in
    fixed_typed x f g P L c.requires.bare is c.requires.fixed
