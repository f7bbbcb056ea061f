use Rattle.std.proofs.Common.{ℕ, List, ap, ◌∙◌, ◌++◌, map}
use Rattle.bound_tree.specs.declared.declared.ProcDecl.{ProcDecl}
use Rattle.bound_tree.specs.Lines.{lines_of}
use Rattle.bound_tree.specs.View.{procedure_of}
use Rattle.bound_facts.specs.Effects.{passes_items}
use Rattle.bound_facts.specs.Items.{project_items}
use Rattle.array_bounds.proofs.resized.pass_list.Goals as goal

pub returns : goal.returns
returns c =
    c.in_ok-push_items.ensures
    ∙ ap (λ (xs : List (ℕ × ℕ)). xs ++ project_items (passes_items (map procedure_of c.as_slice-procs.result.now)) (map lines_of c.args.lines.now)) c.new-list.ensures.items
    ∙ ap (λ (procs : List ProcDecl). project_items (passes_items (map procedure_of procs)) (map lines_of c.args.lines.now)) c.as_slice-procs.ensures
