use Rattle.std.proofs.Common.{◌≡◌, ◌∷◌, map, take}
use Rattle.vb_tree.specs.declared.project.Entry.{Entry}
use Rattle.wizard_cli.proofs.upgrading.file_names.Given as goal

abbrev pub invariant-loop-entry : goal.invariant-loop-entry
invariant-loop-entry l = l.names ≡ l.name ∷ map (λ (e : Entry). e.file) (take l.entry-index l.entries)
