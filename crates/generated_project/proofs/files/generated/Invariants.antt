use Rattle.std.proofs.Common.{◌≡◌, ◌∷◌, map}
use Rattle.generated_project.specs.Generated.{module_file, module_numbers, project_file}
use Rattle.generated_project.proofs.files.generated.Given as goal

abbrev pub invariant-loop-k : goal.invariant-loop-k
invariant-loop-k l = l.files.items ≡ project_file l.n ∷ map module_file (module_numbers l.k)
