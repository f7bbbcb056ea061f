use Rattle.std.proofs.Common.{◌≡◌, ◌++◌, map}
use Rattle.generated_project.specs.Generated.{entry_line, module_numbers, text_of}
use Rattle.generated_project.proofs.entries.write_entries.Given as goal

abbrev pub invariant-loop-k : goal.invariant-loop-k
invariant-loop-k l = l.out ≡ l.initial.out ++ text_of (map entry_line (module_numbers l.k))
