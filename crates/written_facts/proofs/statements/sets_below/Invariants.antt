use Rattle.std.proofs.Common.{◌≡◌, ℕ, map}
use Rattle.std.specs.List.{range_with_len}
use Rattle.vb_tree.specs.View.{module_of}
use Rattle.written_facts.specs.Statements.{file_sets}
use Rattle.written_facts.proofs.statements.sets_below.Given as goal

abbrev pub invariant-loop-file : goal.invariant-loop-file
invariant-loop-file l = l.all.items ≡ map (λ (file : ℕ). file_sets file (map module_of l.modules)) (range_with_len 0 l.file)
