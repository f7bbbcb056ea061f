use Rattle.std.proofs.Common.{◌≡◌, ◌++◌, Bor, List, ℕ, map, take}
use Rattle.generated_project.specs.Generated.{text_of}
use Rattle.generated_project.proofs.lines.write_lines.Given as goal

abbrev pub invariant-loop-line : goal.invariant-loop-line
invariant-loop-line l = l.out ≡ l.initial.out ++ text_of (map (λ (w : Bor (List ℕ)). w.now) (take l.line-index l.lines))
