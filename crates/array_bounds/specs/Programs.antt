-- The project whose declarations and lines the code has at hand.
use Rattle.std.specs.Prelude.{List, map, Vec}
use Rattle.std.proofs.Common.{Global}
use Rattle.bound_tree.specs.declared.declared.Declared.{Declared}
use Rattle.bound_tree.specs.declared.lines.LineRef.{LineRef}
use Rattle.bound_tree.specs.Lines.{lines_of}
use Rattle.bound_tree.specs.Tree.{Program}
use Rattle.bound_tree.specs.View.{declarations_of}

abbrev pub shown_program : Declared → List (Vec LineRef Global) → Program
shown_program declared lines = record { declarations = declarations_of declared; bodies = map lines_of lines }
