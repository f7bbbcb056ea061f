use Rattle.std.proofs.Common.{◌≡◌, drop, map}
use Rattle.declarations.specs.ModuleFacts.{letter_in}
use Rattle.declarations.specs.View.{def_of}
use Rattle.declarations.proofs.module_facts.letter_in.Given as goal

abbrev pub invariant-loop-def : goal.invariant-loop-def
invariant-loop-def l = letter_in l.letter (map def_of (drop l.def-index l.defs)) ≡ letter_in l.letter (map def_of l.defs)
