-- The tests that the flags of the code are, and the project that the code sees.
use Rattle.std.specs.Prelude.{ℕ, Bool, List, Vec, false, map}
use Rattle.std.proofs.Common.{Global}
use Rattle.reach_table.specs.Chains.{is_marked}
use Rattle.bound_tree.specs.declared.declared.Declared.{Declared}
use Rattle.bound_tree.specs.declared.lines.LineRef.{LineRef}
use Rattle.bound_tree.specs.Lines.{lines_of}
use Rattle.bound_tree.specs.Tree.{Expr, Program}
use Rattle.bound_tree.specs.View.{declarations_of}
use Rattle.bound_facts.specs.Facts.{Known, is_quiet, stirs}
use Rattle.byref_analysis.specs.declared.facts.Facts.{Facts}
use Rattle.byref_analysis.specs.declared.stirring.Stirring.{Stirring}

abbrev pub known_of : Facts → Known
known_of f = record { outward = is_marked f.outward.items; touched = is_marked f.touched.items; resized = λ v. false; unplain = is_marked f.unplain.items }

-- whether a variable is a quiet parameter
abbrev pub quiet_by : Declared → Facts → ℕ → Bool
quiet_by d f = is_quiet (declarations_of d) (known_of f)

-- whether a node is a stirring use
abbrev pub stirs_by : Stirring → Expr → Bool
stirs_by s = stirs (declarations_of s.declared.now) (known_of s.facts.now)

-- the project of which these are the declarations and the lines of each procedure
abbrev pub seen : Declared → List (Vec LineRef Global) → Program
seen d lines = record { declarations = declarations_of d; bodies = map lines_of lines }
