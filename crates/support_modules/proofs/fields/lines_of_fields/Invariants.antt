use Rattle.std.proofs.Common.{◌≡◌, map, take}
use Rattle.std.specs.Prelude.{flat_map}
use Rattle.bound_tree.specs.View.{declarations_of}
use Rattle.net_tree.specs.View.{line_of}
use Rattle.written_rows.specs.View.{facts_of}
use Rattle.support_modules.specs.Fillings.{lines_of_field}
use Rattle.support_modules.proofs.fields.lines_of_fields.Given as goal

abbrev pub invariant-loop-f : goal.invariant-loop-f
invariant-loop-f l = map line_of l.lines.items ≡ flat_map (lines_of_field l.filling (declarations_of l.declared) (facts_of l.facts)) (take l.f-index l.fields)
