use Rattle.std.proofs.Common.{◌≡◌, ◌++◌, map, take}
use Rattle.std.specs.List.{flat_map}
use Rattle.net_tree.specs.View.{field_of}
use Rattle.net_tree.specs.Spelling.{at_depth}
use Rattle.net_tree.specs.Declarations.{field_text}
use Rattle.net_emitter.proofs.declarations.write_fields.Given as goal

abbrev pub invariant-loop-field : goal.invariant-loop-field
invariant-loop-field l = l.out ≡ l.initial.out ++ flat_map (λ f. at_depth 2 (field_text f)) (map field_of (take l.field-index l.fields))
