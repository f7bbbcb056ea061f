use Rattle.std.proofs.Common.{◌≡◌, drop, map}
use Rattle.std.specs.List.{list_all}
use Rattle.net_tree.specs.Declarations.{is_writable_field}
use Rattle.net_tree.specs.View.{field_of}
use Rattle.net_writable.proofs.declarations.are_writable_fields.Given as goal

abbrev pub invariant-loop-field : goal.invariant-loop-field
invariant-loop-field l = list_all is_writable_field (map field_of l.fields) ≡ list_all is_writable_field (map field_of (drop l.field-index l.fields))
