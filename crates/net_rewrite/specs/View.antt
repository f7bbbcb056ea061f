-- What the structs of the code stand for.
use Rattle.std.specs.Prelude.{option_map}
use Rattle.net_tree.specs.View.{procedure_of}
use Rattle.net_rewrite.specs.declared.properties.Part.{Part}
use Rattle.written_trees.specs.Properties as rows

abbrev pub part_of : Part → rows.Part
part_of p = record { comments = p.comments.items; procedure = option_map (λ g. procedure_of g.value) p.procedure }
