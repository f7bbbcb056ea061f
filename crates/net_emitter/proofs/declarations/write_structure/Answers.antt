use Rattle.std.proofs.Common.{List, ◌++◌, codes, map, ap, ◌∙◌}
use Rattle.std.specs.List.{flat_map}
use Rattle.std.proofs.lemmas.Result.{on_ok_weaker}
use Rattle.net_tree.specs.View.{field_of}
use Rattle.net_tree.specs.Spelling.{at_depth, name_text}
use Rattle.net_tree.specs.Declarations.{field_text}
use Rattle.net_tree.specs.declared.declaration.NetField.{NetField}
use Rattle.net_emitter.proofs.Emitting.{three_pieces}
use Rattle.net_emitter.proofs.declarations.write_structure.Goals as goal

pub returns : goal.returns
returns c =
    let s = c.args.structure.now in
    let start = c.write_structure_head.new.out in
    on_ok_weaker c.write_line.result (three_pieces c.args.out.now (at_depth 1 (codes "Public Structure " ++ name_text s.name)) (flat_map (λ f. at_depth 2 (field_text f)) (map field_of s.fields.items)) (at_depth 1 (codes "End Structure")) start c.write_fields.new.out c.write_line.new.out c.in_ok-write_structure_head.ensures (c.in_ok-write_fields.ensures ∙ ap (λ (xs : List NetField). start ++ flat_map (λ f. at_depth 2 (field_text f)) (map field_of xs)) c.deref.ensures.value)) c.write_line.ensures
