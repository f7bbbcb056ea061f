use Rattle.std.proofs.Common.{ℕ, List, ◌++◌, codes, ap, ◌∙◌}
use Rattle.std.proofs.lemmas.Result.{on_ok_weaker}
use Rattle.net_tree.specs.View.{property_of}
use Rattle.net_tree.specs.Spelling.{at_depth}
use Rattle.net_tree.specs.Declarations.{part_text, property_head_text}
use Rattle.net_emitter.proofs.Emitting.{four_pieces}
use Rattle.net_emitter.proofs.declarations.write_property.Goals as goal

pub returns : goal.returns
returns c =
    let p = property_of c.args.property.now in
    let head = c.write_property_line.new.out in
    let get = c.write_part.new.out in
    let set = c.write_part-2.new.out in
    on_ok_weaker c.write_line.result
    (four_pieces c.args.out.now (at_depth 1 (property_head_text p)) (part_text p.get_comments p.get) (part_text p.set_comments p.set) (at_depth 1 (codes "End Property")) head get set c.write_line.new.out
    c.in_ok-write_property_line.ensures
    (c.in_ok-write_part.ensures ∙ ap (λ (comments : List (List ℕ)). head ++ part_text comments p.get) c.deref.ensures.value)
    (c.in_ok-write_part-2.ensures ∙ ap (λ (comments : List (List ℕ)). get ++ part_text comments p.set) c.deref-2.ensures.value))
    c.write_line.ensures
