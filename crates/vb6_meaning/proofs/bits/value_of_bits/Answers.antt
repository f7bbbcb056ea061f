use Rattle.std.proofs.Common.{◌≡◌, ap, ap₂, ◌∙◌, to_z, of_z}
use Rattle.std.specs.Int.{w128}
use Rattle.std.proofs.lemmas.Int.{to_z-of_z}
use Rattle.vb6_meaning.specs.Bits.{bitwise}
use Rattle.vb6_meaning.specs.Kinds.{fits}
use Rattle.vb6_meaning.specs.Rows.{bit_rule}
use Rattle.vb6_meaning.proofs.BitLimits.{rule_fits}
use Rattle.vb6_meaning.proofs.bits.value_of_bits.Goals as goal

pub value-requires : goal.value-requires
value-requires c =
    let result_same : to_z w128 (of_z w128 c.on_words.result) ≡ c.on_words.result = to_z-of_z w128 c.on_words.result (record { sfits = c.on_words.type_inv }) in
    let first_same : to_z w128 (of_z w128 c.args.x) ≡ c.args.x = to_z-of_z w128 c.args.x c.ranges.x in
    let second_same : to_z w128 (of_z w128 c.args.y) ≡ c.args.y = to_z-of_z w128 c.args.y c.ranges.y in
    ap (fits c.args.kind) (result_same ∙ c.on_words.ensures ∙ ap₂ (bitwise (bit_rule c.args.rule)) first_same second_same)
    ∙ rule_fits c.args.kind c.args.rule c.args.x c.args.y c.requires.whole c.requires.signed c.requires.first c.requires.second
