use Rattle.std.proofs.Common.{sym, ◌∙◌}
use Rattle.name_places.proofs.WordMaps.{none_copied, pair_added}
use Rattle.name_places.proofs.places.note_pair.Goals as goal

pub returns-in_ok-insert : goal.returns-in_ok-insert
returns-in_ok-insert c =
    pair_added c.args.places.now c.insert.new.self c.args.home c.args.word c.args.i
    (sym c.get.ensures.value ∙ none_copied c.get.result c.is_none.result c.is_none.ensures c.if-is_none.true) c.in_ok-insert.ensures.entries
