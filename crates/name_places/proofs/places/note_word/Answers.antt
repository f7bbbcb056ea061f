use Rattle.std.proofs.Common.{sym, ◌∙◌}
use Rattle.name_places.proofs.WordMaps.{none_copied, word_added}
use Rattle.name_places.proofs.places.note_word.Goals as goal

pub returns-in_ok-insert : goal.returns-in_ok-insert
returns-in_ok-insert c =
    word_added c.args.words.now c.insert.new.self c.in_ok-from_slice.field-0 c.args.word.now c.args.i c.in_ok-from_slice.ensures.items
    (sym c.get.ensures.value ∙ none_copied c.get.result c.is_none.result c.is_none.ensures c.if-is_none.true) c.in_ok-insert.ensures.entries
