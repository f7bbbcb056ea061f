use Rattle.std.proofs.Common.{sym, ◌∙◌}
use Rattle.name_tables.specs.Places.{noted}
use Rattle.name_tables.specs.View.{shown_declarations}
use Rattle.name_tables.proofs.HomeLists.{list_added}
use Rattle.name_tables.proofs.WordMaps.{none_copied, word_added}
use Rattle.name_tables.proofs.homes.note_word.Goals as goal

pub returns-in_ok-insert : goal.returns-in_ok-insert
returns-in_ok-insert c = λ key.
    list_added (noted c.args.to.now key) (noted c.insert.new.self key) c.args.word.now key c.in_ok-homes.homes (shown_declarations c.args.d.now) c.in_ok-homes.ensures
    (word_added c.args.to.now c.insert.new.self c.in_ok-from_slice.field-0 c.args.word.now c.in_ok-homes.homes c.in_ok-from_slice.ensures.items
    (sym c.get.ensures.value ∙ none_copied c.get.result c.is_none.result c.is_none.ensures c.if-is_none.true) c.in_ok-insert.ensures.entries key)
