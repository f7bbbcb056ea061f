use Rattle.std.proofs.Common.{sym, ◌∙◌}
use Rattle.name_tables.proofs.WordMaps.{none_copied, pair_added}
use Rattle.expression_words.proofs.member_tables.note_pair.Goals as goal

pub returns-in_ok-insert : goal.returns-in_ok-insert
returns-in_ok-insert c =
    pair_added c.args.to.now c.insert.new.self c.args.file c.args.v c.args.place
    (sym c.get.ensures.value ∙ none_copied c.get.result c.is_none.result c.is_none.ensures c.if-is_none.true) c.in_ok-insert.ensures.entries
