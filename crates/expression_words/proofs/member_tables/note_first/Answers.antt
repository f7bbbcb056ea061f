use Rattle.std.proofs.Common.{ap, cond, nat_eq, sym, ◌==◌, ◌∙◌}
use Rattle.std.specs.Prelude.{None, Some}
use Rattle.indexmap.specs.IndexMap.{get}
use Rattle.name_tables.specs.Scopes.{first_of}
use Rattle.name_tables.proofs.WordMaps.{none_copied}
use Rattle.expression_words.proofs.MemberMaps.{number_added}
use Rattle.expression_words.proofs.member_tables.note_first.Goals as goal

pub returns-in_ok-insert : goal.returns-in_ok-insert
returns-in_ok-insert c = λ k.
    number_added c.args.to.now c.insert.new.self c.args.key c.in_ok-number.field-0
    (sym c.get.ensures.value ∙ none_copied c.get.result c.is_none.result c.is_none.ensures c.if-is_none.true) c.in_ok-insert.ensures.entries k
    ∙ ap (λ n. first_of (get nat_eq c.args.to.now k) (cond (c.args.key == k) (Some n) None)) c.in_ok-number.ensures
