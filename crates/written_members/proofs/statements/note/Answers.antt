use Rattle.std.proofs.Common.{◌∙◌, ap, ◌++◌, ◌∷◌, []}
use Rattle.written_members.specs.Noted.{noted}
use Rattle.written_members.proofs.Noting.{one_more}
use Rattle.written_members.proofs.statements.note.Goals as goal

pub returns : goal.returns
returns g c =
    one_more c.taken-list.new.from c.insert.new.self (noted c.args.to.now) c.args.file c.args.number c.push.new.self c.args.item c.taken-list.ensures.others
    (c.in_ok-push.ensures.items ∙ ap (λ xs. xs ++ c.args.item ∷ []) c.taken-list.ensures.list) c.in_ok-insert.ensures.updates.0
