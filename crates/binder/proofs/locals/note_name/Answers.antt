use Rattle.std.proofs.Common.{ap, ◌∙◌}
use Rattle.std.specs.Prelude.{is_some}
use Rattle.up_base.specs.Names.{lower_case}
use Rattle.name_tables.specs.Places.{noted}
use Rattle.name_tables.specs.Scopes.{has_key}
use Rattle.name_tables.proofs.WordMaps.{word_added}
use Rattle.binder.proofs.Gathering.{told_word}
use Rattle.binder.proofs.locals.note_name.Goals as goal

pub returns : goal.returns
returns c = λ key.
    ap is_some
    (word_added c.args.names.now c.insert.new.self c.in_ok-from_slice.field-0 (lower_case c.args.name.now) 0 (c.in_ok-from_slice.ensures.items ∙ c.lower_bytes.ensures) c.requires
    c.in_ok-insert.ensures.entries key)
    ∙ told_word (noted c.args.names.now key) (has_key key c.args.name.now) 0
