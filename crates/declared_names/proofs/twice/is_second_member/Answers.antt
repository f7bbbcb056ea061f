use Rattle.std.proofs.Common.{◌∙◌, ap, map}
use Rattle.up_base.specs.Names.{lower_case}
use Rattle.declared_names.specs.Rivals.{first_member, is_other_at}
use Rattle.declared_names.specs.View.{procedure_of}
use Rattle.declared_names.proofs.FirstRivals.{second_member}
use Rattle.declared_names.proofs.twice.is_second_member.Goals as goal

pub returns : goal.returns
returns c =
    c.is_other_at.ensures
    ∙ ap (λ names. is_other_at names c.args.named c.first_member-first.result) c.as_slice.ensures
    ∙ ap (is_other_at c.args.d.now.names c.args.named)
    (c.first_member-first.ensures
    ∙ ap (first_member c.args.rivals.now.members c.part_of-part.result c.args.file) c.lower_bytes.ensures
    ∙ ap (λ part. first_member c.args.rivals.now.members part c.args.file (lower_case c.args.name.now)) c.part_of-part.ensures)
    ∙ second_member c.args.rivals.now.members (map procedure_of c.args.d.now.procs) c.args.file c.args.name.now c.args.named c.args.d.now.names c.requires.members
