use Rattle.std.proofs.Common.{◌++◌, map, ap, ◌∙◌}
use Rattle.vb_tree.specs.View.{line_of}
use Rattle.net_tree.specs.View.{member_of}
use Rattle.written_members.specs.Groups.{enum_lines}
use Rattle.written_members.specs.View.{scope_at}
use Rattle.written_members.proofs.EnumLines.{enum_lines_are}
use Rattle.written_members.proofs.groups.push_enum.Goals as goal

pub returns : goal.returns
returns c =
    c.in_ok-push_enum_lines.ensures
    ∙ ap (λ ms. map member_of c.args.to.now.items ++ ms)
    (ap (λ standard. enum_lines (scope_at c.args.site.now) standard c.args.comments.now c.args.number (map line_of c.args.lines.now)) c.is_standard.ensures
    ∙ enum_lines_are (scope_at c.args.site.now) c.args.comments.now c.args.number (map line_of c.args.lines.now))
