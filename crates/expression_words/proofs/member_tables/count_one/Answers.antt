use Rattle.std.proofs.Common.{ap, ◌+◌, ◌∙◌}
use Rattle.expression_words.proofs.MemberMaps.{counted_one}
use Rattle.expression_words.proofs.member_tables.count_one.Goals as goal

pub returns : goal.returns
returns c =
    counted_one c.args.counts.now c.insert.new.self c.args.file c.in_ok-count.count (c.in_ok-count.ensures ∙ ap (λ n. n + 1) c.count_at.ensures) c.in_ok-insert.ensures.updates.0
