use Rattle.std.proofs.Common.{ap, sym, ◌∙◌, length, nat_le}
use Rattle.net_writable.proofs.FileNames.{with_ending}
use Rattle.net_writable.proofs.project.has_file_name.Goals as goal

pub returns : goal.returns
returns c = ap (λ n. nat_le (length n) 509) c.as_bytes.ensures.bytes ∙ sym (with_ending c.args.source.now.name c.as_bytes.ensures.name)
