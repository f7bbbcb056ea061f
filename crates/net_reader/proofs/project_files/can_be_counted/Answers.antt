use Rattle.std.proofs.Common.{ap, sym, ◌∙◌}
use Rattle.net_reader.specs.Reads.{have_few_bytes}
use Rattle.net_reader.proofs.FewLines.{few_bytes}
use Rattle.net_reader.proofs.project_files.can_be_counted.Goals as goal

pub returns-then-len-lt4294967295-clause-lines : goal.returns-then-len-lt4294967295-clause-lines
returns-then-len-lt4294967295-clause-lines c = λ few. few_bytes c.args.files.now (ap have_few_bytes (sym c.as_slice.ensures) ∙ sym c.have_few_bytes.ensures ∙ few)
