use Rattle.std.proofs.Common.{codes}
use Rattle.std.proofs.lemmas.Slice.Eq.{strip_suffix_is}
use Rattle.std.proofs.lemmas.Bool.Decides.{Decides-eqb}
use Rattle.net_reader.proofs.Endings.{base_found}
use Rattle.net_reader.proofs.file_names.base_name.Goals as goal

pub returns : goal.returns
returns c = base_found c.args.file.now c.strip_suffix.result (strip_suffix_is Decides-eqb c.args.file.now (codes ".vb") c.strip_suffix.result c.strip_suffix.ensures.cases)
