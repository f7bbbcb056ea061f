use Rattle.net_tree.specs.Text.{byte_order_mark}
use Rattle.net_exprs.proofs.Fronts.{after_found}
use Rattle.net_reader.proofs.module_file.behind_mark.Goals as goal

pub returns : goal.returns
returns c = after_found byte_order_mark c.args.file.now c.strip_prefix.result c.strip_prefix.ensures.cases
