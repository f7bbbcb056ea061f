use Rattle.std.proofs.Common.{◌∙◌, sym}
use Rattle.net_tree.proofs.laws.one_list_of_files.Goals as goal

pub returns : goal.returns
returns c N a b x y = x.are_files ∙ sym y.are_files
