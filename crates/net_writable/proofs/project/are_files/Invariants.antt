use Rattle.std.proofs.Common.{◌≡◌, drop, map}
use Rattle.std.specs.List.{list_all}
use Rattle.net_tree.specs.View.{module_of}
use Rattle.net_writable.specs.Projects.{is_file}
use Rattle.net_writable.proofs.project.are_files.Given as goal

abbrev pub invariant-loop-source : goal.invariant-loop-source
invariant-loop-source l = list_all is_file (map module_of l.modules) ≡ list_all is_file (map module_of (drop l.source-index l.modules))
