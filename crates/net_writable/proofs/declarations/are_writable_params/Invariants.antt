use Rattle.std.proofs.Common.{◌≡◌, drop, map}
use Rattle.std.specs.List.{list_all}
use Rattle.net_tree.specs.Declarations.{is_writable_param}
use Rattle.net_tree.specs.View.{param_of}
use Rattle.net_writable.proofs.declarations.are_writable_params.Given as goal

abbrev pub invariant-loop-param : goal.invariant-loop-param
invariant-loop-param l = list_all is_writable_param (map param_of l.params) ≡ list_all is_writable_param (map param_of (drop l.param-index l.params))
