use Rattle.std.proofs.Common.{refl}
use Rattle.support_text.specs.FixedFunctions.{logic_functions}
use Rattle.support_text.specs.Steps.{with_arguments, on_one, on_two, line_of_one, called, created, call_line, local_of}
use Rattle.support_text.proofs.table.logic_routines.Goals as goal

pub returns : goal.returns
unfolding logic_functions with_arguments on_one on_two line_of_one called created call_line local_of
returns c = refl
