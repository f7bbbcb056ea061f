use Rattle.target_laws.proofs.Tests.{tests_kept}
use Rattle.target_laws.proofs.laws.same_test.Goals as goal

pub returns : goal.returns
returns c = tests_kept
