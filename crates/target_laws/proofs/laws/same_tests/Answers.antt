use Rattle.target_laws.proofs.Tests.{same_tests}
use Rattle.target_laws.proofs.laws.same_tests.Goals as goal

pub returns : goal.returns
returns c = same_tests
