use Rattle.target_laws.proofs.Tests.{tests_lost}
use Rattle.target_laws.proofs.laws.other_test.Goals as goal

pub returns : goal.returns
returns c = tests_lost
