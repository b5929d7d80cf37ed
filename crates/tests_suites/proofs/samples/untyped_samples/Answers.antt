use Rattle.tests_suites.proofs.SampleTypes.{untyped}
use Rattle.tests_suites.proofs.samples.untyped_samples.Goals as goal

pub returns : goal.returns
returns c = untyped
