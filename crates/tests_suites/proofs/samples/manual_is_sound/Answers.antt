use Rattle.tests_suites.proofs.ManualLaws.{manual-is-sound}
use Rattle.tests_suites.proofs.samples.manual_is_sound.Goals as goal

pub returns : goal.returns
returns c = manual-is-sound
