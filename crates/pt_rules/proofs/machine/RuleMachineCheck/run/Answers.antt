use Rattle.pt_plan.proofs.SaysLemmas.{drew-ran}
use Rattle.pt_rules.proofs.machine.RuleMachineCheck.run.Goals as goal

pub returns : goal.returns
returns g c =
    rw c.ending_of.ensures (drew-ran _ c.requires c.make_steps.ensures.settles (rw (c.as_slice.ensures.value, c.in_ok-copy.ensures) at c.make_steps.ensures.drew))
