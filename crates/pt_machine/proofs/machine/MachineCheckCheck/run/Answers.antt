use Rattle.pt_ast.specs.Plain.{plain_machine}
use Rattle.pt_plan.proofs.SaysLemmas.{drew-ran}
use Rattle.pt_machine.specs.Machine.{machine_plan}
use Rattle.pt_machine.proofs.machine.MachineCheckCheck.run.Goals as goal

pub returns : goal.returns
returns c =
    rw c.ending_of.ensures (drew-ran (machine_plan (plain_machine c.args.self.now.machine.now) c.args.self.now.steps) c.requires
    c.run_machine.ensures.settles c.run_machine.ensures.drew)
