-- What a command that was read asks for.
use Rattle.pt_commands.specs.declared.command.Command.{Command}
use Rattle.pt_commands.specs.declared.command.Command.TheVariants as command
use Rattle.pt_commands.specs.Words.{Asked, Run, Replay, Stored, Make, Explain}

abbrev pub asked_by : Command → Asked
asked_by (command.Run suite seed workers) = Run suite.now seed workers
asked_by (command.Replay suite item list) = Replay suite.now item.now list
asked_by command.Stored = Stored
asked_by (command.Make seed count) = Make seed count
asked_by (command.Explain suite item list) = Explain suite.now item.now list
