use Rattle.std.proofs.Common.{◌≡◌, Ok}
use Rattle.std.proofs.lemmas.Fmt.{parse-decimal}
use Rattle.pt_commands.proofs.command.parsed.Goals as goal

pub returns-in-Ok : goal.returns-in-Ok
returns-in-Ok c n fits is = let only : c.parse.result ≡ Ok n = parse-decimal 64 n _ _ fits fits is c.parse.ensures.value.0 in cc

pub returns-in-Err : goal.returns-in-Err
returns-in-Err c n fits is = let only : c.parse.result ≡ Ok n = parse-decimal 64 n _ _ fits fits is c.parse.ensures.value.0 in cc
