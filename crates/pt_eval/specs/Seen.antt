-- A value that may be only looked at.
use Rattle.std.specs.Prelude.{Result, Ok, Err}
use Rattle.pt_val.specs.declared.val.Val.{Val}
use Rattle.pt_eval.specs.declared.seen.Seen.{Seen}
use Rattle.pt_eval.specs.declared.seen.Seen.TheVariants.{Lent, Made}

-- the value, wherever it is
abbrev pub seen : Seen → Val
seen (Lent val) = val.now
seen (Made val) = val

-- an answer with the value itself
abbrev pub shown : {E : Type 0} → Result Seen E → Result Val E
shown (Ok value) = Ok (seen value)
shown (Err why) = Err why
