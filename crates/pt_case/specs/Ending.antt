-- The sorts of ending.
use Rattle.std.specs.Prelude.{Bool, true, false}
use Rattle.pt_case.specs.declared.ending.Ending.{Ending}
use Rattle.pt_case.specs.declared.ending.Ending.TheVariants.{Pass, Reject, Overrun, Fail}

-- the example has the property
abbrev pub is_pass : Ending → Bool
is_pass Pass = true
is_pass Reject = false
is_pass Overrun = false
is_pass (Fail origin) = false

-- the run was refused a question
abbrev pub is_overrun : Ending → Bool
is_overrun Pass = false
is_overrun Reject = false
is_overrun Overrun = true
is_overrun (Fail origin) = false

-- the example lacks the property
abbrev pub is_failure : Ending → Bool
is_failure Pass = false
is_failure Reject = false
is_failure Overrun = false
is_failure (Fail origin) = true
