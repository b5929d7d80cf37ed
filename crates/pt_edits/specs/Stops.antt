-- What a store's answer comes to.
use Rattle.std.specs.Prelude.{◌≡◌, Bool, true, false, Result, Ok, Err}
use Rattle.pt_db.specs.declared.fault.StoreFault.{StoreFault}
use Rattle.pt_db.specs.declared.fault.StoreFault.TheVariants as fault
use Rattle.pt_edits.specs.declared.stop.StoreStop.{StoreStop}
use Rattle.pt_edits.specs.declared.stop.StoreStop.TheVariants as stop

-- it stopped by this fault, which is not that of a dead store
abbrev pub IsStopOf : StoreFault → StoreStop → Type 0
IsStopOf fault.Disk why = why ≡ stop.Failed
IsStopOf fault.Dead why = ⊥
IsStopOf (fault.Clash kept offered) why = why ≡ stop.Clash (record { kept = kept; offered = offered })
IsStopOf fault.NoMemory why = why ≡ stop.NoMemory

-- it was done, or it stopped by the same fault
abbrev pub IsAnswerOf : Result (Unit {0}) StoreFault → Result (Unit {0}) StoreStop → Type 0
IsAnswerOf (Ok done) answer = answer ≡ Ok tt
IsAnswerOf (Err refusal) answer = (why : StoreStop) × (answer ≡ Err why) × IsStopOf refusal why

-- the store is dead after a call of the disk that failed, and after no other stop
abbrev pub IsDeadAfter : Bool → StoreStop → Type 0
IsDeadAfter dead stop.Failed = dead ≡ true
IsDeadAfter dead (stop.Clash two) = dead ≡ false
IsDeadAfter dead stop.NoMemory = dead ≡ false
