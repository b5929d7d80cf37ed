-- What is spelled lies within the limits.
use Rattle.std.proofs.Common.{ℕ, List, [], ◌∷◌, All}
use Rattle.std.specs.List.{AllByRecursion}
use Rattle.std.proofs.lemmas.List.Elements.{All-from_recursion}
use Rattle.pt_choice.specs.declared.choice.Choice.{Choice}
use Rattle.pt_choice.specs.declared.choice.Choice.TheVariants as choice
use Rattle.pt_choice.specs.Limits.{IsInLimits}
use Rattle.pt_wire.specs.Spelling.{Chained, Joined}
use Rattle.pt_wire.specs.Stored.{Stored, StoredChoice, StoredOne}
use Rattle.pt_wire.specs.Printed.{PrintedChoice, Printed}

stored_within : (c : Choice) (bytes : List ℕ) → StoredChoice c bytes → IsInLimits c
stored_within (choice.Bool value) bytes h = tt
stored_within (choice.Int value) bytes (held, is, spelled, small) = small
stored_within (choice.Bytes items) bytes (held, is, (form, (few, each))) = few
stored_within (choice.Text places) bytes (held, is, (form, (few, each))) = few

printed_within : (c : Choice) (text : List ℕ) → PrintedChoice c text → IsInLimits c
printed_within (choice.Bool value) text h = tt
printed_within (choice.Int value) text (held, is, h) = h.1
printed_within (choice.Bytes bytes) text (held, is, h) = h.0
printed_within (choice.Text places) text (held, is, h) = h.0

all_stored : (list : List Choice) (bytes : List ℕ) → Chained StoredChoice list bytes → AllByRecursion IsInLimits list
all_stored [] bytes h = tt
all_stored (c ∷ cs) bytes (front, rest, one, more, parts) = (stored_within c front one, all_stored cs rest more)

all_joined : (list : List Choice) (text : List ℕ) → Joined PrintedChoice 32 list text → AllByRecursion IsInLimits list
all_joined [] text h = tt
all_joined (c ∷ []) text h = (printed_within c text h, tt)
all_joined (c ∷ d ∷ cs) text (front, rest, one, more, parts) = (printed_within c front one, all_joined (d ∷ cs) rest more)

all_printed : (list : List Choice) (text : List ℕ) → Printed list text → AllByRecursion IsInLimits list
all_printed [] text h = tt
all_printed (c ∷ cs) text h = all_joined (c ∷ cs) text h

pub old_limits : (list : List Choice) (bytes : List ℕ) → StoredOne list bytes → All IsInLimits list
old_limits list bytes h = All-from_recursion IsInLimits list (all_stored list bytes h)

pub stored_limits : (list : List Choice) (bytes : List ℕ) → Stored list bytes → All IsInLimits list
stored_limits list bytes (front, held, header, spelled, parts) = old_limits list held spelled

pub printed_limits : (list : List Choice) (text : List ℕ) → Printed list text → All IsInLimits list
printed_limits list text h = All-from_recursion IsInLimits list (all_printed list text h)
