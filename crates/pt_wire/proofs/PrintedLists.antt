-- Printed lists of choices, the empty one beside the others.
use Rattle.std.proofs.Common.{◌≡◌, ℕ, ◌<◌, List, [], ◌∷◌, ◌++◌, length, take, Result, Ok, Err, refl, sym, subst, arith, add-one}
use Rattle.pt_choice.specs.declared.choice.Choice.{Choice}
use Rattle.pt_wire.specs.declared.fault.WireFault.{WireFault}
use Rattle.pt_wire.specs.declared.fault.WireFault.TheVariants as fault
use Rattle.pt_wire.specs.Answer.{Reads}
use Rattle.pt_wire.specs.Printed.{PrintedChoice, Printed}
use Rattle.pt_wire.specs.Spelling.{FailsAt, Joined}
use Rattle.pt_wire.proofs.Failing.{fails_at_end, same_head}
use Rattle.pt_wire.proofs.JoinedTexts.{one_joined, joined_last, joined_begins}
use Rattle.pt_wire.proofs.PrintedChoices.{choices_markable, choice_empty, no_minus}

-- choices that are joined are printed
joined_printed : (list : List Choice) (text : List ℕ) → Joined PrintedChoice 32 list text → Printed list text
joined_printed [] text joined = absurd joined
joined_printed (first ∷ others) text joined = joined

-- a text that does not begin with a minus is no empty list
printed_joined : (first : ℕ) (rest : List ℕ) (list : List Choice) → (first ≡ 45 → ⊥) → Printed list (first ∷ rest) → Joined PrintedChoice 32 list (first ∷ rest)
printed_joined first rest [] plain printed = absurd (plain (same_head first 45 rest [] printed))
printed_joined first rest (c ∷ cs) plain printed = printed

-- where a text does not begin with a minus, it is read as joined choices are
pub printed_reads : (first : ℕ) (others : List ℕ) (answer : Result (List Choice) WireFault) → (first ≡ 45 → ⊥) → Reads (Joined PrintedChoice 32) (first ∷ others) answer → Reads Printed (first ∷ others) answer
printed_reads first others (Ok list) plain (joined, few) = (joined_printed list (first ∷ others) joined, few)
printed_reads first others (Err fault.TooLong) plain (list, joined, many) = (list, joined_printed list (first ∷ others) joined, many)
printed_reads first others (Err (fault.NotSpelling place)) plain fails = record {
  none = λ list printed. fails.none list (printed_joined first others list plain printed);
  within = fails.within;
  begun = (fails.begun.0, fails.begun.1, joined_printed fails.begun.0 (take place (first ∷ others) ++ fails.begun.1) fails.begun.2);
  broken = λ lt more.
      let printed : Printed more.0 (first ∷ (take place others ++ more.1)) = rw (add-one place) at more.2 in
      let joined = printed_joined first (take place others ++ more.1) more.0 plain printed in
      fails.broken lt (more.0, more.1, subst (λ n. Joined PrintedChoice 32 more.0 (take n (first ∷ others) ++ more.1)) (sym (add-one place)) joined);
}
printed_reads first others (Err fault.NoMemory) plain free = tt

-- no text at all
pub printed_end : FailsAt Printed [] 0
printed_end = fails_at_end Printed ([], 45 ∷ [], refl) none where
  none : (list : List Choice) → Printed list [] → ⊥
  none [] printed = cc
  none (c ∷ cs) printed = let last = joined_last PrintedChoice 32 choices_markable (c ∷ cs) [] tt printed in choice_empty last.0 last.2

-- no list but the empty one begins with a minus
minus_joined : (list : List Choice) (rest : List ℕ) → Joined PrintedChoice 32 list (45 ∷ rest) → ⊥
minus_joined list rest joined = let begins = joined_begins PrintedChoice 32 choices_markable list (45 ∷ []) rest ((λ e. omega arith), tt) joined in no_minus begins.0 begins.1 begins.2

minus_empty : (list : List Choice) (rest : List ℕ) → Printed list (45 ∷ rest) → rest ≡ []
minus_empty [] rest printed = cc
minus_empty (c ∷ cs) rest printed = absurd (minus_joined (c ∷ cs) rest printed)

-- anything behind the minus of the empty list
pub minus_more : (next : ℕ) (others : List ℕ) → FailsAt Printed (45 ∷ next ∷ others) 1
minus_more next others = record {
  none = λ list printed. let nothing = minus_empty list (next ∷ others) printed in absurd cc;
  within = omega arith;
  begun = ([], [], refl);
  broken = λ lt more. let nothing = minus_empty more.0 (next ∷ more.1) more.2 in absurd cc;
}

-- a text is that of one list
pub one_printed : (a b : List Choice) (text : List ℕ) → Printed a text → Printed b text → a ≡ b
one_printed [] [] text h k = refl
one_printed [] (c ∷ cs) text h k = absurd (minus_joined (c ∷ cs) [] (subst (Joined PrintedChoice 32 (c ∷ cs)) h k))
one_printed (c ∷ cs) [] text h k = absurd (minus_joined (c ∷ cs) [] (subst (Joined PrintedChoice 32 (c ∷ cs)) k h))
one_printed (c ∷ cs) (d ∷ ds) text h k = one_joined PrintedChoice 32 choices_markable (c ∷ cs) (d ∷ ds) text h k

pub minus_within : (others : List ℕ) → 0 < length others → FailsAt Printed (45 ∷ others) 1
minus_within [] some = absurd (omega arith)
minus_within (next ∷ others) some = minus_more next others
