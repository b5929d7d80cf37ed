-- One list is entered into the trail.
use Rattle.std.proofs.Common.{◌≡◌, ◌<◌, ◌≤◌, ℕ, suc, ◌+◌, ◌-◌, Bool, true, false, Option, Some, None, unwrap_or, MatchOption, List, [], ◌∷◌, ◌++◌, length, sym, ap, refl, subst, inl, inr, arith, length-append}
use Rattle.std.proofs.lemmas.Bool.{cases_lt}
use Rattle.std.proofs.lemmas.List.{length-map}
use Rattle.std.specs.List.{Contains}
use Rattle.std.proofs.lemmas.List.Elements.{Contains-append_left, Contains-push}
use Rattle.pt_choice.specs.declared.choice.Choice.{Choice}
use Rattle.pt_choice.specs.Order.{IsShorter}
use Rattle.pt_case.specs.Ending.{is_failure}
use Rattle.pt_case.specs.Source.{Listed}
use Rattle.pt_case.specs.Step.{Answer}
use Rattle.pt_case.specs.Run.{IsRecord}
use Rattle.pt_case.specs.Better.{IsBetter}
use Rattle.pt_case.specs.declared.record.Record.{Record}
use Rattle.pt_case.proofs.RecordLemmas.{record-once}
use Rattle.pt_cand.specs.Candidates.{IsCandidate}
use Rattle.pt_found.specs.Tried.{Tried}
use Rattle.pt_found.specs.Trail.{lists_of, AreNew, IsLegal}
use Rattle.pt_found.specs.Leap.{IsLeap}
use Rattle.pt_found.proofs.TrailLemmas.{new-push, leads-accepted, leads-candidate, leads-stranger, lists-push, accepted-push}
use Rattle.pt_found.proofs.LeapLemmas.{leaps-rejected, leaps-accepted}
use Rattle.pt_shrink.specs.declared.log.Log.{Log}
use Rattle.pt_shrink.specs.Progress.{IsReached, IsAt, Owes, Grows, GoesOn}

-- the entry that a list leaves
abbrev pub tried : List Choice → Bool → Tried
tried list accepted = record { list = list; accepted = accepted }

length-push : (trail : List Tried) (entry : Tried) → length (trail ++ entry ∷ []) ≡ length trail + 1
length-push trail entry = length-append trail (entry ∷ [])

module _ (step : List Choice → Answer → Type 0) where
  pub better-by_record : (list : List Choice) (best rec : Record) → is_failure best.ending ≡ true → IsRecord step list rec →
      (rec.ending ≡ best.ending) × IsShorter rec.choices best.choices → IsBetter step list best
  better-by_record list best rec fails is improved = record { rec = rec; is = is; fails = fails; alike = improved.0; shorter = improved.1 }

  pub worse-by_record : (list : List Choice) (best rec : Record) → IsRecord step list rec →
      ¬ ((rec.ending ≡ best.ending) × IsShorter rec.choices best.choices) → ¬ IsBetter step list best
  worse-by_record list best rec is not_improved better =
      let same = record-once step (Listed list) better.rec rec better.is is in
      not_improved (subst (λ r. (r.ending ≡ best.ending) × IsShorter r.choices best.choices) same (better.alike, better.shorter))

  pub owes-accepted : (budget : ℕ) (first best : Record) (log : Log) (list : List Choice) (better : IsBetter step list best) →
      ¬ Contains (lists_of log.trail) list → length log.trail < budget → IsReached step budget first best log (Some list) →
      Owes step budget first best better.rec (record { trail = log.trail ++ tried list true ∷ []; allowed = 20 })
  owes-accepted budget first best log list better untried room reached next heeded = record {
    once = subst (AreNew []) (sym (lists-push log.trail (tried list true))) (new-push [] (lists_of log.trail) list reached.once untried);
    short = let l = length-push log.trail (tried list true) in omega (arith, l, room);
    strangers = reached.strangers;
    leads = leads-accepted step first log.trail reached.strangers best list better reached.leads;
    few = let l = accepted-push log.trail (tried list true) in let f = reached.few in omega (arith, l, f);
    leaps = leaps-accepted step budget [] first log.trail reached.strangers best (tried list true) next better heeded reached.leads reached.leaps;
  }

  pub at-rejected : (budget : ℕ) (first best : Record) (log : Log) (list : List Choice) → ¬ IsBetter step list best → IsCandidate best list →
      ¬ Contains (lists_of log.trail) list → length log.trail < budget → IsReached step budget first best log (Some list) →
      IsAt step budget first best (record { trail = log.trail ++ tried list false ∷ []; allowed = log.allowed })
  at-rejected budget first best log list worse candidate untried room reached next = record {
    once = subst (AreNew []) (sym (lists-push log.trail (tried list false))) (new-push [] (lists_of log.trail) list reached.once untried);
    short = let l = length-push log.trail (tried list false) in omega (arith, l, room);
    strangers = reached.strangers;
    leads = leads-candidate step first log.trail reached.strangers best list worse candidate reached.leads;
    few = let l = accepted-push log.trail (tried list false) in let f = reached.few in omega (arith, l, f);
    leaps = leaps-rejected step budget [] first log.trail reached.strangers best (tried list false) next worse reached.leads reached.leaps;
  }

  pub at-strayed : (budget : ℕ) (first best : Record) (log : Log) (list : List Choice) → ¬ IsBetter step list best → 0 < log.allowed →
      ¬ Contains (lists_of log.trail) list → length log.trail < budget → IsReached step budget first best log (Some list) →
      IsAt step budget first best (record { trail = log.trail ++ tried list false ∷ []; allowed = log.allowed - 1 })
  at-strayed budget first best log list worse may untried room reached next = record {
    once = subst (AreNew []) (sym (lists-push log.trail (tried list false))) (new-push [] (lists_of log.trail) list reached.once untried);
    short = let l = length-push log.trail (tried list false) in omega (arith, l, room);
    strangers = suc reached.strangers;
    leads = leads-stranger step first log.trail reached.strangers best list worse reached.leads;
    few = let l = accepted-push log.trail (tried list false) in let f = reached.few in omega (arith, l, f, may);
    leaps = leaps-rejected step budget [] first log.trail reached.strangers best (tried list false) next worse reached.leads reached.leaps;
  }

  -- what a list leaves that was entered
  pub accepted : (budget : ℕ) (first best rec : Record) (log : Log) (list : List Choice) (now : List Tried) → IsRecord step list rec → IsBetter step list best →
      now ≡ log.trail ++ tried list true ∷ [] → ¬ Contains (lists_of log.trail) list → length log.trail < budget →
      IsReached step budget first best log (Some list) → Owes step budget first best rec (record { trail = now; allowed = 20 })
  accepted budget first best rec log list now is better pushed untried room reached =
      subst (λ t. Owes step budget first best rec (record { trail = t; allowed = 20 })) (sym pushed)
      (subst (λ r. Owes step budget first best r (record { trail = log.trail ++ tried list true ∷ []; allowed = 20 }))
      (record-once step (Listed list) better.rec rec better.is is) (owes-accepted budget first best log list better untried room reached))

  pub rejected : (budget : ℕ) (first best : Record) (log : Log) (list : List Choice) (now : List Tried) → ¬ IsBetter step list best → IsCandidate best list →
      now ≡ log.trail ++ tried list false ∷ [] → ¬ Contains (lists_of log.trail) list → length log.trail < budget →
      IsReached step budget first best log (Some list) → IsAt step budget first best (record { trail = now; allowed = log.allowed })
  rejected budget first best log list now worse candidate pushed untried room reached =
      subst (λ t. IsAt step budget first best (record { trail = t; allowed = log.allowed })) (sym pushed)
      (at-rejected budget first best log list worse candidate untried room reached)

  pub strayed : (budget : ℕ) (first best : Record) (log : Log) (list : List Choice) (now : List Tried) → ¬ IsBetter step list best → 0 < log.allowed →
      now ≡ log.trail ++ tried list false ∷ [] → ¬ Contains (lists_of log.trail) list → length log.trail < budget →
      IsReached step budget first best log (Some list) → IsAt step budget first best (record { trail = now; allowed = log.allowed - 1 })
  strayed budget first best log list now worse may pushed untried room reached =
      subst (λ t. IsAt step budget first best (record { trail = t; allowed = log.allowed - 1 })) (sym pushed)
      (at-strayed budget first best log list worse may untried room reached)

some_same : (one other : List Choice) → Some one ≡ Some other → one ≡ other
some_same one other same = ap (λ o. unwrap_or o one) same

lists-length : (trail : List Tried) → length (lists_of trail) ≡ length trail
lists-length trail = length-map trail (λ entry. entry.list)

-- what became of an entered list, where the answer is known
module _ (step : List Choice → Answer → Type 0) (budget : ℕ) (first best : Record) (log : Log) where
  Enters : Option Record → Type 0
  Enters answer = MatchOption answer (IsAt step budget first best log) (λ rec. Owes step budget first best rec log)

  pub entered-none : (answer : Option Record) → answer ≡ None → MatchOption answer (IsAt step budget first best log) (λ rec. Owes step budget first best rec log) →
      IsAt step budget first best log
  unfolding Enters
  entered-none answer is holds = subst Enters is holds

  pub entered-some : (answer : Option Record) (rec : Record) → answer ≡ Some rec → MatchOption answer (IsAt step budget first best log) (λ rec. Owes step budget first best rec log) →
      Owes step budget first best rec log
  unfolding Enters
  entered-some answer rec is holds = subst Enters is holds

-- what the step asks for is heeded
module _ (step : List Choice → Answer → Type 0) (budget : ℕ) (first old best : Record) (log : Log) where
  pub owes-full : Owes step budget first old best log → budget ≤ length log.trail → IsAt step budget first best log
  owes-full owes full next = owes next (inl (let l = lists-length log.trail in omega (arith, l, full)))

  pub owes-none : Owes step budget first old best log → ((asked : List Choice) → IsLeap old.choices best.choices asked → None ≡ Some asked) → IsAt step budget first best log
  owes-none owes none next = owes next (inr (λ asked is. let e = none asked is in absurd cc))

  pub owes-tried : Owes step budget first old best log → (list : List Choice) → ((asked : List Choice) → IsLeap old.choices best.choices asked → Some list ≡ Some asked) →
      Contains (lists_of log.trail) list → IsAt step budget first best log
  owes-tried owes list asks among next =
      owes next (inr (λ asked is. inl (subst (λ l. Contains (lists_of log.trail) l) (some_same list asked (asks asked is)) among)))

  pub owes-next : Owes step budget first old best log → (list : List Choice) → ((asked : List Choice) → IsLeap old.choices best.choices asked → Some list ≡ Some asked) →
      IsReached step budget first best log (Some list)
  owes-next owes list asks = owes (Some list) (inr (λ asked is. inr (asks asked is)))

-- where it begins, and where it ends
pub at-first : (step : List Choice → Answer → Type 0) (budget : ℕ) (first : Record) → IsAt step budget first first (record { trail = []; allowed = 0 })
at-first step budget first next = record { once = tt; short = omega arith; strangers = 0; leads = refl; few = omega arith; leaps = tt }

pub at-legal : (step : List Choice → Answer → Type 0) (budget : ℕ) (first best : Record) (log : Log) → IsAt step budget first best log → IsLegal step budget first log.trail best
at-legal step budget first best log at =
    let reached = at None in
    record { once = reached.once; short = reached.short; strangers = reached.strangers; leads = reached.leads; few = let f = reached.few in omega (arith, f) }

-- the trail got longer, step by step
pub lists-longer : (old new : List Tried) (lists : List (List Choice)) → lists_of new ≡ lists_of old ++ lists → length new ≡ length old + length lists
lists-longer old new lists are =
    let a = ap length are in
    let b = length-append (lists_of old) lists in
    let c = lists-length old in
    let d = lists-length new in
    omega (arith, a, b, c, d)

pub grows-same : (budget : ℕ) (log : Log) → Grows budget log log
grows-same budget log = record { longer = omega arith; within = λ more. omega (arith, more); keeps = λ list among. among }

pub grows-trans : (budget : ℕ) (old mid new : Log) → Grows budget old mid → Grows budget mid new → Grows budget old new
grows-trans budget old mid new a b = record {
  longer = let x = a.longer in let y = b.longer in omega (arith, x, y);
  within = λ more. within more;
  keeps = λ list among. b.keeps list (a.keeps list among);
}
  where
    within : length old.trail < length new.trail → length new.trail ≤ budget
    within more = elim (cases_lt (length mid.trail) (length new.trail)) [
      | inl later ↦ b.within later
      | inr not ↦ let y = b.longer in let z = a.within (omega (arith, more, not, y)) in omega (arith, z, not, y)
    ]

-- lists for which there was room were added
pub grows-added : (budget : ℕ) (old new : Log) (lists : List (List Choice)) → lists_of new.trail ≡ lists_of old.trail ++ lists →
    (0 < length lists → length old.trail + length lists ≤ budget) → Grows budget old new
grows-added budget old new lists are room = record {
  longer = let l = lists-longer old.trail new.trail lists are in omega (arith, l);
  within = λ more. let l = lists-longer old.trail new.trail lists are in let r = room (omega (arith, l, more)) in omega (arith, l, r);
  keeps = λ list among. subst (λ ls. Contains ls list) (sym are) (Contains-append_left (lists_of old.trail) lists list among);
}

pub grows-entered : (budget : ℕ) (old new : Log) (list : List Choice) → lists_of new.trail ≡ lists_of old.trail ++ list ∷ [] → length old.trail < budget → Grows budget old new
grows-entered budget old new list are room = grows-added budget old new (list ∷ []) are (λ some. omega (arith, room))

pub entered-longer : (old new : Log) (list : List Choice) → lists_of new.trail ≡ lists_of old.trail ++ list ∷ [] → length old.trail < length new.trail
entered-longer old new list are = let l = lists-longer old.trail new.trail (list ∷ []) are in omega (arith, l)

pub entered-among : (old new : Log) (list : List Choice) → lists_of new.trail ≡ lists_of old.trail ++ list ∷ [] → Contains (lists_of new.trail) list
entered-among old new list are = subst (λ ls. Contains ls list) (sym are) (Contains-push (lists_of old.trail) list)

module _ (step : List Choice → Answer → Type 0) (budget : ℕ) where
  pub on-same : (best : Record) (log : Log) → GoesOn step budget best log best log
  on-same best log = record { fails = λ fails. fails; grows = grows-same budget log; reached = λ first at. at }

  pub on-trans : (one two three : Record) (old mid new : Log) → GoesOn step budget one old two mid → GoesOn step budget two mid three new → GoesOn step budget one old three new
  on-trans one two three old mid new a b = record {
    fails = λ fails. b.fails (a.fails fails);
    grows = grows-trans budget old mid new a.grows b.grows;
    reached = λ first at. b.reached first (a.reached first at);
  }
