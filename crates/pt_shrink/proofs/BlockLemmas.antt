-- A block of lists, one more at a time.
use Rattle.std.proofs.Common.{◌≡◌, ◌<◌, ◌≤◌, ℕ, zero, suc, ◌+◌, ◌-◌, Bool, false, true, cond, refl, subst, Option, Some, None, MatchOption, List, [], ◌∷◌, ◌++◌, length, take, drop, get_or, sym, ap, ◌∙◌, arith, length-append, inl, inr}
use Rattle.std.specs.Prelude.{IsTrue}
use Rattle.std.specs.List.{Contains, list_any}
use Rattle.std.proofs.lemmas.List.{take_more, drop_more, append_assoc, length-map, length-take-le}
use Rattle.std.proofs.lemmas.List.Folds.{list_any_at}
use Rattle.std.proofs.lemmas.List.Elements.{Contains-append_cases}
use Rattle.std.proofs.lemmas.List.Sums.{sum_by-append}
use Rattle.std.proofs.lemmas.Option.{slice_get_within, slice_get-get_or, get_or_from_slice_get}
use Rattle.pt_choice.specs.Same.{same_choices}
use Rattle.pt_choice.proofs.SameLemmas.{same_choices-decides}
use Rattle.pt_choice.specs.declared.choice.Choice.{Choice}
use Rattle.pt_case.specs.Step.{Answer}
use Rattle.pt_case.specs.Better.{IsBetter}
use Rattle.pt_case.specs.declared.record.Record.{Record}
use Rattle.pt_cand.specs.Candidates.{IsCandidate}
use Rattle.pt_case.specs.Ending.{is_failure}
use Rattle.pt_case.specs.Source.{Listed}
use Rattle.pt_case.proofs.RecordLemmas.{record-once}
use Rattle.pt_par.specs.Least.{IsBetterAt, IsHit, IsLeast}
use Rattle.pt_par.specs.declared.hit.Hit.{Hit}
use Rattle.pt_found.specs.Tried.{Tried}
use Rattle.pt_found.specs.Trail.{lists_of, AreNew}
use Rattle.pt_found.proofs.TrailLemmas.{new-at, new-push}
use Rattle.pt_shrink.specs.Block.{AreMarked, strangers_in, IsBlock}
use Rattle.pt_shrink.specs.Progress.{IsAt, Owes, Grows}
use Rattle.pt_shrink.specs.Proposed.{IsHonest}
use Rattle.pt_shrink.proofs.ProgressLemmas.{grows-added}
use Rattle.pt_shrink.specs.declared.block.Block.{Block}
use Rattle.pt_shrink.specs.declared.log.Log.{Log}
use Rattle.pt_shrink.specs.declared.slots.Proposal.{Proposal}

-- a list that is in a block is found in it
pub listed : (lists : List (List Choice)) (list : List Choice) → Contains lists list → IsTrue (list_any (λ other. same_choices other list) lists)
listed lists list among = list_any_at (λ other. same_choices other list) lists among.0 list among.1 ((same_choices-decides (get_or lists among.0 list) list).1 among.2)

pub marked-length : (best : Record) (lists : List (List Choice)) (marks : List Bool) → AreMarked best lists marks → length marks ≡ length lists
marked-length best [] marks marked = ap length marked
marked-length best (list ∷ lists) [] marked = absurd marked
marked-length best (list ∷ lists) (mark ∷ marks) marked = ap suc (marked-length best lists marks marked.1)

-- a list that is not marked is a candidate
pub marked-at : (best : Record) (lists : List (List Choice)) (marks : List Bool) (i : ℕ) (list : List Choice) (d : Bool) → AreMarked best lists marks → i < length lists →
    list ≡ get_or lists i list → get_or marks i d ≡ false → IsCandidate best list
marked-at best [] marks i list d marked within is not = absurd (omega (arith, within))
marked-at best (one ∷ lists) [] i list d marked within is not = absurd marked
marked-at best (one ∷ lists) (first ∷ marks) zero list d marked within is not = subst (IsCandidate best) (sym is) (marked.0 not)
marked-at best (one ∷ lists) (first ∷ marks) (suc i) list d marked within is not = marked-at best lists marks i list d marked.1 (omega (arith, within)) is not

pub marked-push : (best : Record) (lists : List (List Choice)) (marks : List Bool) (list : List Choice) (mark : Bool) → AreMarked best lists marks →
    (mark ≡ false → IsCandidate best list) → AreMarked best (lists ++ list ∷ []) (marks ++ mark ∷ [])
marked-push best [] marks list mark marked candidate = subst (λ before. AreMarked best (list ∷ []) (before ++ mark ∷ [])) (sym marked) (candidate, refl)
marked-push best (one ∷ lists) [] list mark marked candidate = absurd marked
marked-push best (one ∷ lists) (first ∷ marks) list mark marked candidate = (marked.0, marked-push best lists marks list mark marked.1 candidate)

zero-plus : (n : ℕ) → 0 + n ≡ n
zero-plus n = omega arith

strangers-first : (mark : Bool) (marks : List Bool) → strangers_in (mark ∷ marks) ≡ cond mark 1 0 + strangers_in marks
strangers-first mark marks = sum_by-append (λ m. cond m 1 0) (mark ∷ []) marks ∙ ap (λ n. n + strangers_in marks) (zero-plus (cond mark 1 0))

-- the strangers from a place on
pub strangers-at : (marks : List Bool) (i : ℕ) (d : Bool) → i < length marks → strangers_in (drop i marks) ≡ cond (get_or marks i d) 1 0 + strangers_in (drop (i + 1) marks)
strangers-at marks i d within = ap strangers_in (drop_more marks i d within) ∙ strangers-first (get_or marks i d) (drop (i + 1) marks)

pub strangers-push : (marks : List Bool) (mark : Bool) → strangers_in (marks ++ mark ∷ []) ≡ strangers_in marks + cond mark 1 0
strangers-push marks mark = sum_by-append (λ m. cond m 1 0) marks (mark ∷ []) ∙ ap (λ n. strangers_in marks + n) (omega arith)

-- one more list of the block was entered
pub block-entered : (old : List (List Choice)) (now : List (List Choice)) (lists : List (List Choice)) (i : ℕ) (list : List Choice) → i < length lists → list ≡ get_or lists i list →
    now ≡ old ++ take i lists → now ++ list ∷ [] ≡ old ++ take (i + 1) lists
block-entered old now lists i list within is so_far =
    ap (λ ls. ls ++ list ∷ []) so_far ∙ append_assoc old (take i lists) (list ∷ [])
    ∙ ap (λ l. old ++ (take i lists ++ l ∷ [])) is ∙ ap (λ ls. old ++ ls) (sym (take_more lists i list within))

pub block-untried : (old now lists : List (List Choice)) (i : ℕ) (list : List Choice) → i < length lists → list ≡ get_or lists i list →
    now ≡ old ++ take i lists → AreNew old lists → ¬ Contains now list
block-untried old now lists i list within is so_far new =
    subst (λ l. ¬ Contains now l) (sym is) (subst (λ ls. ¬ Contains ls (get_or lists i list)) (sym so_far) (new-at old lists i list new within))

pub block-length : (old now : List Tried) (lists : List (List Choice)) (i : ℕ) → i ≤ length lists → lists_of now ≡ lists_of old ++ take i lists → length now ≡ length old + i
block-length old now lists i within so_far =
    let a = ap length so_far in
    let b = length-append (lists_of old) (take i lists) in
    let c = length-map old (λ entry. entry.list) in
    let d = length-map now (λ entry. entry.list) in
    let e = length-take-le i lists within in
    omega (arith, a, b, c, d, e)

-- a list at a place where none is better
pub not_better : (step : List Choice → Answer → Type 0) (best : Record) (lists : List (List Choice)) (i : ℕ) (list : List Choice) → i < length lists → list ≡ get_or lists i list →
    ¬ IsBetterAt step best lists i → ¬ IsBetter step list best
not_better step best lists i list within is never better =
    never (list, slice_get-get_or lists i list within ∙ ap Some (sym is), better)

-- one more list is offered
pub offered : (best : Record) (log : Log) (old new : Block) (proposal : Proposal) → IsHonest best proposal → IsBlock best log old →
    ¬ Contains (lists_of log.trail) proposal.list → ¬ Contains old.lists proposal.list → (proposal.stranger ≡ true → old.strangers < log.allowed) →
    new.lists ≡ old.lists ++ proposal.list ∷ [] → new.marks ≡ old.marks ++ proposal.stranger ∷ [] → new.strangers ≡ old.strangers + cond proposal.stranger 1 0 → IsBlock best log new
offered best log old new proposal honest is untried unlisted may lists marks strangers = record {
  new = subst (AreNew (lists_of log.trail)) (sym lists) (new-push (lists_of log.trail) old.lists proposal.list is.new both);
  marked = subst (λ ls. AreMarked best ls new.marks) (sym lists)
      (subst (AreMarked best (old.lists ++ proposal.list ∷ [])) (sym marks) (marked-push best old.lists old.marks proposal.list proposal.stranger is.marked honest));
  counted = strangers ∙ ap (λ n. n + cond proposal.stranger 1 0) is.counted ∙ sym (strangers-push old.marks proposal.stranger) ∙ ap strangers_in (sym marks);
  few = at_most proposal.stranger may strangers;
}
  where
    both : ¬ Contains (lists_of log.trail ++ old.lists) proposal.list
    both among = elim (Contains-append_cases (lists_of log.trail) old.lists proposal.list among) [ inl one ↦ untried one | inr other ↦ unlisted other ]

    at_most : (mark : Bool) → (mark ≡ true → old.strangers < log.allowed) → new.strangers ≡ old.strangers + cond mark 1 0 → new.strangers ≤ log.allowed
    at_most true may is = let m = may refl in omega (arith, m, is)
    at_most false may is_ = let f = is.few in omega (arith, f, is_)

-- the lists before a place were added, for which there was room
pub block-grows : (budget : ℕ) (old mid : Log) (lists : List (List Choice)) (i : ℕ) → i ≤ length lists → length lists ≤ budget - length old.trail →
    lists_of mid.trail ≡ lists_of old.trail ++ take i lists → Grows budget old mid
block-grows budget old mid lists i within room so_far =
    grows-added budget old mid (take i lists) so_far (λ some. let l = length-take-le i lists within in omega (arith, l, within, room, some))

-- the answer of a search, where it is known
pub least-known : (step : List Choice → Answer → Type 0) (best : Record) (lists : List (List Choice)) (answer known : Option Hit) → answer ≡ known →
    IsLeast step best lists answer → IsLeast step best lists known
least-known step best lists answer known is least = subst (λ a. IsLeast step best lists a) is least

-- the list at the hit's place is the one that is better
pub hit-list : (step : List Choice → Answer → Type 0) (best : Record) (lists : List (List Choice)) (hit : Hit) (list : List Choice) (found : IsHit step best lists hit) →
    list ≡ get_or lists hit.at list → found.list ≡ list
hit-list step best lists hit list found is = sym (get_or_from_slice_get lists hit.at found.list list found.stands) ∙ sym is

pub hit-within : (step : List Choice → Answer → Type 0) (best : Record) (lists : List (List Choice)) (hit : Hit) → IsHit step best lists hit → hit.at < length lists
hit-within step best lists hit found = slice_get_within lists hit.at found.list found.stands

pub hit-fails : (step : List Choice → Answer → Type 0) (best : Record) (lists : List (List Choice)) (hit : Hit) → IsHit step best lists hit → is_failure best.ending ≡ true →
    is_failure hit.rec.ending ≡ true
hit-fails step best lists hit found fails =
    let same = record-once step (Listed found.list) hit.rec found.better.rec found.is found.better.is in
    ap (λ rec. is_failure rec.ending) same ∙ ap is_failure found.better.alike ∙ fails

-- what became of a block, where the answer is known
module _ (step : List Choice → Answer → Type 0) (budget : ℕ) (first best : Record) (log : Log) where
  Tries : Option Hit → Type 0
  Tries answer = MatchOption answer (IsAt step budget first best log) (λ hit. Owes step budget first best hit.rec log)

  pub tried-none : (answer : Option Hit) → answer ≡ None → MatchOption answer (IsAt step budget first best log) (λ hit. Owes step budget first best hit.rec log) →
      IsAt step budget first best log
  unfolding Tries
  tried-none answer is holds = subst Tries is holds

  pub tried-some : (answer : Option Hit) (hit : Hit) → answer ≡ Some hit → MatchOption answer (IsAt step budget first best log) (λ hit. Owes step budget first best hit.rec log) →
      Owes step budget first best hit.rec log
  unfolding Tries
  tried-some answer hit is holds = subst Tries is holds
