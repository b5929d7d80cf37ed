-- The edits that readings ask for, gathered reading by reading.
use Rattle.std.proofs.Common.{◌≡◌, ℕ, ◌+◌, ◌-◌, ◌<◌, ◌≤◌, Bool, true, false, List, [], ◌∷◌, ◌++◌, map, length, get_or, take, drop, Option, Some, None, refl, sym, ◌∙◌, ap, subst, arith, append_assoc, length-append, drop-cons}
use Rattle.std.specs.Prelude.{All}
use Rattle.std.proofs.lemmas.List.{append-nil, map-append}
use Rattle.std.proofs.lemmas.List.{take_rest}
use Rattle.std.proofs.lemmas.List.Elements.{All-append, All-cons, All-nil}
use Rattle.pt_choice.specs.declared.choice.Choice.{Choice}
use Rattle.pt_wire.specs.declared.unpacking.Unpacked.{Unpacked}
use Rattle.pt_found.specs.declared.finding.Verdict.{Verdict}
use Rattle.pt_edits.specs.Added.{Adds}
use Rattle.pt_edits.specs.Pairs.{PairEdit, DeletePair, under}
use Rattle.pt_edits.specs.Readings.{list_in, lists_of, IsRenewed, IsKeptOrNot, IsAskedBy, AreAskedFor, IsSaved, IsShownSaved, AreEdits}
use Rattle.pt_edits.specs.Short.{IsShortEdit}
use Rattle.pt_edits.specs.declared.edit.Edit.{Edit}
use Rattle.pt_edits.specs.declared.edit.Edit.TheVariants.{Delete}
use Rattle.pt_edits.specs.declared.reading.Reading.{Reading}

-- ---- the lists

pub lists-append : (one more : List Reading) → lists_of (one ++ more) ≡ lists_of one ++ lists_of more
lists-append [] more = refl
lists-append (reading ∷ one) more =
    ap (λ (lists : List (List Choice)). list_in reading.unpacked ++ lists) (lists-append one more) ∙ sym (append_assoc (list_in reading.unpacked) (lists_of one) (lists_of more))

pub lists-push : (readings : List Reading) (reading : Reading) → lists_of (readings ++ reading ∷ []) ≡ lists_of readings ++ list_in reading.unpacked
lists-push readings reading =
    lists-append readings (reading ∷ []) ∙ ap (λ (lists : List (List Choice)). lists_of readings ++ lists) (append-nil (list_in reading.unpacked))

-- ---- the edits

-- some edits were added, and then more
pub adds-then : (One More Both : List ℕ → List PairEdit → Type 0) (old mid new : List Edit) →
    ((digest : List ℕ) (one more : List PairEdit) → One digest one → More digest more → Both digest (one ++ more)) →
    Adds One old mid → Adds More mid new → Adds Both old new
adds-then One More Both old mid new join (one, first, short, are) (more, second, brief, become) = (
  one ++ more,
  second ∙ ap (λ (l : List Edit). l ++ more) first ∙ append_assoc old one more,
  All-append IsShortEdit one more short brief,
  λ digest. subst (Both digest) (sym (map-append (under digest) one more)) (join digest (map (under digest) one) (map (under digest) more) (are digest) (become digest)),
)

pub adds-as : (One Other : List ℕ → List PairEdit → Type 0) (old new : List Edit) → ((digest : List ℕ) (edits : List PairEdit) → One digest edits → Other digest edits) →
    Adds One old new → Adds Other old new
adds-as One Other old new weaker (its, grown, short, are) = (its, grown, short, λ digest. weaker digest (map (under digest) its) (are digest))

-- a list was saved, and the value of version 1 that spelled it is deleted
pub renewed : (bytes : List ℕ) (list : List Choice) (old mid new : List Edit) → Adds (λ digest. IsSaved digest list) old mid → new ≡ mid ++ Delete bytes ∷ [] →
    Adds (λ digest. IsRenewed digest bytes list true) old new
renewed bytes list old mid new saved grown =
    adds-then (λ digest. IsSaved digest list) (λ digest edits. edits ≡ DeletePair digest bytes ∷ []) (λ digest. IsRenewed digest bytes list true) old mid new
    (λ digest one more (fresh, stored, is) deleted. (fresh, stored, λ i. is i ++ deleted i))
    saved (Delete bytes ∷ [], grown, All-cons IsShortEdit (Delete bytes) [] tt (All-nil IsShortEdit), λ digest. refl)

-- and that is what is asked for where the list fails
pub kept-renewed : (bytes : List ℕ) (unpacked : Unpacked) (fails : Bool) (old new : List Edit) → fails ≡ true → unpacked.old ≡ true →
    Adds (λ digest. IsRenewed digest bytes unpacked.list true) old new → Adds (λ digest. IsKeptOrNot digest bytes unpacked fails) old new
kept-renewed bytes unpacked fails old new fail first =
    adds-as (λ digest. IsRenewed digest bytes unpacked.list true) (λ digest. IsKeptOrNot digest bytes unpacked fails) old new
    (λ digest edits are. subst (λ (f : Bool). IsKeptOrNot digest bytes unpacked f edits) (sym fail) (subst (λ (o : Bool). IsRenewed digest bytes unpacked.list o edits) (sym first) are))

-- a list of flags is its first one, and then the others
pub headed : (flags : List Bool) → 0 < length flags → flags ≡ get_or flags 0 false ∷ take (length flags - 1) (drop 1 flags)
headed flags some = drop-cons flags 0 false some ∙ ap (λ (rest : List Bool). get_or flags 0 false ∷ rest) (sym (take_rest flags 1))

-- a value that spells a list uses up one flag
pub asked-listed : (bytes : List ℕ) (found : Option Unpacked) (unpacked : Unpacked) (flags left : List Bool) (flag : Bool) (old new : List Edit) → found ≡ Some unpacked → flags ≡ flag ∷ left →
    Adds (λ digest. IsKeptOrNot digest bytes unpacked flag) old new → Adds (λ digest. IsAskedBy digest bytes found flags left) old new
asked-listed bytes found unpacked flags left flag old new listed parts =
    adds-as (λ digest. IsKeptOrNot digest bytes unpacked flag) (λ digest. IsAskedBy digest bytes found flags left) old new
    (λ digest edits kept. subst (λ (f : Option Unpacked). IsAskedBy digest bytes f flags left edits) (sym listed) (flag, parts, kept))

-- one flag is used up where the reading spells a list, and none where it does not
pub flags-left : (digest bytes : List ℕ) (found : Option Unpacked) (flags left : List Bool) (edits : List PairEdit) → IsAskedBy digest bytes found flags left edits →
    length flags ≡ length (list_in found) + length left
flags-left digest bytes None flags left edits asked = ap length (sym asked.0) ∙ omega arith
flags-left digest bytes (Some unpacked) flags left edits (flag, is, kept) = ap length is ∙ omega arith

-- the readings so far ask for the edits so far, and leave these flags to the readings that follow
abbrev AskSoFar : List ℕ → List Reading → List Bool → List Bool → List PairEdit → Type 0
AskSoFar digest readings flags left edits =
    (rest : List Reading) (more : List PairEdit) → AreAskedFor digest rest left more → AreAskedFor digest (readings ++ rest) flags (edits ++ more)

ask-next : (digest : List ℕ) (readings : List Reading) (reading : Reading) (flags left after : List Bool) (edits its : List PairEdit) →
    AskSoFar digest readings flags left edits → IsAskedBy digest reading.bytes reading.unpacked left after its → AskSoFar digest (readings ++ reading ∷ []) flags after (edits ++ its)
ask-next digest readings reading flags left after edits its so_far asked rest more follow =
    let all = so_far (reading ∷ rest) (its ++ more) (after, its, more, asked, follow, refl) in
    subst (λ (l : List Reading). AreAskedFor digest l flags ((edits ++ its) ++ more)) (sym (append_assoc readings (reading ∷ []) rest))
    (subst (AreAskedFor digest (readings ++ (reading ∷ rest)) flags) (sym (append_assoc edits its more)) all)

-- the shown example is saved, and the readings so far are gone through
abbrev pub EditsSoFar : Verdict → List Reading → List Bool → List Bool → List ℕ → List PairEdit → Type 0
EditsSoFar verdict readings flags left digest edits =
    (first rest : List PairEdit) × IsShownSaved digest verdict first × AskSoFar digest readings flags left rest × (edits ≡ first ++ rest)

pub record SoFar (verdict : Verdict) (readings : List Reading) (flags left : List Bool) (edits : List Edit) : Type 0 where
  pub counted : length flags ≡ length (lists_of readings) + length left
  pub added : Adds (EditsSoFar verdict readings flags left) [] edits

pub so-far-none : (verdict : Verdict) (flags : List Bool) (edits : List Edit) → Adds (λ digest. IsShownSaved digest verdict) [] edits → SoFar verdict [] flags flags edits
so-far-none verdict flags edits added = record {
  counted = omega arith;
  added = adds-as (λ digest. IsShownSaved digest verdict) (EditsSoFar verdict [] flags flags) [] edits
      (λ digest first saved. (first, [], saved, λ rest more asked. asked, sym (append-nil first)))
      added;
}

pub so-far-next : (verdict : Verdict) (readings : List Reading) (reading : Reading) (flags left after : List Bool) (edits grown : List Edit) → SoFar verdict readings flags left edits →
    Adds (λ digest. IsAskedBy digest reading.bytes reading.unpacked left after) edits grown → SoFar verdict (readings ++ reading ∷ []) flags after grown
so-far-next verdict readings reading flags left after edits grown so_far added =
    let used = flags-left [] reading.bytes reading.unpacked left after (map (under []) added.0) (added.3 []) in
    let lists = ap length (lists-push readings reading) ∙ length-append (lists_of readings) (list_in reading.unpacked) in
    record {
      counted = omega (arith, so_far.counted, used, lists);
      added = adds-then (EditsSoFar verdict readings flags left) (λ digest. IsAskedBy digest reading.bytes reading.unpacked left after) (EditsSoFar verdict (readings ++ reading ∷ []) flags after)
          [] edits grown
          (λ digest one more (first, rest, saved, asked, parts) its. (
            first,
            rest ++ more,
            saved,
            ask-next digest readings reading flags left after rest more asked its,
            ap (λ (l : List PairEdit). l ++ more) parts ∙ append_assoc first rest more,
          ))
          so_far.added added;
    }

-- a flag is left for each list of the readings that follow
pub flags-enough : (verdict : Verdict) (all readings rest : List Reading) (reading : Reading) (flags left : List Bool) (edits : List Edit) → SoFar verdict readings flags left edits →
    length flags ≡ length (lists_of all) → all ≡ readings ++ reading ∷ rest → length (list_in reading.unpacked) ≤ length left
flags-enough verdict all readings rest reading flags left edits so_far counted parts =
    let lists = ap (λ (l : List Reading). length (lists_of l)) parts ∙ ap length (lists-append readings (reading ∷ rest)) ∙ length-append (lists_of readings) (lists_of (reading ∷ rest)) in
    let its = length-append (list_in reading.unpacked) (lists_of rest) in
    omega (arith, so_far.counted, counted, lists, its)

pub so-far-all : (verdict : Verdict) (readings : List Reading) (flags left : List Bool) (edits : List Edit) → SoFar verdict readings flags left edits →
    (digest : List ℕ) → AreEdits digest readings verdict flags (map (under digest) edits)
so-far-all verdict readings flags left edits so_far digest =
    let (its, grown, short, are) = so_far.added in
    let (first, rest, saved, asked, parts) = are digest in
    let all = asked [] [] refl in (
      first,
      rest,
      saved,
      subst (λ (l : List Reading). AreAskedFor digest l flags rest) (append-nil readings) (subst (AreAskedFor digest (readings ++ []) flags) (append-nil rest) all),
      ap (map (under digest)) grown ∙ parts,
    )

pub so-far-short : (verdict : Verdict) (readings : List Reading) (flags left : List Bool) (edits : List Edit) → SoFar verdict readings flags left edits → All IsShortEdit edits
so-far-short verdict readings flags left edits so_far =
    let (its, grown, short, are) = so_far.added in
    subst (All IsShortEdit) (sym grown) short
