-- Places with a dot between each two.
use Rattle.std.proofs.Common.{◌≡◌, ℕ, ◌+◌, ◌^◌, ◌<◌, ◌≤◌, List, [], ◌∷◌, ◌++◌, length, take, refl, sym, subst, ◌∙◌, arith, add-one}
use Rattle.std.specs.Fmt.{decimal}
use Rattle.std.specs.Str.Parse.{AllDigits}
use Rattle.std.proofs.lemmas.Fmt.{decimal_injective, decimal_is_IsNumeral}
use Rattle.std.proofs.lemmas.Str.Parse.{digit_from_value}
use Rattle.pt_wire.specs.Spelling.{Among, FailsAt, Joined}
use Rattle.pt_choice.specs.Limits.{IsFew}
use Rattle.pt_wire.specs.Printed.{PrintedNumber, PrintedPlaces}
use Rattle.pt_wire.proofs.JoinedTexts.{IsMarkable, Lacks, joined_more}

-- one place more at the end
pub places_more : (list : List ℕ) (place : ℕ) (text : List ℕ) → 0 < length list → place ≤ 255 → PrintedPlaces list text → PrintedPlaces (list ++ place ∷ []) (text ++ 46 ∷ decimal place)
places_more [] place text some small printed = absurd (omega arith)
places_more (first ∷ others) place text some small printed = joined_more (PrintedNumber 255) 46 first others place text (decimal place) printed (refl, small)

-- decimal digits hold no mark that is no digit
pub digits_lack : (mark number : ℕ) (text : List ℕ) → number < 2 ^ 64 → mark < 48 → text ≡ decimal number → Lacks mark text
digits_lack mark number text small low is = lacks text (subst (AllDigits 10) (sym is) (decimal_is_IsNumeral number small).0.1) where
  lacks : (digits : List ℕ) → AllDigits 10 digits → Lacks mark digits
  lacks [] each = tt
  lacks (digit ∷ digits) each = ((λ e. let range = digit_from_value digit each.0 in omega arith), lacks digits each.1)

-- places can be told apart by the dots
pub places_markable : IsMarkable (PrintedNumber 255) 46
places_markable = record {
  clean = λ place text h. digits_lack 46 place text (omega (arith, h.1)) (omega arith) h.0;
  one = λ v w text h k. decimal_injective v w (omega (arith, h.1)) (omega (arith, k.1)) (sym h.0 ∙ k.0);
}

-- places that are joined are printed
pub places_printed : (list text : List ℕ) → Joined (PrintedNumber 255) 46 list text → PrintedPlaces list text
places_printed [] text joined = absurd joined
places_printed (first ∷ others) text joined = joined

-- where text that is not empty fails as joined places, it fails as places
pub places_fail : (first : ℕ) (others : List ℕ) (place : ℕ) → FailsAt (Among IsFew (Joined (PrintedNumber 255) 46)) (first ∷ others) place → FailsAt (Among IsFew PrintedPlaces) (first ∷ others) place
places_fail first others place fails = record {
  none = λ list h. none list h;
  within = fails.within;
  begun = (fails.begun.0, fails.begun.1, (fails.begun.2.0, places_printed fails.begun.0 (take place (first ∷ others) ++ fails.begun.1) fails.begun.2.1));
  broken = λ lt more. broken lt more.0 more.1 more.2;
} where
  none : (list : List ℕ) → Among IsFew PrintedPlaces list (first ∷ others) → ⊥
  none [] (few, text) = absurd cc
  none (place ∷ places) h = fails.none (place ∷ places) h

  broken : place < length (first ∷ others) → (list more : List ℕ) → Among IsFew PrintedPlaces list (take (place + 1) (first ∷ others) ++ more) → ⊥
  broken lt [] more (few, text) = let cells : first ∷ (take place others ++ more) ≡ [] = rw (add-one place) at text in absurd cc
  broken lt (p ∷ places) more h = fails.broken lt (p ∷ places, more, h)

pub places_fail_within : (text : List ℕ) (place : ℕ) → 0 < length text → FailsAt (Among IsFew (Joined (PrintedNumber 255) 46)) text place → FailsAt (Among IsFew PrintedPlaces) text place
places_fail_within [] place some fails = absurd (omega arith)
places_fail_within (first ∷ others) place some fails = places_fail first others place fails
