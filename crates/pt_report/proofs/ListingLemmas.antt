-- Lines of entries, one after another.
use Rattle.std.proofs.Common.{◌≡◌, inl, inr, ℕ, ◌+◌, ◌<◌, List, [], ◌∷◌, ◌++◌, length, take, get_or, codes, Option, Some, None, Result, Ok, Err, IfOk, refl, sym, ◌∙◌, ap, subst, append-nil, append_assoc}
use Rattle.std.proofs.lemmas.List.{take_more}
use Rattle.pt_choice.specs.declared.choice.Choice.{Choice}
use Rattle.pt_stored.specs.declared.entry.Entry.{Entry}
use Rattle.pt_wire.specs.Printed.{Printed}
use Rattle.pt_wire.specs.Unpacked.{IsUnpacked, Unpacks}
use Rattle.pt_wire.specs.declared.unpacking.Unpacked.{Unpacked}
use Rattle.pt_report.specs.Listing.{AreEntryLines, IsEntryLine}
use Rattle.pt_report.specs.Report.{line}

-- the lines of some entries, and then that of one more
lines-more : (entries : List Entry) (entry : Entry) (lines one : List ℕ) → AreEntryLines entries lines → IsEntryLine entry one →
    AreEntryLines (entries ++ entry ∷ []) (lines ++ one)
lines-more [] entry lines one are is = (one, [], is, refl, ap (λ (l : List ℕ). l ++ one) are ∙ sym (append-nil one))
lines-more (first ∷ entries) entry lines one (its, rest, is_first, are, all) is =
    (its, rest ++ one, is_first, lines-more entries entry rest one are is, ap (λ (l : List ℕ). l ++ one) all ∙ append_assoc its rest one)

-- the lines of the first entries, and then that of the next
pub lines-next : (entries : List Entry) (i : ℕ) (entry : Entry) (lines one all : List ℕ) → i < length entries → entry ≡ get_or entries i entry →
    all ≡ lines ++ one → AreEntryLines (take i entries) lines → IsEntryLine entry one → AreEntryLines (take (i + 1) entries) all
lines-next entries i entry lines one all within is joined are its =
    let this : take i entries ++ entry ∷ [] ≡ take (i + 1) entries =
    ap (λ (e : Entry). take i entries ++ e ∷ []) is ∙ sym (take_more entries i entry within) in
    subst (λ (es : List Entry). AreEntryLines es all) this
    (subst (λ (text : List ℕ). AreEntryLines (take i entries ++ entry ∷ []) text) (sym joined) (lines-more (take i entries) entry lines one are its))

-- the line of an entry whose bytes spell this list
pub spelled : {E : Type 0} (entry : Entry) (bytes : List ℕ) (found : Option Unpacked) (unpacked : Unpacked) (result : Result (List ℕ) E) → bytes ≡ entry.bytes →
    found ≡ Some unpacked → IsUnpacked bytes found →
    IfOk result (λ text. (printed : List ℕ) × Printed unpacked.list printed × (text ≡ line (entry.key ∷ codes " " ∷ printed ∷ []))) → IfOk result (IsEntryLine entry)
spelled entry bytes found unpacked (Ok text) same is spells (printed, prints, text_is) =
    let here : IsUnpacked bytes (Some unpacked) = subst (λ (f : Option Unpacked). IsUnpacked bytes f) is spells in
    inl (unpacked.list, printed, subst (λ (b : List ℕ). Unpacks b unpacked.list) same here.0, prints, text_is)
spelled entry bytes found unpacked (Err stop) same is spells ends = tt
