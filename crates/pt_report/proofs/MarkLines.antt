-- Lines of marks, one after another.
use Rattle.std.proofs.Common.{◌≡◌, ℕ, zero, suc, ◌+◌, ◌<◌, List, [], ◌∷◌, ◌++◌, length, take, get_or, refl, sym, ◌∙◌, ap, subst, append-nil, append_assoc, arith}
use Rattle.std.proofs.lemmas.List.{take_more}
use Rattle.pt_choice.specs.declared.choice.Choice.{Choice}
use Rattle.pt_explain.specs.declared.mark.Mark.{Mark}
use Rattle.pt_report.specs.Explaining.{AreMarkLines, IsMarkLine}

-- the lines of some places, and then that of one more
lines-more : (from : ℕ) (choices : List Choice) (marks : List Mark) (choice : Choice) (mark : Mark) (lines one : List ℕ) →
    AreMarkLines from choices marks lines → IsMarkLine (from + length choices) choice mark one →
    AreMarkLines from (choices ++ choice ∷ []) (marks ++ mark ∷ []) (lines ++ one)
lines-more from [] [] choice mark lines one are is =
    let here : IsMarkLine from choice mark one = subst (λ (n : ℕ). IsMarkLine n choice mark one) (omega arith) is in
    (one, [], here, refl, ap (λ (l : List ℕ). l ++ one) are ∙ sym (append-nil one))
lines-more from [] (other ∷ marks) choice mark lines one are is = absurd are
lines-more from (other ∷ choices) [] choice mark lines one are is = absurd are
lines-more from (first ∷ choices) (other ∷ marks) choice mark lines one (its, rest, is_first, are, all) is =
    let next : IsMarkLine (from + 1 + length choices) choice mark one = subst (λ (n : ℕ). IsMarkLine n choice mark one) (omega arith) is in
    (its, rest ++ one, is_first, lines-more (from + 1) choices marks choice mark rest one are next, ap (λ (l : List ℕ). l ++ one) all ∙ append_assoc its rest one)

-- the first places of some are so many
length-first : {A : Type 0} (xs : List A) (i : ℕ) → i < length xs → length (take i xs) ≡ i
length-first [] i within = absurd (omega (arith, within))
length-first (x ∷ xs) zero within = refl
length-first (x ∷ xs) (suc i) within = ap suc (length-first xs i (omega (arith, within)))

-- the lines of the first places, and then that of the next
pub lines-next : (choices : List Choice) (marks : List Mark) (i : ℕ) (choice : Choice) (mark : Mark) (lines one all : List ℕ) →
    i < length choices → i < length marks → choice ≡ get_or choices i choice → mark ≡ get_or marks i mark → all ≡ lines ++ one →
    AreMarkLines 0 (take i choices) (take i marks) lines → IsMarkLine i choice mark one →
    AreMarkLines 0 (take (i + 1) choices) (take (i + 1) marks) all
lines-next choices marks i choice mark lines one all within among is_choice is_mark joined are its =
    let choices_are : take i choices ++ choice ∷ [] ≡ take (i + 1) choices =
    ap (λ (c : Choice). take i choices ++ c ∷ []) is_choice ∙ sym (take_more choices i choice within) in
    let marks_are : take i marks ++ mark ∷ [] ≡ take (i + 1) marks =
    ap (λ (m : Mark). take i marks ++ m ∷ []) is_mark ∙ sym (take_more marks i mark among) in
    let here : IsMarkLine (0 + length (take i choices)) choice mark one =
    subst (λ (n : ℕ). IsMarkLine n choice mark one) (omega (arith, length-first choices i within)) its in
    subst (λ (cs : List Choice). AreMarkLines 0 cs (take (i + 1) marks) all) choices_are
    (subst (λ (ms : List Mark). AreMarkLines 0 (take i choices ++ choice ∷ []) ms all) marks_are
    (subst (λ (text : List ℕ). AreMarkLines 0 (take i choices ++ choice ∷ []) (take i marks ++ mark ∷ []) text) (sym joined)
    (lines-more 0 (take i choices) (take i marks) choice mark lines one are here)))
