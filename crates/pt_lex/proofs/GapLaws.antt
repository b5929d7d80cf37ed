-- Blanks and comments, as a gap and as they are read.
use Rattle.std.proofs.Common.{◌≡◌, ◌≢◌, ◌⊎◌, ℕ, Bool, true, false, ◌==◌, not, if◌then◌else◌, List, [], ◌∷◌, ◌++◌, refl, sym, ap, subst, ◌∙◌, append_assoc, arith, inl, inr}
use Rattle.std.specs.List.{AllByRecursion, flat_map}
use Rattle.std.proofs.lemmas.List.{append-nil}
use Rattle.pt_lex.specs.Gaps.{is_blank, IsBlank, IsComment, IsGap, IsLastGap, IsPastGap}
use Rattle.pt_lex.specs.reading.Gap.{gap_on}

abbrev pub IsPiece : List ℕ → Type 0
IsPiece piece = IsBlank piece ⊎ IsComment piece

-- a remark is read to its line feed
remark_on : (body rest : List ℕ) → AllByRecursion (λ char. char ≢ 10) body → gap_on true (body ++ rest) ≡ gap_on true rest
remark_on [] rest all = refl
remark_on (char ∷ body) rest all = rw (gap_on, eqb_no char 10 all.0) (remark_on body rest all.1) where
  eqb_no : (a b : ℕ) → (a ≡ b → ⊥) → (a == b) ≡ false
  eqb_no a b differ = grind (arith, differ)

feed_ends : (rest : List ℕ) → gap_on true (10 ∷ rest) ≡ gap_on false rest
feed_ends rest = refl

pub piece_on : (piece rest : List ℕ) → IsPiece piece → gap_on false (piece ++ rest) ≡ gap_on false rest
piece_on piece rest (inl (char, blank, is)) = rw is (blank_on char blank) where
  blank_on : (char : ℕ) → is_blank char ≡ true → gap_on false (char ∷ rest) ≡ gap_on false rest
  blank_on char blank = grind (arith, blank)
piece_on piece rest (inr (remark, (body, all, whole), is)) =
    ap (λ p. gap_on false (p ++ rest)) (is ∙ ap (λ r. r ++ 10 ∷ []) whole) ∙ ap (gap_on true) (append_assoc body (10 ∷ []) rest) ∙ remark_on body (10 ∷ rest) all

pub gap_passed : (pieces : List (List ℕ)) (rest : List ℕ) → AllByRecursion IsPiece pieces → gap_on false (flat_map (λ piece. piece) pieces ++ rest) ≡ gap_on false rest
gap_passed [] rest all = refl
gap_passed (piece ∷ pieces) rest all =
    ap (gap_on false) (append_assoc piece (flat_map (λ piece. piece) pieces) rest) ∙ piece_on piece (flat_map (λ piece. piece) pieces ++ rest) all.0 ∙ gap_passed pieces rest all.1

pub past_stays : (rest : List ℕ) → IsPastGap rest → gap_on false rest ≡ rest
past_stays [] past = absurd past
past_stays (char ∷ text) past = rw (gap_on, no char past.1, past.0) refl where
  no : (char : ℕ) → char ≢ 35 → (char == 35) ≡ false
  no char other = grind (arith, other)

pub gap_read : (gap rest : List ℕ) → IsGap gap → IsPastGap rest → gap_on false (gap ++ rest) ≡ rest
gap_read gap rest (pieces, all, is) past = ap (λ g. gap_on false (g ++ rest)) is ∙ gap_passed pieces rest all ∙ past_stays rest past

pub last_gap_read : (gap : List ℕ) → IsLastGap gap → gap_on false gap ≡ []
last_gap_read gap (inl (pieces, all, is)) = ap (gap_on false) (is ∙ sym (append-nil _)) ∙ gap_passed pieces [] all
last_gap_read gap (inr (front, remark, (pieces, all, is), (body, none, whole), parts)) =
    ap (gap_on false) (parts ∙ ap (λ f. f ++ remark) is ∙ ap (λ r. flat_map (λ piece. piece) pieces ++ r) whole) ∙ gap_passed pieces (35 ∷ body) all
    ∙ ap (gap_on true) (sym (append-nil body)) ∙ remark_on body [] none

-- what is read is a gap, and something past it or nothing
pub data Gap (text : List ℕ) : List ℕ → Type 0 where
  Past : (gap rest : List ℕ) → IsGap gap → IsPastGap rest → text ≡ gap ++ rest → Gap text rest
  Ended : IsLastGap text → Gap text []

-- the same within a comment
pub data Within (text : List ℕ) : List ℕ → Type 0 where
  Closed : (body gap rest : List ℕ) → AllByRecursion (λ char. char ≢ 10) body → Gap gap rest → text ≡ body ++ 10 ∷ gap → Within text rest
  Open : AllByRecursion (λ char. char ≢ 10) text → Within text []

no_gap : IsGap []
no_gap = ([], tt, refl)

pub more_gap : (piece gap : List ℕ) → IsPiece piece → IsGap gap → IsGap (piece ++ gap)
more_gap piece gap one (pieces, all, is) = (piece ∷ pieces, (one, all), ap (λ g. piece ++ g) is)

-- a piece before a gap
pub piece_before : (piece text rest : List ℕ) → IsPiece piece → Gap text rest → Gap (piece ++ text) rest
piece_before piece text _ one (Past gap rest is past parts) =
    Past (piece ++ gap) rest (more_gap piece gap one is) past (ap (λ b. piece ++ b) parts ∙ sym (append_assoc piece gap rest))
piece_before piece text _ one (Ended (inl is)) = Ended (inl (more_gap piece text one is))
piece_before piece text _ one (Ended (inr (gap, remark, is, last, parts))) =
    Ended (inr (piece ++ gap, remark, more_gap piece gap one is, last, ap (λ b. piece ++ b) parts ∙ sym (append_assoc piece gap remark)))

remark_before : (text rest : List ℕ) → Within text rest → Gap (35 ∷ text) rest
remark_before text _ (Closed body gap rest all found parts) =
    let one : IsComment (35 ∷ body ++ 10 ∷ []) = (35 ∷ body, (body, all, refl), refl) in
    let whole : 35 ∷ text ≡ (35 ∷ body ++ 10 ∷ []) ++ gap = ap (λ b. 35 ∷ b) (parts ∙ sym (append_assoc body (10 ∷ []) gap)) in
    subst (λ b. Gap b rest) (sym whole) (piece_before (35 ∷ body ++ 10 ∷ []) gap rest (inr one) found)
remark_before text _ (Open all) = Ended (inr ([], 35 ∷ text, no_gap, (text, all, refl), refl))

abbrev Reads : Bool → List ℕ → List ℕ → Type 0
Reads false text rest = Gap text rest
Reads true text rest = Within text rest

if_yes : (b : Bool) (x y : List ℕ) → b ≡ true → (if b then x else y) ≡ x
if_yes true x y e = refl
if_yes false x y e = absurd cc

if_no : (b : Bool) (x y : List ℕ) → b ≡ false → (if b then x else y) ≡ y
if_no true x y e = absurd cc
if_no false x y e = refl

gap_found : (in_remark : Bool) (text : List ℕ) → Reads in_remark text (gap_on in_remark text)
gap_found true [] = Open tt
gap_found false [] = Ended (inl no_gap)
gap_found true (char ∷ text) = cases (char == 10) refl (gap_found true text) (gap_found false text) where
  longer : (rest : List ℕ) → char ≢ 10 → Within text rest → Within (char ∷ text) rest
  longer _ other (Closed body gap rest all found parts) = Closed (char ∷ body) gap rest (other, all) found (ap (λ b. char ∷ b) parts)
  longer _ other (Open all) = Open (other, all)

  cases : (b : Bool) → (char == 10) ≡ b → Within text (gap_on true text) → Gap text (gap_on false text) → Within (char ∷ text) (gap_on (not (char == 10)) text)
  cases true e inside outside =
      let feed : char ≡ 10 = grind (arith, e) in
      subst (λ b. Within (char ∷ text) (gap_on (not b) text)) (sym e) (Closed [] text (gap_on false text) tt outside (ap (λ h. h ∷ text) feed))
  cases false e inside outside =
      let other : char ≢ 10 = grind (arith, e) in
      subst (λ b. Within (char ∷ text) (gap_on (not b) text)) (sym e) (longer (gap_on true text) other inside)
gap_found false (char ∷ text) = cases (char == 35) (is_blank char) refl refl (gap_found true text) (gap_found false text) where
  behind : List ℕ
  behind = if is_blank char then gap_on false text else char ∷ text

  cases : (h b : Bool) → (char == 35) ≡ h → is_blank char ≡ b → Within text (gap_on true text) → Gap text (gap_on false text) → Gap (char ∷ text) (if char == 35 then gap_on true text else behind)
  cases true b h_is b_is inside outside =
      let hash : char ≡ 35 = grind (arith, h_is) in
      subst (Gap (char ∷ text)) (sym (if_yes (char == 35) (gap_on true text) behind h_is))
      (subst (λ h. Gap (h ∷ text) (gap_on true text)) (sym hash) (remark_before text (gap_on true text) inside))
  cases false true h_is b_is inside outside =
      subst (Gap (char ∷ text)) (sym (if_no (char == 35) (gap_on true text) behind h_is ∙ if_yes (is_blank char) (gap_on false text) (char ∷ text) b_is))
      (piece_before (char ∷ []) text (gap_on false text) (inl (char, b_is, refl)) outside)
  cases false false h_is b_is inside outside =
      let other : char ≢ 35 = grind (arith, h_is) in
      subst (Gap (char ∷ text)) (sym (if_no (char == 35) (gap_on true text) behind h_is ∙ if_no (is_blank char) (gap_on false text) (char ∷ text) b_is))
      (Past [] (char ∷ text) no_gap (b_is, other) refl)

pub found_gap : (text : List ℕ) → Gap text (gap_on false text)
found_gap text = gap_found false text
