-- Spellings with a mark between each two, where no spelling holds the mark.
use Rattle.std.proofs.Common.{Option, Some, None, MatchOption, ◌⊎◌, ◌≡◌, ◌≢◌, ℕ, zero, suc, ◌+◌, ◌-◌, ◌<◌, ◌≤◌, List, [], ◌∷◌, ◌++◌, length, take, refl, sym, ap, subst, ◌∙◌, append_assoc, arith, inl, inr, length-append}
use Rattle.std.specs.Borrow.{Bor}
use Rattle.std.specs.List.{AllByRecursion}
use Rattle.std.proofs.Math.Seq.{take-append-add}
use Rattle.std.proofs.lemmas.Bool.{cases_lt}
use Rattle.std.proofs.lemmas.List.{append-nil, take_at, take-append-le}
use Rattle.pt_wire.specs.Spelling.{Among, Begins, FailsAt, IsCut, Joined}

-- the mark stands nowhere in the bytes
abbrev pub Lacks : ℕ → List ℕ → Type 0
Lacks mark bytes = AllByRecursion (λ byte. byte ≢ mark) bytes

-- bytes spell at most one value, and no spelling holds the mark
pub record IsMarkable {A : Type 0} (Spells : A → List ℕ → Type 0) (mark : ℕ) : Type 0 where
  pub clean : (value : A) (bytes : List ℕ) → Spells value bytes → Lacks mark bytes
  pub one : (v w : A) (bytes : List ℕ) → Spells v bytes → Spells w bytes → v ≡ w

-- the spellings of the values, each with the mark behind it
abbrev pub Marked : {A : Type 0} → (A → List ℕ → Type 0) → ℕ → List A → List ℕ → Type 0
Marked Spells mark [] bytes = bytes ≡ []
Marked Spells mark (first ∷ others) bytes = (front rest : List ℕ) × Spells first front × Marked Spells mark others rest × (bytes ≡ front ++ mark ∷ rest)

pub marked_more : {A : Type 0} (Spells : A → List ℕ → Type 0) (mark : ℕ) (list : List A) (value : A) (bytes front : List ℕ)
    → Marked Spells mark list bytes → Spells value front → Marked Spells mark (list ++ value ∷ []) (bytes ++ (front ++ mark ∷ []))
marked_more Spells mark [] value bytes front none spelled = (front, [], spelled, refl, rw none refl)
marked_more Spells mark (first ∷ others) value bytes front (start, rest, one, more, parts) spelled =
    (start, rest ++ (front ++ mark ∷ []), one, marked_more Spells mark others value rest front more spelled, rw parts (append_assoc start (mark ∷ rest) (front ++ mark ∷ [])))

-- one value more, with a mark before it
pub joined_more : {A : Type 0} (Spells : A → List ℕ → Type 0) (mark : ℕ) (first : A) (others : List A) (value : A) (bytes front : List ℕ)
    → Joined Spells mark (first ∷ others) bytes → Spells value front → Joined Spells mark (first ∷ (others ++ value ∷ [])) (bytes ++ mark ∷ front)
joined_more Spells mark first [] value bytes front one spelled = (bytes, front, one, spelled, refl)
joined_more Spells mark first (second ∷ others) value bytes front (start, rest, one, more, parts) spelled =
    (start, rest ++ mark ∷ front, one, joined_more Spells mark second others value rest front more spelled, rw parts (append_assoc start (mark ∷ rest) (mark ∷ front)))

-- the last value, with no mark behind it
pub joined_end : {A : Type 0} (Spells : A → List ℕ → Type 0) (mark : ℕ) (list : List A) (value : A) (bytes front : List ℕ)
    → Marked Spells mark list bytes → Spells value front → Joined Spells mark (list ++ value ∷ []) (bytes ++ front)
joined_end Spells mark [] value bytes front none spelled = rw none spelled
joined_end Spells mark (first ∷ []) value bytes front (start, rest, one, none, parts) spelled =
    (start, front, one, spelled, rw (parts, none) (append_assoc start (mark ∷ []) front))
joined_end Spells mark (first ∷ second ∷ others) value bytes front (start, rest, one, more, parts) spelled =
    (start, rest ++ front, one, joined_end Spells mark (second ∷ others) value rest front more spelled, rw parts (append_assoc start (mark ∷ rest) front))

-- the first mark parts bytes in one way
same_word : (mark : ℕ) (v w x y : List ℕ) → Lacks mark v → Lacks mark w → v ++ mark ∷ x ≡ w ++ mark ∷ y → (v ≡ w) × (x ≡ y)
same_word mark [] [] x y h k e = (refl, cc)
same_word mark [] (b ∷ w) x y h k e = absurd (k.0 cc)
same_word mark (a ∷ v) [] x y h k e = absurd (h.0 cc)
same_word mark (a ∷ v) (b ∷ w) x y h k e =
    let same : a ≡ b = cc in
    let rest = same_word mark v w x y h.1 k.1 cc in
    let words = rest.0 in
    (cc, rest.1)

-- bytes without a mark do not hold one
no_mark : (mark : ℕ) (w front rest : List ℕ) → Lacks mark w → w ≡ front ++ mark ∷ rest → ⊥
no_mark mark [] [] rest h e = cc
no_mark mark [] (a ∷ front) rest h e = cc
no_mark mark (b ∷ w) [] rest h e = h.0 cc
no_mark mark (b ∷ w) (a ∷ front) rest h e = no_mark mark w front rest h.1 cc

-- a front without a mark lies before the first mark
before_mark : (mark : ℕ) (begin more front rest : List ℕ) → Lacks mark begin → begin ++ more ≡ front ++ mark ∷ rest → (goes_on : List ℕ) × (front ≡ begin ++ goes_on)
before_mark mark [] more front rest h e = (front, refl)
before_mark mark (b ∷ begin) more [] rest h e = absurd (h.0 cc)
before_mark mark (b ∷ begin) more (a ∷ front) rest h e =
    let same : a ≡ b = cc in
    let inside = before_mark mark begin more front rest h.1 cc in
    let words = inside.1 in
    (inside.0, cc)

Lacks-take : (mark n : ℕ) (w : List ℕ) → Lacks mark w → Lacks mark (take n w)
Lacks-take mark zero w h = tt
Lacks-take mark (suc n) [] h = tt
Lacks-take mark (suc n) (b ∷ w) h = (h.0, Lacks-take mark n w h.1)

module _ {A : Type 0} (Spells : A → List ℕ → Type 0) (mark : ℕ) (markable : IsMarkable Spells mark) where
  -- what stands behind marked values is the rest of a longer list
  pub joined_rest : (all list : List A) (done rest : List ℕ) → Marked Spells mark all done → Joined Spells mark list (done ++ rest)
      → (more : List A) × (list ≡ all ++ more) × Joined Spells mark more rest
  joined_rest [] list done rest none spelled = (list, refl, subst (λ d. Joined Spells mark list (d ++ rest)) none spelled)
  joined_rest (c ∷ cs) [] done rest marked spelled = absurd spelled
  joined_rest (c ∷ cs) (d ∷ []) done rest (front, others, one, more, parts) spelled =
      absurd (no_mark mark (done ++ rest) front (others ++ rest) (markable.clean d (done ++ rest) spelled) (ap (λ t. t ++ rest) parts ∙ append_assoc front (mark ∷ others) rest))
  joined_rest (c ∷ cs) (d ∷ e ∷ ds) done rest (front, others, one, more, parts) (front', others', one', more', parts') =
      let whole : front ++ mark ∷ (others ++ rest) ≡ front' ++ mark ∷ others' = sym (append_assoc front (mark ∷ others) rest) ∙ ap (λ t. t ++ rest) (sym parts) ∙ parts' in
      let same = same_word mark front front' (others ++ rest) others' (markable.clean c front one) (markable.clean d front' one') whole in
      let value = markable.one c d front one (subst (Spells d) (sym same.0) one') in
      let goes_on = joined_rest cs (e ∷ ds) others rest more (subst (Joined Spells mark (e ∷ ds)) (sym same.1) more') in
      (goes_on.0, ap (λ x. x ∷ e ∷ ds) (sym value) ∙ ap (λ xs. c ∷ xs) goes_on.1, goes_on.2)

  -- the word before the first mark is spelled
  joined_first : (list : List A) (word rest : List ℕ) → Lacks mark word → Joined Spells mark list (word ++ mark ∷ rest) → (value : A) × Spells value word
  joined_first [] word rest lacks spelled = absurd spelled
  joined_first (c ∷ []) word rest lacks spelled = absurd (no_mark mark (word ++ mark ∷ rest) word rest (markable.clean c (word ++ mark ∷ rest) spelled) refl)
  joined_first (c ∷ d ∷ cs) word rest lacks (front, others, one, more, parts) =
      let same = same_word mark word front rest others lacks (markable.clean c front one) parts in
      (c, subst (Spells c) (sym same.0) one)

  -- a word with no mark is spelled by one value
  pub joined_last : (list : List A) (word : List ℕ) → Lacks mark word → Joined Spells mark list word → (value : A) × (list ≡ value ∷ []) × Spells value word
  joined_last [] word lacks spelled = absurd spelled
  joined_last (c ∷ []) word lacks spelled = (c, refl, spelled)
  joined_last (c ∷ d ∷ cs) word lacks (front, others, one, more, parts) = absurd (no_mark mark word front others lacks parts)

  -- a front with no mark begins a spelling of one value
  pub joined_begins : (list : List A) (begin more : List ℕ) → Lacks mark begin → Joined Spells mark list (begin ++ more) → Begins Spells begin
  joined_begins [] begin more lacks spelled = absurd spelled
  joined_begins (c ∷ []) begin more lacks spelled = (c, more, spelled)
  joined_begins (c ∷ d ∷ cs) begin more lacks (front, others, one, rest, parts) =
      let inside = before_mark mark begin more front others lacks parts in
      (c, inside.0, subst (Spells c) inside.1 one)

  -- at most one list is spelled
  pub one_joined : (a b : List A) (bytes : List ℕ) → Joined Spells mark a bytes → Joined Spells mark b bytes → a ≡ b
  one_joined [] b bytes h k = absurd h
  one_joined (c ∷ []) [] bytes h k = absurd k
  one_joined (c ∷ []) (d ∷ []) bytes h k = ap (λ x. x ∷ []) (markable.one c d bytes h k)
  one_joined (c ∷ []) (d ∷ e ∷ ds) bytes h (front, others, one, more, parts) = absurd (no_mark mark bytes front others (markable.clean c bytes h) parts)
  one_joined (c ∷ x ∷ cs) [] bytes h k = absurd k
  one_joined (c ∷ x ∷ cs) (d ∷ []) bytes (front, others, one, more, parts) k = absurd (no_mark mark bytes front others (markable.clean d bytes k) parts)
  one_joined (c ∷ x ∷ cs) (d ∷ e ∷ ds) bytes (front, others, one, more, parts) (front', others', one', more', parts') =
      let same = same_word mark front front' others others' (markable.clean c front one) (markable.clean d front' one') (sym parts ∙ parts') in
      let value = markable.one c d front one (subst (Spells d) (sym same.0) one') in
      let rest = one_joined (x ∷ cs) (e ∷ ds) others more (subst (Joined Spells mark (e ∷ ds)) (sym same.1) more') in
      ap (λ y. y ∷ x ∷ cs) value ∙ ap (λ ys. d ∷ ys) rest

  -- a list fails where the word behind marked values does
  pub fails_joined : (May : List A → Type 0) (all : List A) (done word tail : List ℕ) (place : ℕ) → ((value : A) → May (all ++ value ∷ [])) → Marked Spells mark all done
      → Lacks mark word → (tail ≡ []) ⊎ ((after : List ℕ) × (tail ≡ mark ∷ after)) → FailsAt Spells word place
      → FailsAt (Among May (Joined Spells mark)) (done ++ (word ++ tail)) (length done + place)
  fails_joined May all done word tail place may marked lacks ends fails = record {
    none = λ list spelled. none list spelled.1 ends;
    within = let inside = fails.within in omega (arith, length-append done (word ++ tail), length-append word tail);
    begun =
        let begun = fails.begun in
        let front : take place (word ++ tail) ≡ take place word = take-append-le place word tail fails.within in
        rw (take-append-add done (word ++ tail) place, front)
        (all ++ begun.0 ∷ [], begun.1, (may begun.0, subst (Joined Spells mark (all ++ begun.0 ∷ [])) (sym (append_assoc done (take place word) begun.1)) (joined_end Spells mark all begun.0 done (take place word ++ begun.1) marked begun.2)));
    broken = λ lt more.
        let cut : take (length done + place + 1) (done ++ (word ++ tail)) ≡ done ++ take (place + 1) (word ++ tail) =
        ap (λ n. take n (done ++ (word ++ tail))) (omega arith) ∙ take-append-add done (word ++ tail) (place + 1) in
        let spelled : Joined Spells mark more.0 (done ++ (take (place + 1) (word ++ tail) ++ more.1)) =
        subst (Joined Spells mark more.0) (ap (λ t. t ++ more.1) cut ∙ append_assoc done (take (place + 1) (word ++ tail)) more.1) more.2.1 in
        let behind = joined_rest all more.0 done (take (place + 1) (word ++ tail) ++ more.1) marked spelled in
        broken behind.0 more.1 behind.2 (omega (arith, length-append done (word ++ tail))) ends;
  } where
    none : (list : List A) → Joined Spells mark list (done ++ (word ++ tail)) → (tail ≡ []) ⊎ ((after : List ℕ) × (tail ≡ mark ∷ after)) → ⊥
    none list spelled (inl nothing) =
        let whole : word ++ tail ≡ word = ap (λ t. word ++ t) nothing ∙ append-nil word in
        let behind = joined_rest all list done (word ++ tail) marked spelled in
        let last = joined_last behind.0 word lacks (subst (Joined Spells mark behind.0) whole behind.2) in
        fails.none last.0 last.2
    none list spelled (inr (after, is)) =
        let behind = joined_rest all list done (word ++ tail) marked spelled in
        let first = joined_first behind.0 word after lacks (subst (λ t. Joined Spells mark behind.0 (word ++ t)) is behind.2) in
        fails.none first.0 first.1

    broken : (list : List A) (more : List ℕ) → Joined Spells mark list (take (place + 1) (word ++ tail) ++ more) → place < length (word ++ tail)
        → (tail ≡ []) ⊎ ((after : List ℕ) × (tail ≡ mark ∷ after)) → ⊥
    broken list more spelled lt ends = elim (cases_lt place (length word)) [
      | inl inside ↦
          let front : take (place + 1) (word ++ tail) ≡ take (place + 1) word = take-append-le (place + 1) word tail (omega arith) in
          fails.broken inside (joined_begins list (take (place + 1) word) more (Lacks-take mark (place + 1) word lacks) (subst (λ t. Joined Spells mark list (t ++ more)) front spelled))
      | inr outside ↦ past outside ends
    ] where
      past : length word ≤ place → (tail ≡ []) ⊎ ((after : List ℕ) × (tail ≡ mark ∷ after)) → ⊥
      past outside (inl nothing) = omega (arith, length-append word tail, ap length nothing)
      past outside (inr (after, is)) =
          let within = fails.within in
          let at_end : place ≡ length word = omega arith in
          let cut : take (place + 1) (word ++ tail) ≡ word ++ mark ∷ [] =
          ap (λ n. take (n + 1) (word ++ tail)) at_end ∙ ap (λ t. take (length word + 1) (word ++ t)) is ∙ take-append-add word (mark ∷ after) 1 in
          let first = joined_first list word more lacks (subst (Joined Spells mark list) (ap (λ t. t ++ more) cut ∙ append_assoc word (mark ∷ []) more) spelled) in
          fails.none first.0 first.1

  -- a list that holds as many values as it may fails at the next mark
  pub fails_full : (May : List A → Type 0) (all : List A) (done front after : List ℕ) (value : A) → Marked Spells mark all done → Spells value front
      → May (all ++ value ∷ []) → ((more : A) (others : List A) → May ((all ++ value ∷ []) ++ more ∷ others) → ⊥)
      → FailsAt (Among May (Joined Spells mark)) (done ++ (front ++ mark ∷ after)) (length done + length front)
  fails_full May all done front after value marked spelled may full = record {
    none = λ list whole. none list after whole.0 (subst (Joined Spells mark list) (parts after) whole.1);
    within = omega (arith, length-append done (front ++ mark ∷ after), length-append front (mark ∷ after));
    begun = rw (take-append-add done (front ++ mark ∷ after) (length front), take_at front (mark ∷ after) (length front) refl)
        (all ++ value ∷ [], [], (may, subst (Joined Spells mark (all ++ value ∷ [])) (sym (append-nil (done ++ front))) (joined_end Spells mark all value done front marked spelled)));
    broken = λ lt more.
        let cut : take (length done + length front + 1) (done ++ (front ++ mark ∷ after)) ≡ done ++ (front ++ mark ∷ []) =
        ap (λ n. take n (done ++ (front ++ mark ∷ after))) (omega arith) ∙ take-append-add done (front ++ mark ∷ after) (length front + 1) ∙ ap (λ t. done ++ t) (take-append-add front (mark ∷ after) 1) in
        none more.0 more.1 more.2.0 (subst (λ t. Joined Spells mark more.0 (t ++ more.1)) cut more.2.1);
  } where
    parts : (rest : List ℕ) → done ++ (front ++ mark ∷ rest) ≡ (done ++ (front ++ mark ∷ [])) ++ rest
    parts rest = simp append_assoc

    none : (list : List A) (rest : List ℕ) → May list → Joined Spells mark list ((done ++ (front ++ mark ∷ [])) ++ rest) → ⊥
    none list rest allowed whole =
        let behind = joined_rest (all ++ value ∷ []) list (done ++ (front ++ mark ∷ [])) rest (marked_more Spells mark all value done front marked spelled) whole in
        more behind.0 behind.2 (subst May behind.1 allowed) where
          more : (others : List A) → Joined Spells mark others rest → May ((all ++ value ∷ []) ++ others) → ⊥
          more [] spelled allowed = spelled
          more (next ∷ others) spelled allowed = full next others allowed

  -- the same, of all the text, where the word was cut off
  pub fails_cut : (May : List A → Type 0) (all : List A) (done rest text word : List ℕ) (after : Option (Bor (List ℕ))) (place : ℕ) → ((value : A) → May (all ++ value ∷ []))
      → Marked Spells mark all done → text ≡ done ++ rest → IsCut mark rest word after → FailsAt Spells word place
      → FailsAt (Among May (Joined Spells mark)) text (length text - length rest + place)
  fails_cut May all done rest text word after place may marked parts (lacks, ends) fails =
      let cut = tail after ends in
      let whole : text ≡ done ++ (word ++ cut.0) = parts ∙ ap (λ t. done ++ t) cut.1 in
      let before : length text - length rest ≡ length done = omega (arith, ap length parts, length-append done rest) in
      subst (λ n. FailsAt (Among May (Joined Spells mark)) text (n + place)) (sym before)
      (subst (λ t. FailsAt (Among May (Joined Spells mark)) t (length done + place)) (sym whole) (fails_joined May all done word cut.0 place may marked lacks cut.2 fails)) where
        tail : (after : Option (Bor (List ℕ))) → MatchOption after (rest ≡ word) (λ others. rest ≡ word ++ mark ∷ others.now)
            → (behind : List ℕ) × (rest ≡ word ++ behind) × ((behind ≡ []) ⊎ ((others : List ℕ) × (behind ≡ mark ∷ others)))
        tail None is = ([], is ∙ sym (append-nil word), inl refl)
        tail (Some others) is = (mark ∷ others.now, is, inr (others.now, refl))

  pub fails_full_cut : (May : List A → Type 0) (all : List A) (done rest text word others : List ℕ) (value : A) → Marked Spells mark all done → text ≡ done ++ rest
      → rest ≡ word ++ mark ∷ others → Spells value word → May (all ++ value ∷ []) → ((more : A) (others : List A) → May ((all ++ value ∷ []) ++ more ∷ others) → ⊥)
      → FailsAt (Among May (Joined Spells mark)) text (length text - length rest + length word)
  fails_full_cut May all done rest text word others value marked parts cut spelled may full =
      let whole : text ≡ done ++ (word ++ mark ∷ others) = parts ∙ ap (λ t. done ++ t) cut in
      let before : length text - length rest ≡ length done = omega (arith, ap length parts, length-append done rest) in
      subst (λ n. FailsAt (Among May (Joined Spells mark)) text (n + length word)) (sym before)
      (subst (λ t. FailsAt (Among May (Joined Spells mark)) t (length done + length word)) (sym whole) (fails_full May all done word others value marked spelled may full))

  -- the text before the rest, with a word more
  pub marked_cut : (all : List A) (done rest text word others : List ℕ) (value : A) → Marked Spells mark all done → text ≡ done ++ rest → rest ≡ word ++ mark ∷ others → Spells value word
      → (done' : List ℕ) × Marked Spells mark (all ++ value ∷ []) done' × (text ≡ done' ++ others)
  marked_cut all done rest text word others value marked parts cut spelled = (
    done ++ (word ++ mark ∷ []),
    marked_more Spells mark all value done word marked spelled,
    parts ∙ ap (λ t. done ++ t) (cut ∙ sym (append_assoc word (mark ∷ []) others)) ∙ sym (append_assoc done (word ++ mark ∷ []) others),
  )
