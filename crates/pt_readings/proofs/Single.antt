-- Forms of one token that has content: names, texts, bytes and numbers.
use Rattle.std.proofs.Common.{◌≡◌, ℕ, ◌<◌, ◌≤◌, ◌^◌, ◌&&◌, pos, neg_ℤ, ℤ, Bool, true, false, cond, List, [], ◌∷◌, length, Result, Ok, Err, Option, Some, None, ◌⊎◌, inl, inr, refl, sym, ap, subst, ◌∙◌, arith}
use Rattle.std.specs.Prelude.{nat_lt, nat_le}
use Rattle.std.proofs.lemmas.Bool.{ltb-true, leb-true, lt-ltb, le-leb}
use Rattle.pt_val.specs.declared.place.Place.{Place}
use Rattle.pt_ast.specs.declared.ident.Ident.{Ident}
use Rattle.pt_ast.specs.Bounds.{IsBetween}
use Rattle.pt_token.specs.declared.token.Token.{Token}
use Rattle.pt_token.specs.declared.token.Kind.{Kind}
use Rattle.pt_token.specs.declared.token.Kind.TheVariants as kind
use Rattle.pt_token.specs.Ending.{is_last}
use Rattle.pt_grammar.specs.declared.sort.Sort.{Sort}
use Rattle.pt_grammar.specs.declared.sort.Sort.TheVariants as sort
use Rattle.pt_grammar.specs.Tokens.{IsReal}
use Rattle.pt_grammar.specs.Forms.{Fitting, IsName, Number, Magnitude, Limited, MindsAll}
use Rattle.pt_readings.specs.Faults.{Family, Begins, IsBefore}
use Rattle.pt_grammar.specs.Reading.{named, text_seen, bytes_seen, number_seen, magnitude_seen, limited_seen, counted, token_at}
use Rattle.pt_readings.proofs.Outcomes.{Form}
use Rattle.pt_readings.proofs.Forms.{made, unreal, none_before, form_same, Token_law, token_form}
use Rattle.pt_readings.proofs.Lists.{last_sort, early_sort}

-- a token that is of a kind, or too long for it

pub fitting_one : (s : Sort) (which long : Kind) (at : Place) (t : Token) (x : List Token) → Fitting s which long at (t ∷ x)
    → ((t.kind ≡ which) ⊎ ((t.kind ≡ long) × (MindsAll s → IsReal t → ⊥))) × (t.at ≡ at) × (x ≡ [])
fitting_one s which long at t x (u, k, stands, only) =
    let same : u ≡ t = cc in (
      subst (λ (c : Token). (c.kind ≡ which) ⊎ ((c.kind ≡ long) × (MindsAll s → IsReal c → ⊥))) same k,
      subst (λ (c : Token). c.at ≡ at) same stands,
      cc,
    )

module _ {A : Type 0} (which : A → Kind) (stands : A → Place) (long : Kind) (view : Place → Kind → Result A Sort)
    (good : (place : Place) (k : Kind) (a : A) → view place k ≡ Ok a → (k ≡ which a) × (place ≡ stands a) × (is_last k ≡ false))
    (bad : (place : Place) (k : Kind) (w : Sort) → view place k ≡ Err w → ((w ≡ sort.OutOfRange) × (k ≡ long)) ⊎ ((w ≡ sort.Syntax) × (k ≡ long → ⊥)))
    (found : (place : Place) (a : A) → (b : A) × (view place (which a) ≡ Ok b) × (place ≡ stands a → b ≡ a))
    (apart : (a : A) → which a ≡ long → ⊥) (blank : (place : Place) → (a : A) × (stands a ≡ place)) where
  abbrev pub Fits : Family A
  Fits s a = Fitting s (which a) long (stands a)

  not_bad : (k : Kind) (place : Place) (w : Sort) (b : A) → k ≡ which b → view place k ≡ Err w → ⊥
  not_bad k place w b same e = let f = found place b in let both : view place k ≡ Ok f.0 = ap (view place) same ∙ f.1 in absurd (let clash : Result.Ok f.0 ≡ Err w = sym both ∙ e in cc)

  fits_law : Token_law Fits view
  fits_law = record {
    single = λ s a t x h. (fitting_one s (which a) long (stands a) t x h).2;
    empty = λ s a h. let only = h.3 in cc;
    good = λ t a e s. let g = good t.at t.kind a e in (t, inl g.0, g.1, refl);
    clean = λ t a e. (good t.at t.kind a e).2;
    same = λ t a e s b h. same t a e s b [] (fitting_one s (which b) long (stands b) t [] h);
    early = λ t w e s before. elim (bad t.at t.kind w e) [
      | inl out ↦ early t s (subst (λ v. IsBefore s v) out.0 before) out.1
      | inr plain ↦ absurd (none_before s (subst (λ v. IsBefore s v) plain.0 before))
    ];
    broken = λ t w e real s late b h. broken t w e real s late b [] (fitting_one s (which b) long (stands b) t [] h);
  } where
    same : (t : Token) (a : A) → view t.at t.kind ≡ Ok a → (s : Sort) (b : A) (x : List Token) → ((t.kind ≡ which b) ⊎ ((t.kind ≡ long) × (MindsAll s → IsReal t → ⊥))) × (t.at ≡ stands b) × (x ≡ []) → b ≡ a
    same t a e s b x (inl k, at, nil) =
        let f = found t.at b in
        let both : Result.Ok f.0 ≡ Ok a = sym (ap (view t.at) k ∙ f.1) ∙ e in
        sym (f.2 at) ∙ (let one : f.0 ≡ a = cc in one)
    same t a e s b x (inr (k, minds), at, nil) = absurd (apart a (sym (good t.at t.kind a e).0 ∙ k))

    early : (t : Token) (s : Sort) → IsBefore s sort.OutOfRange → t.kind ≡ long → Begins (Fits s) (t ∷ [])
    early t s before k = let b = blank t.at in (b.0, [], (t, inr (k, λ minds. absurd (early_sort s sort.OutOfRange before minds)), sym b.1, refl))

    broken : (t : Token) (w : Sort) → view t.at t.kind ≡ Err w → IsReal t → (s : Sort) → (IsBefore s w → ⊥) → (b : A) (x : List Token)
        → ((t.kind ≡ which b) ⊎ ((t.kind ≡ long) × (MindsAll s → IsReal t → ⊥))) × (t.at ≡ stands b) × (x ≡ []) → ⊥
    broken t w e real s late b x (inl k, at, nil) = not_bad t.kind t.at w b k e
    broken t w e real s late b x (inr (k, minds), at, nil) = elim (bad t.at t.kind w e) [
      | inl out ↦ minds (last_sort s (λ before. late (subst (λ v. IsBefore s v) (sym out.0) before))) real
      | inr plain ↦ plain.1 k
    ]

  pub fits_form : (C : Type 0) (on : Kind → Bool) (some : A) → Form C Fits on (token_at view)
  fits_form C on some = token_form C Fits on view (b.0, t ∷ [], λ s. (t, inl refl, sym b.1, refl), λ real. unreal (which b.0) real) fits_law where
    b : (a : A) × (stands a ≡ record { line = 0; column = 0 })
    b = blank (record { line = 0; column = 0 })

    t : Token
    t = made (which b.0)

abbrev pub Names : Family Ident
Names s given = IsName s given

abbrev blank_ident : Place → Ident
blank_ident place = record { at = place; name = [] }

pub name_form : (C : Type 0) (on : Kind → Bool) → Form C Names on (token_at named)
name_form C on = fits_form (λ (a : Ident). kind.Name a.name) (λ a. a.at) kind.LongName named good bad (λ place b. (record { at = place; name = b.name }, refl, λ e. ap (λ p. record { at = p; name = b.name }) e)) (λ a e. absurd cc)
    (λ place. (blank_ident place, refl)) C on (blank_ident (record { line = 0; column = 0 })) where
      good : (place : Place) (k : Kind) (a : Ident) → named place k ≡ Ok a → (k ≡ kind.Name a.name) × (place ≡ a.at) × (is_last k ≡ false)
      good place (kind.Name name) a e = let same : record { at = place; name = name } ≡ a = cc in (ap (λ (b : Ident). kind.Name b.name) same, ap (λ (b : Ident). b.at) same, refl)
      good place other a e = absurd cc

      bad : (place : Place) (k : Kind) (w : Sort) → named place k ≡ Err w → ((w ≡ sort.OutOfRange) × (k ≡ kind.LongName)) ⊎ ((w ≡ sort.Syntax) × (k ≡ kind.LongName → ⊥))
      bad place (kind.Name name) w e = absurd cc
      bad place kind.LongName w e = inl (cc, refl)
      bad place other w e = inr (cc, λ k. absurd cc)

abbrev pub Texts : Family (Place × List ℕ)
Texts s a = Fitting s (kind.Text a.1) kind.LongText a.0

pub text_form : (C : Type 0) (on : Kind → Bool) → Form C Texts on (token_at text_seen)
text_form C on = fits_form (λ (a : Place × List ℕ). kind.Text a.1) (λ a. a.0) kind.LongText text_seen good bad (λ place b. ((place, b.1), refl, λ e. ap (λ p. (p, b.1)) e)) (λ a e. absurd cc)
    (λ place. ((place, []), refl)) C on (record { line = 0; column = 0 }, []) where
      good : (place : Place) (k : Kind) (a : Place × List ℕ) → text_seen place k ≡ Ok a → (k ≡ kind.Text a.1) × (place ≡ a.0) × (is_last k ≡ false)
      good place (kind.Text chars) a e = let same : (place, chars) ≡ a = cc in (ap (λ (b : Place × List ℕ). kind.Text b.1) same, ap (λ (b : Place × List ℕ). b.0) same, refl)
      good place other a e = absurd cc

      bad : (place : Place) (k : Kind) (w : Sort) → text_seen place k ≡ Err w → ((w ≡ sort.OutOfRange) × (k ≡ kind.LongText)) ⊎ ((w ≡ sort.Syntax) × (k ≡ kind.LongText → ⊥))
      bad place (kind.Text chars) w e = absurd cc
      bad place kind.LongText w e = inl (cc, refl)
      bad place other w e = inr (cc, λ k. absurd cc)

abbrev pub Byte_lists : Family (Place × List ℕ)
Byte_lists s a = Fitting s (kind.Bytes a.1) kind.LongBytes a.0

pub bytes_form : (C : Type 0) (on : Kind → Bool) → Form C Byte_lists on (token_at bytes_seen)
bytes_form C on = fits_form (λ (a : Place × List ℕ). kind.Bytes a.1) (λ a. a.0) kind.LongBytes bytes_seen good bad (λ place b. ((place, b.1), refl, λ e. ap (λ p. (p, b.1)) e)) (λ a e. absurd cc)
    (λ place. ((place, []), refl)) C on (record { line = 0; column = 0 }, []) where
      good : (place : Place) (k : Kind) (a : Place × List ℕ) → bytes_seen place k ≡ Ok a → (k ≡ kind.Bytes a.1) × (place ≡ a.0) × (is_last k ≡ false)
      good place (kind.Bytes bytes) a e = let same : (place, bytes) ≡ a = cc in (ap (λ (b : Place × List ℕ). kind.Bytes b.1) same, ap (λ (b : Place × List ℕ). b.0) same, refl)
      good place other a e = absurd cc

      bad : (place : Place) (k : Kind) (w : Sort) → bytes_seen place k ≡ Err w → ((w ≡ sort.OutOfRange) × (k ≡ kind.LongBytes)) ⊎ ((w ≡ sort.Syntax) × (k ≡ kind.LongBytes → ⊥))
      bad place (kind.Bytes bytes) w e = absurd cc
      bad place kind.LongBytes w e = inl (cc, refl)
      bad place other w e = inr (cc, λ k. absurd cc)

-- ---- numbers, by what is made of them and the test of their bounds

abbrev Counted : {A : Type 0} → (Place → ℕ → A) → (ℕ → Bool) → Family A
Counted make fits s a ts = (t : Token) × (n : ℕ) × (t.kind ≡ kind.Number n) × (a ≡ make t.at n) × (ts ≡ t ∷ []) × (MindsAll s → IsReal t → fits n ≡ true)

module _ {A : Type 0} (make : Place → ℕ → A) (fits : ℕ → Bool) where
  yes : (k : Kind) (place : Place) (a : A) → counted make fits place k ≡ Ok a → (n : ℕ) × (k ≡ kind.Number n) × (a ≡ make place n) × (fits n ≡ true)
  yes (kind.Number n) place a e = test (fits n) refl e where
    test : (b : Bool) → fits n ≡ b → cond {A = Result A Sort} b (Ok (make place n)) (Err sort.OutOfRange) ≡ Ok a → (m : ℕ) × (kind.Number n ≡ kind.Number m) × (a ≡ make place m) × (fits m ≡ true)
    test true f h = (n, refl, cc, f)
    test false f h = absurd cc
  yes other place a e = absurd cc

  refuses : (k : Kind) (place : Place) (w : Sort) → counted make fits place k ≡ Err w → ((n : ℕ) × (k ≡ kind.Number n) × (w ≡ sort.OutOfRange) × (fits n ≡ false)) ⊎ ((w ≡ sort.Syntax) × ((n : ℕ) → k ≡ kind.Number n → ⊥))
  refuses (kind.Number n) place w e = test (fits n) refl e where
    test : (b : Bool) → fits n ≡ b → cond {A = Result A Sort} b (Ok (make place n)) (Err sort.OutOfRange) ≡ Err w
        → ((m : ℕ) × (kind.Number n ≡ kind.Number m) × (w ≡ sort.OutOfRange) × (fits m ≡ false)) ⊎ ((w ≡ sort.Syntax) × ((m : ℕ) → kind.Number n ≡ kind.Number m → ⊥))
    test true f h = absurd cc
    test false f h = inl (n, refl, cc, f)
  refuses other place w e = inr (cc, λ n k. absurd cc)

  counted_one : (s : Sort) (a : A) (t : Token) (x : List Token) → Counted make fits s a (t ∷ x) → (n : ℕ) × (t.kind ≡ kind.Number n) × (a ≡ make t.at n) × (x ≡ []) × (MindsAll s → IsReal t → fits n ≡ true)
  counted_one s a t x (u, n, k, v, only, room) =
      let same : u ≡ t = cc in
      (n, subst (λ (c : Token). c.kind ≡ kind.Number n) same k, subst (λ (c : Token). a ≡ make c.at n) same v, cc, subst (λ (c : Token). MindsAll s → IsReal c → fits n ≡ true) same room)

  abbrev number_in : Kind → ℕ
  number_in (kind.Number n) = n
  number_in other = 0

  counted_form : (C : Type 0) (on : Kind → Bool) → Form C (Counted make fits) on (token_at (counted make fits))
  counted_form C on = token_form C (Counted make fits) on (counted make fits)
      (make (record { line = 0; column = 0 }) 0, made (kind.Number 0) ∷ [], λ s. (made (kind.Number 0), 0, refl, refl, refl, λ minds real. absurd (unreal (kind.Number 0) real)), λ real. unreal (kind.Number 0) real) (record {
        single = λ s a t x h. (counted_one s a t x h).3;
        empty = λ s a h. let only = h.4 in cc;
        good = λ t a e s. let y = yes t.kind t.at a e in (t, y.0, y.1, y.2, refl, λ minds real. y.3);
        clean = λ t a e. ap is_last (yes t.kind t.at a e).1;
        same = λ t a e s b h. let y = yes t.kind t.at a e in let o = counted_one s b t [] h in o.2 ∙ ap (make t.at) (ap number_in (sym o.1 ∙ y.1)) ∙ sym y.2;
        early = λ t w e s before. elim (refuses t.kind t.at w e) [
          | inl out ↦ (make t.at out.0, [], (t, out.0, out.1, refl, refl, λ minds real. absurd (early_sort s sort.OutOfRange (subst (λ v. IsBefore s v) out.2 before) minds)))
          | inr plain ↦ absurd (none_before s (subst (λ v. IsBefore s v) plain.0 before))
        ];
        broken = λ t w e real s late b h. elim (refuses t.kind t.at w e) [
          | inl out ↦ (let o = counted_one s b t [] h in
              let fit : fits out.0 ≡ true = ap fits (ap number_in (sym out.1 ∙ o.1)) ∙ o.4 (last_sort s (λ before. late (subst (λ v. IsBefore s v) (sym out.2) before))) real in
              let both : true ≡ false = sym fit ∙ out.3 in cc)
          | inr plain ↦ (let o = counted_one s b t [] h in plain.1 o.0 o.1)
        ];
      })

abbrev pub Numbers : Family (Place × ℤ)
Numbers s a = Number s a.0 a.1

pub number_form : (C : Type 0) (on : Kind → Bool) → Form C Numbers on (token_at number_seen)
number_form C on = form_same C (Counted (λ place n. (place, pos n)) (λ n. nat_lt n (2 ^ 63))) Numbers on (token_at number_seen) to from (counted_form (λ place n. (place, pos n)) (λ n. nat_lt n (2 ^ 63)) C on) where
  to : (s : Sort) (a : Place × ℤ) (ts : List Token) → Counted (λ place n. (place, pos n)) (λ n. nat_lt n (2 ^ 63)) s a ts → Numbers s a ts
  to s a ts (t, n, k, same, only, room) = (t, n, k, sym (ap (λ (b : Place × ℤ). b.0) same), only, ap (λ (b : Place × ℤ). b.1) same, λ minds real. ltb-true n (2 ^ 63) (room minds real))

  from : (s : Sort) (a : Place × ℤ) (ts : List Token) → Numbers s a ts → Counted (λ place n. (place, pos n)) (λ n. nat_lt n (2 ^ 63)) s a ts
  from s a ts (t, n, k, stands, only, v, room) = (t, n, k, ap (λ (p : Place). (p, a.1)) (sym stands) ∙ ap (λ (w : ℤ). (t.at, w)) v, only, λ minds real. lt-ltb n (2 ^ 63) (room minds real))

abbrev pub Magnitudes : Family ℤ
Magnitudes s = Magnitude s

pub magnitude_form : (C : Type 0) (on : Kind → Bool) → Form C Magnitudes on (token_at magnitude_seen)
magnitude_form C on = form_same C (Counted (λ place n. neg_ℤ (pos n)) (λ n. nat_le n (2 ^ 63))) Magnitudes on (token_at magnitude_seen) to from (counted_form (λ place n. neg_ℤ (pos n)) (λ n. nat_le n (2 ^ 63)) C on) where
  to : (s : Sort) (a : ℤ) (ts : List Token) → Counted (λ place n. neg_ℤ (pos n)) (λ n. nat_le n (2 ^ 63)) s a ts → Magnitudes s a ts
  to s a ts (t, n, k, same, only, room) = (t, n, k, only, same, λ minds real. leb-true n (2 ^ 63) (room minds real))

  from : (s : Sort) (a : ℤ) (ts : List Token) → Magnitudes s a ts → Counted (λ place n. neg_ℤ (pos n)) (λ n. nat_le n (2 ^ 63)) s a ts
  from s a ts (t, n, k, only, same, room) = (t, n, k, same, only, λ minds real. le-leb n (2 ^ 63) (room minds real))

abbrev pub Limits : ℕ → ℕ → Family ℕ
Limits least most s n = Limited s least most n

and_parts : (a b : Bool) → (a && b) ≡ true → (a ≡ true) × (b ≡ true)
and_parts true b e = (refl, e)
and_parts false b e = absurd cc

and_both : (a b : Bool) → a ≡ true → b ≡ true → (a && b) ≡ true
and_both true b e f = f
and_both false b e f = absurd cc

abbrev fits : ℕ → ℕ → ℕ → Bool
fits least most n = nat_le least n && nat_le n most

pub limited_form : (C : Type 0) (least most : ℕ) (on : Kind → Bool) → Form C (Limits least most) on (token_at (limited_seen least most))
limited_form C least most on = form_same C (Counted (λ place n. n) (fits least most)) (Limits least most) on (token_at (limited_seen least most)) to from (counted_form (λ place n. n) (fits least most) C on) where
  to : (s : Sort) (a : ℕ) (ts : List Token) → Counted (λ place n. n) (fits least most) s a ts → Limits least most s a ts
  to s a ts (t, n, k, same, only, room) = (
    t,
    k ∙ ap (λ m. kind.Number m) (sym same),
    only,
    λ minds real. let both = and_parts (nat_le least n) (nat_le n most) (room minds real) in
        subst (IsBetween least most) (sym same) (leb-true least n both.0, leb-true n most both.1),
  )

  from : (s : Sort) (a : ℕ) (ts : List Token) → Limits least most s a ts → Counted (λ place n. n) (fits least most) s a ts
  from s a ts (t, k, only, room) = (t, a, k, refl, only, λ minds real. let r = room minds real in and_both (nat_le least a) (nat_le a most) (le-leb least a r.0) (le-leb a most r.1))
