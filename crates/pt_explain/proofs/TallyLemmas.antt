-- One member more, and one place more.
use Rattle.std.proofs.Common.{◌≡◌, inl, inr, ℕ, ◌+◌, ◌<◌, ◌≤◌, Option, Some, None, List, [], ◌∷◌, ◌++◌, take, drop, length, get_or, sym, ap, ◌∙◌, refl, subst, arith, append_assoc, length-append}
use Rattle.std.specs.Prelude.{MatchOption, slice_get}
use Rattle.std.proofs.lemmas.List.{take-append-drop, drop_more, take_all}
use Rattle.std.proofs.lemmas.Option.{slice_get_within}
use Rattle.pt_choice.specs.declared.choice.Choice.{Choice}
use Rattle.pt_case.specs.Step.{Answer}
use Rattle.pt_case.specs.declared.record.Record.{Record}
use Rattle.pt_case.proofs.PlacedLemmas.{get_pushed}
use Rattle.pt_explain.specs.declared.mark.Mark.{Mark}
use Rattle.pt_explain.specs.declared.place.Tally.{Tally}
use Rattle.pt_explain.specs.declared.place.Marked.{Marked}
use Rattle.pt_explain.specs.Others.{others}
use Rattle.pt_explain.specs.Replaced.{IsRepaired, FailsAlike, Differs}
use Rattle.pt_explain.specs.Mark.{AllAlike, IsBound}
use Rattle.pt_explain.specs.Together.{IsFirst}
use Rattle.pt_explain.specs.Tally.{IsTally, IsMarked, AreMarked}

module _ (step : List Choice → Answer → Type 0) (best : Record) where
  module _ (place : ℕ) where
    alike-repaired : (members : List Choice) (member : Choice) (tried : ℕ) → AllAlike step best place members tried → IsRepaired step best place member →
        AllAlike step best place (members ++ member ∷ []) tried
    alike-repaired [] member tried all is = inl (is, all)
    alike-repaired (one ∷ members) member tried all is = elim all [
      | inl h ↦ inl (h.0, alike-repaired members member tried h.1 is)
      | inr h ↦ inr (h.0, h.1, h.2, alike-repaired members member h.1 h.3 is)
    ]

    alike-more : (members : List Choice) (member : Choice) (tried : ℕ) → AllAlike step best place members tried → FailsAlike step best place member →
        AllAlike step best place (members ++ member ∷ []) (tried + 1)
    alike-more [] member tried all is = inr (is, tried, refl, all)
    alike-more (one ∷ members) member tried all is = elim all [
      | inl h ↦ inl (h.0, alike-more members member tried h.1 is)
      | inr h ↦ inr (h.0, h.1 + 1, ap (λ n. n + 1) h.2, alike-more members member h.1 h.3 is)
    ]

    first-more : (members : List Choice) (member first : Choice) → IsFirst step best place members first → IsFirst step best place (members ++ member ∷ []) first
    first-more members member first is = record {
      front = is.front;
      back = is.back ++ member ∷ [];
      split = ap (λ l. l ++ member ∷ []) is.split ∙ append_assoc is.front (first ∷ is.back) (member ∷ []);
      earlier = is.earlier;
      rec = is.rec;
      choice = is.choice;
      counts = is.counts;
    }

    pub tally-repaired : (members : List Choice) (member : Choice) (tally : Tally) → IsTally step best place members tally → IsRepaired step best place member →
        IsTally step best place (members ++ member ∷ []) tally
    tally-repaired members member tally was is = record {
      alike = alike-repaired members member tally.tried was.alike is;
      first = kept tally.first was.first;
    }
      where
        kept : (first : Option Choice) → MatchOption first (tally.tried ≡ 0) (λ f. (1 ≤ tally.tried) × IsFirst step best place members f) →
            MatchOption first (tally.tried ≡ 0) (λ f. (1 ≤ tally.tried) × IsFirst step best place (members ++ member ∷ []) f)
        kept None none = none
        kept (Some f) some = (some.0, first-more members member f some.1)

    -- the first that counts stays, or is this one
    pub tally-alike : (members : List Choice) (member : Choice) (tally : Tally) (now : Tally) (first : Choice) → IsTally step best place members tally → FailsAlike step best place member →
        MatchOption tally.first (first ≡ member) (λ f. first ≡ f) → now.tried ≡ tally.tried + 1 → now.first ≡ Some first →
        IsTally step best place (members ++ member ∷ []) now
    tally-alike members member tally now first was is chosen more says = record {
      alike = rw more (alike-more members member tally.tried was.alike is);
      first = rw (says, more) (omega arith, found tally.first tally.tried was.first was.alike chosen);
    }
      where
        found : (old : Option Choice) (tried : ℕ) → MatchOption old (tried ≡ 0) (λ f. (1 ≤ tried) × IsFirst step best place members f) → AllAlike step best place members tried →
            MatchOption old (first ≡ member) (λ f. first ≡ f) → IsFirst step best place (members ++ member ∷ []) first
        found None tried none all same = rw same record {
          front = members;
          back = [];
          split = refl;
          earlier = subst (AllAlike step best place members) none all;
          rec = is.rec;
          choice = is.choice;
          counts = is.counts;
        }
        found (Some f) tried some all same = rw same (first-more members member f some.1)

    pub tally-bound : (members : List Choice) (i : ℕ) (member by : Choice) (tally : Tally) → i < length members → member ≡ get_or members i member →
        IsTally step best place (take i members) tally → Differs step best place member by → IsBound step best place members by
    tally-bound members i member by tally within is was differs = record {
      front = take i members;
      member = member;
      back = drop (i + 1) members;
      split = sym (take-append-drop i members) ∙ ap (λ l. take i members ++ l) (drop_more members i member within ∙ ap (λ m. m ∷ drop (i + 1) members) (sym is));
      tried = tally.tried;
      earlier = was.alike;
      differs = differs;
    }

    module _ (given : Choice) (items : List Choice) (chain : items ≡ others given) (i : ℕ) (tally : Tally) (was : IsTally step best place (take i items) tally) where
      pub place-bound : (member by : Choice) → i < length items → member ≡ get_or items i member → Differs step best place member by →
          IsBound step best place (others given) by
      place-bound member by within is differs = subst (λ members. IsBound step best place members by) chain (tally-bound items i member by tally within is was differs)

      whole : length items ≤ i → IsTally step best place (others given) tally
      whole past = subst (λ members. IsTally step best place members tally) (take_all i items past ∙ chain) was

      pub place-free : (choice : Choice) → length items ≤ i → tally.first ≡ Some choice →
          ((1 ≤ tally.tried) × AllAlike step best place (others given) tally.tried) × IsFirst step best place (others given) choice
      place-free choice past says =
          let all = whole past in
          let found = subst (λ first. MatchOption first (tally.tried ≡ 0) (λ f. (1 ≤ tally.tried) × IsFirst step best place (others given) f)) says all.first in
          ((found.0, all.alike), found.1)

      pub place-untried : length items ≤ i → tally.first ≡ None → AllAlike step best place (others given) 0
      place-untried past says =
          let all = whole past in
          subst (AllAlike step best place (others given))
          (subst (λ first. MatchOption first (tally.tried ≡ 0) (λ f. (1 ≤ tally.tried) × IsFirst step best place (others given) f)) says all.first) all.alike

  pub marked-more : (count : ℕ) (marks : List Mark) (list : List Choice) (marked : Marked) → AreMarked step best count marks list →
      ((given : Choice) → slice_get best.choices count ≡ Some given → IsMarked step best count given marked) →
      AreMarked step best (count + 1) (marks ++ marked.mark ∷ []) (list ++ marked.choice ∷ [])
  marked-more count marks list marked was is = record {
    as_many = omega (arith, was.as_many, length-append marks (marked.mark ∷ []));
    as_long = omega (arith, was.as_long, length-append list (marked.choice ∷ []));
    marked = λ place given mark at found. elim (get_pushed marks marked.mark place mark found) [
      | inl h ↦ was.marked place given mark at h.0
      | inr h ↦ let here : place ≡ count = h.0 ∙ was.as_many in rw (here, h.1) (is given (rw here at at)).0
    ];
    stands = λ place given mark choice at found stands. elim (get_pushed marks marked.mark place mark found) [
      | inl h ↦ elim (get_pushed list marked.choice place choice stands) [
        | inl k ↦ was.stands place given mark choice at h.0 k.0
        | inr k ↦ absurd (beyond marks place mark h.0 (omega (arith, k.0, was.as_many, was.as_long)))
      ]
      | inr h ↦ elim (get_pushed list marked.choice place choice stands) [
        | inl k ↦ absurd (beyond list place choice k.0 (omega (arith, h.0, was.as_many, was.as_long)))
        | inr k ↦ let here : place ≡ count = h.0 ∙ was.as_many in rw (here, h.1, k.1) (is given (rw here at at)).1
      ]
    ];
  }
    where
      beyond : {X : Type 0} (xs : List X) (i : ℕ) (x : X) → slice_get xs i ≡ Some x → length xs ≤ i → ⊥
      beyond xs i x e l = let within = slice_get_within xs i x e in omega arith
