-- The laws of texts, from those of tokens.
use Rattle.std.proofs.Common.{◌≡◌, ◌⊎◌, inl, inr, ℕ, ◌<◌, List, refl, sym, ap, subst, ◌∙◌}
use Rattle.std.specs.List.{AllByRecursion}
use Rattle.pt_val.specs.declared.place.Place.{Place}
use Rattle.pt_ast.specs.Trees.{SuiteTree}
use Rattle.pt_token.specs.declared.token.Token.{Token}
use Rattle.pt_token.specs.Ending.{EndOnce}
use Rattle.pt_lex.specs.Lexing.{NotUtf8At, TokensOf}
use Rattle.pt_grammar.specs.declared.sort.Sort.{Sort}
use Rattle.pt_grammar.specs.declared.sort.Sort.TheVariants as sort
use Rattle.pt_grammar.specs.Tokens.{IsText}
use Rattle.pt_readings.specs.Faults.{HasFirstFault}
use Rattle.pt_readings.specs.Laws.{ReadsAs}
use Rattle.pt_grammar.specs.SuiteGrammar.{SuiteText}
use Rattle.pt_readings.proofs.SuiteTexts.{one_reading, reads_or_faults, not_both, one_fault}
use Rattle.pt_parse.specs.declared.fault.SuiteFault.{SuiteFault}
use Rattle.pt_parse.specs.declared.fault.SuiteFault.TheVariants as fault
use Rattle.pt_parse.specs.Suites.{Reads, FaultsAt, HasFault, fault_of}

has_fault : (bytes : List ℕ) (which : Sort) (place : Place) → FaultsAt bytes which place → HasFault bytes (fault_of which place)
has_fault bytes sort.Syntax place h = h
has_fault bytes sort.TooDeep place h = h
has_fault bytes sort.OutOfRange place h = h

-- what a fault says of bytes: they are no UTF-8, or their tokens have a first fault
abbrev Sorted : List ℕ → SuiteFault → Type 0
Sorted bytes given = ((place : Place) × (given ≡ fault.NotUtf8 place) × NotUtf8At bytes place) ⊎ ((which : Sort) × (place : Place) × (given ≡ fault_of which place) × FaultsAt bytes which place)

sorted : (bytes : List ℕ) (given : SuiteFault) → HasFault bytes given → Sorted bytes given
sorted bytes (fault.NotUtf8 place) h = inl (place, refl, h)
sorted bytes (fault.Syntax place) h = inr (sort.Syntax, place, refl, h)
sorted bytes (fault.TooDeep place) h = inr (sort.TooDeep, place, refl, h)
sorted bytes (fault.OutOfRange place) h = inr (sort.OutOfRange, place, refl, h)
sorted bytes fault.NoMemory h = absurd h

module _ (one_list : (bytes : List ℕ) (tokens others : List Token) → TokensOf bytes tokens → TokensOf bytes others → tokens ≡ others)
    (once : (bytes : List ℕ) (tokens : List Token) → TokensOf bytes tokens → EndOnce tokens)
    (real : (bytes : List ℕ) (tokens : List Token) → TokensOf bytes tokens → AllByRecursion (λ (token : Token). 0 < token.at.line) tokens) where
  text : (bytes : List ℕ) (tokens : List Token) → TokensOf bytes tokens → IsText tokens
  text bytes tokens h = record { real = real bytes tokens h; ends = once bytes tokens h }

  pub one_suite : (bytes : List ℕ) (suite other : SuiteTree) → Reads bytes suite → Reads bytes other → suite ≡ other
  one_suite bytes suite other (tokens, lexed, reads) (others, again, also) =
      one_reading tokens other suite (text bytes tokens lexed) (subst (λ ts. ReadsAs ts other) (one_list bytes others tokens again lexed) also) reads

  pub some_answer : (bytes : List ℕ) → ((tokens : List Token) × TokensOf bytes tokens) ⊎ ((place : Place) × NotUtf8At bytes place)
      → ((suite : SuiteTree) × Reads bytes suite) ⊎ ((given : SuiteFault) × HasFault bytes given)
  some_answer bytes (inr bad) = inr (fault.NotUtf8 bad.0, bad.1)
  some_answer bytes (inl (tokens, lexed)) = elim (reads_or_faults tokens (text bytes tokens lexed)) [
    | inl read ↦ inl (read.0, (tokens, lexed, read.1))
    | inr (which, token, first) ↦ inr (fault_of which token.at, has_fault bytes which token.at (tokens, token, lexed, first, refl))
  ]

  module _ (utf8 : (bytes : List ℕ) (tokens : List Token) (place : Place) → TokensOf bytes tokens → NotUtf8At bytes place → ⊥) where
    pub no_both : (bytes : List ℕ) (suite : SuiteTree) (given : SuiteFault) → Reads bytes suite → HasFault bytes given → ⊥
    no_both bytes suite given (tokens, lexed, reads) h = elim (sorted bytes given h) [
      | inl (place, is, bad) ↦ utf8 bytes tokens place lexed bad
      | inr (which, place, is, (others, token, again, first, stands)) ↦
          not_both tokens suite which token (text bytes tokens lexed) reads
          (subst (λ ts. HasFirstFault SuiteText ts which token) (one_list bytes others tokens again lexed) first)
    ]

    pub one_first : (one_place : (bytes : List ℕ) (place other : Place) → NotUtf8At bytes place → NotUtf8At bytes other → place ≡ other)
        (bytes : List ℕ) (given other : SuiteFault) → HasFault bytes given → HasFault bytes other → given ≡ other
    one_first one_place bytes given other h k = elim (sorted bytes given h) [
      | inl (place, is, bad) ↦ elim (sorted bytes other k) [
        | inl (place', is', bad') ↦ is ∙ ap (λ p. fault.NotUtf8 p) (one_place bytes place place' bad bad') ∙ sym is'
        | inr (which', place', is', (tokens, token, lexed, first, stands)) ↦ absurd (utf8 bytes tokens place lexed bad)
      ]
      | inr (which, place, is, (tokens, token, lexed, first, stands)) ↦ elim (sorted bytes other k) [
        | inl (place', is', bad') ↦ absurd (utf8 bytes tokens place' lexed bad')
        | inr (which', place', is', (others, second, again, first', stands')) ↦
            let same = one_fault tokens which which' token second (text bytes tokens lexed) first
            (subst (λ ts. HasFirstFault SuiteText ts which' second) (one_list bytes others tokens again lexed) first') in
            is ∙ ap (λ w. fault_of w place) same.1 ∙ ap (λ p. fault_of which' p) (stands ∙ ap (λ (t : Token). t.at) same.0 ∙ sym stands') ∙ sym is'
      ]
    ]
