-- What is known of a suite or a fault that was read, from the grammar's theorem on tokens.
use Rattle.std.proofs.Common.{◌≡◌, inl, inr, ℕ, ◌≤◌, length, List, [], ◌∷◌, ◌++◌, Result, Ok, Err, sym, ap, subst}
use Rattle.std.specs.List.{AllByRecursion}
use Rattle.pt_ast.specs.Bounds.{IsBounded}
use Rattle.pt_ast.specs.Numbers.{IsNumbered}
use Rattle.pt_ast.specs.Trees.{SuiteTree}
use Rattle.pt_token.specs.declared.token.Token.{Token}
use Rattle.pt_token.specs.declared.token.Kind.{Kind}
use Rattle.pt_token.specs.declared.token.Kind.TheVariants as kind
use Rattle.pt_lex.specs.Lexing.{Lexed, TokensOf}
use Rattle.pt_lex.specs.Tokens.{Spelled}
use Rattle.pt_grammar.specs.declared.sort.Sort.{Sort}
use Rattle.pt_grammar.specs.declared.sort.Sort.TheVariants as sort
use Rattle.pt_grammar.specs.Tokens.{IsText}
use Rattle.pt_readings.specs.Laws.{FitsKind}
use Rattle.pt_grammar.specs.Reading.{Fault, at, place_at}
use Rattle.pt_grammar.specs.SuiteReading.{suite_at}
use Rattle.pt_readings.proofs.SuiteTexts.{Whole, whole_law, first_fault}
use Rattle.pt_readings.proofs.Bounded.{keeps_bounds}
use Rattle.pt_readings.proofs.Numbered.{numbers}
use Rattle.pt_parse.specs.Suites.{Reads, FaultsAt, Faults, fault_of}

-- a text or bytes that a token spells keep their bound
fits_kind : (which : Kind) (lexeme : List ℕ) → Spelled which lexeme → FitsKind which
fits_kind (kind.Text chars) lexeme h = h.1
fits_kind (kind.Bytes bytes) lexeme h = h.1
fits_kind other lexeme h = tt

fits_all : (done left : List ℕ) (tokens : List Token) → Lexed done left tokens → AllByRecursion (λ (token : Token). FitsKind token.kind) tokens
fits_all done left [] h = tt
fits_all done left (last ∷ []) (inl h) = (subst (λ (t : Token). FitsKind t.kind) (sym h.1) tt, tt)
fits_all done left (last ∷ []) (inr h) = (subst (λ (t : Token). FitsKind t.kind) (sym h.5) tt, tt)
fits_all done left (first ∷ second ∷ others) (gap, lexeme, rest, which, is_gap, token, parts, is, more) =
    (subst (λ (t : Token). FitsKind t.kind) (sym is) (fits_kind which lexeme token.spelled), fits_all (done ++ gap ++ lexeme) rest (second ∷ others) more)

module _ (bytes : List ℕ) (tokens : List Token) (lexed : TokensOf bytes tokens) (text : IsText tokens) where
  whole : (r : Result SuiteTree Fault) → suite_at tokens ≡ r → Whole tokens r
  whole r e = subst (Whole tokens) e (whole_law tokens text)

  pub reads : (suite : SuiteTree) → suite_at tokens ≡ Ok suite → Reads bytes suite
  reads suite e = (tokens, lexed, (whole (Ok suite) e).0 sort.OutOfRange)

  pub bounded : (suite : SuiteTree) → suite_at tokens ≡ Ok suite → IsBounded suite
  bounded suite e = keeps_bounds tokens suite text (fits_all [] lexed.0 tokens lexed.2) ((whole (Ok suite) e).0 sort.OutOfRange)

  pub numbered : (suite : SuiteTree) → suite_at tokens ≡ Ok suite → length tokens ≤ 1048577 → IsNumbered suite
  numbered suite e few = numbers tokens suite few ((whole (Ok suite) e).0 sort.OutOfRange)

  faults_at : (which : Sort) (bad : List Token) → suite_at tokens ≡ Err (at which bad) → FaultsAt bytes which (place_at bad)
  faults_at which bad e = let f = whole (Err (at which bad)) e in (tokens, f.token, lexed, first_fault tokens which bad f, ap place_at f.is)

  pub faults : (which : Sort) (bad : List Token) → suite_at tokens ≡ Err (at which bad) → Faults bytes (fault_of which (place_at bad))
  faults sort.Syntax bad e = faults_at sort.Syntax bad e
  faults sort.TooDeep bad e = faults_at sort.TooDeep bad e
  faults sort.OutOfRange bad e = faults_at sort.OutOfRange bad e
