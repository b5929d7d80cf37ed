-- The laws of the grammar.
use Rattle.std.specs.Prelude.{◌≡◌, ◌⊎◌, ◌≤◌, length, List}
use Rattle.std.specs.List.{AllByRecursion}
use Rattle.pt_ast.specs.Bounds.{IsBounded}
use Rattle.pt_ast.specs.Numbers.{IsNumbered}
use Rattle.pt_ast.specs.Trees.{SuiteTree}
use Rattle.pt_token.specs.declared.token.Token.{Token}
use Rattle.pt_token.specs.declared.token.Kind.{Kind}
use Rattle.pt_token.specs.declared.token.Kind.TheVariants as kind
use Rattle.pt_grammar.specs.declared.sort.Sort.{Sort}
use Rattle.pt_grammar.specs.declared.sort.Sort.TheVariants as sort
use Rattle.pt_grammar.specs.Tokens.{IsText}
use Rattle.pt_readings.specs.Faults.{HasFirstFault}
use Rattle.pt_grammar.specs.SuiteGrammar.{SuiteText}

-- tokens read as a suite, free of all faults
abbrev pub ReadsAs : List Token → SuiteTree → Type 0
ReadsAs tokens suite = SuiteText sort.OutOfRange suite tokens

-- a text has one reading at most
abbrev pub OneReading : Type 0
OneReading = (tokens : List Token) (suite other : SuiteTree) → IsText tokens → ReadsAs tokens suite → ReadsAs tokens other → other ≡ suite

-- a text has a reading or a first fault
abbrev pub ReadsOrFaults : Type 0
ReadsOrFaults = (tokens : List Token) → IsText tokens → ((suite : SuiteTree) × ReadsAs tokens suite) ⊎ ((which : Sort) × (token : Token)
    × HasFirstFault SuiteText tokens which token)

-- and not both
abbrev pub NotBoth : Type 0
NotBoth = (tokens : List Token) (suite : SuiteTree) (which : Sort) (token : Token) → IsText tokens → ReadsAs tokens suite
    → HasFirstFault SuiteText tokens which token → ⊥

-- a text has one first fault at most
abbrev pub OneFault : Type 0
OneFault = (tokens : List Token) (which other : Sort) (token second : Token) → IsText tokens → HasFirstFault SuiteText tokens which token
    → HasFirstFault SuiteText tokens other second → (token ≡ second) × (which ≡ other)

-- a text or bytes of a token keep the bounds
abbrev pub FitsKind : Kind → Type 0
FitsKind (kind.Text chars) = length chars ≤ 256
FitsKind (kind.Bytes bytes) = length bytes ≤ 64
FitsKind other = Unit {0}

-- the suite that was read keeps the counts and bounds, and its nodes are numbered in the order of the text
abbrev pub KeepsBounds : Type 0
KeepsBounds = (tokens : List Token) (suite : SuiteTree) → IsText tokens → AllByRecursion (λ token. FitsKind token.kind) tokens
    → ReadsAs tokens suite → IsBounded suite

abbrev pub Numbers : Type 0
Numbers = (tokens : List Token) (suite : SuiteTree) → length tokens ≤ 1048577 → ReadsAs tokens suite → IsNumbered suite
