-- Which suite bytes are the text of, and where they have their first fault.
use Rattle.std.specs.Prelude.{◌≡◌, ℕ, List}
use Rattle.pt_val.specs.declared.place.Place.{Place}
use Rattle.pt_ast.specs.Trees.{SuiteTree}
use Rattle.pt_token.specs.declared.token.Token.{Token}
use Rattle.pt_lex.specs.Lexing.{NotUtf8At, TokensOf}
use Rattle.pt_grammar.specs.declared.sort.Sort.{Sort}
use Rattle.pt_grammar.specs.declared.sort.Sort.TheVariants as sort
use Rattle.pt_readings.specs.Faults.{HasFirstFault}
use Rattle.pt_readings.specs.Laws.{ReadsAs}
use Rattle.pt_grammar.specs.SuiteGrammar.{SuiteText}
use Rattle.pt_parse.specs.declared.fault.SuiteFault.{SuiteFault}
use Rattle.pt_parse.specs.declared.fault.SuiteFault.TheVariants as fault

-- bytes are the text of this suite
abbrev pub Reads : List ℕ → SuiteTree → Type 0
Reads bytes suite = (tokens : List Token) × TokensOf bytes tokens × ReadsAs tokens suite

-- bytes are a text whose first fault is of this sort, at the token that stands there
abbrev pub FaultsAt : List ℕ → Sort → Place → Type 0
FaultsAt bytes which place = (tokens : List Token) × (token : Token) × TokensOf bytes tokens × HasFirstFault SuiteText tokens which token × (place ≡ token.at)

-- the first fault of bytes; want of memory is none of theirs
abbrev pub HasFault : List ℕ → SuiteFault → Type 0
HasFault bytes (fault.NotUtf8 place) = NotUtf8At bytes place
HasFault bytes (fault.Syntax place) = FaultsAt bytes sort.Syntax place
HasFault bytes (fault.TooDeep place) = FaultsAt bytes sort.TooDeep place
HasFault bytes (fault.OutOfRange place) = FaultsAt bytes sort.OutOfRange place
HasFault bytes fault.NoMemory = ⊥

-- the word for a fault of this sort
abbrev pub fault_of : Sort → Place → SuiteFault
fault_of sort.Syntax place = fault.Syntax place
fault_of sort.TooDeep place = fault.TooDeep place
fault_of sort.OutOfRange place = fault.OutOfRange place

-- what a refusal says of bytes
abbrev pub Faults : List ℕ → SuiteFault → Type 0
Faults bytes fault.NoMemory = Unit {0}
Faults bytes other = HasFault bytes other
