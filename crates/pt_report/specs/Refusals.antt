-- What is said where nothing is done.
use Rattle.std.specs.Prelude.{ℕ, List, [], ◌∷◌, codes}
use Rattle.pt_report.specs.Report.{line, place_text}
use Rattle.pt_report.specs.declared.refusal.Refusal.{Refusal}
use Rattle.pt_report.specs.declared.refusal.Refusal.TheVariants as refusal
use Rattle.pt_report.specs.declared.refusal.Word.{Word}
use Rattle.pt_report.specs.declared.refusal.Word.TheVariants as word

-- what is wrong with a suite
abbrev pub word_text : Word → List ℕ
word_text word.NotUtf8 = codes "not UTF-8"
word_text word.Syntax = codes "syntax"
word_text word.TooDeep = codes "too deep"
word_text word.OutOfRange = codes "out of range"
word_text word.Unknown = codes "unknown name"
word_text word.Twice = codes "name twice"
word_text word.Wrong = codes "wrong type"
word_text word.UnknownCheck = codes "unknown check"

-- the line of a refusal
abbrev pub refusal_text : Refusal → List ℕ
refusal_text refusal.Usage = line (codes "usage: run SUITE SEED WORKERS | replay SUITE NAME CHOICES | stored | make SEED COUNT | explain SUITE NAME CHOICES" ∷ [])
refusal_text (refusal.Suite place word) = line (codes "suite refused at " ∷ place_text place ∷ codes ": " ∷ word_text word ∷ [])
refusal_text refusal.Read = line (codes "suite cannot be read" ∷ [])
refusal_text refusal.Database = line (codes "database failed" ∷ [])
refusal_text refusal.Clash = line (codes "database clash" ∷ [])
refusal_text refusal.TooLarge = line (codes "suite too large" ∷ [])
refusal_text refusal.UnknownItem = line (codes "unknown item" ∷ [])
