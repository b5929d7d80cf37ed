-- What a reader of one token takes.
use Rattle.std.proofs.Common.{◌≡◌, ◌⊎◌, ℕ, true, false, ◌==◌, ◌&&◌, ◌||◌, not, if◌then◌else◌, List, [], ◌∷◌, ◌++◌, length, refl, sym, subst, ◌∙◌, arith}
use Rattle.std.specs.List.{list_all}
use Rattle.pt_val.specs.Name.{is_letter, is_digit}
use Rattle.pt_token.specs.declared.token.Kind.{Kind}
use Rattle.pt_token.specs.declared.token.Kind.TheVariants as kind
use Rattle.pt_token.specs.declared.token.Mark.{Mark}
use Rattle.pt_token.specs.declared.token.Mark.TheVariants as mark
use Rattle.pt_token.specs.declared.token.Word.{Word}
use Rattle.pt_token.specs.declared.token.Word.TheVariants as word
use Rattle.pt_ast.specs.declared.expr.Binder.TheVariants as binder
use Rattle.pt_ast.specs.declared.expr.CompareOp.TheVariants as compare
use Rattle.pt_ast.specs.declared.expr.Func.TheVariants as func
use Rattle.pt_lex.specs.Marks.{mark_text}
use Rattle.pt_lex.specs.Numbers.{is_number}
use Rattle.pt_lex.specs.Outcome.{Takes, Refused}
use Rattle.pt_lex.specs.Tokens.{Spelled}
use Rattle.pt_lex.specs.Words.{is_word, word_text}
use Rattle.pt_lex.proofs.Fronts.{and_left}

-- a token and no other, or none
abbrev pub Found : List ℕ → Kind × List ℕ → Type 0
Found text x = Takes x.0 text x.1 ⊎ ((x.0 ≡ kind.Malformed) × Refused text)

-- the sorts of tokens, which their first text tell apart
pub data Sort : Type 0 where
  Wordlike : Sort
  Numeric : Sort
  Textual : Sort
  Signed : Sort
  Marking : Sort
  Nothing : Sort

abbrev pub sort_at : ℕ → Sort
sort_at char = if is_letter char then Wordlike else if is_digit char then Numeric else if char == 34 then Textual else if char == 45 then Signed else Marking

abbrev pub sort_of : Kind → Sort
sort_of (kind.Word which) = Wordlike
sort_of (kind.Mark which) = Marking
sort_of (kind.Minus number) = Signed
sort_of (kind.Number kept) = Numeric
sort_of (kind.Name name) = Wordlike
sort_of kind.LongName = Wordlike
sort_of (kind.Text chars) = Textual
sort_of kind.LongText = Textual
sort_of (kind.Bytes bytes) = Wordlike
sort_of kind.LongBytes = Wordlike
sort_of kind.Malformed = Nothing
sort_of kind.End = Nothing

-- the text begin with one of this sort
unfoldable pub Starts : Sort → List ℕ → Type 0
Starts sort [] = ⊥
Starts sort (first ∷ rest) = sort_at first ≡ sort

pub words_are_words : (which : Word) → is_word (word_text which) ≡ true
words_are_words word.Property = refl
words_are_words word.Machine = refl
words_are_words word.Check = refl
words_are_words word.Runs = refl
words_are_words word.Shrink = refl
words_are_words word.Steps = refl
words_are_words word.State = refl
words_are_words word.Bundle = refl
words_are_words word.Invariant = refl
words_are_words word.Rule = refl
words_are_words word.When = refl
words_are_words word.Into = refl
words_are_words word.Draw = refl
words_are_words word.Let = refl
words_are_words word.Assume = refl
words_are_words word.Assert = refl
words_are_words word.Pick = refl
words_are_words word.From = refl
words_are_words word.Set = refl
words_are_words word.Give = refl
words_are_words word.If = refl
words_are_words word.Then = refl
words_are_words word.Else = refl
words_are_words word.And = refl
words_are_words word.Or = refl
words_are_words word.Not = refl
words_are_words word.True = refl
words_are_words word.False = refl
words_are_words word.Ints = refl
words_are_words word.Bools = refl
words_are_words word.Texts = refl
words_are_words word.Blobs = refl
words_are_words word.SampledFrom = refl
words_are_words word.Lists = refl
words_are_words word.Tuples = refl
words_are_words word.OneOf = refl
words_are_words word.Map = refl
words_are_words word.Filter = refl
words_are_words word.FlatMap = refl
words_are_words word.Recursive = refl
words_are_words word.Again = refl
words_are_words word.Int = refl
words_are_words word.Bool = refl
words_are_words word.Text = refl
words_are_words word.Bytes = refl
words_are_words word.Tree = refl
words_are_words word.List = refl
words_are_words word.Tuple = refl
words_are_words (word.Func func.Len) = refl
words_are_words (word.Func func.Has) = refl
words_are_words (word.Func func.Sum) = refl
words_are_words (word.Func func.Cat) = refl
words_are_words (word.Func func.Rev) = refl
words_are_words (word.Func func.Leaf) = refl
words_are_words (word.Func func.Node) = refl
words_are_words (word.Func func.Label) = refl
words_are_words (word.Func func.Kids) = refl
words_are_words (word.Func func.Labels) = refl
words_are_words (word.Binder binder.All) = refl
words_are_words (word.Binder binder.Any) = refl
words_are_words (word.Binder binder.Each) = refl

pub marks_start : (which : Mark) → Starts Marking (mark_text which)
unfolding Starts
marks_start (mark.Compare compare.Eq) = refl
marks_start (mark.Compare compare.Ne) = refl
marks_start (mark.Compare compare.Le) = refl
marks_start (mark.Compare compare.Ge) = refl
marks_start mark.OpenBrace = refl
marks_start mark.CloseBrace = refl
marks_start mark.OpenParen = refl
marks_start mark.CloseParen = refl
marks_start mark.OpenBracket = refl
marks_start mark.CloseBracket = refl
marks_start mark.Comma = refl
marks_start mark.Semicolon = refl
marks_start mark.Colon = refl
marks_start mark.Dot = refl
marks_start mark.Assign = refl
marks_start (mark.Compare compare.Lt) = refl
marks_start (mark.Compare compare.Gt) = refl
marks_start mark.Plus = refl
marks_start mark.Star = refl
marks_start mark.Slash = refl
marks_start mark.Percent = refl

word_starts : (text : List ℕ) → is_word text ≡ true → Starts Wordlike text
unfolding Starts
word_starts [] e = absurd cc
word_starts (first ∷ rest) e = rw (and_left (is_letter first) _ e) refl

pub digit_no_letter : (char : ℕ) → is_digit char ≡ true → is_letter char ≡ false
digit_no_letter char e = grind (arith, e)

number_starts : (text : List ℕ) → is_number text ≡ true → Starts Numeric text
unfolding Starts
number_starts [] e = absurd cc
number_starts (first ∷ rest) e =
    let digit = and_left (is_digit first) (list_all is_digit rest) (and_left (is_digit first && list_all is_digit rest) (not (first == 48) || length rest == 0) e) in
    rw (digit_no_letter first digit, digit) refl

quote_starts : (rest : List ℕ) → Starts Textual (34 ∷ rest)
unfolding Starts
quote_starts rest = refl

hexed_starts : (rest : List ℕ) → Starts Wordlike (120 ∷ rest)
unfolding Starts
hexed_starts rest = refl

minus_starts : Starts Signed (45 ∷ [])
unfolding Starts
minus_starts = refl

pub starts : (which : Kind) (lexeme : List ℕ) → Spelled which lexeme → Starts (sort_of which) lexeme
starts (kind.Word which) lexeme s = subst (Starts Wordlike) (sym s) (word_starts (word_text which) (words_are_words which))
starts (kind.Mark which) lexeme s = subst (Starts Marking) (sym s) (marks_start which)
starts (kind.Minus number) lexeme s = subst (Starts Signed) (sym s) minus_starts
starts (kind.Number kept) lexeme s = number_starts lexeme s.0
starts (kind.Name name) lexeme s = word_starts lexeme s.0.0
starts kind.LongName lexeme s = word_starts lexeme s.0.0
starts (kind.Text chars) lexeme s = subst (Starts Textual) (sym s.0.2) (quote_starts _)
starts kind.LongText lexeme s = subst (Starts Textual) (sym s.1.2) (quote_starts _)
starts (kind.Bytes bytes) lexeme s = subst (Starts Wordlike) (sym s.0.2) (hexed_starts _)
starts kind.LongBytes lexeme s = subst (Starts Wordlike) (sym s.1.2) (hexed_starts _)
starts kind.Malformed lexeme s = absurd s
starts kind.End lexeme s = absurd s

-- a token at the front is of the sort that the first char tells
pub sort_there : (which : Kind) (first : ℕ) (text lexeme rest : List ℕ) → Spelled which lexeme → first ∷ text ≡ lexeme ++ rest → sort_of which ≡ sort_at first
unfolding Starts
sort_there which first text lexeme rest s e = cases lexeme (starts which lexeme s) e where
  cases : (lexeme : List ℕ) → Starts (sort_of which) lexeme → first ∷ text ≡ lexeme ++ rest → sort_of which ≡ sort_at first
  cases [] st e = absurd st
  cases (head ∷ tail) st e = let same : first ≡ head = cc in rw same (sym st)

-- what spells two tokens tells one sort
pub same_sort : (which other : Kind) (lexeme : List ℕ) → Spelled which lexeme → Spelled other lexeme → sort_of which ≡ sort_of other
unfolding Starts
same_sort which other lexeme s t = cases lexeme (starts which lexeme s) (starts other lexeme t) where
  cases : (lexeme : List ℕ) → Starts (sort_of which) lexeme → Starts (sort_of other) lexeme → sort_of which ≡ sort_of other
  cases [] a b = absurd a
  cases (first ∷ rest) a b = sym a ∙ b

pub nothing_spelled : (which : Kind) (lexeme : List ℕ) → Spelled which lexeme → sort_of which ≡ Nothing → ⊥
nothing_spelled kind.Malformed lexeme s e = s
nothing_spelled kind.End lexeme s e = s
nothing_spelled other lexeme s e = absurd cc

pub no_starts : (sort : Sort) → Starts sort [] → ⊥
unfolding Starts
no_starts sort st = st
