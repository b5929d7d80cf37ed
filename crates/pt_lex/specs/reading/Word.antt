-- A word, read from the left.
use Rattle.std.specs.Prelude.{ℕ, ◌-◌, nat_lt, nat_eq, Bool, if◌then◌else◌, List, [], ◌∷◌, length, take, Option, Some, None}
use Rattle.std.specs.Cmp.Lexicographic.{pointwise}
use Rattle.pt_val.specs.Name.{is_name_byte}
use Rattle.pt_ast.specs.declared.expr.Binder.TheVariants as binder
use Rattle.pt_ast.specs.declared.expr.Func.TheVariants as func
use Rattle.pt_token.specs.declared.token.Kind.{Kind}
use Rattle.pt_token.specs.declared.token.Kind.TheVariants as kind
use Rattle.pt_token.specs.declared.token.Word.{Word}
use Rattle.pt_token.specs.declared.token.Word.TheVariants as word
use Rattle.pt_lex.specs.Words.{word_text}

-- what stands behind letters, digits and underscores
abbrev pub behind_word : List ℕ → List ℕ
behind_word [] = []
behind_word (char ∷ text) = if is_name_byte char then behind_word text else char ∷ text

-- what stands before the rest
abbrev pub before : List ℕ → List ℕ → List ℕ
before rest text = take (length text - length rest) text

abbrev pub same_text : List ℕ → List ℕ → Bool
same_text = pointwise nat_eq

abbrev pub all_words : List Word
all_words =
    word.Property ∷ word.Machine ∷ word.Check ∷ word.Runs ∷ word.Shrink ∷ word.Steps ∷ word.State ∷ word.Bundle ∷ word.Invariant ∷ word.Rule ∷ word.When
    ∷ word.Into ∷ word.Draw ∷ word.Let ∷ word.Assume ∷ word.Assert ∷ word.Pick ∷ word.From ∷ word.Set ∷ word.Give ∷ word.If ∷ word.Then ∷ word.Else ∷ word.And
    ∷ word.Or ∷ word.Not ∷ word.True ∷ word.False ∷ word.Ints ∷ word.Bools ∷ word.Texts ∷ word.Blobs ∷ word.SampledFrom ∷ word.Lists ∷ word.Tuples ∷ word.OneOf
    ∷ word.Map ∷ word.Filter ∷ word.FlatMap ∷ word.Recursive ∷ word.Again ∷ word.Int ∷ word.Bool ∷ word.Text ∷ word.Bytes ∷ word.Tree ∷ word.List ∷ word.Tuple
    ∷ word.Func func.Len ∷ word.Func func.Has ∷ word.Func func.Sum ∷ word.Func func.Cat ∷ word.Func func.Rev ∷ word.Func func.Leaf ∷ word.Func func.Node
    ∷ word.Func func.Label ∷ word.Func func.Kids ∷ word.Func func.Labels ∷ word.Binder binder.All ∷ word.Binder binder.Any ∷ word.Binder binder.Each ∷ []

unfoldable pub word_among : List Word → List ℕ → Option Word
word_among [] text = None
word_among (word ∷ words) text = if same_text text (word_text word) then Some word else word_among words text

abbrev pub named : List ℕ → Option Word → Kind
named text (Some which) = kind.Word which
named text None = if nat_lt 40 (length text) then kind.LongName else kind.Name text

unfoldable pub word_token : List ℕ → Kind × List ℕ
word_token text = (named (before (behind_word text) text) (word_among all_words (before (behind_word text) text)), behind_word text)
