-- Reserved words and names.
use Rattle.std.specs.Prelude.{◌≡◌, ◌≢◌, ℕ, ◌&&◌, Bool, true, false, List, [], ◌∷◌, codes}
use Rattle.std.specs.List.{list_all}
use Rattle.pt_val.specs.Name.{is_letter, is_name_byte}
use Rattle.pt_ast.specs.declared.expr.Binder.{Binder}
use Rattle.pt_ast.specs.declared.expr.Binder.TheVariants as binder
use Rattle.pt_ast.specs.declared.expr.Func.{Func}
use Rattle.pt_ast.specs.declared.expr.Func.TheVariants as func
use Rattle.pt_token.specs.declared.token.Word.{Word}
use Rattle.pt_token.specs.declared.token.Word.TheVariants as word

-- a function of the language, as it is written
abbrev pub func_text : Func → List ℕ
func_text func.Len = codes "len"
func_text func.Has = codes "has"
func_text func.Sum = codes "sum"
func_text func.Cat = codes "cat"
func_text func.Rev = codes "rev"
func_text func.Leaf = codes "leaf"
func_text func.Node = codes "node"
func_text func.Label = codes "label"
func_text func.Kids = codes "kids"
func_text func.Labels = codes "labels"

-- a word that binds a name, as it is written
abbrev pub binder_text : Binder → List ℕ
binder_text binder.All = codes "all"
binder_text binder.Any = codes "any"
binder_text binder.Each = codes "each"

-- a reserved word, as it is written
abbrev pub word_text : Word → List ℕ
word_text word.Property = codes "property"
word_text word.Machine = codes "machine"
word_text word.Check = codes "check"
word_text word.Runs = codes "runs"
word_text word.Shrink = codes "shrink"
word_text word.Steps = codes "steps"
word_text word.State = codes "state"
word_text word.Bundle = codes "bundle"
word_text word.Invariant = codes "invariant"
word_text word.Rule = codes "rule"
word_text word.When = codes "when"
word_text word.Into = codes "into"
word_text word.Draw = codes "draw"
word_text word.Let = codes "let"
word_text word.Assume = codes "assume"
word_text word.Assert = codes "assert"
word_text word.Pick = codes "pick"
word_text word.From = codes "from"
word_text word.Set = codes "set"
word_text word.Give = codes "give"
word_text word.If = codes "if"
word_text word.Then = codes "then"
word_text word.Else = codes "else"
word_text word.And = codes "and"
word_text word.Or = codes "or"
word_text word.Not = codes "not"
word_text word.True = codes "true"
word_text word.False = codes "false"
word_text word.Ints = codes "ints"
word_text word.Bools = codes "bools"
word_text word.Texts = codes "texts"
word_text word.Blobs = codes "blobs"
word_text word.SampledFrom = codes "sampled_from"
word_text word.Lists = codes "lists"
word_text word.Tuples = codes "tuples"
word_text word.OneOf = codes "one_of"
word_text word.Map = codes "map"
word_text word.Filter = codes "filter"
word_text word.FlatMap = codes "flatmap"
word_text word.Recursive = codes "recursive"
word_text word.Again = codes "self"
word_text word.Int = codes "int"
word_text word.Bool = codes "bool"
word_text word.Text = codes "text"
word_text word.Bytes = codes "bytes"
word_text word.Tree = codes "tree"
word_text word.List = codes "list"
word_text word.Tuple = codes "tuple"
word_text (word.Func func) = func_text func
word_text (word.Binder binder) = binder_text binder

-- a letter, and letters, digits and underscores
abbrev pub is_word : List ℕ → Bool
is_word [] = false
is_word (first ∷ rest) = is_letter first && list_all is_name_byte rest

-- the form of a name, of whatever length: a word that is not reserved
abbrev pub IsNamed : List ℕ → Type 0
IsNamed text = (is_word text ≡ true) × ((which : Word) → text ≢ word_text which)
