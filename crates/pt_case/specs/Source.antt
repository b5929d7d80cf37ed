-- Where the answers to a check's questions come from.
use Rattle.std.specs.Prelude.{◌≡◌, Option, Some, None, List, [], ◌∷◌, ◌++◌, drop, take}
use Rattle.pt_choice.specs.Kind.{fit}
use Rattle.pt_choice.specs.declared.choice.Choice.{Choice}
use Rattle.pt_choice.specs.declared.kind.Shape.{Shape}
use Rattle.pt_rng.specs.Supplied.{Supplied, made}

-- what is left of a list that is replayed; or a supply; or what is left of a list with the supply behind it, and the kinds of the
-- questions so far, of which it keeps 256
pub data Source : Type 0 where
  Listed : (rest : List Choice) → Source
  Fresh : (supply : Supplied) → Source
  Guided : (rest : List Choice) (supply : Supplied) (asked : List Shape) → Source

-- the answer to a question: the next member of the list, made to fit, if there is one; or else what the supply makes, if there is one
abbrev pub answer_to : Source → Shape → Option Choice
answer_to (Listed []) kind = None
answer_to (Listed (given ∷ rest)) kind = Some (fit kind given)
answer_to (Fresh supply) kind = Some (made supply kind).0
answer_to (Guided [] supply asked) kind = Some (made supply kind).0
answer_to (Guided (given ∷ rest) supply asked) kind = Some (fit kind given)

-- what is left of the source after it
abbrev pub left_after : Source → Shape → Source
left_after (Listed rest) kind = Listed (drop 1 rest)
left_after (Fresh supply) kind = Fresh (made supply kind).1
left_after (Guided [] supply asked) kind = Guided [] (made supply kind).1 (take 256 (asked ++ kind ∷ []))
left_after (Guided (given ∷ rest) supply asked) kind = Guided rest supply (take 256 (asked ++ kind ∷ []))

-- the kinds that it keeps
abbrev pub kept_kinds : Source → List Shape
kept_kinds (Listed rest) = []
kept_kinds (Fresh supply) = []
kept_kinds (Guided rest supply asked) = asked

-- questions of these kinds are answered by these choices, one after another, and then this is left
abbrev pub AnswersAll : Source → List Shape → List Choice → Source → Type 0
AnswersAll source [] [] left = left ≡ source
AnswersAll source (kind ∷ kinds) (choice ∷ choices) left =
    (answer_to source kind ≡ Some choice) × AnswersAll (left_after source kind) kinds choices left
AnswersAll source [] (choice ∷ choices) left = ⊥
AnswersAll source (kind ∷ kinds) [] left = ⊥
