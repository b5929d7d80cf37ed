-- A mark, read from the left.
use Rattle.std.specs.Prelude.{ℕ, if◌then◌else◌, List, [], ◌∷◌, length, take, drop}
use Rattle.pt_ast.specs.declared.expr.CompareOp.TheVariants as compare
use Rattle.pt_token.specs.declared.token.Kind.{Kind}
use Rattle.pt_token.specs.declared.token.Kind.TheVariants as kind
use Rattle.pt_token.specs.declared.token.Mark.{Mark}
use Rattle.pt_token.specs.declared.token.Mark.TheVariants as mark
use Rattle.pt_lex.specs.Marks.{mark_text}
use Rattle.pt_lex.specs.reading.Word.{same_text}

-- two characters first
abbrev pub all_marks : List Mark
all_marks =
    mark.Compare compare.Eq ∷ mark.Compare compare.Ne ∷ mark.Compare compare.Le ∷ mark.Compare compare.Ge ∷ mark.OpenBrace ∷ mark.CloseBrace ∷ mark.OpenParen
    ∷ mark.CloseParen ∷ mark.OpenBracket ∷ mark.CloseBracket ∷ mark.Comma ∷ mark.Semicolon ∷ mark.Colon ∷ mark.Dot ∷ mark.Assign ∷ mark.Compare compare.Lt
    ∷ mark.Compare compare.Gt ∷ mark.Plus ∷ mark.Star ∷ mark.Slash ∷ mark.Percent ∷ []

unfoldable pub mark_among : List Mark → List ℕ → Kind × List ℕ
mark_among [] text = (kind.Malformed, text)
mark_among (mark ∷ marks) text =
    if same_text (take (length (mark_text mark)) text) (mark_text mark) then (kind.Mark mark, drop (length (mark_text mark)) text) else mark_among marks text

abbrev pub mark_token : List ℕ → Kind × List ℕ
mark_token = mark_among all_marks
