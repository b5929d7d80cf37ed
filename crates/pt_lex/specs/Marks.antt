-- Marks.
use Rattle.std.specs.Prelude.{ℕ, List, codes}
use Rattle.pt_ast.specs.declared.expr.CompareOp.{CompareOp}
use Rattle.pt_ast.specs.declared.expr.CompareOp.TheVariants as compare
use Rattle.pt_token.specs.declared.token.Mark.{Mark}
use Rattle.pt_token.specs.declared.token.Mark.TheVariants as mark

-- a comparison, as it is written
abbrev pub compare_text : CompareOp → List ℕ
compare_text compare.Eq = codes "=="
compare_text compare.Ne = codes "!="
compare_text compare.Lt = codes "<"
compare_text compare.Le = codes "<="
compare_text compare.Gt = codes ">"
compare_text compare.Ge = codes ">="

-- a mark, as it is written
abbrev pub mark_text : Mark → List ℕ
mark_text mark.OpenBrace = codes "{"
mark_text mark.CloseBrace = codes "}"
mark_text mark.OpenParen = codes "("
mark_text mark.CloseParen = codes ")"
mark_text mark.OpenBracket = codes "["
mark_text mark.CloseBracket = codes "]"
mark_text mark.Comma = codes ","
mark_text mark.Semicolon = codes ";"
mark_text mark.Colon = codes ":"
mark_text mark.Dot = codes "."
mark_text mark.Assign = codes "="
mark_text (mark.Compare op) = compare_text op
mark_text mark.Plus = codes "+"
mark_text mark.Star = codes "*"
mark_text mark.Slash = codes "/"
mark_text mark.Percent = codes "%"
