-- Tokens by what they are in the grammar.
use Rattle.std.specs.Prelude.{◌≡◌, ℕ, ◌<◌, Bool, true, false, Option, Some, None, List, [], ◌∷◌}
use Rattle.std.specs.List.{AllByRecursion}
use Rattle.pt_ast.specs.declared.expr.CompareOp.{CompareOp}
use Rattle.pt_ast.specs.declared.expr.Op.{Op}
use Rattle.pt_ast.specs.declared.expr.Op.TheVariants as op
use Rattle.pt_token.specs.declared.token.Token.{Token}
use Rattle.pt_token.specs.declared.token.Kind.{Kind}
use Rattle.pt_token.specs.declared.token.Kind.TheVariants as kind
use Rattle.pt_token.specs.declared.token.Mark.TheVariants as mark
use Rattle.pt_token.specs.Ending.{EndOnce}

-- A token of a text stands on a line from 1 on. One on line 0 stands in no text: with such tokens a text that was
-- cut off is ended, and no bound is minded at them.
abbrev pub IsReal : Token → Type 0
IsReal token = 0 < token.at.line

abbrev pub opening : Kind
opening = kind.Mark mark.OpenParen

abbrev pub close : Kind
close = kind.Mark mark.CloseParen

abbrev pub open_square : Kind
open_square = kind.Mark mark.OpenBracket

abbrev pub close_square : Kind
close_square = kind.Mark mark.CloseBracket

abbrev pub open_brace : Kind
open_brace = kind.Mark mark.OpenBrace

abbrev pub close_brace : Kind
close_brace = kind.Mark mark.CloseBrace

abbrev pub comma : Kind
comma = kind.Mark mark.Comma

abbrev pub semicolon : Kind
semicolon = kind.Mark mark.Semicolon

abbrev pub colon : Kind
colon = kind.Mark mark.Colon

abbrev pub dot : Kind
dot = kind.Mark mark.Dot

abbrev pub assign : Kind
assign = kind.Mark mark.Assign

abbrev pub ending : Kind
ending = kind.End

-- the comparison that a token of this kind stands for
abbrev pub compare_of : Kind → Option CompareOp
compare_of (kind.Mark (mark.Compare which)) = Some which
compare_of other = None

-- the operator of a sum; a minus sign is one whether or not a number follows it
abbrev pub sum_of : Kind → Option Op
sum_of (kind.Mark mark.Plus) = Some op.Add
sum_of (kind.Minus number) = Some op.Sub
sum_of other = None

-- the operator of a product
abbrev pub product_of : Kind → Option Op
product_of (kind.Mark mark.Star) = Some op.Mul
product_of (kind.Mark mark.Slash) = Some op.Div
product_of (kind.Mark mark.Percent) = Some op.Rem
product_of other = None

-- the tokens of a text: all of them stand in it, and its end is the last of them and no other
pub record IsText (tokens : List Token) : Type 0 where
  pub real : AllByRecursion IsReal tokens
  pub ends : EndOnce tokens
