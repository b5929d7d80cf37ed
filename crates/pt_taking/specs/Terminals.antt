-- The tests of kinds by which tokens are taken.
use Rattle.std.specs.Prelude.{Bool}
use Rattle.pt_token.specs.declared.token.Kind.{Kind}
use Rattle.pt_grammar.specs.Reading.{is_open, is_close, is_open_square, is_close_square, is_open_brace, is_close_brace, is_comma, is_semicolon, is_colon, is_assign, is_then, is_else, is_or, is_and, is_from}
use Rattle.pt_grammar.specs.SuiteReading.{is_give, is_state, is_bundle, is_invariant, is_rule, is_when, is_into, ends}
use Rattle.pt_taking.specs.declared.terminal.Terminal.{Terminal}
use Rattle.pt_taking.specs.declared.terminal.Terminal.TheVariants as terminal

abbrev pub is_terminal : Terminal → Kind → Bool
is_terminal terminal.OpenParen = is_open
is_terminal terminal.CloseParen = is_close
is_terminal terminal.OpenSquare = is_open_square
is_terminal terminal.CloseSquare = is_close_square
is_terminal terminal.OpenBrace = is_open_brace
is_terminal terminal.CloseBrace = is_close_brace
is_terminal terminal.Comma = is_comma
is_terminal terminal.Semicolon = is_semicolon
is_terminal terminal.Colon = is_colon
is_terminal terminal.Assign = is_assign
is_terminal terminal.Then = is_then
is_terminal terminal.Else = is_else
is_terminal terminal.Or = is_or
is_terminal terminal.And = is_and
is_terminal terminal.From = is_from
is_terminal terminal.Give = is_give
is_terminal terminal.State = is_state
is_terminal terminal.Bundle = is_bundle
is_terminal terminal.Invariant = is_invariant
is_terminal terminal.Rule = is_rule
is_terminal terminal.When = is_when
is_terminal terminal.Into = is_into
is_terminal terminal.End = ends
