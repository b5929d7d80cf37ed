-- The tests of kinds, each with the kind that passes it.
use Rattle.std.proofs.Common.{◌≡◌, true, refl}
use Rattle.pt_token.specs.declared.token.Kind.{Kind}
use Rattle.pt_token.specs.declared.token.Kind.TheVariants as kind
use Rattle.pt_token.specs.declared.token.Mark.TheVariants as mark
use Rattle.pt_token.specs.declared.token.Word.TheVariants as word
use Rattle.pt_grammar.specs.Tokens.{opening, close, open_square, close_square, open_brace, close_brace, comma, semicolon, colon, dot, assign}
use Rattle.pt_grammar.specs.Reading.{is_open, is_close, is_open_square, is_close_square, is_open_brace, is_close_brace, is_comma, is_semicolon, is_colon, is_dot, is_assign, is_then, is_else, is_or, is_and, is_from}
use Rattle.pt_readings.proofs.Forms.{Tests}

pub open_tests : Tests is_open opening
open_tests = record { passes = refl; only = only } where
  only : (other : Kind) → is_open other ≡ true → other ≡ kind.Mark mark.OpenParen
  only (kind.Mark mark.OpenParen) e = refl
  only other e = absurd cc

pub close_tests : Tests is_close close
close_tests = record { passes = refl; only = only } where
  only : (other : Kind) → is_close other ≡ true → other ≡ kind.Mark mark.CloseParen
  only (kind.Mark mark.CloseParen) e = refl
  only other e = absurd cc

pub open_square_tests : Tests is_open_square open_square
open_square_tests = record { passes = refl; only = only } where
  only : (other : Kind) → is_open_square other ≡ true → other ≡ kind.Mark mark.OpenBracket
  only (kind.Mark mark.OpenBracket) e = refl
  only other e = absurd cc

pub close_square_tests : Tests is_close_square close_square
close_square_tests = record { passes = refl; only = only } where
  only : (other : Kind) → is_close_square other ≡ true → other ≡ kind.Mark mark.CloseBracket
  only (kind.Mark mark.CloseBracket) e = refl
  only other e = absurd cc

pub open_brace_tests : Tests is_open_brace open_brace
open_brace_tests = record { passes = refl; only = only } where
  only : (other : Kind) → is_open_brace other ≡ true → other ≡ kind.Mark mark.OpenBrace
  only (kind.Mark mark.OpenBrace) e = refl
  only other e = absurd cc

pub close_brace_tests : Tests is_close_brace close_brace
close_brace_tests = record { passes = refl; only = only } where
  only : (other : Kind) → is_close_brace other ≡ true → other ≡ kind.Mark mark.CloseBrace
  only (kind.Mark mark.CloseBrace) e = refl
  only other e = absurd cc

pub comma_tests : Tests is_comma comma
comma_tests = record { passes = refl; only = only } where
  only : (other : Kind) → is_comma other ≡ true → other ≡ kind.Mark mark.Comma
  only (kind.Mark mark.Comma) e = refl
  only other e = absurd cc

pub semicolon_tests : Tests is_semicolon semicolon
semicolon_tests = record { passes = refl; only = only } where
  only : (other : Kind) → is_semicolon other ≡ true → other ≡ kind.Mark mark.Semicolon
  only (kind.Mark mark.Semicolon) e = refl
  only other e = absurd cc

pub colon_tests : Tests is_colon colon
colon_tests = record { passes = refl; only = only } where
  only : (other : Kind) → is_colon other ≡ true → other ≡ kind.Mark mark.Colon
  only (kind.Mark mark.Colon) e = refl
  only other e = absurd cc

pub dot_tests : Tests is_dot dot
dot_tests = record { passes = refl; only = only } where
  only : (other : Kind) → is_dot other ≡ true → other ≡ kind.Mark mark.Dot
  only (kind.Mark mark.Dot) e = refl
  only other e = absurd cc

pub assign_tests : Tests is_assign assign
assign_tests = record { passes = refl; only = only } where
  only : (other : Kind) → is_assign other ≡ true → other ≡ kind.Mark mark.Assign
  only (kind.Mark mark.Assign) e = refl
  only other e = absurd cc

pub then_tests : Tests is_then (kind.Word word.Then)
then_tests = record { passes = refl; only = only } where
  only : (other : Kind) → is_then other ≡ true → other ≡ kind.Word word.Then
  only (kind.Word word.Then) e = refl
  only other e = absurd cc

pub else_tests : Tests is_else (kind.Word word.Else)
else_tests = record { passes = refl; only = only } where
  only : (other : Kind) → is_else other ≡ true → other ≡ kind.Word word.Else
  only (kind.Word word.Else) e = refl
  only other e = absurd cc

pub or_tests : Tests is_or (kind.Word word.Or)
or_tests = record { passes = refl; only = only } where
  only : (other : Kind) → is_or other ≡ true → other ≡ kind.Word word.Or
  only (kind.Word word.Or) e = refl
  only other e = absurd cc

pub and_tests : Tests is_and (kind.Word word.And)
and_tests = record { passes = refl; only = only } where
  only : (other : Kind) → is_and other ≡ true → other ≡ kind.Word word.And
  only (kind.Word word.And) e = refl
  only other e = absurd cc

pub from_tests : Tests is_from (kind.Word word.From)
from_tests = record { passes = refl; only = only } where
  only : (other : Kind) → is_from other ≡ true → other ≡ kind.Word word.From
  only (kind.Word word.From) e = refl
  only other e = absurd cc
