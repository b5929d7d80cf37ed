use Rattle.std.proofs.Common.{◌≡◌, ◌≤◌, ◌+◌, ◌*◌, ℕ, List, [], ◌++◌, length}
use Rattle.pt_token.specs.declared.token.Token.{Token}
use Rattle.pt_lex.specs.Lexing.{Lexed}
use Rattle.pt_lex.specs.Places.{place_behind}
use Rattle.pt_lex.proofs.lexing.lexed.Given as goal

-- tokens of what is left make tokens of the text
abbrev pub invariant-loop-tokens : goal.invariant-loop-tokens
invariant-loop-tokens l = (done : List ℕ) × (l.text ≡ done ++ l.left) × (l.at ≡ place_behind done) × ((more : List Token) → Lexed done l.left more → Lexed [] l.text (l.tokens ++ more))
    × (l.at.line + length l.left ≤ length l.text + 1) × (l.at.column + 4 * length l.left ≤ 4 * length l.text + 1)

abbrev pub decreases-loop-tokens : goal.decreases-loop-tokens
decreases-loop-tokens l = length l.left
