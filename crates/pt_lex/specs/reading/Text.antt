-- Codes of characters, read from the left, and the kinds of texts and bytes.
use Rattle.std.specs.Prelude.{◌≡◌, ℕ, ◌+◌, ◌*◌, ◌==◌, ◌&&◌, nat_lt, if◌then◌else◌, List, [], ◌∷◌, length, Option, Some, None}
use Rattle.std.specs.Borrow.{Bor}
use Rattle.pt_token.specs.declared.token.Kind.{Kind}
use Rattle.pt_token.specs.declared.token.Kind.TheVariants as kind
use Rattle.pt_lex.specs.Texts.{is_hex, hex_value}

-- the same is found
abbrev pub Finds : Option (ℕ × Bor (List ℕ)) → Option (ℕ × List ℕ) → Type 0
Finds None found = found ≡ None
Finds (Some x) found = found ≡ Some (x.0, x.1.now)

-- what digits up to a brace stand for, behind so many that stand for the front, and what follows the brace
abbrev pub code_on : ℕ → ℕ → List ℕ → Option (ℕ × List ℕ)
code_on count front [] = None
code_on count front (char ∷ text) =
    if char == 125 && nat_lt 0 count then Some (front, text)
    else if count == 6 then None
    else if is_hex char then code_on (count + 1) (16 * front + hex_value char) text
    else None

abbrev pub text_kind : List ℕ → Kind
text_kind chars = if nat_lt 256 (length chars) then kind.LongText else kind.Text chars

abbrev pub bytes_kind : List ℕ → Kind
bytes_kind bytes = if nat_lt 64 (length bytes) then kind.LongBytes else kind.Bytes bytes
