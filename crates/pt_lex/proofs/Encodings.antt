-- Characters and the bytes that encode them.
use Rattle.std.proofs.Common.{◌≡◌, ℕ, ◌≤◌, List, length, sym, ap, subst, ◌∙◌}
use Rattle.std.specs.Str.{IsUtf8, chars}
use Rattle.std.proofs.lemmas.Str.{chars-encodes, length-le-encodes}
use Rattle.pt_lex.specs.Lexing.{Encoded}

-- a text is encoded by its bytes
pub encoded_chars : (bytes : List ℕ) → IsUtf8 bytes → Encoded (chars bytes) bytes
encoded_chars bytes (text, (scalar, is)) =
    let same : chars bytes ≡ text = ap chars (sym is) ∙ chars-encodes text scalar in
    subst (λ t. Encoded t bytes) (sym same) (scalar, is)

-- bytes encode one text
pub one_text : (text other bytes : List ℕ) → Encoded text bytes → Encoded other bytes → text ≡ other
one_text text other bytes (scalar, is) (also, same) = sym (chars-encodes text scalar) ∙ ap chars (is ∙ sym same) ∙ chars-encodes other also

-- there are no more characters than bytes
pub fewer_chars : (text bytes : List ℕ) → Encoded text bytes → length text ≤ length bytes
fewer_chars text bytes (scalar, is) = subst (λ b. length text ≤ length b) is (length-le-encodes text)
