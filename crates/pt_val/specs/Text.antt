-- The text that a value is printed as.
use Rattle.std.specs.Prelude.{ℕ, ◌/◌, ◌%◌, ◌==◌, ◌&&◌, nat_le, if◌then◌else◌, false, List, [], ◌∷◌, ◌++◌, codes}
use Rattle.std.specs.List.{flat_map, join_by}
use Rattle.std.specs.Fmt.{digits, digit_glyph, signed_decimal}
use Rattle.pt_val.specs.declared.val.Val.{Val}
use Rattle.pt_val.specs.declared.val.Val.TheOpen.{Val-F}
use Rattle.pt_val.specs.declared.val.Val.TheOpen as val
use Rattle.pt_val.specs.declared.val.Val.TheFolds.{fold-Val}

-- a character by its code, in lower-case hex digits with no leading zero, as `\u{e9}`
abbrev pub escape : ℕ → List ℕ
escape char = codes "\\u{" ++ digits 16 false char ++ codes "}"

-- a character between the quotes of a text: itself from space to `~`, but a quote and a backslash after a backslash
abbrev pub char_text : ℕ → List ℕ
char_text char = if char == 34 then codes "\\\"" else (if char == 92 then codes "\\\\" else
    (if nat_le 32 char && nat_le char 126 then char ∷ [] else escape char))

-- a byte, as two lower-case hex digits
abbrev pub byte_text : ℕ → List ℕ
byte_text byte = digit_glyph false (byte / 16) ∷ digit_glyph false (byte % 16) ∷ []

-- the texts of members, with a comma and a space between
abbrev pub listed : List (List ℕ) → List ℕ
listed texts = join_by (λ text. text) (codes ", ") texts

-- a value's text, where its members are given by their texts
abbrev pub text_step : Val-F (List ℕ) → List ℕ
text_step (val.Int number) = signed_decimal number
text_step (val.Bool truth) = if truth then codes "true" else codes "false"
text_step (val.Text chars) = codes "\"" ++ flat_map char_text chars ++ codes "\""
text_step (val.Bytes bytes) = codes "x\"" ++ flat_map byte_text bytes ++ codes "\""
text_step (val.List texts) = codes "[" ++ listed texts ++ codes "]"
text_step (val.Tuple texts) = codes "(" ++ listed texts ++ codes ")"
text_step (val.Node label []) = codes "leaf(" ++ signed_decimal label ++ codes ")"
text_step (val.Node label texts) = codes "node(" ++ signed_decimal label ++ codes ", [" ++ listed texts ++ codes "])"

-- the text of a value
abbrev pub text_of : Val → List ℕ
text_of = fold-Val (List ℕ) text_step
