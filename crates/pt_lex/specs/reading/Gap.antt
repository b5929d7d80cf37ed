-- Blanks and comments, read from the left.
use Rattle.std.specs.Prelude.{ℕ, ◌==◌, not, Bool, true, false, if◌then◌else◌, List, [], ◌∷◌}
use Rattle.pt_lex.specs.Gaps.{is_blank}

-- what stands behind blanks and comments; whether a comment is open
abbrev pub gap_on : Bool → List ℕ → List ℕ
gap_on in_remark [] = []
gap_on true (char ∷ text) = gap_on (not (char == 10)) text
gap_on false (char ∷ text) = if char == 35 then gap_on true text else if is_blank char then gap_on false text else char ∷ text
