-- Where tokens end.
use Rattle.std.specs.Prelude.{◌≡◌, Bool, true, false, List, [], ◌∷◌}
use Rattle.pt_token.specs.declared.token.Token.{Token}
use Rattle.pt_token.specs.declared.token.Kind.{Kind}
use Rattle.pt_token.specs.declared.token.Kind.TheVariants as kind

-- no token follows it
abbrev pub is_last : Kind → Bool
is_last kind.Malformed = true
is_last kind.End = true
is_last other = false

-- the end of the text or a malformed token is the last, and no other is
abbrev pub EndOnce : List Token → Type 0
EndOnce [] = ⊥
EndOnce (last ∷ []) = is_last last.kind ≡ true
EndOnce (first ∷ second ∷ others) = (is_last first.kind ≡ false) × EndOnce (second ∷ others)
