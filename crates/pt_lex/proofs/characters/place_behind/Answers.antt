use Rattle.std.proofs.Common.{◌≡◌, [], refl, subst}
use Rattle.pt_lex.specs.Lexing.{Encoded}
use Rattle.pt_lex.specs.Places.{place_behind}
use Rattle.pt_lex.proofs.characters.place_behind.Goals as goal

pub returns-in_ok-chars-in-Ok : goal.returns-in_ok-chars-in-Ok
returns-in_ok-chars-in-Ok c =
    let encoded = subst (Encoded c.in_ok-chars-in-Ok.chars) c.in-Ok.ensures.cases.0 c.in_ok-chars-in-Ok.ensures in
    let place = subst (λ t. c.place_past.result ≡ place_behind t) c.as_slice.ensures (c.place_past.ensures.is [] refl) in
    (c.in_ok-chars-in-Ok.chars, encoded, place)
