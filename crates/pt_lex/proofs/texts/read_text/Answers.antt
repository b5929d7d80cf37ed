use Rattle.std.proofs.Common.{◌∷◌, inl, inr, refl, subst, sym}
use Rattle.pt_token.specs.declared.token.Kind.TheVariants as kind
use Rattle.pt_lex.specs.Outcome.{Outcome}
use Rattle.pt_lex.proofs.TextLaws.{text_refused, text_taken}
use Rattle.pt_lex.proofs.texts.read_text.Goals as goal

pub returns-in-Some : goal.returns-in-Some
returns-in-Some c =
    let inside = c.args.inside.now in
    let rest = c.in-Some.rest.now in
    let closes = rw c.in-Some.is at c.in_ok-chars.ensures in
    subst (λ t. Outcome t c.text_kind.result rest) (sym c.requires)
    (subst (λ k. Outcome (34 ∷ inside) k rest) (sym c.text_kind.ensures) (inl (text_taken inside c.in-Some.chars rest closes)))

pub returns-in-None : goal.returns-in-None
returns-in-None c =
    let inside = c.args.inside.now in
    let none = rw c.in-None.is at c.in_ok-chars.ensures in
    subst (λ t. Outcome t kind.Malformed t) (sym c.requires) (inr (refl, text_refused inside none))
