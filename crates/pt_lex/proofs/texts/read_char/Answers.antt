use Rattle.std.proofs.Common.{◌∷◌, ap, subst, sym, ◌∙◌}
use Rattle.pt_wire.specs.Spelling.{Splits}
use Rattle.pt_lex.specs.Texts.{SpellsChar}
use Rattle.pt_lex.proofs.CharLaws.{plain_there, told_of}
use Rattle.pt_lex.proofs.texts.read_char.Goals as goal

pub returns-then-first-eq92 : goal.returns-then-first-eq92
returns-then-first-eq92 c =
    let rest = c.in_ok-first.rest.now in
    told_of c.read_escape.result c.args.text.now (92 ∷ rest) (c.in_ok-first.ensures.cases.0 ∙ ap (λ f. f ∷ rest) c.if-first-eq92.true) c.read_escape.ensures

pub returns-then-is_plain : goal.returns-then-is_plain
returns-then-is_plain c =
    let first = c.in_ok-first.first.now in
    let rest = c.in_ok-first.rest.now in
    subst (λ t. Splits SpellsChar first t rest) (sym c.in_ok-first.ensures.cases.0) (plain_there first rest (sym c.is_plain.ensures ∙ c.if-is_plain.true))
