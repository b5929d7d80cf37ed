use Rattle.std.proofs.Common.{◌∷◌, subst, sym}
use Rattle.pt_wire.specs.Spelling.{Splits}
use Rattle.pt_lex.specs.Texts.{SpellsChar}
use Rattle.pt_lex.proofs.CharLaws.{quoted_from, quoted_there, told_by_code}
use Rattle.pt_lex.proofs.texts.read_escape.Goals as goal

pub returns-in-34 : goal.returns-in-34
returns-in-34 c =
    let first = c.in_ok-first.first.now in
    let rest = c.in_ok-first.rest.now in
    subst (λ t. Splits SpellsChar first (92 ∷ t) rest) (sym c.in_ok-first.ensures.cases.0) (quoted_there first rest (quoted_from first c.in-34.is))

pub returns-in-u : goal.returns-in-u
returns-in-u c = told_by_code c.read_code.result c.args.text.now c.in_ok-first.rest.now c.in_ok-first.first.now c.in_ok-first.ensures.cases.0 c.in-u.is c.read_code.ensures
