use Rattle.std.proofs.Common.{[], ◌∷◌, subst, sym}
use Rattle.pt_wire.specs.Spelling.{Splits}
use Rattle.pt_lex.specs.Texts.{IsCode}
use Rattle.pt_lex.proofs.CharLaws.{code_there, no_code_there, no_scalar_there, told_none}
use Rattle.pt_lex.proofs.MarkLaws.{stripped}
use Rattle.pt_lex.proofs.texts.read_code.Goals as goal

pub returns-in_err-code : goal.returns-in_err-code
returns-in_err-code c =
    let text = c.args.text.now in
    let digits = c.in_ok-digits.digits.now in
    let cases = c.in_ok-digits.ensures.cases in
    told_none (λ char more. Splits IsCode char text more) c.from_residual-in_err-code.result c.from_residual-in_err-code.ensures
    (λ char rest there. no_code_there digits c.in_err-code.ensures char rest (subst (λ t. Splits IsCode char t rest) (stripped (123 ∷ []) text digits cases.0 cases.1) there))

pub returns-in_err-char : goal.returns-in_err-char
returns-in_err-char c =
    let text = c.args.text.now in
    let digits = c.in_ok-digits.digits.now in
    let cases = c.in_ok-digits.ensures.cases in
    told_none (λ char more. Splits IsCode char text more) c.from_residual-in_err-char.result c.from_residual-in_err-char.ensures
    (λ char rest there. no_scalar_there digits c.in_ok-code.code c.in_ok-code.rest.now c.in_ok-code.ensures c.in_err-char.ensures.value char rest
    (subst (λ t. Splits IsCode char t rest) (stripped (123 ∷ []) text digits cases.0 cases.1) there))

pub returns : goal.returns
returns c =
    let text = c.args.text.now in
    let digits = c.in_ok-digits.digits.now in
    let cases = c.in_ok-digits.ensures.cases in
    let valid = c.in_ok-char.ensures.value in
    subst (λ t. Splits IsCode c.in_ok-char.char t c.in_ok-code.rest.now) (sym (stripped (123 ∷ []) text digits cases.0 cases.1))
    (subst (λ char. Splits IsCode char (123 ∷ digits) c.in_ok-code.rest.now) (sym valid.1) (code_there digits c.in_ok-code.code c.in_ok-code.rest.now c.in_ok-code.ensures valid.0))
