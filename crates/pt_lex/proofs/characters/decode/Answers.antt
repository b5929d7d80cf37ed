use Rattle.std.proofs.Common.{sym, subst, ◌∙◌, map-id}
use Rattle.std.proofs.lemmas.Iterator.{YieldsList-from_chars}
use Rattle.std.proofs.lemmas.Iterator.Consumers.{YieldsList-end}
use Rattle.pt_lex.specs.Lexing.{Encoded}
use Rattle.pt_lex.proofs.Encodings.{encoded_chars}
use Rattle.pt_lex.proofs.characters.decode.Goals as goal

pub returns : goal.returns
returns c =
    let end = YieldsList-end (YieldsList-from_chars c.args.text.now c.utf8.text cc) c.loop-char.yielded _ c.loop-char.yielded_by _ _ c.in-None.is c.next.ensures.steps in
    subst (λ chars. Encoded chars c.args.text.now) (sym (c.loop-char.invariant ∙ sym (map-id c.loop-char.yielded) ∙ end.0)) (encoded_chars c.args.text.now c.utf8.text)
