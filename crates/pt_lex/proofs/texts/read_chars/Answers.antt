use Rattle.std.proofs.Common.{◌++◌, sym, ap, subst, ◌∙◌, append_assoc}
use Rattle.std.proofs.lemmas.List.{nil_from_length}
use Rattle.pt_wire.specs.Spelling.{Chained, Splits}
use Rattle.pt_wire.proofs.Chains.{chained_more}
use Rattle.pt_lex.specs.Texts.{Closes}
use Rattle.pt_lex.specs.Texts.{SpellsChar}
use Rattle.pt_lex.proofs.TextLaws.{chars_else, chars_free}
use Rattle.pt_lex.proofs.ClosedLaws.{closed_end, closed_first, closed_rest}
use Rattle.pt_lex.proofs.texts.read_chars.Goals as goal

pub returns-in_default-read_char : goal.returns-in_default-read_char
returns-in_default-read_char c = λ list rest closes.
    let i = c.loop-first.invariant in
    let parts = c.in-Some.ensures.cases.0 in
    let behind = closed_rest SpellsChar chars_free chars_else c.loop-first.chars list i.0 c.loop-first.rest.now rest i.1 (subst (λ t. Closes SpellsChar list t rest) i.2 closes) in
    let first = closed_first SpellsChar behind.0 c.in-Some.first.now c.in-Some.more.now rest c.if-first-eq34.false (subst (λ t. Closes SpellsChar behind.0 t rest) parts behind.2) in
    c.in_default-read_char.ensures first.0 first.1 (subst (λ t. Splits SpellsChar first.0 t first.1) (sym parts) first.2)

pub loop-first-preserved : goal.loop-first-preserved
loop-first-preserved c =
    let i = c.loop-first.invariant in
    let found = c.in-Some-read_char.ensures in
    let char = c.in-Some-read_char.char in
    let behind = c.in-Some-read_char.behind.now in (
      i.0 ++ found.0,
      subst (λ l. Chained SpellsChar l (i.0 ++ found.0)) (sym c.in_ok-push.ensures.ok) (chained_more SpellsChar c.loop-first.chars char i.0 found.0 i.1 found.1),
      i.2 ∙ ap (λ t. i.0 ++ t) found.2 ∙ sym (append_assoc i.0 found.0 behind),
    )

pub returns : goal.returns
returns c = λ list rest closes.
    let i = c.loop-first.invariant in
    let behind = closed_rest SpellsChar chars_free chars_else c.loop-first.chars list i.0 c.loop-first.rest.now rest i.1 (subst (λ t. Closes SpellsChar list t rest) i.2 closes) in
    closed_end SpellsChar behind.0 rest (subst (λ t. Closes SpellsChar behind.0 t rest) (nil_from_length c.loop-first.rest.now c.in_default.ensures.cases) behind.2)
