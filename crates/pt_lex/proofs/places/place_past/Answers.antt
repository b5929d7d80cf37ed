use Rattle.std.proofs.Common.{◌≡◌, [], ◌∷◌, ◌++◌, length, sym, ap, ◌∙◌, append_assoc, arith}
use Rattle.pt_lex.specs.Places.{place_behind}
use Rattle.pt_lex.proofs.places.place_past.Goals as goal

pub loop-char-preserved : goal.loop-char-preserved
loop-char-preserved c =
    let i = c.loop-char.invariant in
    let char = c.in-Some.char.now in
    let parts : c.loop-char.rest.now ≡ char ∷ c.in-Some.more.now = c.in-Some.ensures.cases.0 in (
      i.0 ++ char ∷ [],
      i.1 ∙ ap (λ r. i.0 ++ r) parts ∙ sym (append_assoc i.0 (char ∷ []) c.in-Some.more.now),
      λ done e. c.place_after-here.ensures.is (done ++ i.0) (i.2 done e) ∙ ap place_behind (append_assoc done i.0 (char ∷ [])),
      omega (arith, ap length parts),
      omega (arith, ap length parts),
    )
