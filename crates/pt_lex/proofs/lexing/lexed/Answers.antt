use Rattle.std.proofs.Common.{◌-◌, [], ◌++◌, length, sym, ap, subst, ◌∙◌, append_assoc, arith, length-take}
use Rattle.pt_lex.specs.Lexing.{Lexed}
use Rattle.pt_lex.specs.reading.Word.{before}
use Rattle.pt_lex.proofs.GapLaws.{Gap, found_gap}
use Rattle.pt_lex.proofs.LexedLaws.{step, last_turn, more_turn}
use Rattle.pt_lex.proofs.lexing.lexed.Goals as goal

pub returns-then-last : goal.returns-then-last
returns-then-last c =
    let i = c.loop-tokens.invariant in
    let left = c.loop-tokens.left.now in
    let rest = c.behind_gap-rest.result.now in
    let gap : Gap left rest = subst (Gap left) (sym c.behind_gap-rest.ensures.rest) (found_gap left) in
    subst (Lexed [] c.args.text.now) (sym c.in_ok-push.ensures.ok)
    (last_turn c.args.text.now i.0 left rest c.loop-tokens.tokens c.in_ok-kind.kind c.in_ok-kind.after.now c.place_past-at.result gap c.in_ok-kind.ensures
    (c.place_past-at.ensures.is i.0 i.2) i.3 (sym c.is_last-last.ensures ∙ c.if-last.true))

pub slice_bounds-place_past-count-in-loop-tokens :
    goal.slice_bounds-place_past-count-in-loop-tokens
slice_bounds-place_past-count-in-loop-tokens c =
    let left = c.loop-tokens.left.now in
    let rest = c.behind_gap-rest.result.now in
    let gap : Gap left rest = subst (Gap left) (sym c.behind_gap-rest.ensures.rest) (found_gap left) in
    ((step c.loop-tokens.invariant.0 left rest c.in_ok-kind.kind c.in_ok-kind.after.now gap c.in_ok-kind.ensures).shorter (sym c.is_last-last.ensures ∙ c.if-last.false)).1

pub loop-tokens-smaller : goal.loop-tokens-smaller
loop-tokens-smaller c =
    let left = c.loop-tokens.left.now in
    let rest = c.behind_gap-rest.result.now in
    let gap : Gap left rest = subst (Gap left) (sym c.behind_gap-rest.ensures.rest) (found_gap left) in
    ((step c.loop-tokens.invariant.0 left rest c.in_ok-kind.kind c.in_ok-kind.after.now gap c.in_ok-kind.ensures).shorter (sym c.is_last-last.ensures ∙ c.if-last.false)).0

pub loop-tokens-preserved : goal.loop-tokens-preserved
loop-tokens-preserved c =
    let i = c.loop-tokens.invariant in
    let left = c.loop-tokens.left.now in
    let rest = c.behind_gap-rest.result.now in
    let after = c.in_ok-kind.after.now in
    let gap : Gap left rest = subst (Gap left) (sym c.behind_gap-rest.ensures.rest) (found_gap left) in
    let more = sym c.is_last-last.ensures ∙ c.if-last.false in
    let s = step i.0 left rest c.in_ok-kind.kind after gap c.in_ok-kind.ensures in
    let shorter = s.shorter more in (
      (i.0 ++ before rest left) ++ before after rest,
      i.1 ∙ ap (λ l. i.0 ++ l) (s.parts more) ∙ sym (append_assoc i.0 (before rest left ++ before after rest) after) ∙ ap (λ d. d ++ after) (sym (append_assoc i.0 (before rest left) (before after rest))),
      c.place_past-at-in-loop-tokens.ensures.is (i.0 ++ before rest left) (c.place_past-at.ensures.is i.0 i.2),
      λ others lexed. subst (λ t. Lexed [] c.args.text.now (t ++ others)) (sym c.in_ok-push.ensures.ok)
          (more_turn c.args.text.now i.0 left rest c.loop-tokens.tokens c.in_ok-kind.kind after c.place_past-at.result gap c.in_ok-kind.ensures
          (c.place_past-at.ensures.is i.0 i.2) i.3 more others lexed),
      omega (arith, c.place_past-at-in-loop-tokens.ensures.line, c.place_past-at.ensures.line, i.4, shorter.1, c.behind_gap-rest.ensures.within, length-take (length left - length rest) left, length-take (length rest - length after) rest),
      omega (arith, c.place_past-at-in-loop-tokens.ensures.column, c.place_past-at.ensures.column, i.5, shorter.1, c.behind_gap-rest.ensures.within, length-take (length left - length rest) left, length-take (length rest - length after) rest),
    )
