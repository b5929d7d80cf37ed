use Rattle.std.proofs.Common.{◌∙◌, sym, ap, subst, ℕ, List, arith}
use Rattle.std.specs.Prelude.{not}
use Rattle.std.specs.Cmp.Lexicographic.{bytes_decides}
use Rattle.pt_stored.specs.Digest.{IsExampleName, IsNameOf, digest_text}
use Rattle.pt_stored.proofs.NameLemmas.{example-name, example-value}
use Rattle.pt_stored.proofs.entry.Entry.of.Goals as goal
use Rattle.pt_stored.proofs.entry.Entry.of.Goals.{then-len-gt-MAX_VALUE-via-then-len-gt-MAX_VALUE, then-len-gt-MAX_VALUE-via-else-len-gt-MAX_VALUE+then-ne}

pub returns-in_default : goal.returns-in_default
returns-in_default c = λ example.
    c.in_default.ensures (subst IsExampleName (sym c.as_slice.ensures) (example.0, digest_text c.args.bytes, example-name example.0 c.args.file c.args.bytes example.1))

pub returns-then-len-gt-MAX_VALUE : goal.returns-then-len-gt-MAX_VALUE
returns-then-len-gt-MAX_VALUE c = λ example.
    elim c.then-len-gt-MAX_VALUE.branch [
      | then-len-gt-MAX_VALUE-via-then-len-gt-MAX_VALUE w ↦ absurd (omega (arith, example.1.short, w.if-len-gt-MAX_VALUE.true, c.len.ensures))
      | then-len-gt-MAX_VALUE-via-else-len-gt-MAX_VALUE+then-ne w ↦
          let parts = subst (λ (name : List ℕ). IsNameOf name c.in-Some.key.now c.in-Some.value.now) c.as_slice.ensures c.in-Some.ensures in
          let same = example-value c.args.file c.in-Some.key.now c.in-Some.value.now example.0 c.args.bytes parts example.1 in
          let text = same ∙ ap digest_text (sym w.as_slice-else-len-gt-MAX_VALUE.ensures) ∙ sym w.digest_text.ensures ∙ sym w.as_slice-else-len-gt-MAX_VALUE-2.ensures in
          cc (sym w.if-ne.true ∙ w.ne.ensures ∙ ap not ((bytes_decides c.in-Some.value.now w.as_slice-else-len-gt-MAX_VALUE-2.result.now).1 text))
    ]
