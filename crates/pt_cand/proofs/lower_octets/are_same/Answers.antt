use Rattle.std.proofs.Common.{◌≡◌, length, ◌∙◌, sym, arith}
use Rattle.std.specs.Cmp.Lexicographic.{bytes_decides}
use Rattle.std.proofs.lemmas.List.{ext_get_or}
use Rattle.pt_cand.specs.Edit.{changed}
use Rattle.pt_cand.proofs.lower_octets.are_same.Goals as goal

pub returns : goal.returns
returns c =
    let one = changed c.args.one c.args.octets.now in
    let other = changed c.args.other c.args.octets.now in
    let long : length one ≡ length other = sym c.len_after-len.ensures ∙ c.if-len-len_after.false ∙ c.len_after.ensures in
    let same : one ≡ other = ext_get_or 0 one other long (λ k within. c.loop-at.invariant k (omega (arith, c.loop-at-test.false, c.len_after-len.ensures, within))) in
    sym ((bytes_decides one other).1 same)
