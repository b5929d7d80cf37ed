use Rattle.std.proofs.Common.{◌≡◌, to_z, of_z, rules}
use Rattle.std.specs.Int.{w128}
use Rattle.pt_typed.proofs.SampledLemmas.{sampled-drawn}
use Rattle.pt_typed.proofs.sampled.SampledStrategy.draw.Goals as goal

pub returns : goal.returns
returns g c =
    let number : to_z w128 (of_z w128 c.in_ok-number.number) ≡ c.in_ok-number.number = search rules in
    let all : c.as_slice.result.now ≡ c.args.self.now.items.items = search rules in
    sampled-drawn g.T.ToVal.val c.args.self.now.items.items c.len.result c.item_at.result.now c.in_ok-enter.ensures.drew c.in_ok-number.ensures.drew
    (search rules) (search rules) c.leave.ensures.left (rw (all, number) at c.item_at.ensures) (search rules)
