use Rattle.std.proofs.Common.{◌≡◌, ◌+ℤ◌, ◌-ℤ◌, ◌≤ℤ◌, ℤ, pos, arith, rules, to_z, of_z}
use Rattle.std.proofs.lemmas.Int.{ints}
use Rattle.std.specs.Int.{w128}
use Rattle.pt_tree.proofs.AboveLemmas.{risen, crossed, sunk}
use Rattle.pt_tree.proofs.above.next_integer.Goals as goal

pub returns-then-after-hi : goal.returns-then-after-hi
returns-then-after-hi c =
    let next : ℤ = to_z w128 (of_z w128 (to_z w128 (of_z w128 c.args.after) +ℤ pos 1)) in
    let is : next ≡ c.args.after +ℤ pos 1 = search rules in
    let low_end : (pos 0 -ℤ c.args.after) ≤ℤ (c.args.lo -ℤ pos 1) = search rules in
    let room : next ≤ℤ c.args.hi = search rules in
    let sign : pos 1 ≤ℤ c.args.after = search rules in
    risen c.args.lo c.args.hi c.args.after next c.requires.kind.0 c.requires.kind.1 c.requires.within.0 c.requires.within.1 sign low_end room is

pub returns-then-after-hi-2 : goal.returns-then-after-hi-2
returns-then-after-hi-2 c =
    let next : ℤ = to_z w128 (of_z w128 (to_z w128 (of_z w128 (pos 0 -ℤ to_z w128 (of_z w128 c.args.after))) +ℤ pos 1)) in
    let is : (next +ℤ c.args.after) ≡ pos 1 = search rules in
    let room : next ≤ℤ c.args.hi = search rules in
    let sign : c.args.after ≤ℤ pos 0 = search rules in
    crossed c.args.lo c.args.hi c.args.after next c.requires.kind.0 c.requires.kind.1 c.requires.within.0 c.requires.within.1 sign room is

pub returns-then-lo-after-2 : goal.returns-then-lo-after-2
returns-then-lo-after-2 c =
    let next : ℤ = to_z w128 (of_z w128 (to_z w128 (of_z w128 c.args.after) -ℤ pos 1)) in
    let is : next ≡ c.args.after -ℤ pos 1 = search rules in
    let room : c.args.lo ≤ℤ next = search rules in
    let sign : c.args.after ≤ℤ pos 0 = search rules in
    let high_end : c.args.hi ≤ℤ (pos 0 -ℤ c.args.after) = search rules in
    sunk c.args.lo c.args.hi c.args.after next c.requires.kind.0 c.requires.kind.1 c.requires.within.0 c.requires.within.1 sign high_end room is
