use Rattle.std.proofs.Common.{◌≡◌, pos, true, false, refl, to_z, of_z, rules}
use Rattle.std.specs.Int.{w64}
use Rattle.std.specs.Ordering.{int_eq}
use Rattle.demo_lru.proofs.CommandLemmas.{command_of-drawn}
use Rattle.demo_lru.proofs.command.read.Goals as goal

pub returns-then-sort-eq0 : goal.returns-then-sort-eq0
returns-then-sort-eq0 c =
    let puts : int_eq c.args.drawn.now.0 (pos 0) ≡ true = search rules in
    let key : to_z w64 (of_z w64 c.args.drawn.now.1.0) ≡ c.args.drawn.now.1.0 = search rules in
    let value : to_z w64 (of_z w64 c.args.drawn.now.1.1) ≡ c.args.drawn.now.1.1 = search rules in
    rw (key, value, command_of-drawn c.args.drawn.now, puts) refl

pub returns-then-sort-eq1 : goal.returns-then-sort-eq1
returns-then-sort-eq1 c =
    let other : int_eq c.args.drawn.now.0 (pos 0) ≡ false = search rules in
    let gets : int_eq c.args.drawn.now.0 (pos 1) ≡ true = search rules in
    let key : to_z w64 (of_z w64 c.args.drawn.now.1.0) ≡ c.args.drawn.now.1.0 = search rules in
    rw (key, command_of-drawn c.args.drawn.now, other, gets) refl

pub returns-else-sort-eq1 : goal.returns-else-sort-eq1
returns-else-sort-eq1 c =
    let other : int_eq c.args.drawn.now.0 (pos 0) ≡ false = search rules in
    let third : int_eq c.args.drawn.now.0 (pos 1) ≡ false = search rules in
    let key : to_z w64 (of_z w64 c.args.drawn.now.1.0) ≡ c.args.drawn.now.1.0 = search rules in
    rw (key, command_of-drawn c.args.drawn.now, other, third) refl
