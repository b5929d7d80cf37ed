-- Commands of a cache, and how they are drawn.
use Rattle.std.specs.Prelude.{ℤ, pos, if◌then◌else◌}
use Rattle.std.specs.Ordering.{int_eq}
use Rattle.pt_val.specs.declared.val.Val.{Val}
use Rattle.pt_val.specs.declared.val.Val.TheVariants as val
use Rattle.pt_typed.specs.Shown.{pair_of}
use Rattle.pt_typed.specs.Reading.{number_of, first_of, second_of}
use Rattle.demo_lru.specs.declared.command.Command.{Command}
use Rattle.demo_lru.specs.declared.command.Command.TheVariants.{Put, Get, Remove}

-- a drawn command as it is shown
abbrev pub drawn_val : ℤ × (ℤ × ℤ) → Val
drawn_val drawn = pair_of (val.Int drawn.0) (pair_of (val.Int drawn.1.0) (val.Int drawn.1.1))

-- a command of a sort: 0 puts, 1 gets, and any other removes
abbrev pub command_of_sort : ℤ → ℤ → ℤ → Command
command_of_sort sort key value = if int_eq sort (pos 0) then Put key value else (if int_eq sort (pos 1) then Get key else Remove key)

-- the command that is shown so: its sort, and then its key and value
abbrev pub command_of : Val → Command
command_of shown =
    command_of_sort (number_of (first_of shown)) (number_of (first_of (second_of shown))) (number_of (second_of (second_of shown)))
