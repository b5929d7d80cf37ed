-- The labels of the spans that strategies, `pick` statements and machines open.
use Rattle.std.specs.Prelude.{ℕ, ◌+◌, ◌*◌, ◌%◌, ◌^◌}

-- that of the span round all that the node of this number draws, in 32 bits
abbrev pub node_label : ℕ → ℕ
node_label num = (32 + 2 * num) % 2 ^ 32

-- that of each of its parts
abbrev pub part_label : ℕ → ℕ
part_label num = (33 + 2 * num) % 2 ^ 32
