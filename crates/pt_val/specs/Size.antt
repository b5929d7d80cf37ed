-- How large a value is.
use Rattle.std.specs.Prelude.{ℕ, ◌+◌, length, sum}
use Rattle.pt_val.specs.declared.val.Val.{Val}
use Rattle.pt_val.specs.declared.val.Val.TheOpen.{Val-F}
use Rattle.pt_val.specs.declared.val.Val.TheOpen as val
use Rattle.pt_val.specs.declared.val.Val.TheFolds.{fold-Val}

-- a value's size, where its members are given by their sizes
abbrev pub size_step : Val-F ℕ → ℕ
size_step (val.Int number) = 1
size_step (val.Bool truth) = 1
size_step (val.Text chars) = 1 + length chars
size_step (val.Bytes bytes) = 1 + length bytes
size_step (val.List sizes) = 1 + sum sizes
size_step (val.Tuple sizes) = 1 + sum sizes
size_step (val.Node label sizes) = 1 + sum sizes

-- the size of a value
abbrev pub size_of : Val → ℕ
size_of = fold-Val ℕ size_step
