use Rattle.std.proofs.Common.{◌≡◌, ◌++◌, take, map, codes}
use Rattle.std.specs.List.{flat_map}
use Rattle.pt_val.specs.Text.{text_of}
use Rattle.pt_val.proofs.printing.+show.Given as goal

-- the values so far are written, each after a comma and a space
abbrev pub invariant-write_values-loop-value : goal.invariant-write_values-loop-value
invariant-write_values-loop-value l =
    l.text ≡ l.initial.text ++ flat_map (λ text. codes ", " ++ text) (map text_of (take l.value-index l.rest))
