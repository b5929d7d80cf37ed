use Rattle.std.proofs.Common.{◌≡◌, length, drop, map}
use Rattle.std.specs.List.{list_all}
use Rattle.pt_val.specs.Typing.{has_type, are_of}
use Rattle.pt_val.proofs.typing.+has_type.Given as goal

-- the values so far are of the type, so the answer is that of the rest
abbrev pub invariant-all_have_type-loop-value : goal.invariant-all_have_type-loop-value
invariant-all_have_type-loop-value l =
    list_all (λ is_of. is_of l.ty) (map has_type (drop l.value-index l.values)) ≡ list_all (λ is_of. is_of l.ty) (map has_type l.values)

-- the values so far are of their types, so the answer is that of the rest
abbrev pub invariant-have_types-loop-value : goal.invariant-have_types-loop-value
invariant-have_types-loop-value l =
    are_of (map has_type (drop (length l.yielded) l.values)) (drop (length l.yielded) l.types) ≡ are_of (map has_type l.values) l.types
