-- The model of a cache: a plain list of pairs, the one used last in front.
use Rattle.std.specs.Prelude.{ℤ, not, Option, Some, None, List, ◌∷◌, filter, take}
use Rattle.std.specs.Map.{lookup}
use Rattle.std.specs.Ordering.{int_eq}
use Rattle.demo_lru.specs.declared.command.Command.{Command}
use Rattle.demo_lru.specs.declared.command.Command.TheVariants.{Put, Get, Remove}

-- the pairs of other keys
abbrev pub without : ℤ → List (ℤ × ℤ) → List (ℤ × ℤ)
without key pairs = filter (λ pair. not (int_eq key pair.0)) pairs

-- a pair in front of the pairs of other keys, two in all at most
abbrev pub newest : ℤ → ℤ → List (ℤ × ℤ) → List (ℤ × ℤ)
newest key value pairs = take 2 ((key, value) ∷ without key pairs)

-- the pair that was found in front, if one was
abbrev pub used : ℤ → Option ℤ → List (ℤ × ℤ) → List (ℤ × ℤ)
used key (Some value) pairs = newest key value pairs
used key None pairs = pairs

-- What is answered, and the pairs afterwards. Each command answers the value that its key had.
abbrev pub by_list : List (ℤ × ℤ) → Command → Option ℤ × List (ℤ × ℤ)
by_list pairs (Put key value) = (lookup (int_eq key) pairs, newest key value pairs)
by_list pairs (Get key) = (lookup (int_eq key) pairs, used key (lookup (int_eq key) pairs) pairs)
by_list pairs (Remove key) = (lookup (int_eq key) pairs, without key pairs)
