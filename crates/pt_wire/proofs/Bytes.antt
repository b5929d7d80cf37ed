-- Lists of numbers that are bytes.
use Rattle.std.proofs.Common.{ℕ, zero, suc, ◌<◌, List, [], ◌∷◌, ◌++◌, get_or, take, replicate, arith}
use Rattle.std.specs.List.{AllByRecursion}

-- what is a byte at each place is made of bytes
pub are_bytes : (bytes : List ℕ) → ((k : ℕ) → get_or bytes k 0 < 256) → AllByRecursion (λ byte. byte < 256) bytes
are_bytes [] each = tt
are_bytes (byte ∷ bytes) each = (each 0, are_bytes bytes (λ k. each (suc k)))

bytes-replicate : (n : ℕ) → AllByRecursion (λ byte. byte < 256) (replicate n 0)
bytes-replicate zero = tt
bytes-replicate (suc n) = (omega arith, bytes-replicate n)

pub bytes_then_zeros : (n : ℕ) (bytes : List ℕ) → AllByRecursion (λ byte. byte < 256) bytes → AllByRecursion (λ byte. byte < 256) (bytes ++ replicate n 0)
bytes_then_zeros n [] each = bytes-replicate n
bytes_then_zeros n (byte ∷ bytes) each = (each.0, bytes_then_zeros n bytes each.1)

pub bytes-take : (n : ℕ) (bytes : List ℕ) → AllByRecursion (λ byte. byte < 256) bytes → AllByRecursion (λ byte. byte < 256) (take n bytes)
bytes-take zero bytes each = tt
bytes-take (suc n) [] each = tt
bytes-take (suc n) (byte ∷ bytes) each = (each.0, bytes-take n bytes each.1)
