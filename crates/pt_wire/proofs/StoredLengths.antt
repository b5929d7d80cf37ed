-- How long stored lists are.
use Rattle.std.proofs.Common.{ℕ, zero, suc, ◌*◌, ◌^◌, ◌<◌, ◌≤◌, true, false, List, [], ◌∷◌, length, ap, arith, length-append}
use Rattle.std.proofs.Math.Nat.{pow-succ'}
use Rattle.pt_choice.specs.declared.choice.Choice.{Choice}
use Rattle.pt_choice.specs.declared.choice.Choice.TheVariants as choice
use Rattle.pt_wire.specs.Leb128.{IsLeb128}
use Rattle.pt_wire.specs.Stored.{zigzag, Stored, StoredChoice}
use Rattle.pt_wire.proofs.PrintedLengths.{length-chained}
use Rattle.pt_wire.proofs.StoredChoices.{number_small}

-- one group for each seven bits
length-groups : (k number : ℕ) (bytes : List ℕ) → IsLeb128 number bytes → number < 128 * 128 ^ k → length bytes ≤ suc k
length-groups k number [] spelled small = absurd spelled
length-groups k number (byte ∷ []) spelled small = omega arith
length-groups zero number (byte ∷ next ∷ others) (low, high, below, above, is, whole, more) small = absurd (omega arith)
length-groups (suc k) number (byte ∷ next ∷ others) (low, high, below, above, is, whole, more) small =
    let long = length-groups k high (next ∷ others) more (omega (arith, pow-succ' 128 k)) in
    omega arith

-- the longest holds 64 bytes or places
length-choice : (member : Choice) (bytes : List ℕ) → StoredChoice member bytes → length bytes ≤ 66
length-choice (choice.Bool false) bytes is = omega (arith, ap length is)
length-choice (choice.Bool true) bytes is = omega (arith, ap length is)
length-choice (choice.Int value) bytes (held, is, spelled, small) =
    let number = number_small value small in
    let long = length-groups 9 (zigzag value) held spelled (omega arith) in
    omega (arith, ap length is)
length-choice (choice.Bytes items) bytes (held, is, (form, (few, each))) = omega (arith, ap length is, ap length form)
length-choice (choice.Text places) bytes (held, is, (form, (few, each))) = omega (arith, ap length is, ap length form)

-- 256 choices of 66 bytes behind a header of 3
pub length-stored : (list : List Choice) (bytes : List ℕ) → Stored list bytes → length list ≤ 256 → length bytes ≤ 16899
length-stored list bytes (front, held, (form, small), spelled, parts) few =
    let long = length-chained StoredChoice 66 length-choice list held spelled in
    omega (arith, ap length parts, length-append front held, ap length form)
