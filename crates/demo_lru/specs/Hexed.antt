-- Bytes as hex text, and back.
use Rattle.std.specs.Prelude.{ℕ, Bool, false, nat_eq, List, codes, Result, Ok, Err, if◌then◌else◌}
use Rattle.std.specs.Cmp.Lexicographic.{pointwise}
use Rattle.hex.specs.Hex.{decode_of, encode_lower}
use Rattle.hex.specs.declared.error.FromHexError.{FromHexError}
use Rattle.pt_choice.specs.declared.choice.Choice.{Choice}
use Rattle.pt_val.specs.declared.val.Val.{Val}
use Rattle.pt_case.specs.declared.ending.Ending.{Ending}
use Rattle.pt_case.specs.declared.ending.Ending.TheVariants.{Pass, Fail}
use Rattle.pt_case.specs.declared.ending.Origin.TheVariants.{Point}
use Rattle.pt_case.specs.Step.{Answer}
use Rattle.pt_plan.specs.Says.{plan_says}
use Rattle.pt_typed.specs.Plans.{blobs_plan}
use Rattle.pt_typed.specs.Property.{property_plan}
use Rattle.pt_typed.specs.Reading.{bytes_of}

-- what was decoded is these bytes
abbrev pub is_decoded : List ℕ → Result (List ℕ) FromHexError → Bool
is_decoded bytes (Ok back) = pointwise nat_eq back bytes
is_decoded bytes (Err why) = false

-- the hex text of these bytes is decoded as these bytes
abbrev pub is_read_back : List ℕ → Bool
is_read_back bytes = is_decoded bytes (decode_of (encode_lower bytes))

-- it fails at point 1 where bytes are not read back
abbrev pub read_back : Val → Ending
read_back bytes = if is_read_back (bytes_of bytes) then Pass else Fail (Point 1)

abbrev pub hex_name : List ℕ
hex_name = codes "hex_round_trip"

-- up to 32 bytes are read back
abbrev pub hex_says : List Choice → Answer → Type 0
hex_says = plan_says (property_plan (blobs_plan 0 32) read_back)
