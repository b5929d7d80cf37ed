-- What a supply's source stands for.
use Rattle.std.specs.Prelude.{◌<◌, ◌^◌}
use Rattle.pt_rng.specs.Supplied.{Supplied, Simplest as NoWords, Streamed}
use Rattle.pt_rng.specs.declared.supply.Source.{Source}
use Rattle.pt_rng.specs.declared.supply.Source.TheVariants.{Simplest, Words}

abbrev pub supplied_by : Source → Supplied
supplied_by Simplest = NoWords
supplied_by (Words words) = Streamed words

-- the next word's place is one of the stream's
abbrev pub IsSource : Source → Type 0
IsSource Simplest = Unit {0}
IsSource (Words words) = words.word_pos < 2 ^ 68
