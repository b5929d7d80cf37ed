-- Where the answers of a fresh run come from, and which choice is made for a question.
use Rattle.std.specs.Prelude.{◌≡◌, ℕ, zero, suc, ◌++◌, List, replicate}
use Rattle.std.specs.Int.{w64, to_le_bytes}
use Rattle.rand_chacha.specs.ChaCha.{ChaCha, key_of}
use Rattle.pt_choice.specs.Kind.{simplest}
use Rattle.pt_choice.specs.declared.kind.Shape.{Shape}
use Rattle.pt_choice.specs.declared.choice.Choice.{Choice}
use Rattle.pt_rng.specs.Words.{words_after, choice_of, words_read, HasReadUpTo}

-- always the simplest choice, or choices made of the words that a generator gives
pub data Supplied : Type 0 where
  Simplest : Supplied
  Streamed : (words : ChaCha) → Supplied

-- the seed as 8 little-endian bytes, and 24 zero bytes
abbrev pub key_bytes : ℕ → List ℕ
key_bytes seed = to_le_bytes w64 seed ++ replicate 24 0

-- the words of a stream, from its first on
abbrev pub start_of : ℕ → ℕ → ChaCha
start_of seed stream = record { key = key_of (key_bytes seed); stream = stream; word_pos = 0 }

-- run 0 is the simplest, and run i has the words of stream i
abbrev pub supply_of_run : ℕ → ℕ → Supplied
supply_of_run seed zero = Simplest
supply_of_run seed (suc run) = Streamed (start_of seed (suc run))

-- the choice that a supply makes for a question, and the supply after it
abbrev pub made : Supplied → Shape → Choice × Supplied
made Simplest asked = (simplest asked, Simplest)
made (Streamed words) asked = (choice_of words asked, Streamed (words_after words (words_read words asked)))

-- the same supply, which has read at most the words that a choice for this question takes
abbrev pub HasReadFor : Shape → Supplied → Supplied → Type 0
HasReadFor asked Simplest now = now ≡ Simplest
HasReadFor asked (Streamed words) now = (after : ChaCha) × HasReadUpTo (words_read words asked) words after × (now ≡ Streamed after)
