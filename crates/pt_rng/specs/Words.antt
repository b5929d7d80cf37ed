-- The choice that is made of the words of a stream. Words are counted from 0, from the stream's place on.
use Rattle.std.specs.Prelude.{ℕ, ℤ, pos, ◌+◌, ◌-◌, ◌*◌, ◌%◌, ◌^◌, ◌≡◌, ◌≤◌, ◌+ℤ◌, ◌-ℤ◌, unsigned_abs, ◌==◌, nat_lt, if◌then◌else◌, List, map}
use Rattle.std.specs.List.{range_with_len}
use Rattle.rand_chacha.specs.ChaCha.{ChaCha, word_at}
use Rattle.pt_choice.specs.declared.kind.Shape.{Shape}
use Rattle.pt_choice.specs.declared.kind.Shape.TheVariants as shape
use Rattle.pt_choice.specs.declared.choice.Choice.{Choice}
use Rattle.pt_choice.specs.declared.choice.Choice.TheVariants as choice

-- the word of ChaCha with 8 rounds that is this many places on; places are counted modulo 2 ^ 68
abbrev pub nth_word : ChaCha → ℕ → ℕ
nth_word from n = word_at 4 from.key from.stream ((from.word_pos + n) % 2 ^ 68)

-- the stream this many places on
abbrev pub words_after : ChaCha → ℕ → ChaCha
words_after from n = record from { word_pos = (from.word_pos + n) % 2 ^ 68 }

-- a length from min to max, made of the first word
abbrev pub length_of : ChaCha → ℕ → ℕ → ℕ
length_of from min max = min + nth_word from 0 % (max - min + 1)

-- as many numbers below size, each made of one word after the first
abbrev pub numbers_of : ChaCha → ℕ → ℕ → List ℕ
numbers_of from size count = map (λ n. nth_word from n % size) (range_with_len 1 count)

-- any integer from lo to hi, made of the two words after the first, of which the former is the low one
abbrev pub spread_of : ChaCha → ℤ → ℤ → ℤ
spread_of from lo hi = lo +ℤ pos ((nth_word from 1 + 2 ^ 32 * nth_word from 2) % (unsigned_abs (hi -ℤ lo) + 1))

-- an integer from lo to hi: of eight first words one gives lo, one gives hi, one gives 0, and the others give any
abbrev pub integer_of : ChaCha → ℤ → ℤ → ℤ
integer_of from lo hi =
    let eighth = nth_word from 0 % 8 in
    if eighth == 0 then lo else if eighth == 1 then hi else if eighth == 2 then pos 0 else spread_of from lo hi

-- the choice for a question
abbrev pub choice_of : ChaCha → Shape → Choice
choice_of from (shape.Bool chance) = choice.Bool (nat_lt (nth_word from 0 % 16) chance)
choice_of from (shape.Int lo hi) = choice.Int (integer_of from lo hi)
choice_of from (shape.Bytes min max) = choice.Bytes (numbers_of from 256 (length_of from min max))
choice_of from (shape.Text min max size) = choice.Text (numbers_of from size (length_of from min max))

-- how many words it is made of
abbrev pub words_read : ChaCha → Shape → ℕ
words_read from (shape.Bool chance) = 1
words_read from (shape.Int lo hi) = if nat_lt (nth_word from 0 % 8) 3 then 1 else 3
words_read from (shape.Bytes min max) = 1 + length_of from min max
words_read from (shape.Text min max size) = 1 + length_of from min max

-- the same stream, with at most so many words read
abbrev pub HasReadUpTo : ℕ → ChaCha → ChaCha → Type 0
HasReadUpTo most from now = (n : ℕ) × (n ≤ most) × (now ≡ words_after from n)
