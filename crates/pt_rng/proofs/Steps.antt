-- One word more.
use Rattle.std.proofs.Common.{◌≡◌, ℕ, ◌+◌, ◌%◌, ◌^◌, List, [], ◌∷◌, ◌++◌, ◌∙◌, ap, arith}
use Rattle.std.proofs.Math.Nat.{mod-add-mod}
use Rattle.std.proofs.lemmas.List.FromFn.{map-range_with_len_more}
use Rattle.rand_chacha.specs.ChaCha.{ChaCha, word_at}
use Rattle.pt_rng.specs.Words.{nth_word, words_after, numbers_of}

-- a place n and then m places on is n + m places on
places-add : (place n m k : ℕ) → n + m ≡ k → ((place + n) % 2 ^ 68 + m) % 2 ^ 68 ≡ (place + k) % 2 ^ 68
places-add place n m k e = rw (mod-add-mod (place + n) (2 ^ 68) m) (ap (λ at. at % 2 ^ 68) (omega arith))

nth_word-words_after : (from : ChaCha) (n m k : ℕ) → n + m ≡ k → nth_word (words_after from n) m ≡ nth_word from k
nth_word-words_after from n m k e = ap (λ place. word_at 4 from.key from.stream place) (places-add from.word_pos n m k e)

words_after-words_after : (from : ChaCha) (n m k : ℕ) → n + m ≡ k → words_after (words_after from n) m ≡ words_after from k
words_after-words_after from n m k e = ap (λ place. record from { word_pos = place }) (places-add from.word_pos n m k e)

-- a word is read after the first n + 1
pub moved-more : (from words next : ChaCha) (n : ℕ) → words ≡ words_after from (1 + n) → next ≡ words_after words 1
    → next ≡ words_after from (1 + (n + 1))
moved-more from words next n before moved =
    moved ∙ ap (λ at. words_after at 1) before ∙ words_after-words_after from (1 + n) 1 (1 + (n + 1)) (omega arith)

-- and is the number that stands next in the list
pub numbers-more : (from words : ChaCha) (size n word : ℕ) (old new : List ℕ) → words ≡ words_after from (1 + n)
    → word ≡ nth_word words 0 → old ≡ numbers_of from size n → new ≡ old ++ (word % size) ∷ []
    → new ≡ numbers_of from size (n + 1)
numbers-more from words size n word old new before first so_far pushed =
    let read : word ≡ nth_word from (1 + n) =
    first ∙ ap (λ at. nth_word at 0) before ∙ nth_word-words_after from (1 + n) 0 (1 + n) (omega arith) in
    let more = map-range_with_len_more (λ k. nth_word from k % size) 1 n (1 + n) (omega arith) in
    rw (more, pushed, so_far, read)
