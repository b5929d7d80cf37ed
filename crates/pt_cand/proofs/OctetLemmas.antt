-- The changes of bytes or places by their numbers.
use Rattle.std.proofs.Common.{◌≡◌, ◌<◌, ◌≤◌, ℕ, zero, suc, ◌+◌, ◌-◌, ◌*◌, ◌/◌, ◌%◌, List, [], ◌∷◌, ◌++◌, length, take, drop, get_or, sym, ap, ◌∙◌, refl, arith}
use Rattle.std.proofs.lemmas.List.{append-nil, append_assoc}
use Rattle.pt_cand.specs.Each.{at_each}
use Rattle.pt_cand.specs.Lower.{lower_octets, lower_place}

abbrev way_at : List ℕ → List ℕ → ℕ → ℕ → List ℕ
way_at front back place way = get_or (lower_place (front ++ take place back) (get_or back place 0) (drop (suc place) back)) way []

-- four for each place
four : (front back : List ℕ) (place way : ℕ) → place < length back → way < 4 → get_or (at_each lower_place front back) (4 * place + way) [] ≡ way_at front back place way
four front [] place way within few = absurd (omega (arith, within))
four front (first ∷ back) zero way within few =
    let none : 4 * 0 + way ≡ way = omega arith in
    ap (λ n. get_or (at_each lower_place front (first ∷ back)) n []) none ∙ by way few
  where
    by : (way : ℕ) → way < 4 → get_or (at_each lower_place front (first ∷ back)) way [] ≡ way_at front (first ∷ back) zero way
    by zero few = ap (λ f. f ++ back) (sym (append-nil front))
    by (suc zero) few = ap (λ f. f ++ 0 ∷ back) (sym (append-nil front))
    by (suc (suc zero)) few = ap (λ f. f ++ first / 2 ∷ back) (sym (append-nil front))
    by (suc (suc (suc zero))) few = ap (λ f. f ++ (first - 1) ∷ back) (sym (append-nil front))
    by (suc (suc (suc (suc way)))) few = absurd (omega (arith, few))
four front (first ∷ back) (suc place) way within few =
    let more : 4 * suc place + way ≡ suc (suc (suc (suc (4 * place + way)))) = omega arith in
    ap (λ n. get_or (at_each lower_place front (first ∷ back)) n []) more
    ∙ four (front ++ first ∷ []) back place way (omega (arith, within)) few
    ∙ ap (λ f. get_or (lower_place f (get_or back place 0) (drop (suc place) back)) way []) (append_assoc front (first ∷ []) (take place back))

length-four : (front back : List ℕ) → length (at_each lower_place front back) ≡ 4 * length back
length-four front [] = refl
length-four front (first ∷ back) = let rest = length-four (front ++ first ∷ []) back in omega (arith, rest)

pub length-numbered : (octets : List ℕ) → length (octets ∷ lower_octets octets) ≡ 2 + 4 * length octets
length-numbered octets = let rest = length-four [] octets in omega (arith, rest)

pub numbered-place : (octets : List ℕ) (number : ℕ) → 2 ≤ number → number < 2 + 4 * length octets →
    get_or (octets ∷ lower_octets octets) number []
    ≡ get_or (lower_place (take ((number - 2) / 4) octets) (get_or octets ((number - 2) / 4) 0) (drop ((number - 2) / 4 + 1) octets)) ((number - 2) % 4) []
numbered-place octets zero two within = absurd (omega (arith, two))
numbered-place octets (suc zero) two within = absurd (omega (arith, two))
numbered-place octets (suc (suc n)) two within =
    let less : suc (suc n) - 2 ≡ n = omega arith in
    let split : n ≡ 4 * (n / 4) + n % 4 = omega arith in
    let place : n / 4 < length octets = omega (arith, within) in
    let way : n % 4 < 4 = omega arith in
    let one : suc (n / 4) ≡ n / 4 + 1 = omega arith in
    ap (λ m. get_or (at_each lower_place [] octets) m []) split
    ∙ four [] octets (n / 4) (n % 4) place way
    ∙ ap (λ m. get_or (lower_place (take (n / 4) octets) (get_or octets (n / 4) 0) (drop m octets)) (n % 4) []) one
    ∙ ap (λ m. get_or (lower_place (take (m / 4) octets) (get_or octets (m / 4) 0) (drop (m / 4 + 1) octets)) (m % 4) []) (sym less)
