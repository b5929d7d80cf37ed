-- A made suite is numbered in the order of its text.
use Rattle.std.proofs.Common.{◌≡◌, ℕ, zero, suc, ◌+◌, ◌%◌, ◌≤◌, ◌==◌, Bool, true, false, if◌then◌else◌, List, [], ◌∷◌, ◌++◌, length, map, refl, sym, subst, ap, ◌∙◌, arith, true≢false}
use Rattle.std.proofs.lemmas.Bool.{eqb-true}
use Rattle.std.specs.List.{flat_map, range_with_len}
use Rattle.pt_ast.specs.Trees.{ItemTree}
use Rattle.pt_ast.specs.Numbers.{body_numbers, IsNumbered}
use Rattle.pt_made.specs.Parts.{number_at}
use Rattle.pt_made.specs.Lines.{passing, failing, rejecting, bounded, bound, made_item, made_suite}

-- these numbers are this one, the next, and so on, up to that one
abbrev Counts : ℕ → ℕ → List ℕ → Type 0
Counts from upto [] = from ≡ upto
Counts from upto (first ∷ others) = (first ≡ from) × Counts (from + 1) upto others

counts_join : (from middle upto : ℕ) (front back : List ℕ) → Counts from middle front → Counts middle upto back → Counts from upto (front ++ back)
counts_join from middle upto [] back h k = subst (λ n. Counts n upto back) (sym h) k
counts_join from middle upto (first ∷ others) back h k = (h.0, counts_join (from + 1) middle upto others back h.1 k)

counts_range : (from upto : ℕ) (numbers : List ℕ) → Counts from upto numbers → numbers ≡ range_with_len from (length numbers)
counts_range from upto [] h = refl
counts_range from upto (n ∷ ns) h = ap (λ m. m ∷ ns) h.0 ∙ ap (λ l. from ∷ l) (counts_range (from + 1) upto ns h.1)

counts_length : (from upto : ℕ) (numbers : List ℕ) → Counts from upto numbers → from + length numbers ≡ upto
counts_length from upto [] h = omega (arith, h)
counts_length from upto (n ∷ ns) h = omega (arith, counts_length (from + 1) upto ns h.1)

-- a line has the numbers up to that of the next
abbrev LineCounts : ℕ → ItemTree → Type 0
LineCounts k item = Counts (number_at k) (number_at (k + 1)) (body_numbers item.body)

after_one : (k : ℕ) → ((k % 4 ≡ 1) → ⊥) → number_at k + 1 ≡ number_at (k + 1)
after_one k other = omega (arith, other)

after_two : (k : ℕ) → k % 4 ≡ 1 → number_at k + 1 + 1 ≡ number_at (k + 1)
after_two k second = omega (arith, second)

chosen_counts : (seed k : ℕ) (first second third : Bool) → (k % 4 == 0) ≡ first → (k % 4 == 1) ≡ second →
    LineCounts k (if first then passing k else (if second then failing k else (if third then rejecting k else bounded (bound seed k) k)))
chosen_counts seed k true second third e f = (refl, after_one k (λ g. let h = eqb-true (k % 4) 0 e in omega (arith, g, h)))
chosen_counts seed k false true third e f = (refl, (refl, after_two k (eqb-true (k % 4) 1 f)))
chosen_counts seed k false false true e f = (refl, after_one k (λ g. true≢false (sym (ap (λ n. n == 1) g) ∙ f)))
chosen_counts seed k false false false e f = (refl, after_one k (λ g. true≢false (sym (ap (λ n. n == 1) g) ∙ f)))

line_counts : (seed k : ℕ) → LineCounts k (made_item seed k)
line_counts seed k = chosen_counts seed k (k % 4 == 0) (k % 4 == 1) (k % 4 == 2) refl refl

lines_count : (seed from count : ℕ) → Counts (number_at from) (number_at (from + count)) (flat_map (λ item. body_numbers item.body) (map (made_item seed) (range_with_len from count)))
lines_count seed from zero = ap number_at (omega arith)
lines_count seed from (suc count) =
    let same : (from + 1) + count ≡ from + suc count = omega arith in
    counts_join (number_at from) (number_at (from + 1)) (number_at (from + suc count)) (body_numbers (made_item seed from).body)
    (flat_map (λ item. body_numbers item.body) (map (made_item seed) (range_with_len (from + 1) count))) (line_counts seed from)
    (subst (λ n. Counts (number_at (from + 1)) (number_at n) (flat_map (λ item. body_numbers item.body) (map (made_item seed) (range_with_len (from + 1) count)))) same (lines_count seed (from + 1) count))

pub suite_numbered : (seed count : ℕ) → count ≤ 200 → IsNumbered (made_suite seed count)
suite_numbered seed count few =
    let numbers = flat_map (λ item. body_numbers item.body) (map (made_item seed) (range_with_len 0 count)) in
    let counted : Counts (number_at 0) (number_at (0 + count)) numbers = lines_count seed 0 count in
    let long = counts_length (number_at 0) (number_at (0 + count)) numbers counted in
    (counts_range 0 (number_at (0 + count)) numbers counted, omega (arith, long))
