-- A list has one path.
use Rattle.std.proofs.Common.{◌≡◌, ◌⊎◌, ℕ, suc, ◌<◌, ◌≤◌, true, Some, None, List, [], ◌∷◌, ◌++◌, length, take, inl, inr, refl, sym, ap, subst, arith, length-append, append_assoc}
use Rattle.std.specs.Prelude.{slice_get}
use Rattle.pt_choice.specs.Kind.{admits}
use Rattle.pt_choice.specs.declared.choice.Choice.{Choice}
use Rattle.pt_choice.specs.declared.kind.Shape.{Shape}
use Rattle.pt_choice.proofs.Admitted.{fit-kept}
use Rattle.pt_case.specs.Source.{Source, Listed, answer_to, left_after, AnswersAll}
use Rattle.pt_case.specs.Step.{Answer, Ask, End, Cut, Says, AsksFor}
use Rattle.pt_case.specs.Run.{IsFollowed, IsWhole}

-- after these first choices and each of the others the check asks for these kinds
abbrev AskedFrom : (List Choice → Answer → Type 0) → List Choice → List Shape → List Choice → Type 0
AskedFrom step first [] [] = Unit {0}
AskedFrom step first (kind ∷ kinds) (choice ∷ path) = AsksFor step first kind × AskedFrom step (first ++ choice ∷ []) kinds path
AskedFrom step first [] (choice ∷ path) = ⊥
AskedFrom step first (kind ∷ kinds) [] = ⊥

append-nil : (xs : List Choice) → xs ++ [] ≡ xs
append-nil [] = refl
append-nil (x ∷ xs) = ap (λ ys. x ∷ ys) (append-nil xs)

asked_from : (step : List Choice → Answer → Type 0) (first : List Choice) (kinds : List Shape) (path : List Choice) →
    length kinds ≡ length path →
    ((i : ℕ) (kind : Shape) (choice : Choice) → slice_get kinds i ≡ Some kind → slice_get path i ≡ Some choice → AsksFor step (first ++ take i path) kind) →
    AskedFrom step first kinds path
asked_from step first [] [] same each = tt
asked_from step first [] (choice ∷ path) same each = absurd (omega (arith, same))
asked_from step first (kind ∷ kinds) [] same each = absurd (omega (arith, same))
asked_from step first (kind ∷ kinds) (choice ∷ path) same each = (
  subst (λ p. AsksFor step p kind) (append-nil first) (each 0 kind choice refl refl),
  asked_from step (first ++ choice ∷ []) kinds path (omega (arith, same))
      (λ i k c ek ec. rw append_assoc (each (suc i) k c ek ec)),
)

-- a check says one answer
said_once : (step : List Choice → Answer → Type 0) (path : List Choice) (a b : Answer) → Says step path a → Says step path b → a ≡ b
said_once step path a b sa sb = sb.only a sa.said

stuck : (source : Source) (kind : Shape) (choice : Choice) → source ≡ Listed [] → answer_to source kind ≡ Some choice → ⊥
stuck source kind choice is answer = let gone : None ≡ Some choice = rw is at answer in cc

cons : (c d : Choice) (p q : List Choice) → c ≡ d → p ≡ q → c ∷ p ≡ d ∷ q
cons c d p q e f = rw (e, f) refl

room : (first : List Choice) (choice : Choice) (path : List Choice) → length (first ++ choice ∷ path) ≤ 256 → length first < 256
room first choice path few = omega (arith, length-append first (choice ∷ path))

-- where a path is whole the next question has no answer
no_more : (step : List Choice → Answer → Type 0) (path : List Choice) (left : Source) (kind : Shape) (choice : Choice) (answer : Answer) →
    Says step path answer → AsksFor step path kind → IsWhole path left answer → answer_to left kind ≡ Some choice → length path < 256 → ⊥
no_more step path left kind choice answer says asks whole answered few =
    let is = said_once step path answer (Ask kind asks.0 asks.1) says asks.2 in
    let end : (left ≡ Listed []) ⊎ (256 ≤ length path) = subst (λ a. IsWhole path left a) is whole in
    elim end [ inl h ↦ stuck left kind choice h answered | inr h ↦ absurd (omega arith) ]

as_many : (source : Source) (kinds : List Shape) (path : List Choice) (left : Source) → AnswersAll source kinds path left → length kinds ≡ length path
as_many source [] [] left all = refl
as_many source (kind ∷ kinds) (choice ∷ path) left all = ap suc (as_many (left_after source kind) kinds path left all.1)
as_many source [] (choice ∷ path) left all = absurd all
as_many source (kind ∷ kinds) [] left all = absurd all

-- two paths over one source do not part
one_path : (step : List Choice → Answer → Type 0) (first : List Choice) (source : Source) (ks ls : List Shape) (p q : List Choice) (lp lq : Source) (a b : Answer) →
    AskedFrom step first ks p → AskedFrom step first ls q → AnswersAll source ks p lp → AnswersAll source ls q lq →
    Says step (first ++ p) a → Says step (first ++ q) b → IsWhole (first ++ p) lp a → IsWhole (first ++ q) lq b →
    length (first ++ p) ≤ 256 → length (first ++ q) ≤ 256 → (p ≡ q) × (a ≡ b)
one_path step first source [] [] [] [] lp lq a b ap_ aq np nq sp sq wp wq fp fq = (refl, said_once step _ a b sp sq)
one_path step first source [] (l ∷ ls) [] (d ∷ q) lp lq a b ap_ aq np nq sp sq wp wq fp fq =
    absurd (no_more step first source l d a (subst (λ p. Says step p a) (append-nil first) sp) aq.0
    (subst (λ p. IsWhole p source a) (append-nil first) (rw np at wp)) nq.0 (room first d q fq))
one_path step first source (k ∷ ks) [] (c ∷ p) [] lp lq a b ap_ aq np nq sp sq wp wq fp fq =
    absurd (no_more step first source k c b (subst (λ p. Says step p b) (append-nil first) sq) ap_.0
    (subst (λ p. IsWhole p source b) (append-nil first) (rw nq at wq)) np.0 (room first c p fp))
one_path step first source (k ∷ ks) (l ∷ ls) (c ∷ p) (d ∷ q) lp lq a b ap_ aq np nq sp sq wp wq fp fq =
    let asks = said_once step first _ _ aq.0.2 ap_.0.2 in
    let kind : l ≡ k = cc in
    let answer : answer_to source k ≡ Some d = rw kind at nq.0 in
    let choice : d ≡ c = cc in
    let aq' : AskedFrom step (first ++ c ∷ []) ls q = rw choice at aq.1 in
    let nq' : AnswersAll (left_after source k) ls q lq = rw kind at nq.1 in
    let sq' : Says step (first ++ c ∷ q) b = rw choice at sq in
    let wq' : IsWhole (first ++ c ∷ q) lq b = rw choice at wq in
    let fq' : length (first ++ c ∷ q) ≤ 256 = rw choice at fq in
    let rest = one_path step (first ++ c ∷ []) (left_after source k) ks ls p q lp lq a b ap_.1 aq' np.1 nq'
    (rw append_assoc sp) (rw append_assoc sq') (rw append_assoc wp) (rw append_assoc wq') (rw append_assoc fp) (rw append_assoc fq') in
    (cons c d p q (sym choice) rest.0, rest.1)
one_path step first source ks ls p q lp lq a b ap_ aq np nq sp sq wp wq fp fq =
    absurd (omega (arith, as_many source ks p lp np, as_many source ls q lq nq))

-- a source is followed along one path, to one answer
pub followed-once : (step : List Choice → Answer → Type 0) (source : Source) (p q : List Choice) (lp lq : Source) (a b : Answer) →
    IsFollowed step source p lp a → IsFollowed step source q lq b → (p ≡ q) × (a ≡ b)
followed-once step source p q lp lq a b fp fq =
    one_path step [] source fp.kinds fq.kinds p q lp lq a b
    (asked_from step [] fp.kinds p fp.asked.as_many (λ i k c ek ec. (fp.asked.each i k c ek ec).1))
    (asked_from step [] fq.kinds q fq.asked.as_many (λ i k c ek ec. (fq.asked.each i k c ek ec).1))
    fp.answered fq.answered fp.says fq.says fp.whole fq.whole fp.asked.short fq.asked.short

-- a path whose choices are all admitted answers itself
answers_itself : (kinds : List Shape) (path : List Choice) → length kinds ≡ length path →
    ((i : ℕ) (kind : Shape) (choice : Choice) → slice_get kinds i ≡ Some kind → slice_get path i ≡ Some choice → admits kind choice ≡ true) →
    AnswersAll (Listed path) kinds path (Listed [])
answers_itself [] [] same each = refl
answers_itself (kind ∷ kinds) (choice ∷ path) same each = (
  ap (λ c. Some c) (fit-kept kind choice (each 0 kind choice refl refl)),
  answers_itself kinds path (omega (arith, same)) (λ i. each (suc i)),
)
answers_itself [] (choice ∷ path) same each = absurd (omega (arith, same))
answers_itself (kind ∷ kinds) [] same each = absurd (omega (arith, same))

whole_alone : (path : List Choice) (left : Source) (answer : Answer) → IsWhole path left answer → IsWhole path (Listed []) answer
whole_alone path left (Ask kind spans notes) whole = inl refl
whole_alone path left (End ending spans notes) whole = tt
whole_alone path left (Cut spans notes) whole = whole

-- so its path is the path of its own choices
pub followed-again : (step : List Choice → Answer → Type 0) (source : Source) (path : List Choice) (left : Source) (answer : Answer) →
    IsFollowed step source path left answer → IsFollowed step (Listed path) path (Listed []) answer
followed-again step source path left answer was = record {
  kinds = was.kinds;
  asked = was.asked;
  answered = answers_itself was.kinds path was.asked.as_many (λ i k c ek ec. (was.asked.each i k c ek ec).0);
  says = was.says;
  whole = whole_alone path left answer was.whole;
}
