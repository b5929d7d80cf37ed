-- Items of a suite, what is said of their checks, and what is found out of them.
use Rattle.std.proofs.Common.{◌≡◌, inl, inr, ℕ, zero, suc, ◌<◌, Bool, true, false, List, [], ◌∷◌, ◌++◌, length, take, map, get_or, Option, Some, refl, sym, ◌∙◌, ap, subst, arith}
use Rattle.std.specs.Prelude.{◌≢◌, ◌==◌, Contains, slice_get}
use Rattle.std.specs.Cmp.Lexicographic.{pointwise}
use Rattle.std.specs.List.{AllByRecursion, IsDistinct}
use Rattle.std.proofs.lemmas.Bool.Decides.{Decides-eqb}
use Rattle.std.proofs.lemmas.Slice.Eq.{slice_eq-Decides}
use Rattle.pt_choice.specs.declared.choice.Choice.{Choice}
use Rattle.pt_ast.specs.declared.suite.Item.{Item}
use Rattle.pt_ast.specs.declared.suite.Settings.{Settings}
use Rattle.pt_ast.specs.Names.{AreDistinct}
use Rattle.pt_ast.specs.Plain.{plain_item}
use Rattle.pt_ast.specs.Trees.{BodyTree, Check_of, Property_of, Machine_of, ItemTree}
use Rattle.pt_case.specs.Step.{Answer}
use Rattle.pt_found.specs.declared.finding.Finding.{Finding}
use Rattle.pt_plan.specs.Says.{plan_says}
use Rattle.pt_prop.specs.Property.{property_plan}
use Rattle.pt_machine.specs.Machine.{machine_plan}
use Rattle.pt_item.specs.Item.{OfBody, OfItem}
use Rattle.pt_disk.specs.Moments.{Told}
use Rattle.pt_edits.specs.Pairs.{PairEdit}
use Rattle.pt_edits.specs.Readings.{lists_of}
use Rattle.pt_turns.specs.Examined.{Examined}
use Rattle.pt_turns.specs.Finishes.{Finishes, IsCut, IsHalted}
use Rattle.pt_turns.specs.Scene.{Scene}
use Rattle.pt_turns.specs.Turns.{AreTurnsAfter, FirstTurns}
use Rattle.pt_turns.specs.declared.reporting.Reported.{Reported}
use Rattle.pt_run.specs.Suite.{HaveOwnNames}

-- names that are found equal are so, and the other way round
same_word : (one other : List ℕ) → one ≡ other → pointwise ◌==◌ one other ≡ true
same_word one other is = (slice_eq-Decides Decides-eqb one other (pointwise ◌==◌ one other) refl).1 is

found_same : (one other : List ℕ) → pointwise ◌==◌ one other ≡ true → one ≡ other
found_same one other is = (slice_eq-Decides Decides-eqb one other (pointwise ◌==◌ one other) refl).0 is

not_found : (one other : List ℕ) → one ≢ other → pointwise ◌==◌ one other ≡ false
not_found one other differ = of_test (pointwise ◌==◌ one other) refl
  where
    of_test : (test : Bool) → pointwise ◌==◌ one other ≡ test → pointwise ◌==◌ one other ≡ false
    of_test true is = absurd (differ (found_same one other is))
    of_test false is = is

out_some : {X : Type 0} {one other : X} → Some one ≡ Some other → one ≡ other
out_some is = cc

all_at : {X : Type 0} (name : X → List ℕ) (P : List ℕ → Type 0) (xs : List X) (place : ℕ) (x : X) → AllByRecursion P (map name xs) →
    slice_get xs place ≡ Some x → P (name x)
all_at name P [] place x all at = cc
all_at name P (first ∷ rest) zero x all at = subst (λ c. P (name c)) (out_some at) all.0
all_at name P (first ∷ rest) (suc place) x all at = all_at name P rest place x all.1 at

distinct_parts : {X : Type 0} (name : X → List ℕ) (first : X) (rest : List X) → AreDistinct (map name (first ∷ rest)) →
    AllByRecursion (λ word. pointwise ◌==◌ (name first) word ≡ false) (map name rest) × AreDistinct (map name rest)
unfolding IsDistinct
distinct_parts name first rest distinct = distinct

from_parts : {X : Type 0} (name : X → List ℕ) (first : X) (rest : List X) →
    AllByRecursion (λ word. pointwise ◌==◌ (name first) word ≡ false) (map name rest) → AreDistinct (map name rest) → AreDistinct (map name (first ∷ rest))
unfolding IsDistinct
from_parts name first rest all distinct = (all, distinct)

none_distinct : {X : Type 0} (name : X → List ℕ) → AreDistinct (map name [])
unfolding IsDistinct
none_distinct name = tt

never_again : {X : Type 0} (name : X → List ℕ) (first : X) (rest : List X) (place : ℕ) (other : X) → AreDistinct (map name (first ∷ rest)) →
    slice_get rest place ≡ Some other → name first ≡ name other → ⊥
never_again name first rest place other distinct at same =
    let differs = all_at name (λ word. pointwise ◌==◌ (name first) word ≡ false) rest place other (distinct_parts name first rest distinct).0 at in
    let equal = same_word (name first) (name other) same in
    cc

-- of things with distinct names one alone has a name
pub one_named : {X : Type 0} (name : X → List ℕ) (xs : List X) (place again : ℕ) (one other : X) → AreDistinct (map name xs) →
    slice_get xs place ≡ Some one → slice_get xs again ≡ Some other → name one ≡ name other → one ≡ other
one_named name [] place again one other distinct at there same = cc
one_named name (first ∷ rest) zero zero one other distinct at there same = out_some (sym at ∙ there)
one_named name (first ∷ rest) zero (suc again) one other distinct at there same =
    absurd (never_again name first rest again other distinct there (ap name (out_some at) ∙ same))
one_named name (first ∷ rest) (suc place) zero one other distinct at there same =
    absurd (never_again name first rest place one distinct at (ap name (out_some there) ∙ sym same))
one_named name (first ∷ rest) (suc place) (suc again) one other distinct at there same =
    one_named name rest place again one other (distinct_parts name first rest distinct).1 at there same

-- an item of some is among their trees
pub has_tree : (items : List Item) (k : ℕ) (item : Item) → k < length items → item ≡ get_or items k item → Contains (map plain_item items) (plain_item item)
has_tree [] k item within at = absurd (omega (arith, within))
has_tree (first ∷ rest) zero item within at = (0, omega arith, ap plain_item (sym at))
has_tree (first ∷ rest) (suc k) item within at =
    let later = has_tree rest k item (omega (arith, within)) at in
    (suc later.0, omega (arith, later.1), later.2)

-- and a tree among theirs is one's
pub of_tree : (items : List Item) (tree : ItemTree) → Contains (map plain_item items) tree →
    (k : ℕ) × (item : Item) × (k < length items) × (slice_get items k ≡ Some item) × (plain_item item ≡ tree)
of_tree [] tree (k, within, is) = absurd (omega (arith, within))
of_tree (first ∷ rest) tree (zero, within, is) = (0, first, omega arith, refl, is)
of_tree (first ∷ rest) tree (suc k, within, is) =
    let later = of_tree rest tree (k, omega (arith, within), is) in
    (suc later.0, later.1, omega (arith, later.2), later.3, later.4)

-- what a list has stands at a place
pub at_place : {X : Type 0} (xs : List X) (x : X) → Contains xs x → (place : ℕ) × (slice_get xs place ≡ Some x)
at_place [] x (k, within, is) = absurd (omega (arith, within))
at_place (first ∷ rest) x (zero, within, is) = (0, ap Some is)
at_place (first ∷ rest) x (suc k, within, is) =
    let later = at_place rest x (k, omega (arith, within), is) in
    (suc later.0, later.1)

-- of things with distinct names one alone has a name
pub only_one : {X : Type 0} (name : X → List ℕ) (xs : List X) (one other : X) → AreDistinct (map name xs) →
    Contains xs one → Contains xs other → name one ≡ name other → one ≡ other
only_one name xs one other distinct has also same =
    let here = at_place xs one has in
    let there = at_place xs other also in
    one_named name xs here.0 there.0 one other distinct here.1 there.1 same

-- names that differ in pairs are distinct
own_rest : {X : Type 0} (name : X → List ℕ) (first : X) (rest : List X) → HaveOwnNames name (first ∷ rest) → HaveOwnNames name rest
own_rest name first rest own i j d below within = own (suc i) (suc j) d (omega (arith, below)) (omega (arith, within))

own_first : {X : Type 0} (name : X → List ℕ) (first : X) (rest : List X) → ((k : ℕ) (d : X) → k < length rest → name first ≢ name (get_or rest k d)) →
    AllByRecursion (λ word. pointwise ◌==◌ (name first) word ≡ false) (map name rest)
own_first name first [] differ = tt
own_first name first (next ∷ rest) differ = (
  not_found (name first) (name next) (differ 0 first (omega arith)),
  own_first name first rest (λ k d within. differ (suc k) d (omega (arith, within))),
)

pub own_distinct : {X : Type 0} (name : X → List ℕ) (xs : List X) → HaveOwnNames name xs → AreDistinct (map name xs)
own_distinct name [] own = none_distinct name
own_distinct name (first ∷ rest) own =
    from_parts name first rest (own_first name first rest (λ k d within. own 0 (suc k) d (omega arith) (omega (arith, within))))
    (own_distinct name rest (own_rest name first rest own))

-- what has a first part of a list has the list
pub of_first : {X : Type 0} (n : ℕ) (xs : List X) (x : X) → Contains (take n xs) x → Contains xs x
of_first zero xs x (k, within, is) = absurd (omega (arith, within))
of_first (suc n) [] x (k, within, is) = absurd (omega (arith, within))
of_first (suc n) (first ∷ rest) x (zero, within, is) = (0, omega arith, is)
of_first (suc n) (first ∷ rest) x (suc k, within, is) =
    let later = of_first n rest x (k, omega (arith, within), is) in
    (suc later.0, omega (arith, later.1), later.2)

module _ {C : Type 0} (name : C → List ℕ) (step : C → List Choice → Answer → Type 0) (checks : List C) where
  -- what follows of what is said of an item's check
  pub of_one : (word : List ℕ) (settings : Settings) (body : BodyTree) (P : (List Choice → Answer → Type 0) → Type 0) (X : Type 0) →
      OfBody name step checks word settings body P → ((says : List Choice → Answer → Type 0) → P says → X) → X
  of_one word settings Check_of P X one follows = follows (step one.1) one.4
  of_one word settings (Property_of stmts) P X one follows = follows (plan_says (property_plan stmts)) one
  of_one word settings (Machine_of machine) P X one follows = follows (plan_says (machine_plan machine settings.steps)) one

  -- and what is said of it then
  body_follows : (word : List ℕ) (settings : Settings) (body : BodyTree) (P Q : (List Choice → Answer → Type 0) → Type 0) →
      OfBody name step checks word settings body P → ((says : List Choice → Answer → Type 0) → P says → Q says) → OfBody name step checks word settings body Q
  body_follows word settings Check_of P Q (place, check, at, named, holds) follows = (place, check, at, named, follows (step check) holds)
  body_follows word settings (Property_of stmts) P Q holds follows = follows (plan_says (property_plan stmts)) holds
  body_follows word settings (Machine_of machine) P Q holds follows = follows (plan_says (machine_plan machine settings.steps)) holds

  pub item_follows : (item : ItemTree) (P Q : (List Choice → Answer → Type 0) → Type 0) → OfItem name step checks item P →
      ((says : List Choice → Answer → Type 0) → P says → Q says) → OfItem name step checks item Q
  item_follows item P Q holds follows = body_follows item.name.name item.settings item.body P Q holds follows

  -- what follows of two things that are said of it
  pub of_both : AreDistinct (map name checks) → (word : List ℕ) (settings : Settings) (body : BodyTree) (P Q : (List Choice → Answer → Type 0) → Type 0)
      (X : Type 0) → OfBody name step checks word settings body P → OfBody name step checks word settings body Q →
      ((says : List Choice → Answer → Type 0) → P says → Q says → X) → X
  of_both distinct word settings Check_of P Q X one other follows =
      let same : other.1 ≡ one.1 = one_named name checks other.0 one.0 other.1 one.1 distinct other.2 one.2 (other.3 ∙ sym one.3) in
      let R : C → Type 0 = λ check. Q (step check) in
      follows (step one.1) one.4 (subst R same other.4)
  of_both distinct word settings (Property_of stmts) P Q X one other follows = follows (plan_says (property_plan stmts)) one other
  of_both distinct word settings (Machine_of machine) P Q X one other follows = follows (plan_says (machine_plan machine settings.steps)) one other

  -- the item is one of these, and this was found out of it, over some list of stored lists
  pub record IsFoundIn (seed : ℕ) (items : List ItemTree) (finding : Finding) : Type 0 where
    pub item : ItemTree
    pub has : Contains items item
    pub stored : List (List Choice)
    pub examined : Examined name step checks seed stored item finding

  found_later : (seed : ℕ) (first : ItemTree) (items : List ItemTree) (finding : Finding) → IsFoundIn seed items finding → IsFoundIn seed (first ∷ items) finding
  found_later seed first items finding later = record {
    item = later.item;
    has = (suc later.has.0, omega (arith, later.has.1), later.has.2);
    stored = later.stored;
    examined = later.examined;
  }

  -- a finding of some turns is that of one of the items
  turn_of : (seed : ℕ) (told : Option Told) (done : List PairEdit) (items : List ItemTree) (findings : List Finding) (all : List PairEdit) (finding : Finding) →
      AreTurnsAfter name step checks seed told done items findings all → Contains findings finding → IsFoundIn seed items finding
  turn_of seed told done items [] all finding turns (k, within, is) = absurd (omega (arith, within))
  turn_of seed told done [] (first ∷ findings) all finding turns has = absurd turns
  turn_of seed told done (item ∷ items) (first ∷ findings) all finding turns (zero, within, is) = record {
    item = item;
    has = (0, omega arith, refl);
    stored = lists_of turns.1.readings;
    examined = subst (λ (f : Finding). Examined name step checks seed (lists_of turns.1.readings) item f) is turns.1.examined;
  }
  turn_of seed told done (item ∷ items) (first ∷ findings) all finding turns (suc k, within, is) =
      found_later seed item items finding (turn_of seed told (done ++ turns.0) items findings all finding turns.2 (k, omega (arith, within), is))

  first_turn_of : (seed : ℕ) (told : Option Told) (items : List ItemTree) (findings : List Finding) (all : List PairEdit) (finding : Finding) →
      FirstTurns name step checks seed told items findings all → Contains findings finding → IsFoundIn seed items finding
  first_turn_of seed told items findings all finding turns has =
      let found = turn_of seed told [] (take (length findings) items) findings all finding turns has in
      record { item = found.item; has = of_first (length findings) items found.item found.has; stored = found.stored; examined = found.examined }

  halted_turn_of : (seed : ℕ) (items : List ItemTree) (findings : List Finding) (finding : Finding) (old new : Option Told) →
      IsHalted name step checks seed items findings old new → Contains findings finding → IsFoundIn seed items finding
  halted_turn_of seed items findings finding old new (inl (none, failed)) has =
      let here : Contains [] finding = subst (λ (fs : List Finding). Contains fs finding) none has in
      absurd (omega (arith, here.1))
  halted_turn_of seed items findings finding old new (inr partly) has = first_turn_of seed old items findings partly.edits finding partly.turns has

  -- so is one of a run, however it finished
  pub finding_of : (seed : ℕ) (items : List ItemTree) (reported : Reported) (finding : Finding) (old new : Scene) →
      Finishes name step checks seed items reported old new → Contains reported.findings finding → IsFoundIn seed items finding
  finding_of seed items reported finding old new (inl whole) has = turn_of seed old.disk.told [] items reported.findings whole.edits finding whole.turns has
  finding_of seed items reported finding old new (inr (inl unstored)) has =
      halted_turn_of seed items reported.findings finding old.disk.told new.disk.told unstored.halted has
  finding_of seed items reported finding old new (inr (inr (inl clashed))) has =
      first_turn_of seed old.disk.told items reported.findings clashed.clashing.partly.edits finding clashed.clashing.partly.turns has
  finding_of seed items reported finding old new (inr (inr (inr unwritten))) has = of_cut unwritten.cut
    where
      of_cut : IsCut name step checks seed items reported.findings old new → IsFoundIn seed items finding
      of_cut (inl (edits, turns, made, cut, still)) = first_turn_of seed old.disk.told items reported.findings edits finding turns has
      of_cut (inr (inl (edits, turns, made, cut, still))) = turn_of seed old.disk.told [] items reported.findings edits finding turns has
      of_cut (inr (inr (inl (halted, cause, cut)))) = halted_turn_of seed items reported.findings finding old.disk.told new.disk.told halted has
      of_cut (inr (inr (inr (two, clashing, cut, still)))) = first_turn_of seed old.disk.told items reported.findings clashing.partly.edits finding clashing.partly.turns has
