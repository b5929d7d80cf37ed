-- After a step of one integer, the step of twice its size comes next.
use Rattle.std.specs.Prelude.{◌≡◌, ◌⊎◌, ◌≤◌, ℕ, ◌*◌, ℤ, unsigned_abs, Option, Some, None, List, [], ◌∷◌, ◌++◌, length}
use Rattle.std.specs.List.{Contains}
use Rattle.pt_choice.specs.declared.choice.Choice.{Choice}
use Rattle.pt_choice.specs.declared.choice.Choice.TheVariants as choice
use Rattle.pt_case.specs.Step.{Answer}
use Rattle.pt_case.specs.Better.{IsBetter}
use Rattle.pt_case.specs.declared.record.Record.{Record}
use Rattle.pt_cand.specs.Lower.{nearer}
use Rattle.pt_found.specs.Tried.{Tried}

-- From the one list to the other a single integer came nearer to zero by some size, and is still twice that from zero. In this list
-- it is nearer by twice the size again.
pub record IsLeap (old new asked : List Choice) : Type 0 where
  pub front : List Choice
  pub was : ℤ
  pub now : ℤ
  pub back : List Choice
  pub size : ℕ
  pub before : old ≡ front ++ choice.Int was ∷ back
  pub after : new ≡ front ++ choice.Int now ∷ back
  pub moved : 1 ≤ size
  pub stepped : now ≡ nearer was size
  pub room : 2 * size ≤ unsigned_abs now
  pub leap : asked ≡ front ++ choice.Int (nearer now (2 * size)) ∷ back

-- the first list of the rest of a trail, after which this one comes, if any does
abbrev pub comes_next : List Tried → Option (List Choice) → Option (List Choice)
comes_next [] next = next
comes_next (entry ∷ trail) next = Some entry.list

-- the list that is asked for was tried, or comes next, or the budget is used up
abbrev pub IsHeeded : ℕ → List (List Choice) → Record → Record → Option (List Choice) → Type 0
IsHeeded budget tried old new next =
    (budget ≤ length tried) ⊎ ((asked : List Choice) → IsLeap old.choices new.choices asked → Contains tried asked ⊎ (next ≡ Some asked))

-- These lists were tried, and then the trail goes from this best on, and then this list comes, if any does. Each accepted list is
-- heeded.
abbrev pub LeapsFrom : (List Choice → Answer → Type 0) → ℕ → List (List Choice) → Record → List Tried → Option (List Choice) → Type 0
LeapsFrom step budget tried best [] next = Unit {0}
LeapsFrom step budget tried best (entry ∷ trail) next =
    ((better : IsBetter step entry.list best) × IsHeeded budget (tried ++ entry.list ∷ []) best better.rec (comes_next trail next)
    × LeapsFrom step budget (tried ++ entry.list ∷ []) better.rec trail next)
    ⊎ ((¬ IsBetter step entry.list best) × LeapsFrom step budget (tried ++ entry.list ∷ []) best trail next)

-- a finished trail leaps wherever it is to
abbrev pub Leaps : (List Choice → Answer → Type 0) → ℕ → Record → List Tried → Type 0
Leaps step budget first trail = LeapsFrom step budget [] first trail None
