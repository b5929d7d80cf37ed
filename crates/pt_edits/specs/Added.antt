-- Edits that are added to a list of them.
use Rattle.std.specs.Prelude.{◌≡◌, ℕ, List, ◌++◌, map, All}
use Rattle.pt_edits.specs.declared.edit.Edit.{Edit}
use Rattle.pt_edits.specs.Pairs.{PairEdit, under}
use Rattle.pt_edits.specs.Short.{IsShortEdit}

-- edits of short values were added, and under each digest of a key this holds of them
abbrev pub Adds : (List ℕ → List PairEdit → Type 0) → List Edit → List Edit → Type 0
Adds Are old new = (its : List Edit) × (new ≡ old ++ its) × All IsShortEdit its × ((digest : List ℕ) → Are digest (map (under digest) its))
