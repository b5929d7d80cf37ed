-- Which spans of a case are open.
use Rattle.std.specs.Prelude.{ℕ, suc, List, [], ◌∷◌, if◌then◌else◌}
use Rattle.pt_case.specs.declared.region.Region.{Region}
use Rattle.pt_case.specs.Region.{is_open}
use Rattle.pt_case.specs.State.{State}

-- the numbers of the open spans, counted from this one, before those that are further out
abbrev pub open_before : ℕ → List Region → List ℕ → List ℕ
open_before number [] outer = outer
open_before number (region ∷ regions) outer = open_before (suc number) regions (if is_open region then number ∷ outer else outer)

-- the numbers of the open spans of the case, the innermost first
abbrev pub open_spans : State → List ℕ
open_spans case = open_before 0 case.regions []
