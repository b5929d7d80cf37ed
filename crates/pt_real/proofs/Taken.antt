-- A created file takes one piece after another.
use Rattle.std.proofs.Common.{◌≡◌, ℕ, ◌+◌, List, ◌∷◌, take, drop, Some, None, refl, sym, ap}
use Rattle.std.proofs.Math.Seq.{take-add}
use Rattle.pt_real.specs.Asked.{Asked, Created, and_did, and_more}

-- two pieces that follow one another are one piece
pub took-more : (path bytes : List ℕ) (done more : ℕ) (asked : Asked) →
    and_more (take more (drop done bytes)) (and_did (Created path (take done bytes)) asked) ≡ and_did (Created path (take (done + more) bytes)) asked
took-more path bytes done more None = refl
took-more path bytes done more (Some calls) = ap (λ taken. Some (Created path taken ∷ calls)) (sym (take-add done more bytes))
