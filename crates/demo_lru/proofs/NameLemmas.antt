-- The four checks of this tester have names of their own.
use Rattle.std.proofs.Common.{◌≡◌, ℕ, List, [], ◌∷◌, get_or, sym, ◌∙◌, ap, arith}
use Rattle.pt_handed.proofs.NameLemmas.{Differ, four-names}
use Rattle.pt_run.specs.Suite.{HaveOwnNames}
use Rattle.demo_lru.specs.Cache.{cache_name}
use Rattle.demo_lru.specs.Pieces.{pieces_name}
use Rattle.demo_lru.specs.Hexed.{hex_name}
use Rattle.demo_lru.specs.LeapYears.{leap_name}

module _ {C : Type 0} (name : C → List ℕ) (cache pieces hex_round_trip leap_years : C) (c : name cache ≡ cache_name) (p : name pieces ≡ pieces_name)
    (h : name hex_round_trip ≡ hex_name) (l : name leap_years ≡ leap_name) where
  cache-pieces : Differ name cache pieces
  cache-pieces is = let e : cache_name ≡ pieces_name = sym c ∙ is ∙ p in cc

  cache-hex_round_trip : Differ name cache hex_round_trip
  cache-hex_round_trip is = let e : cache_name ≡ hex_name = sym c ∙ is ∙ h in cc

  cache-leap_years : Differ name cache leap_years
  cache-leap_years is = let e : cache_name ≡ leap_name = sym c ∙ is ∙ l in cc

  pieces-hex_round_trip : Differ name pieces hex_round_trip
  pieces-hex_round_trip is = let e : pieces_name ≡ hex_name = sym p ∙ is ∙ h in cc

  pieces-leap_years : Differ name pieces leap_years
  pieces-leap_years is = let e : pieces_name ≡ leap_name = sym p ∙ is ∙ l in cc

  hex_round_trip-leap_years : Differ name hex_round_trip leap_years
  hex_round_trip-leap_years is =
      let same : hex_name ≡ leap_name = sym h ∙ is ∙ l in
      let first : ◌≡◌ {A = ℕ} 104 108 = ap (λ (text : List ℕ). get_or text 0 0) same in
      omega (arith, first)

  pub own-names : HaveOwnNames name (cache ∷ pieces ∷ hex_round_trip ∷ leap_years ∷ [])
  own-names =
      four-names name cache pieces hex_round_trip leap_years cache-pieces cache-hex_round_trip cache-leap_years pieces-hex_round_trip pieces-leap_years
      hex_round_trip-leap_years
