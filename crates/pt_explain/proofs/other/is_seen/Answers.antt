use Rattle.std.proofs.Common.{◌≡◌, ◌||◌, Bool, false, sym, ◌∙◌}
use Rattle.pt_explain.proofs.other.is_seen.Goals as goal

or-second : (a b r : Bool) → a ≡ false → r ≡ b → r ≡ (a || b)
or-second a b r e f = rw e f

pub returns-else-eq : goal.returns-else-eq
returns-else-eq c = or-second _ _ _ (sym c.eq.ensures ∙ c.if-eq.false) c.is_among.ensures
