use Rattle.pt_typed.proofs.NoteLemmas.{says-drawn}
use Rattle.pt_typed.proofs.laws.a_property_shows_what_was_drawn.Goals as goal

pub returns : goal.returns
returns g c = λ strategy verdict choices answer said.
    says-drawn (g.S.Strategy.values strategy) verdict (g.S.Strategy.plan strategy) choices answer
    (g.met.S.Strategy.lawful strategy).within_set (g.met.S.Strategy.lawful strategy).silent said
