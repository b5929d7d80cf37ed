use Rattle.std.proofs.Common.{[]}
use Rattle.pt_plan.proofs.EveryLemmas.{gives-derives}
use Rattle.pt_typed.proofs.laws.a_derived_value_is_in_the_set.Goals as goal

pub returns : goal.returns
returns g c = λ strategy choices value spans derived.
    gives-derives (g.S.Strategy.values strategy) (g.S.Strategy.plan strategy) 0 [] [] choices value spans [] (g.met.S.Strategy.lawful strategy).within_set derived
