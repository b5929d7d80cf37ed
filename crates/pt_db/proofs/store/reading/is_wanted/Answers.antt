use Rattle.std.proofs.Common.{◌≡◌, sym, ap, subst, List, ℕ, Option, Some}
use Rattle.std.specs.Prelude.{IsTrue}
use Rattle.std.specs.Option.{option_copied}
use Rattle.pt_db.specs.Reading.{IsWantedName}
use Rattle.pt_db.proofs.Gathering.{wanted-key}
use Rattle.pt_db.proofs.store.reading.is_wanted.Goals as goal

pub returns-in-Some-wanted : goal.returns-in-Some-wanted
returns-in-Some-wanted c =
    let is : option_copied c.args.wanted ≡ Some c.in-Some-wanted.wanted.now = ap (λ (o : _). option_copied o) c.in-Some-wanted.is in
    subst (λ (o : Option (List ℕ)). (IsTrue c.eq.result → IsWantedName o c.args.name.now) × (IsWantedName o c.args.name.now → IsTrue c.eq.result)) (sym is)
    (wanted-key c.args.name.now c.in-Some.key.now c.in-Some._value.now c.in-Some-wanted.wanted.now c.eq.result c.in-Some.ensures c.eq.ensures)
