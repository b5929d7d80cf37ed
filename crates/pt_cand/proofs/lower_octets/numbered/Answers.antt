use Rattle.std.proofs.Common.{◌≤◌, ◌∙◌, sym, rules}
use Rattle.pt_cand.proofs.OctetLemmas.{numbered-place}
use Rattle.pt_cand.proofs.lower_octets.numbered.Goals as goal

pub returns-in_default-clause-made : goal.returns-in_default-clause-made
returns-in_default-clause-made c =
    let two : 2 ≤ c.args.number = search rules in
    c.at_place.ensures.made ∙ sym (numbered-place c.args.octets.now c.args.number two c.requires.within)
