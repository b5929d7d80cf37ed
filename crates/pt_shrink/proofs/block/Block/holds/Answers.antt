use Rattle.std.proofs.Common.{subst, sym, ◌∙◌}
use Rattle.std.specs.Prelude.{IsTrue}
use Rattle.std.specs.List.{list_any}
use Rattle.pt_choice.specs.Same.{same_choices}
use Rattle.pt_shrink.proofs.BlockLemmas.{listed}
use Rattle.pt_shrink.proofs.block.Block.holds.Goals as goal

pub returns : goal.returns
returns c = λ among. c.contains.ensures.value
    ∙ subst (λ lists. IsTrue (list_any (λ other. same_choices other c.args.list.now) lists)) (sym c.as_slice.ensures) (listed c.args.self.now.lists c.args.list.now among)
