use Rattle.std.proofs.Common.{subst}
use Rattle.std.specs.Prelude.{IfSome}
use Rattle.pt_shrink.specs.Proposed.{IsHonest}
use Rattle.pt_shrink.proofs.BlockLemmas.{offered}
use Rattle.pt_shrink.proofs.block.Block.offer.Goals as goal

pub returns-clause-block : goal.returns-clause-block
returns-clause-block c = λ best honest is.
    offered best c.args.log.now c.args.self.now c.push.new.self c.in-Some.proposal (subst (λ held. IfSome held (IsHonest best)) c.in-Some.is honest) is
    (λ among. let t = c.has.ensures.1 among in let f = c.if-has.false in cc)
    (λ among. let t = c.holds.ensures among in let f = c.if-holds.false in cc)
    (c.is_closed.ensures.allowed c.if-is_closed.false) c.in_ok-push.ensures.lists c.in_ok-push.ensures.marks c.in_ok-push.ensures.strangers

pub push-requires : goal.push-requires
push-requires c = record { room = c.is_closed.ensures.small c.if-is_closed.false }
