use Rattle.pt_choice.specs.Order.{cmp_choice, shortlex}
use Rattle.pt_choice.proofs.OrderLemmas.{cmp_choice-total, cmp_choice-exact, shortlex-total, shortlex-exact, strict}
use Rattle.pt_choice.proofs.order.orders_are_total.Goals as goal

pub returns-clause-choices : goal.returns-clause-choices
returns-clause-choices c = strict cmp_choice cmp_choice-total cmp_choice-exact

pub returns-clause-lists : goal.returns-clause-lists
returns-clause-lists c = strict shortlex shortlex-total shortlex-exact
