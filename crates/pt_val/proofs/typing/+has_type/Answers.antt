use Rattle.std.proofs.Common.{sym, arith}
use Rattle.pt_val.proofs.TypingLemmas.{are_of_unequal}
use Rattle.pt_val.proofs.typing.+has_type.Goals as goal

pub have_types-returns-then-values-types : goal.have_types-returns-then-values-types
have_types-returns-then-values-types t c =
    sym (are_of_unequal c.args.values.now c.args.types.now (λ equal. omega arith))
