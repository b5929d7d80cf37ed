use Rattle.std.proofs.Common.{sym, ◌∙◌}
use Rattle.pt_explain.proofs.explained.try_together.Goals as goal

pub returns : goal.returns
returns g c = (
  rw c.as_slice.ensures at (sym c.is_any_free.ensures ∙ c.if-not-is_any_free.false),
  record { list = c.args.list.now; replaced = c.requires; rec = c.in_ok-rec.rec; is = c.in_ok-rec.ensures; says = c.is_alike.ensures },
)
