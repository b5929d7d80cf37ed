use Rattle.std.proofs.Common.{sym, subst, OnOk}
use Rattle.pt_found.specs.declared.finding.Verdict.{Verdict}
use Rattle.pt_edits.specs.Added.{Adds}
use Rattle.pt_edits.specs.Readings.{IsShownSaved}
use Rattle.pt_edits.proofs.asking.add_shown.Goals as goal

pub returns-in-Failed : goal.returns-in-Failed
returns-in-Failed c =
    subst (λ (verdict : Verdict). OnOk c.add_save.result (Adds (λ digest. IsShownSaved digest verdict) c.args.edits.now c.add_save.new.edits)) (sym c.in-Failed.is) c.add_save.ensures
