use Rattle.std.proofs.Common.{◌≡◌, ◌∙◌, sym, subst, rules, Option, Some, None, ◌++◌, ◌∷◌, []}
use Rattle.std.specs.Prelude.{IfSome}
use Rattle.std.specs.Option.{option_copied}
use Rattle.std.proofs.lemmas.List.{map-id}
use Rattle.std.proofs.lemmas.Iterator.Adapters.{YieldsList-from_vec}
use Rattle.std.proofs.lemmas.Iterator.Consumers.{YieldsList-so_far, YieldsList-turn}
use Rattle.pt_disk.specs.Folder.{reads}
use Rattle.pt_stored.specs.Entries.{IsShown, IsWanted}
use Rattle.pt_stored.specs.declared.entry.Entry.{Entry}
use Rattle.pt_stored.proofs.EntryLemmas.{StandIn, stand-skip}
use Rattle.pt_db.specs.Reading.{IsItsEntry, IsTheEntry}
use Rattle.pt_db.proofs.Telling.{rests-then, rests-back, ok-holds}
use Rattle.pt_db.proofs.Gathering.{Gathered, gathered-skip, gathered-push, stand-next}
use Rattle.pt_db.proofs.store.Store.gathered.Goals as goal

pub returns-then-is_err-clause-rests : goal.returns-then-is_err-clause-rests
returns-then-is_err-clause-rests g c = rests-then _ _ _ c.loop-name.invariant.rests c.entry.ensures.rests

pub loop-name-preserved : goal.loop-name-preserved
loop-name-preserved g c =
    let before = c.loop-name.invariant in
    let wanted = option_copied c.args.wanted in
    let told = g.D.Disk.tells c.args.self.now.disk.now in
    let mid = g.D.Disk.tells c.loop-name.self.disk.now in
    let its = subst (λ (o : Option Entry). IsTheEntry wanted mid c.in-Some.name o) c.in-Ok-None.field-0-is c.in-Ok-None.ensures.its in
    record {
      reference = c.in-Ok-None.ensures.same_reference ∙ before.reference;
      rests = rests-then _ _ _ before.rests c.in-Ok-None.ensures.rests;
      quiet = c.in-Ok-None.ensures.cause.quiet (λ is. cc is) ∙ before.quiet;
      lives = c.in-Ok-None.ensures.dies.same (λ is. cc is) ∙ before.lives;
      found = gathered-skip wanted told c.loop-name.yielded c.in-Some.name c.loop-name.entries before.found
          (rests-back (λ folder. IsItsEntry wanted (reads folder) c.in-Some.name None) told mid before.rests its);
      stand = stand-skip wanted c.loop-name.yielded c.in-Some.name c.loop-name.entries before.stand;
    }

pub loop-name-preserved-else-is_err : goal.loop-name-preserved-else-is_err
loop-name-preserved-else-is_err g c =
    let before = c.loop-name.invariant in
    let wanted = option_copied c.args.wanted in
    let told = g.D.Disk.tells c.args.self.now.disk.now in
    let mid = g.D.Disk.tells c.loop-name.self.disk.now in
    let name = c.in-Some.name in
    let entry = c.in-Ok-Some.entry in
    let its = subst (λ (o : Option Entry). IsTheEntry wanted mid name o) c.in-Ok-Some.field-0-is c.in-Ok-Some.ensures.its in
    let named = subst (λ (o : Option Entry). IfSome o (λ entry. (entry.file ≡ name) × IsShown entry × IsWanted wanted entry.key)) c.in-Ok-Some.field-0-is c.in-Ok-Some.ensures.named in
    let pushed : c.push.new.self ≡ c.loop-name.entries ++ entry ∷ [] = ok-holds c.push.result _ (sym c.is_err.ensures.value ∙ c.if-is_err.false) c.push.ensures.ok in
    let all = YieldsList-from_vec c.in-Ok.names (search rules) (search rules) in
    let first = YieldsList-so_far all c.loop-name.yielded c.loop-name.name-iterator c.loop-name.yielded_by in
    let turn = YieldsList-turn all c.loop-name.yielded c.loop-name.name-iterator c.loop-name.yielded_by c.next.result c.next.new.self name c.in-Some.is c.next.ensures.steps in
    record {
      reference = c.in-Ok-Some.ensures.same_reference ∙ before.reference;
      rests = rests-then _ _ _ before.rests c.in-Ok-Some.ensures.rests;
      quiet = c.in-Ok-Some.ensures.cause.quiet (λ is. cc is) ∙ before.quiet;
      lives = c.in-Ok-Some.ensures.dies.same (λ is. cc is) ∙ before.lives;
      found = subst (Gathered wanted told (c.loop-name.yielded ++ name ∷ [])) (sym pushed)
          (gathered-push wanted told c.loop-name.yielded name c.loop-name.entries entry before.found
          (rests-back (λ folder. IsItsEntry wanted (reads folder) name (Some entry)) told mid before.rests its));
      stand = subst (StandIn wanted (c.loop-name.yielded ++ name ∷ [])) (sym pushed)
          (stand-next wanted c.in-Ok.names c.loop-name.yielded name c.loop-name.entries entry c.in-Ok.ensures.ordered (sym (map-id c.loop-name.yielded) ∙ first) turn.0 turn.1 before.stand named);
    }
