-- What a crash leaves of a run.
use Rattle.std.proofs.Common.{◌≡◌, ◌⊎◌, inl, inr, ⊎_elim, ℕ, ◌<◌, List, [], Some, sym, ◌∙◌, ap, subst, arith, Global}
use Rattle.std.specs.Prelude.{String, map}
use Rattle.pt_choice.specs.declared.choice.Choice.{Choice}
use Rattle.pt_ast.specs.Trees.{ItemTree, SuiteTree}
use Rattle.pt_case.specs.Step.{Answer}
use Rattle.pt_disk.specs.Files.{Files}
use Rattle.pt_disk.specs.Folder.{IsImage}
use Rattle.pt_disk.specs.Leaves.{IsTidy}
use Rattle.pt_disk.specs.Moments.{Told, now, IsImageSince}
use Rattle.pt_found.specs.declared.finding.Finding.{Finding}
use Rattle.pt_stored.specs.Stored.{pending}
use Rattle.pt_turns.specs.Blocks.{AreWritten}
use Rattle.pt_turns.specs.Crash.{IsMidway, IsAtExit}
use Rattle.pt_turns.specs.Finishes.{Finishes, StoppedShort}
use Rattle.pt_turns.specs.Scene.{DiskShown}
use Rattle.pt_turns.proofs.CrashLemmas.{finished-left, stopped-left}
use Rattle.pt_turns.proofs.ExitLemmas.{exit-kept, exit-midway, end-exit, finished-exit, finished-end, stopped-exit}
use Rattle.pt_turns.proofs.SoundLemmas.{nothing-lost, nothing-invented, nothing-else}
use Rattle.pt_commands.specs.declared.message.Message.TheVariants.{Refused}
use Rattle.pt_run.specs.Call.{Call, Answers}
use Rattle.pt_run.specs.Crash.{OfTaken, IsSafe, IsLeft, IsLeftSince, IsLeftAtExit, IsLeftAtEnd}
use Rattle.pt_run.specs.Ends.{Ends, EndsShort, reported_of}
use Rattle.pt_commands.specs.Message.{TellsAll, TellsPart}
use Rattle.pt_run.specs.Outside.{Outside, scene_of}
use Rattle.pt_run.specs.Suite.{IsTaken}
use Rattle.pt_commands.specs.Words.{Asked, Run, Replay, Stored, Make, Explain, AsksRun}
use Rattle.pt_commands.proofs.Asking.{Alike, asks_alike}
use Rattle.pt_run.proofs.Workers.{not_below}

-- a disk that is as it was is at the same moment
still-since : (old new : Told) (image : Files) → new ≡ old → IsImageSince new old.clock image → IsImage (now old) image
still-since old new image same since =
    let here : IsImageSince old old.clock image = subst (λ (t : Told). IsImageSince t old.clock image) same since in
    let at : here.0 ≡ old.clock = omega (arith, here.1, here.2) in
    subst (λ (t : ℕ). IsImage (old.moments t) image) at here.3

still-told : (before after : DiskShown) (old new : Told) → after ≡ before → before.told ≡ Some old → after.told ≡ Some new → new ≡ old
still-told before after old new rests told telling =
    let same : Some new ≡ Some old = sym telling ∙ ap (λ (d : DiskShown). d.told) rests ∙ told in cc

module _ {C : Type 0} (name : C → List ℕ) (step : C → List Choice → Answer → Type 0) (checks : List C) where
  module _ (seed : ℕ) (findings : List Finding) (start : Told) (image : Files) (items : List ItemTree) where
    safe : IsMidway name step checks seed items findings start image → IsSafe name step checks seed findings start image items
    safe midway = record {
      midway = midway;
      lost = nothing-lost name step checks seed items findings start image midway;
      invented = nothing-invented name step checks seed items findings start image midway;
      others = nothing-else name step checks seed items findings start image midway;
    }

    left : IsAtExit name step checks seed items findings start image → IsLeft name step checks seed findings start image items
    left exit = record {
      exit = exit;
      kept = exit-kept name step checks seed items findings start image exit;
      safe = safe (exit-midway name step checks seed items findings start image exit);
    }

  -- ---- what a call came to that asks for a run

  -- the suite was taken, and its items had their turns; or it was not, and the disk is as it was
  abbrev CameTo : Call → List ℕ → ℕ → Type 0
  CameTo call file seed =
      ((suite : SuiteTree) × IsTaken (map name checks) call.before.files call.after.files file suite
      × Finishes name step checks seed suite.items (reported_of call.finish) (scene_of call.before) (scene_of call.after))
      ⊎ ((call.finish.findings ≡ []) × (call.finish.status < 2 → ⊥) × (call.after.disk ≡ call.before.disk))

  came_one : (call : Call) (one : Asked) (file : List ℕ) (seed workers : ℕ) → Alike one (Run file seed workers) →
      Ends name step checks one call.before call.after call.finish → CameTo call file seed
  came_one call (Run other seed' workers') file seed workers alike (inl (suite, taken, does)) = inl (
    suite,
    subst (λ (f : List ℕ). IsTaken (map name checks) call.before.files call.after.files f suite) alike.0 taken,
    subst (λ (s : ℕ). Finishes name step checks s suite.items (reported_of call.finish) (scene_of call.before) (scene_of call.after)) alike.1 does.0,
  )
  came_one call (Run other seed' workers') file seed workers alike (inr (said, turned, tells, rests)) =
      inr (tells.findings, λ below. of_told below tells.told, rests)
    where
      of_told : call.finish.status < 2 → TellsAll (Refused said) tells.text call.finish call.before.sink call.after.sink
          ⊎ TellsPart tells.text call.finish call.before.sink call.after.sink → ⊥
      of_told below (inl all) = not_below said (subst (λ (n : ℕ). n < 2) all.status below)
      of_told below (inr part) = absurd (omega (arith, part.status, below))
  came_one call (Replay other wanted list) file seed workers alike ends = absurd alike
  came_one call Stored file seed workers alike ends = absurd alike
  came_one call (Make seed' count) file seed workers alike ends = absurd alike
  came_one call (Explain other wanted list) file seed workers alike ends = absurd alike

  came : (call : Call) (file : List ℕ) (seed workers : ℕ) → Answers name step checks call → AsksRun call.words file seed workers → CameTo call file seed
  came call file seed workers (inl (nothing, tells)) asks = absurd (nothing (Run file seed workers) asks)
  came call file seed workers (inr (one, words, ends)) asks =
      came_one call one file seed workers (asks_alike call.words one (Run file seed workers) words asks) ends

  stopped : (words : List (String Global)) (before after : Outside) (file : List ℕ) (seed workers : ℕ) → EndsShort name step checks words before after →
      AsksRun words file seed workers →
      (suite : SuiteTree) × IsTaken (map name checks) before.files after.files file suite
      × StoppedShort name step checks seed suite.items (scene_of before) (scene_of after)
  stopped words before after file seed workers short asks =
      let alike = asks_alike words (Run short.file short.seed short.workers) (Run file seed workers) short.asks asks in (
        short.suite,
        subst (λ (f : List ℕ). IsTaken (map name checks) before.files after.files f short.suite) alike.0 short.taken,
        subst (λ (s : ℕ). StoppedShort name step checks s short.suite.items (scene_of before) (scene_of after)) alike.1 short.stopped,
      )

  -- ---- what a crash leaves of it

  module _ (old new : Told) (image : Files) (tidy : IsTidy pending (now old)) where
    module _ (call : Call) (file : List ℕ) (seed workers : ℕ) (answers : Answers name step checks call) (asks : AsksRun call.words file seed workers)
        (told : call.before.disk.told ≡ Some old) (telling : call.after.disk.told ≡ Some new) where
      pub left-since : IsImageSince new old.clock image → IsLeftSince name step checks seed file call.before call.after call.finish.findings old image
      left-since since = of_came (came call file seed workers answers asks)
        where
          of_came : CameTo call file seed → IsLeftSince name step checks seed file call.before call.after call.finish.findings old image
          of_came (inl (suite, taken, finishes)) = ⊎_elim
              (λ was. inl was)
              (λ midway. inr (suite, taken, safe seed call.finish.findings old image suite.items midway))
              (finished-left name step checks seed suite.items old new image tidy since (scene_of call.before) (scene_of call.after) told telling
              (reported_of call.finish) finishes)
          of_came (inr (none, above, rests)) = inl (still-since old new image (still-told call.before.disk call.after.disk old new rests told telling) since)

      pub left-at-exit : IsImage (now new) image → IsLeftAtExit name step checks seed file call.before call.after call.finish.findings old image
      left-at-exit is = of_came (came call file seed workers answers asks)
        where
          of_came : CameTo call file seed → IsLeftAtExit name step checks seed file call.before call.after call.finish.findings old image
          of_came (inl (suite, taken, finishes)) = ⊎_elim
              (λ was. inl was)
              (λ exit. inr (suite, taken, left seed call.finish.findings old image suite.items exit))
              (finished-exit name step checks seed suite.items old new image tidy is (scene_of call.before) (scene_of call.after) told telling
              (reported_of call.finish) finishes)
          of_came (inr (none, above, rests)) =
              let same = still-told call.before.disk call.after.disk old new rests told telling in
              inl (none, subst (λ (t : Told). IsImage (now t) image) same is)

      pub left-at-end : call.finish.status < 2 → IsImage (now new) image →
          IsLeftAtEnd name step checks seed file call.before call.after call.finish.findings old image
      left-at-end below is = of_came (came call file seed workers answers asks)
        where
          of_came : CameTo call file seed → IsLeftAtEnd name step checks seed file call.before call.after call.finish.findings old image
          of_came (inl (suite, taken, finishes)) =
              let findings = call.finish.findings in
              let end = finished-end name step checks seed suite.items old new image tidy is (scene_of call.before) (scene_of call.after) told telling
              (reported_of call.finish) finishes below in
              (suite, taken, (end, left seed findings old image suite.items (end-exit name step checks seed suite.items findings old image end)))
          of_came (inr (none, above, rests)) = absurd (above below)

    module _ (words : List (String Global)) (before after : Outside) (file : List ℕ) (seed workers : ℕ) (short : EndsShort name step checks words before after)
        (asks : AsksRun words file seed workers) (told : before.disk.told ≡ Some old) (telling : after.disk.told ≡ Some new) where
      pub short-since : IsImageSince new old.clock image → IsImage (now old) image
          ⊎ ((findings : List Finding) × AreWritten findings before.sink.bytes after.sink.bytes
          × OfTaken name step checks file before after (IsSafe name step checks seed findings old image))
      short-since since =
          let (suite, taken, stops) = stopped words before after file seed workers short asks in
          ⊎_elim
          (λ was. inl was)
          (λ (findings, written, midway). inr (findings, written, (suite, taken, safe seed findings old image suite.items midway)))
          (stopped-left name step checks seed suite.items old new image tidy since (scene_of before) (scene_of after) told telling stops)

      pub short-at-exit : IsImage (now new) image → (findings : List Finding) × AreWritten findings before.sink.bytes after.sink.bytes
          × OfTaken name step checks file before after (IsLeft name step checks seed findings old image)
      short-at-exit is =
          let (suite, taken, stops) = stopped words before after file seed workers short asks in
          let (findings, written, exit) =
          stopped-exit name step checks seed suite.items old new image tidy is (scene_of before) (scene_of after) told telling stops in
          (findings, written, (suite, taken, left seed findings old image suite.items exit))
