-- How runs of calls follow one another.
use Rattle.std.proofs.Common.{◌≡◌, ◌⊎◌, inl, inr, ⊎_elim, ℕ, ◌<◌, ◌≤◌, refl, sym, ◌∙◌, ap, subst, arith}
use Rattle.pt_disk.specs.Files.{Files}
use Rattle.pt_disk.specs.Folder.{Folder, IsImage}
use Rattle.pt_disk.specs.Moments.{Told, now, IsImageSince, Elapsed}

cases : (a b : ℕ) → (a ≤ b) ⊎ (b < a)
cases a b = grind arith

module _ (P : Folder → Type 0) where
  -- no call
  pub elapsed-none : (told : Told) → Elapsed P told told
  elapsed-none told = record { later = omega arith; kept = λ t past. refl; since = λ t new old. absurd (omega arith) }

  -- one run and then another
  pub elapsed-then : (old mid new : Told) → Elapsed P old mid → Elapsed P mid new → Elapsed P old new
  elapsed-then old mid new first second = record {
    later = omega (arith, first.later, second.later);
    kept = λ t past. second.kept t (omega (arith, first.later, past)) ∙ first.kept t past;
    since = λ t after within. ⊎_elim
        (λ early. subst P (sym (second.kept t early)) (first.since t after early))
        (λ late. second.since t late within)
        (cases t mid.clock);
  }

  -- what held at the start and holds at each moment since holds now
  pub elapsed-now : (old new : Told) → Elapsed P old new → P (now old) → P (now new)
  elapsed-now old new elapsed held = ⊎_elim
      (λ early.
      let same : new.clock ≡ old.clock = omega (arith, early, elapsed.later) in
      subst P (sym (elapsed.kept new.clock early ∙ ap old.moments same)) held)
      (λ late. elapsed.since new.clock late (omega arith))
      (cases new.clock old.clock)

  -- an image since the start is one of the start, or of a folder of which this holds
  pub elapsed-images : (old new : Told) → Elapsed P old new → (image : Files) → IsImageSince new old.clock image →
      IsImage (now old) image ⊎ ((folder : Folder) × P folder × IsImage folder image)
  elapsed-images old new elapsed image since = ⊎_elim
      (λ early.
      let same : since.0 ≡ old.clock = omega (arith, early, since.1) in
      inl (subst (λ (folder : Folder). IsImage folder image) (elapsed.kept since.0 early ∙ ap old.moments same) since.3))
      (λ late. inr (new.moments since.0, elapsed.since since.0 late since.2, since.3))
      (cases since.0 old.clock)

pub elapsed-weaker : (P Q : Folder → Type 0) (old new : Told) → ((folder : Folder) → P folder → Q folder) → Elapsed P old new → Elapsed Q old new
elapsed-weaker P Q old new weaker elapsed = record {
  later = elapsed.later;
  kept = elapsed.kept;
  since = λ t after within. weaker (new.moments t) (elapsed.since t after within);
}
