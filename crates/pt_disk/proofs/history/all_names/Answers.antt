use Rattle.std.proofs.Common.{◌≡◌, ◌∙◌, sym, ap, ℕ, List, Bool, Some, None, AllPairs, Vec, Global, nat_cmp, Less, subst, arith}
use Rattle.std.specs.List.{list_any}
use Rattle.std.specs.Cmp.Lexicographic.{slice_cmp}
use Rattle.std.proofs.lemmas.List.{take_all}
use Rattle.std.proofs.lemmas.List.Filters.{dedup_is}
use Rattle.std.proofs.lemmas.List.Sorted.{list_any-IsPermutation}
use Rattle.std.specs.Borrow.{Bor}
use Rattle.pt_disk.specs.Files.{is_name}
use Rattle.pt_disk.specs.Folder.{Stable}
use Rattle.pt_disk.specs.DiskInMemory.{content_of, folder_of}
use Rattle.pt_disk.specs.Named.{mentions}
use Rattle.pt_disk.specs.declared.change.Change.{Change}
use Rattle.pt_disk.proofs.Named.{any-push, any-file, any-dedup, ordered-dedup, mentions-more, same_bytes}
use Rattle.pt_disk.proofs.history.all_names.Goals as goal
use Rattle.pt_disk.proofs.history.all_names.Goals.{in-Some+in_ok-push-2, in_default}

pub loop-change-init : goal.loop-change-init
loop-change-init c = λ name.
    c.loop-file.invariant name
    ∙ ap (list_any (λ file. is_name name file.0)) (take_all c.loop-file.file-index c.args.files.now (omega arith))
    ∙ any-file c.args.files.now name

pub loop-change-preserved : goal.loop-change-preserved
loop-change-preserved c = λ name.
    let named : Bor (List ℕ) → Bool = λ one. is_name name one.now in
    let more = mentions-more (Stable (content_of c.args.files.now)) c.args.changes.now c.loop-change.change-index c.change-item.result c.loop-change-test.true c.change-item.is name in
    elim c.match-name_given.branch [
      | in-Some+in_ok-push-2 w ↦ more (Some w.in-Some.name.now) _ _ w.in-Some.ensures (c.loop-change.invariant name)
          (ap (λ (v : Vec (Bor (List ℕ)) Global). list_any named v.items) w.names-is
          ∙ ap (list_any named) w.in_ok-push-2.ensures.items
          ∙ any-push named c.loop-change.names.items w.in-Some.name)
      | in_default w ↦ more None _ _ w.in_default.ensures (c.loop-change.invariant name) (ap (λ (v : Vec (Bor (List ℕ)) Global). list_any named v.items) w.names-is)
    ]

pub returns-clause-all : goal.returns-clause-all
returns-clause-all c = λ name mentioned.
    let named : Bor (List ℕ) → Bool = λ one. is_name name one.now in
    let whole = take_all c.loop-change.change-index c.args.changes.now (omega arith) in
    let gathered = c.loop-change.invariant name ∙ ap (λ (changes : List Change). mentions (folder_of c.args.files.now changes) name) whole ∙ mentioned in
    let sorted = sym (list_any-IsPermutation named c.loop-change.names.items c.sort_unstable.new.self.items c.sort_unstable.ensures.permutation) ∙ gathered in
    ap (list_any named) (dedup_is same_bytes c.sort_unstable.new.self.items c.dedup.new.self.items c.dedup.ensures.filtered)
    ∙ any-dedup c.sort_unstable.new.self.items name sorted

pub returns-clause-ordered : goal.returns-clause-ordered
returns-clause-ordered c =
    subst (AllPairs (λ one other. slice_cmp nat_cmp one.now other.now ≡ Less)) (sym (dedup_is same_bytes c.sort_unstable.new.self.items c.dedup.new.self.items c.dedup.ensures.filtered))
    (ordered-dedup c.sort_unstable.new.self.items c.sort_unstable.ensures.sorted)
