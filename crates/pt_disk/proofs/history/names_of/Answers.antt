use Rattle.std.proofs.Common.{◌≡◌, ◌∙◌, sym, ap, ℕ, List, [], ◌∷◌, ◌++◌, AllPairs, Contains, Some, None, get_or, nat_cmp, Less, append-nil, subst, arith}
use Rattle.std.specs.Borrow.{Bor}
use Rattle.std.specs.List.{filter_map}
use Rattle.std.specs.Cmp.Lexicographic.{slice_cmp}
use Rattle.std.proofs.lemmas.List.{take_all}
use Rattle.pt_disk.specs.Files.{Files}
use Rattle.pt_disk.specs.Folder.{reads}
use Rattle.pt_disk.specs.DiskInMemory.{folder_of}
use Rattle.pt_disk.proofs.Listed.{name_at, names-ordered, there-from_listed, listed-from_there}
use Rattle.pt_disk.proofs.Mentioned.{mentions-there}
use Rattle.pt_disk.proofs.Named.{filter_map-more, name-there, name-absent}
use Rattle.pt_disk.proofs.history.names_of.Goals as goal
use Rattle.pt_disk.proofs.history.names_of.Goals.{then-is_some+in_ok-of+in_ok-push, else-is_some}

abbrev bytes_at : Bor (List ℕ) → List ℕ
bytes_at one = one.now

abbrev nowhere : Bor (List ℕ)
nowhere = record { ref_ptr = (0, 0); now = [] }

pub loop-name-preserved : goal.loop-name-preserved
loop-name-preserved c =
    let files : Files = reads (folder_of c.args.files.now c.args.changes.now) in
    let names = c.as_slice-name-items.result.now in
    let name = (get_or names c.loop-name.name-index nowhere).now in
    elim c.if-is_some.branch [
      | then-is_some+in_ok-of+in_ok-push w ↦
          w.names-is ∙ w.in_ok-push.ensures.ok ∙ (λ i. c.loop-name.invariant i ++ (w.in_ok-of.ensures i) ∷ [])
          ∙ sym (filter_map-more (name_at bytes_at files) names c.loop-name.name-index nowhere (Some name) c.loop-name-test.true
          (name-there bytes_at c.bytes_of.result (files name) name c.bytes_of.ensures (sym c.is_some.ensures ∙ w.if-is_some.true)))
      | else-is_some w ↦
          w.names-is ∙ c.loop-name.invariant ∙ sym (append-nil _)
          ∙ sym (filter_map-more (name_at bytes_at files) names c.loop-name.name-index nowhere None c.loop-name-test.true
          (name-absent bytes_at c.bytes_of.result (files name) name c.bytes_of.ensures (sym c.is_some.ensures ∙ w.if-is_some.false)))
    ]

pub returns-clause-all : goal.returns-clause-all
returns-clause-all c =
    let files : Files = reads (folder_of c.args.files.now c.args.changes.now) in
    let names = c.in_ok-all_names.field-0.items in
    let listed : c.loop-name.names ≡ filter_map (name_at bytes_at files) names = c.loop-name.invariant
    ∙ ap (filter_map (name_at bytes_at files)) (take_all c.loop-name.name-index c.as_slice-name-items.result.now (omega arith) ∙ c.as_slice-name-items.ensures.value) in
    λ name. (
      λ contains. there-from_listed bytes_at files names name (subst (λ (l : List (List ℕ)). Contains l name) listed contains),
      λ there. subst (λ (l : List (List ℕ)). Contains l name) (sym listed) (listed-from_there bytes_at files names name
          (c.in_ok-all_names.ensures.all name (mentions-there (folder_of c.args.files.now c.args.changes.now) name there)) there),
    )

pub returns-clause-ordered : goal.returns-clause-ordered
returns-clause-ordered c =
    let files : Files = reads (folder_of c.args.files.now c.args.changes.now) in
    let names = c.in_ok-all_names.field-0.items in
    let listed : c.loop-name.names ≡ filter_map (name_at bytes_at files) names = c.loop-name.invariant
    ∙ ap (filter_map (name_at bytes_at files)) (take_all c.loop-name.name-index c.as_slice-name-items.result.now (omega arith) ∙ c.as_slice-name-items.ensures.value) in
    subst (AllPairs (λ one other. slice_cmp nat_cmp one other ≡ Less)) (sym listed) (names-ordered bytes_at files names c.in_ok-all_names.ensures.ordered)
