use Rattle.std.proofs.Common.{◌≡◌, ◌≢◌, ◌∙◌, sym, ap, ℕ, List, [], ◌∷◌, ◌++◌, AllPairs, Some, None, get_or, append-nil, subst, arith}
use Rattle.std.specs.Borrow.{Bor}
use Rattle.std.specs.Option.{option_map}
use Rattle.std.specs.List.{filter_map}
use Rattle.std.proofs.lemmas.List.{take_all}
use Rattle.pt_disk.specs.Files.{Files}
use Rattle.pt_disk.specs.Kept.{kept}
use Rattle.pt_disk.specs.DiskInMemory.{content_of, folder_of}
use Rattle.pt_disk.proofs.Listed.{file_at, is_among, content-listed, files-distinct}
use Rattle.pt_disk.proofs.Mentioned.{kept-among}
use Rattle.pt_disk.proofs.Named.{filter_map-more}
use Rattle.pt_disk.proofs.image.kept_files.Goals as goal
use Rattle.pt_disk.proofs.image.kept_files.Goals.{in-Some+in_ok-of+in_ok-of-2+in_ok-push, in_default}

abbrev bytes_at : Bor (List ℕ) → List ℕ
bytes_at one = one.now

abbrev nowhere : Bor (List ℕ)
nowhere = record { ref_ptr = (0, 0); now = [] }

pub loop-name-preserved : goal.loop-name-preserved
loop-name-preserved c =
    let files : Files = kept c.args.keep (folder_of c.args.files.now c.args.changes.now) in
    let names = c.as_slice-name-items.result.now in
    let name = (get_or names c.loop-name.name-index nowhere).now in
    elim c.match-kept.branch [
      | in-Some+in_ok-of+in_ok-of-2+in_ok-push w ↦
          w.image-is ∙ w.in_ok-push.ensures.ok ∙ (λ i. c.loop-name.invariant i ++ (w.in_ok-of.ensures i, w.in_ok-of-2.ensures i) ∷ [])
          ∙ sym (filter_map-more (file_at bytes_at files) names c.loop-name.name-index nowhere (Some (name, w.in-Some.bytes.now)) c.loop-name-test.true
          (ap (option_map (λ bytes. (name, bytes))) (sym w.in-Some.ensures)))
      | in_default w ↦
          w.image-is ∙ c.loop-name.invariant ∙ sym (append-nil _)
          ∙ sym (filter_map-more (file_at bytes_at files) names c.loop-name.name-index nowhere None c.loop-name-test.true
          (ap (option_map (λ bytes. (name, bytes))) (sym w.in_default.ensures)))
    ]

pub returns-clause-all : goal.returns-clause-all
returns-clause-all c =
    let folder = folder_of c.args.files.now c.args.changes.now in
    let files : Files = kept c.args.keep folder in
    let names = c.in_ok-all_names.field-0.items in
    let listed : c.loop-name.image ≡ filter_map (file_at bytes_at files) names = c.loop-name.invariant
    ∙ ap (filter_map (file_at bytes_at files)) (take_all c.loop-name.name-index c.as_slice-name-items.result.now (omega arith) ∙ c.as_slice-name-items.ensures.value) in
    ap content_of listed ∙ (λ i name.
    (content-listed bytes_at files names name ∙ kept-among c.args.keep folder name (is_among bytes_at files names name) (c.in_ok-all_names.ensures.all name)) i)

pub returns-clause-distinct : goal.returns-clause-distinct
returns-clause-distinct c =
    let files : Files = kept c.args.keep (folder_of c.args.files.now c.args.changes.now) in
    let names = c.in_ok-all_names.field-0.items in
    let listed : c.loop-name.image ≡ filter_map (file_at bytes_at files) names = c.loop-name.invariant
    ∙ ap (filter_map (file_at bytes_at files)) (take_all c.loop-name.name-index c.as_slice-name-items.result.now (omega arith) ∙ c.as_slice-name-items.ensures.value) in
    subst (AllPairs (λ one other. one.0 ≢ other.0)) (sym listed) (files-distinct bytes_at files names c.in_ok-all_names.ensures.ordered)
