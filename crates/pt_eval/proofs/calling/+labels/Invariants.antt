use Rattle.std.proofs.Common.{◌≡◌, ◌++◌, map, take}
use Rattle.std.specs.List.{flat_map}
use Rattle.pt_val.specs.declared.val.Val.TheVariants as val
use Rattle.pt_eval.specs.Parts.{labels_of}
use Rattle.pt_eval.proofs.calling.+labels.Given as goal

-- the labels of the trees so far are there
abbrev pub invariant-add_all_labels-loop-tree : goal.invariant-add_all_labels-loop-tree
invariant-add_all_labels-loop-tree l = l.labels ≡ l.initial.labels ++ map (λ label. val.Int label) (flat_map labels_of (take l.tree-index l.trees))
