-- The labels of a tree are its own and then those of its children.
use Rattle.std.proofs.Common.{◌≡◌, ℤ, List, [], ◌∷◌, ◌++◌, map, sym, ◌∙◌, ap, append_assoc}
use Rattle.std.specs.List.{flat_map}
use Rattle.std.proofs.lemmas.List.Folds.{flat_map-map}
use Rattle.pt_val.specs.declared.val.Val.{Val}
use Rattle.pt_val.specs.declared.val.Val.TheVariants as val
use Rattle.pt_val.specs.declared.val.Val.TheOpen as shape
use Rattle.pt_val.specs.declared.val.Val.TheFolds.{fold-roll-Val}
use Rattle.pt_eval.specs.Parts.{labels_step, labels_of}

labels-node : (label : ℤ) (children : List Val) → labels_of (val.Node label children) ≡ label ∷ flat_map labels_of children
labels-node label children =
    ap labels_of (sym (val.rolls-Node label children)) ∙ fold-roll-Val (List ℤ) labels_step (shape.Node label children)
    ∙ ap (λ labels. label ∷ labels) (flat_map-map (λ labels. labels) labels_of children)

pub labels-behind : (tree : Val) (label : ℤ) (children before mid : List Val) → tree ≡ val.Node label children → mid ≡ before ++ val.Int label ∷ [] →
    mid ++ map (λ label. val.Int label) (flat_map labels_of children) ≡ before ++ map (λ label. val.Int label) (labels_of tree)
labels-behind tree label children before mid is pushed =
    ap (λ m. m ++ map (λ label. val.Int label) (flat_map labels_of children)) pushed
    ∙ append_assoc before (val.Int label ∷ []) (map (λ label. val.Int label) (flat_map labels_of children))
    ∙ ap (λ labels. before ++ map (λ label. val.Int label) labels) (sym (ap labels_of is ∙ labels-node label children))
