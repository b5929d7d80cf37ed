-- What values hold, where their sort is known.
use Rattle.std.proofs.Common.{◌≡◌, ℕ, ℤ, List, sym, ◌∙◌, ap}
use Rattle.pt_val.specs.declared.val.Val.{Val}
use Rattle.pt_val.specs.declared.val.Val.TheVariants as val
use Rattle.pt_val.specs.declared.val.Val.TheOpen as shape
use Rattle.pt_val.specs.declared.val.Val.TheViews.{out-Val, out-roll-Val}
use Rattle.pt_eval.specs.Parts.{members_in, members_of, parts_in, parts_of, items_in, items_of, children_in, children_of}

pub out-Text : (chars : List ℕ) → out-Val (val.Text chars) ≡ shape.Text chars
out-Text chars = ap out-Val (sym (val.rolls-Text chars)) ∙ out-roll-Val (shape.Text chars)

pub out-Bytes : (bytes : List ℕ) → out-Val (val.Bytes bytes) ≡ shape.Bytes bytes
out-Bytes bytes = ap out-Val (sym (val.rolls-Bytes bytes)) ∙ out-roll-Val (shape.Bytes bytes)

pub out-List : (members : List Val) → out-Val (val.List members) ≡ shape.List members
out-List members = ap out-Val (sym (val.rolls-List members)) ∙ out-roll-Val (shape.List members)

pub out-Tuple : (parts : List Val) → out-Val (val.Tuple parts) ≡ shape.Tuple parts
out-Tuple parts = ap out-Val (sym (val.rolls-Tuple parts)) ∙ out-roll-Val (shape.Tuple parts)

pub out-Node : (label : ℤ) (children : List Val) → out-Val (val.Node label children) ≡ shape.Node label children
out-Node label children = ap out-Val (sym (val.rolls-Node label children)) ∙ out-roll-Val (shape.Node label children)

pub members-are : (members : List Val) → members_of (val.List members) ≡ members
members-are members = ap members_in (out-List members)

pub items-are : (members : List Val) → items_of (val.List members) ≡ members
items-are members = ap items_in (out-List members)

pub parts-are : (parts : List Val) → parts_of (val.Tuple parts) ≡ parts
parts-are parts = ap parts_in (out-Tuple parts)

pub children-are : (label : ℤ) (children : List Val) → children_of (val.Node label children) ≡ children
children-are label children = ap children_in (out-Node label children)
