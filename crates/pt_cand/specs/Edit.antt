-- How the code notes a list before it is made.
use Rattle.std.specs.Prelude.{ℕ, ◌+◌, ◌≤◌, false, length, List, ◌∷◌, ◌++◌, take, drop, slice_index_or}
use Rattle.std.specs.List.{cons_option}
use Rattle.pt_choice.specs.declared.choice.Choice.{Choice}
use Rattle.pt_choice.specs.declared.choice.Choice.TheVariants as choice
use Rattle.pt_cand.specs.declared.edit.Change.{Change}
use Rattle.pt_cand.specs.declared.edit.Edit.{Edit}
use Rattle.pt_cand.specs.declared.edit.Edit.TheVariants as edit
use Rattle.pt_cand.specs.Region.{without}
use Rattle.pt_cand.specs.Descend.{descended}
use Rattle.pt_cand.specs.SwapSiblings.{swapped}

-- a first part, perhaps another place, and a last part
abbrev pub changed : Change → List ℕ → List ℕ
changed change octets = take change.front octets ++ cons_option change.put (drop change.back octets)

-- the parts are parts of this list
pub record FitsIn (octets : List ℕ) (change : Change) : Type 0 where
  pub front : change.front ≤ length octets
  pub back : change.back ≤ length octets

abbrev pub changed_choice : Change → Choice → Choice
changed_choice change (choice.Bytes octets) = choice.Bytes (changed change octets)
changed_choice change (choice.Text octets) = choice.Text (changed change octets)
changed_choice change other = other

-- a choice in place of the one that stands there
abbrev pub put_at : ℕ → Choice → List Choice → List Choice
put_at place choice choices = take place choices ++ choice ∷ drop (place + 1) choices

abbrev pub edited : List Choice → Edit → List Choice
edited choices (edit.Delete span) = without choices span
edited choices (edit.Descend outer inner) = descended choices outer inner
edited choices (edit.Unset place) = put_at place (choice.Bool false) choices
edited choices (edit.Put place value) = put_at place (choice.Int value) choices
edited choices (edit.Change place change) = put_at place (changed_choice change (slice_index_or choices place (choice.Bool false))) choices
edited choices (edit.PutBoth first one second other) =
    take first choices ++ choice.Int one ∷ drop (first + 1) (take second choices) ++ choice.Int other ∷ drop (second + 1) choices
edited choices (edit.Swap one other) = swapped choices one other
edited choices (edit.PutAndDelete place value span) = take place choices ++ choice.Int value ∷ drop (place + 1) (take span.from choices) ++ drop span.to choices
