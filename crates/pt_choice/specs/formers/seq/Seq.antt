-- How a list stores its items, so that a type may hold itself by one.
use mathlib.Core.Path.{◌≡◌, refl, sym}
use mathlib.Core.List.{List, []}
use mathlib.Core.Former.{Former, this, list, via, children}
use base.Stored.{code_map}
use denote.RattleType.{RattleType}
use denote.Param.Weighed.{Weighed, w_list}
use denote.HoleLaws.{Alike}
use denote.HolePlaces.{Recodes, struct_places, laid}
use denote.Hole.Fix.{over}
use denote.Hole.Carrier.{listed, list-listed}
use denote.Model.Placed.{view_places}
use Rattle.std.specs.declared.alloc.Global.{Global}
use Rattle.std.specs.contracts.alloc.Global as global
use Rattle.std.specs.contracts.impls.GlobalAllocator.TheImpl.{ghosts}
use Rattle.std.specs.formers.vec.Vec as vec
use Rattle.pt_choice.specs.declared.seq.Seq.TheInside.{Inside}
use Rattle.pt_choice.specs.declared.seq.Seq.TheView.{view, invariant}
use Rattle.pt_choice.specs.contracts.seq.Seq as seq
use Rattle.pt_choice.specs.contracts.seq.Seq.TheInside as fields

-- contracts see a `Seq` as the list of its items
abbrev pub the_former : Former {0} → Former {0}
the_former item = list item

abbrev pub the_weighed : {item : Former {0}} → Weighed item → Weighed (the_former item)
the_weighed weighed = w_list weighed

-- a list can be empty, so a type that leads back through it has a least value
pub the_empty : List ⊥
the_empty = []

abbrev pub the_items : (X : Type 0) → List X → List X
the_items X items = items

pub the_items_listed : (X : Type 0) (items : List X) → listed _ (children (the_former this) X items) ≡ the_items X items
the_items_listed X items = list-listed X items

-- the one field, a `Vec`, which is stored as std says
abbrev field_former : Former {0}
field_former =
    via (vec.the_former this Global) Inside (λ X inside. inside.items) (λ X items. record { items = items }) (λ X inside. refl) (λ X items. refl)

module _ (From To : RattleType) (h : From.Denot → To.Denot) where
  -- a list of one type lies in memory as the list of the other, where their items do
  pub the_places : Alike From To h → Alike (seq.the_row From) (seq.the_row To) ((the_former this).map From.Denot To.Denot h)
  the_places alike =
      let vec_places = vec.the_places global.the_row ghosts From To h alike in
      let fields_places = struct_places (fields.the_type From) (fields.the_type To) (vec.mapped h, tt) _ (λ inside. refl) refl (laid _ _ _ vec_places, tt) in
      view_places field_former (list this) view (λ X Y k inside. refl) (λ X inside. refl) From.Denot To.Denot h
      (seq.the_row From).coded (seq.the_row To).coded (invariant From.Denot) (invariant To.Denot)
      (λ inside p q. refl) (λ inside p q. refl) (λ inside holds. tt) (λ inside holds. tt)
      (over (fields.the_row From)) (over (fields.the_row To)) fields_places

  -- and has the same code, where their items do
  pub the_codes_placed : Recodes From To h → Recodes (seq.the_row From) (seq.the_row To) ((the_former this).map From.Denot To.Denot h)
  the_codes_placed recodes items = sym (code_map From.coded.code To.coded.code h (λ item. sym (recodes item)) items)
