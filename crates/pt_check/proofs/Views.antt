-- What a checker knows, where its numbers change.
use Rattle.std.proofs.Common.{◌≡◌, ℕ, ◌<◌, ◌≤◌, true, false, Option, Some, None, Ok, Err, List, [], ◌∷◌, ◌++◌, length, refl, sym, ◌∙◌, ap, subst, arith}
use Rattle.std.specs.Prelude.{◌==◌, if◌then◌else◌}
use Rattle.std.specs.Cmp.Lexicographic.{pointwise}
use Rattle.std_collections.specs.Map.{lookup}
use Rattle.pt_val.specs.declared.place.Place.{Place}
use Rattle.pt_ast.specs.Types.{TypeTree, Int_type, Tuple_type, no_type}
use Rattle.pt_ast.specs.Names.{Scope, type_in}
use Rattle.pt_typing.specs.Fault.{Fault, Unknown, Twice, Wrong}
use Rattle.pt_typing.specs.Steps.{known, right, vacant}
use Rattle.pt_typing.specs.Served.{same_type, if_same, of_sequence}
use Rattle.pt_types.specs.declared.shape.Shape.{Shape}
use Rattle.pt_types.specs.declared.shape.Shape.TheVariants as shape
use Rattle.pt_types.specs.Kept.{type_of, trees_of, tree_of, IsWithin, Grows, base_shapes}
use Rattle.pt_check.specs.declared.base.Base.{Base}
use Rattle.pt_check.specs.declared.base.Base.TheVariants as base
use Rattle.pt_check.specs.declared.checker.Checker.TheInside.{Inside}
use Rattle.pt_check.specs.Bases.{base_type, base_number}
use Rattle.pt_check.specs.Stacks.{newest, behind}
use Rattle.pt_check.specs.Known.{Known, with_held, top, holding, released}
use Rattle.pt_check.specs.Numbers.{Table, scope_of, types_at, AreNumbers, AreNumbered, known_of, AreKnown}
use Rattle.pt_check.proofs.Growth.{stays, longer, trees-long, known-stays}
use Rattle.pt_check.proofs.Lookups.{found-type, lost-type, numbered-more}

-- the types that hold no others
base-inside : (one : Base) → base_number one < length base_shapes
base-inside base.Int = omega arith
base-inside base.Bool = omega arith
base-inside base.Text = omega arith
base-inside base.Bytes = omega arith
base-inside base.Tree = omega arith

base-typed : (one : Base) → type_of base_shapes (base_number one) ≡ base_type one
base-typed base.Int = refl
base-typed base.Bool = refl
base-typed base.Text = refl
base-typed base.Bytes = refl
base-typed base.Tree = refl

pub base-within : (shapes : List Shape) (one : Base) → Grows base_shapes shapes → base_number one < length shapes
base-within shapes one grows =
    let long : length base_shapes ≤ length shapes = longer base_shapes shapes grows in
    let inside : base_number one < length base_shapes = base-inside one in omega (arith, long, inside)

pub base-is : (shapes : List Shape) (one : Base) → Grows base_shapes shapes → type_of shapes (base_number one) ≡ base_type one
base-is shapes one grows = stays base_shapes shapes (base_number one) grows (base-inside one) ∙ base-typed one

-- and that of the empty tuple
pub empty-is : (shapes : List Shape) → Grows base_shapes shapes → type_of shapes 5 ≡ Tuple_type no_type
empty-is shapes grows = stays base_shapes shapes 5 grows (omega arith)

pub newest-within : (shapes : List Shape) (numbers : List ℕ) → Grows base_shapes shapes → AreNumbers shapes numbers → newest 0 numbers < length shapes
newest-within shapes [] grows within = base-within shapes base.Int grows
newest-within shapes (first ∷ others) grows within = within.0

pub behind-within : (shapes : List Shape) (numbers : List ℕ) → AreNumbers shapes numbers → AreNumbers shapes (behind numbers)
behind-within shapes [] within = tt
behind-within shapes (first ∷ others) within = within.1

pub twice-within : (shapes : List Shape) (numbers rest last : List ℕ) → AreNumbers shapes numbers → rest ≡ behind numbers → last ≡ behind rest → AreNumbers shapes last
twice-within shapes numbers rest last within once again =
    subst (AreNumbers shapes) (sym again) (behind-within shapes rest (subst (AreNumbers shapes) (sym once) (behind-within shapes numbers within)))

pub newest-is : (shapes : List Shape) (numbers : List ℕ) → Grows base_shapes shapes → newest Int_type (types_at shapes numbers) ≡ type_of shapes (newest 0 numbers)
newest-is shapes [] grows = sym (base-is shapes base.Int grows)
newest-is shapes (first ∷ others) grows = refl

pub behind-is : (shapes : List Shape) (numbers : List ℕ) → types_at shapes (behind numbers) ≡ behind (types_at shapes numbers)
behind-is shapes [] = refl
behind-is shapes (first ∷ others) = refl

-- the newest of a stack on which a number was put
pub top-pushed : (shapes : List Shape) (new held : List ℕ) (number : ℕ) → new ≡ number ∷ held → newest Int_type (types_at shapes new) ≡ type_of shapes number
top-pushed shapes new held number is = ap (λ numbers. newest Int_type (types_at shapes numbers)) is

-- a list's members have a number
pub member-within : (shapes : List Shape) (one : Shape) (member : ℕ) → one ≡ shape.List member → IsWithin (trees_of shapes) one → member < length shapes
member-within shapes one member is within =
    let there : member < length (trees_of shapes) = subst (IsWithin (trees_of shapes)) is within in
    let long : length (trees_of shapes) ≡ length shapes = trees-long shapes in omega (arith, there, long)

-- whether two types are one decides what is answered
pub same-says : {A : Type 0} (at : Place) (found other : TypeTree) (value : A) → same_type found other ≡ true → right at (if_same found other value) ≡ Ok value
same-says at found other value is = ap (λ alike. right at (if alike then Some value else None)) is

pub other-says : {A : Type 0} (at : Place) (found other : TypeTree) (value : A) → same_type found other ≡ false → (fault : Fault) → Some (Wrong at) ≡ Some fault →
    right at (if_same found other value) ≡ Err fault
other-says at found other value is fault wrong = let none = ap (λ alike. right at (if alike then Some value else None)) is in cc

pub sequence-says : (at : Place) (found known_as : TypeTree) → found ≡ known_as → of_sequence known_as known_as ≡ Some known_as → right at (of_sequence found found) ≡ Ok found
sequence-says at found known_as is serves = ap (λ type. right at (of_sequence type type)) is ∙ ap (right at) serves ∙ ap Ok (sym is)

-- whether a name is found
pub found-says : (shapes : List Shape) (names : Table) (scope : Scope) (at : Place) (name : List ℕ) (found : Option ℕ) (number : ℕ) (new held : List ℕ) → scope_of shapes names ≡ scope →
    found ≡ lookup (pointwise ◌==◌ name) names → found ≡ Some number → new ≡ number ∷ held → known at (type_in name scope) ≡ Ok (newest Int_type (types_at shapes new))
found-says shapes names scope at name found number new held is looked some pushed =
    ap (known at) (found-type shapes names scope name number is (sym looked ∙ some)) ∙ ap Ok (sym (top-pushed shapes new held number pushed))

pub lost-says : (shapes : List Shape) (names : Table) (scope : Scope) (at : Place) (name : List ℕ) (found : Option ℕ) → scope_of shapes names ≡ scope →
    found ≡ lookup (pointwise ◌==◌ name) names → found ≡ None → (fault : Fault) → Some (Unknown at) ≡ Some fault → known at (type_in name scope) ≡ Err fault
lost-says shapes names scope at name found is looked none fault unknown =
    let lost = ap (known at) (lost-type shapes names scope name is (sym looked ∙ none)) in cc

pub taken-says : (shapes : List Shape) (names : Table) (scope : Scope) (at : Place) (name : List ℕ) (found : Option ℕ) (number : ℕ) → scope_of shapes names ≡ scope →
    found ≡ lookup (pointwise ◌==◌ name) names → found ≡ Some number → (fault : Fault) → Some (Twice at) ≡ Some fault → vacant at (type_in name scope) ≡ Err fault
taken-says shapes names scope at name found number is looked some fault twice =
    let taken = ap (vacant at) (found-type shapes names scope name number is (sym looked ∙ some)) in cc

-- what is known with other numbers on the stack
abbrev pub seen : Inside → List ℕ → Known
seen i held = known_of i.types i.states i.bundles i.target i.scope i.selves held

abbrev pub Tied : Inside → List ℕ → Type 0
Tied i held = AreKnown i.types i.states i.bundles i.target i.scope i.selves held

module _ (i : Inside) where
  -- another stack
  pub tied : (held : List ℕ) → Tied i i.held → AreNumbers i.types held → Tied i held
  tied held known within = record {
    from_base = known.from_base;
    of_states = known.of_states;
    of_bundles = known.of_bundles;
    of_target = known.of_target;
    of_scope = known.of_scope;
    of_selves = known.of_selves;
    of_held = within;
  }

  -- a number was put on what is behind the newest
  pub tied-pushed : (found : ℕ) (rest new : List ℕ) (number : ℕ) → Tied i i.held → rest ≡ behind i.held → new ≡ number ∷ rest → number < length i.types → Tied i new
  tied-pushed found rest new number known is pushed within =
      tied new known (subst (AreNumbers i.types) (sym pushed) (within, subst (AreNumbers i.types) (sym is) (behind-within i.types i.held known.of_held)))

  pub tied-on : (new : List ℕ) (number : ℕ) → Tied i i.held → new ≡ number ∷ i.held → number < length i.types → Tied i new
  tied-on new number known pushed within = tied new known (subst (AreNumbers i.types) (sym pushed) (within, known.of_held))

  -- another target
  pub target-tied : (number : ℕ) → Tied i i.held → number < length i.types → AreKnown i.types i.states i.bundles (Some number) i.scope i.selves i.held
  target-tied number known within = record {
    from_base = known.from_base;
    of_states = known.of_states;
    of_bundles = known.of_bundles;
    of_target = (within, tt);
    of_scope = known.of_scope;
    of_selves = known.of_selves;
    of_held = known.of_held;
  }

  -- the newest is held no more
  pub released-of : (held rest : List ℕ) (known : Known) → seen i held ≡ known → rest ≡ behind held → seen i rest ≡ released known
  released-of held rest known is popped = ap (seen i) popped ∙ ap (λ types. with_held (seen i held) types) (behind-is i.types held) ∙ ap released is

  -- where more types are kept
  pub grown-on : (shapes : List Shape) (rest : List ℕ) (number : ℕ) (type : TypeTree) (new : List ℕ) (below : Known) → Grows i.types shapes → Tied i i.held → AreNumbers i.types rest →
      seen i rest ≡ below → new ≡ number ∷ rest → type_of shapes number ≡ type → known_of shapes i.states i.bundles i.target i.scope i.selves new ≡ holding below type
  grown-on shapes rest number type new below grows known within is pushed typed =
      let now : List ℕ → Known = λ held. known_of shapes i.states i.bundles i.target i.scope i.selves held in
      ap now pushed ∙ ap (λ t. holding (now rest) t) typed
      ∙ ap (λ k. holding k type) (known-stays i.types shapes i.states i.bundles i.target i.scope i.selves rest grows (tied rest known within) ∙ is)

  -- one more name, whose type is held no more
  pub scope-tied : (new : Table) (rest : List ℕ) (name : List ℕ) (number : ℕ) → Tied i i.held → new ≡ i.scope ++ (name, number) ∷ [] → rest ≡ behind i.held → number ≡ newest 0 i.held →
      AreKnown i.types i.states i.bundles i.target new i.selves rest
  scope-tied new rest name number known entered popped found =
      let within = subst (λ n. n < length i.types) (sym found) (newest-within i.types i.held known.from_base known.of_held) in
      record {
        from_base = known.from_base;
        of_states = known.of_states;
        of_bundles = known.of_bundles;
        of_target = known.of_target;
        of_scope = subst (AreNumbered i.types) (sym entered) (numbered-more i.types i.scope name number known.of_scope within);
        of_selves = known.of_selves;
        of_held = subst (AreNumbers i.types) (sym popped) (behind-within i.types i.held known.of_held);
      }

  module _ (old : Known) (is : seen i i.held ≡ old) where
    -- one more type
    pub holding-is : (number : ℕ) (type : TypeTree) (new : List ℕ) → new ≡ number ∷ i.held → type_of i.types number ≡ type → seen i new ≡ holding old type
    holding-is number type new pushed typed = ap (seen i) pushed ∙ ap (λ t. holding (seen i i.held) t) typed ∙ ap (λ k. holding k type) is

    -- one less
    pub released-is : (rest : List ℕ) → rest ≡ behind i.held → seen i rest ≡ released old
    released-is rest popped = released-of i.held rest old is popped

    -- another in its place
    pub replaced-is : (rest : List ℕ) (number : ℕ) (type : TypeTree) (new : List ℕ) → rest ≡ behind i.held → new ≡ number ∷ rest → type_of i.types number ≡ type →
        seen i new ≡ holding (released old) type
    replaced-is rest number type new popped pushed typed =
        ap (seen i) pushed ∙ ap (λ t. holding (seen i rest) t) typed ∙ ap (λ k. holding k type) (released-is rest popped)

    pub top-is : Grows base_shapes i.types → top old ≡ type_of i.types (newest 0 i.held)
    top-is grows = ap top (sym is) ∙ newest-is i.types i.held grows

    -- the type of the number that was taken off
    pub popped-is : (found : ℕ) → Grows base_shapes i.types → found ≡ newest 0 i.held → top old ≡ type_of i.types found
    popped-is found grows popped = top-is grows ∙ ap (type_of i.types) (sym popped)

    -- and that of the next
    pub second-is : (rest : List ℕ) (found : ℕ) → Grows base_shapes i.types → rest ≡ behind i.held → found ≡ newest 0 rest → top (released old) ≡ type_of i.types found
    second-is rest found grows popped next =
        ap top (sym (released-is rest popped)) ∙ newest-is i.types rest grows ∙ ap (type_of i.types) (sym next)

    pub shaped-is : (found : ℕ) (one : Shape) → Grows base_shapes i.types → found ≡ newest 0 i.held → type_of i.types found ≡ tree_of (trees_of i.types) one →
        top old ≡ tree_of (trees_of i.types) one
    shaped-is found one grows popped shaped = popped-is found grows popped ∙ shaped

    -- another in its place, where more types are kept
    pub grown-is : (shapes : List Shape) (rest : List ℕ) (number : ℕ) (type : TypeTree) (new : List ℕ) → Grows i.types shapes → Tied i i.held → rest ≡ behind i.held → new ≡ number ∷ rest →
        type_of shapes number ≡ type → known_of shapes i.states i.bundles i.target i.scope i.selves new ≡ holding (released old) type
    grown-is shapes rest number type new grows known popped pushed typed =
        grown-on shapes rest number type new (released old) grows known (subst (AreNumbers i.types) (sym popped) (behind-within i.types i.held known.of_held)) (released-is rest popped) pushed typed
