-- Which types serve at a place of an expression.
use Rattle.std.specs.Prelude.{◌≡◌, [], ◌∷◌, ℤ}
use Rattle.pt_ast.specs.declared.expr.Binder.{Binder}
use Rattle.pt_ast.specs.declared.expr.Func.{Func}
use Rattle.pt_ast.specs.Types.{TypeTree, List_type, Tuple_type, TypeTrees}
use Rattle.pt_ast.specs.Typing.{HasMember, HasPart, Takes, Yields}

-- this type
abbrev pub Is : TypeTree → TypeTree → Type 0
Is type found = found ≡ type

-- a list
abbrev pub IsList : TypeTree → Type 0
IsList found = (member : TypeTree) × (found ≡ List_type member)

-- something that an index takes a member of
abbrev pub HasMembers : TypeTree → Type 0
HasMembers found = (member : TypeTree) × HasMember found member

abbrev pub IsTuple : TypeTree → Type 0
IsTuple found = (types : TypeTrees) × (found ≡ Tuple_type types)

-- the tuple has a part of this number
abbrev pub HasSuchPart : ℤ → TypeTrees → Type 0
HasSuchPart part types = (member : TypeTree) × HasPart part types member

-- the binder makes something of such items
abbrev pub ServesBinder : Binder → TypeTree → Type 0
ServesBinder binder item = (type : TypeTree) × Yields binder item type

-- the function takes this one value
abbrev pub ServesAlone : Func → TypeTree → Type 0
ServesAlone func only = (type : TypeTree) × Takes func (only ∷ []) type

-- the function takes this value and some second
abbrev pub ServesFirst : Func → TypeTree → Type 0
ServesFirst func first = (second : TypeTree) × (type : TypeTree) × Takes func (first ∷ second ∷ []) type

-- the function takes the second value beside the first
abbrev pub ServesSecond : Func → TypeTree → TypeTree → Type 0
ServesSecond func first second = (type : TypeTree) × Takes func (first ∷ second ∷ []) type

-- the function takes one value, or two
abbrev pub TakesOne : Func → Type 0
TakesOne func = (only : TypeTree) × ServesAlone func only

abbrev pub TakesTwo : Func → Type 0
TakesTwo func = (first : TypeTree) × ServesFirst func first
