-- The manual's suite is sound.
use Rattle.std.proofs.Common.{Some, None, [], ◌∷◌, refl, arith, rules}
use Rattle.std.specs.Prelude.{codes}
use Rattle.std.specs.List.{AllByRecursion, IsDistinct}
use Rattle.pt_ast.specs.Types.{Int_type, Text_type, Bytes_type, List_type, types_of}
use Rattle.pt_ast.specs.Names.{Scope}
use Rattle.pt_ast.specs.Bounds.{IsBounded, IsBoundedItem}
use Rattle.pt_ast.specs.Numbers.{IsNumbered}
use Rattle.pt_ast.specs.Suites.{no_context, BindAll, IsTypedMachine, IsTyped}
use Rattle.tests_suites.specs.Manual.{manual, commutes, reverses, joined, nonempty, picky, halves, purse, ManualIsSound}

bounded-items : AllByRecursion IsBoundedItem manual.items
bounded-items = search (rules, arith) depth 60 fits 20000

bounded : IsBounded manual
bounded = record { few_items = omega arith; not_deep = omega arith; items = bounded-items }

numbered : IsNumbered manual
numbered = (refl, omega arith)

commutes-typed : (after : Scope) × BindAll no_context [] commutes after
commutes-typed = (
  _,
  (
    _,
    (Int_type, refl, (refl, refl, refl), refl),
    (
      _,
      (Int_type, refl, (refl, refl, refl), refl),
      (_, ((Int_type, (refl, (refl, tt), refl), (refl, (refl, tt), refl), tt, refl), refl), refl),
    ),
  ),
)

reverses-typed : (after : Scope) × BindAll no_context [] reverses after
reverses-typed = (
  _,
  (
    _,
    (List_type Int_type, refl, (Int_type, (refl, refl, refl), refl, refl, refl), refl),
    (_, ((List_type Int_type, (types_of (List_type Int_type ∷ []), ((types_of (List_type Int_type ∷ []), (refl, tt), (tt, refl)), tt), (tt, refl)), refl, tt, refl), refl), refl),
  ),
)

joined-typed : (after : Scope) × BindAll no_context [] joined after
unfolding IsDistinct
joined-typed = (
  _,
  (
    _,
    (Text_type, refl, (((refl, (refl, tt)), ((refl, tt), (tt, tt))), refl, refl, refl), refl),
    (
      _,
      (Text_type, refl, (((refl, (refl, tt)), ((refl, tt), (tt, tt))), refl, refl, refl), refl),
      (
        _,
        (
          (
            Int_type,
            (types_of (Text_type ∷ []), ((types_of (Text_type ∷ Text_type ∷ []), (refl, (refl, tt)), (tt, refl, refl)), tt), (tt, refl)),
            ((types_of (Text_type ∷ []), (refl, tt), (tt, refl)), ((types_of (Text_type ∷ []), (refl, tt), (tt, refl)), tt), refl),
            tt,
            refl,
          ),
          refl,
        ),
        refl,
      ),
    ),
  ),
)

nonempty-typed : (after : Scope) × BindAll no_context [] nonempty after
unfolding IsDistinct
nonempty-typed = (
  _,
  (
    _,
    (Text_type, refl, (((refl, (refl, tt)), ((refl, tt), (tt, tt))), refl, refl, refl), refl),
    (_, ((Int_type, (types_of (Text_type ∷ []), (refl, tt), (tt, refl)), refl, refl, refl), refl), refl),
  ),
)

picky-typed : (after : Scope) × BindAll no_context [] picky after
picky-typed = (
  _,
  (
    _,
    (Bytes_type, refl, (refl, refl, refl), refl),
    (_, ((Int_type, (types_of (Bytes_type ∷ []), (refl, tt), (tt, refl)), refl, refl, refl), refl), refl),
  ),
)

halves-typed : (after : Scope) × BindAll no_context [] halves after
halves-typed = (
  _,
  (
    _,
    (Int_type, refl, (Int_type, refl, (refl, refl, refl), (refl, (refl, tt), refl)), refl),
    (_, ((Int_type, (refl, (refl, tt), refl), refl, tt, refl), refl), refl),
  ),
)

purse-typed : IsTypedMachine purse
unfolding IsDistinct
purse-typed = record {
  states = (codes "coins", Int_type) ∷ [];
  declared = (Int_type, refl, refl, refl);
  distinct_bundles = (tt, tt);
  invariants = ((Int_type, refl, refl, refl, refl), tt);
  distinct_rules = ((refl, tt), (tt, tt));
  rules = (
    record {
      when = tt;
      target = Some Int_type;
      into = (Int_type, refl, refl, refl);
      after = (codes "coins", Int_type) ∷ (codes "n", Int_type) ∷ [];
      stmts = (_, (Int_type, refl, (refl, refl, refl), refl), (_, (Int_type, refl, (refl, (refl, tt), refl), refl), (_, (Int_type, refl, refl, refl), refl)));
    },
    (
      record {
        when = ((Int_type, refl, refl, refl, refl), tt);
        target = None;
        into = refl;
        after = (codes "coins", Int_type) ∷ (codes "n", Int_type) ∷ [];
        stmts = (_, (Int_type, refl, refl, refl), (_, (Int_type, refl, ((Int_type, refl, refl, refl, refl), (refl, (refl, tt), refl), refl), refl), refl));
      },
      tt,
    ),
  );
}

typed : IsTyped (codes "never" ∷ []) manual
unfolding IsDistinct
typed = record {
  distinct = ((refl, (refl, (refl, (refl, (refl, (refl, (refl, tt))))))), ((refl, (refl, (refl, (refl, (refl, (refl, tt)))))), ((refl, (refl, (refl, (refl, (refl, tt))))), ((refl, (refl, (refl, (refl, tt)))), ((refl, (refl, (refl, tt))), ((refl, (refl, tt)), ((refl, tt), (tt, tt))))))));
  items = (commutes-typed, (reverses-typed, (joined-typed, (nonempty-typed, (picky-typed, (halves-typed, (purse-typed, ((0, omega arith, refl), tt))))))));
}

pub manual-is-sound : ManualIsSound
manual-is-sound = record { bounded = bounded; numbered = numbered; typed = typed }
