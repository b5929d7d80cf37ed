-- The types of the small trees.
use Rattle.std.proofs.Common.{◌≡◌, ℕ, zero, suc, ◌+◌, ◌<◌, true, false, Some, None, [], ◌∷◌, refl, sym, ◌∙◌, subst, slice_index_or, arith}
use Rattle.std.specs.Prelude.{codes}
use Rattle.std.specs.List.{IsDistinct}
use Rattle.pt_ast.specs.Types.{TypeTree, Int_type, Bool_type, Text_type, Tree_type, List_type, Tuple_type, TypeTrees, no_type, more_type, types_of, types_in}
use Rattle.pt_ast.specs.Trees.{exprs_of}
use Rattle.pt_ast.specs.declared.expr.Func.TheVariants.{Len, Has, Cat}
use Rattle.pt_ast.specs.Typing.{HaveTypes, HasMember, IsSequence, Takes, part_type}
use Rattle.tests_suites.specs.Samples.{TypedSamples, UntypedSamples, beside, one, yes, word, listed}

pub typed : TypedSamples
unfolding IsDistinct
typed = record {
  sum = (refl, (refl, tt), refl);
  length = (types_of (Text_type ∷ []), (refl, tt), (tt, refl));
  byte = (_, refl, (Int_type, refl, refl, refl));
  member = (List_type Int_type, (Int_type, refl, (refl, tt), refl), (Int_type, refl, refl, refl));
  second_part = (_, (types_of (Int_type ∷ Bool_type ∷ []), (refl, (refl, tt)), refl), (types_of (Int_type ∷ Bool_type ∷ []), Bool_type, refl, refl, refl));
  for_all = (Int_type, Bool_type, refl, (Int_type, refl, tt, refl), (Int_type, refl, refl, refl, refl), (refl, refl));
  for_each = (
    Int_type,
    Tuple_type (types_of (Int_type ∷ Bool_type ∷ [])),
    refl,
    (Int_type, refl, tt, refl),
    (types_of (Int_type ∷ Bool_type ∷ []), (refl, (refl, tt)), refl),
    refl,
  );
  branches = (refl, refl, refl);
  equal_lists = (List_type Int_type, (Int_type, refl, tt, refl), (Int_type, refl, tt, refl), tt, refl);
  tree = (
    types_of (Int_type ∷ List_type Tree_type ∷ []),
    (refl, ((types_of (Tree_type ∷ []), ((types_of (Int_type ∷ []), (refl, tt), (refl, refl)), tt), (refl, refl)), tt)),
    (refl, refl, refl),
  );
  lists = (Int_type, (refl, refl, refl), refl, refl, refl);
  mapped = (Bool_type, refl, refl, (Bool_type, refl, tt, refl));
  deep = ((refl, refl, refl), (refl, ((refl, refl, refl), tt)));
  statements = (_, (Bool_type, refl, refl, refl), (_, (refl, refl), refl));
  gives = record {
    when = tt;
    target = Some Int_type;
    into = (Int_type, refl, refl, refl);
    after = (beside None).states;
    stmts = (_, (Int_type, refl, refl, refl), (_, (Int_type, refl, refl, refl), refl));
  };
  checks = record { distinct = ((refl, tt), (tt, tt)); items = ((1, omega arith, refl), ((0, omega arith, refl), tt)) };
}

-- two types that are not one
int-bool : Int_type ≡ Bool_type → ⊥
int-bool is = cc

none-some : {A : Type 0} (value : A) → None ≡ Some value → ⊥
none-some value is = cc

no-length : (types : TypeTrees) (type : TypeTree) → HaveTypes [] (exprs_of (one ∷ [])) types → Takes Len (types_in types) type → ⊥
no-length no_type type have takes = have
no-length (more_type first no_type) type have takes = subst IsSequence have.0 takes.0
no-length (more_type first (more_type second others)) type have takes = have.1

one-too-many : (types : TypeTrees) (type : TypeTree) → HaveTypes [] (exprs_of (word ∷ word ∷ [])) types → Takes Len (types_in types) type → ⊥
one-too-many no_type type have takes = have
one-too-many (more_type first no_type) type have takes = have.1
one-too-many (more_type first (more_type second others)) type have takes = takes

no-member : (types : TypeTrees) (type : TypeTree) → HaveTypes [] (exprs_of (listed (one ∷ []) ∷ yes ∷ [])) types → Takes Has (types_in types) type → ⊥
no-member no_type type have takes = have
no-member (more_type first no_type) type have takes = have.1
no-member (more_type first (more_type second no_type)) type have takes =
    let lists : List_type have.0.0 ≡ List_type second = sym have.0.3 ∙ takes.0 in
    let members : have.0.0 ≡ second = cc in
    int-bool (sym have.0.1 ∙ members ∙ have.1.0)
no-member (more_type first (more_type second (more_type third others))) type have takes = have.1.1

no-join : (types : TypeTrees) (type : TypeTree) → HaveTypes [] (exprs_of (word ∷ listed (one ∷ []) ∷ [])) types → Takes Cat (types_in types) type → ⊥
no-join no_type type have takes = have
no-join (more_type first no_type) type have takes = have.1
no-join (more_type first (more_type second no_type)) type have takes =
    let both : List_type have.1.0.0 ≡ Text_type = sym have.1.0.3 ∙ takes.1 ∙ have.0 in cc
no-join (more_type first (more_type second (more_type third others))) type have takes = have.1.1

only-two : (types : TypeTrees) (type : TypeTree) → HaveTypes [] (exprs_of (one ∷ yes ∷ [])) types → part_type 2 types ≡ Some type → ⊥
only-two no_type type have is = have
only-two (more_type first no_type) type have is = have.1
only-two (more_type first (more_type second no_type)) type have is = none-some type is
only-two (more_type first (more_type second (more_type third others))) type have is = have.1.1

no-third : (types others : TypeTrees) (type : TypeTree) → HaveTypes [] (exprs_of (one ∷ yes ∷ [])) types → Tuple_type types ≡ Tuple_type others →
    part_type 2 others ≡ Some type → ⊥
no-third types others type have is found = let tuples : others ≡ types = cc in
    only-two types type have (subst (λ t. part_type 2 t ≡ Some type) tuples found)

heads : (a b : ℕ) → a ∷ [] ≡ b ∷ [] → a ≡ b
heads a b is = cc

next : (a b : ℕ) → a ≡ b → b ≡ a + 1 → ⊥
next a b is after = omega arith

not-found : (k : ℕ) → k < 1 → slice_index_or (codes "p" ∷ []) k (codes "q") ≡ codes "q" → ⊥
not-found zero below is = next 112 113 (heads 112 113 is) refl
not-found (suc k) below is = omega arith

pub untyped : UntypedSamples
unfolding IsDistinct
untyped = record {
  truth_added = λ type is. int-bool is.1.0;
  empty_list = λ type is. is;
  mixed_list = λ type is. int-bool (sym is.1 ∙ is.2.0);
  unknown_name = λ type is. none-some type is;
  length_of_a_number = λ type is. no-length is.0 type is.1 is.2;
  two_arguments = λ type is. one-too-many is.0 type is.1 is.2;
  other_member = λ type is. no-member is.0 type is.1 is.2;
  other_sequence = λ type is. no-join is.0 type is.1 is.2;
  third_part = λ type is. no-third is.1.0 is.2.0 is.2.1 is.1.1 (sym is.1.2 ∙ is.2.2) is.2.3;
  index_of_a_text = λ type is. subst (λ from. HasMember from is.2.0) is.1 is.2.1;
  number_for_all = λ type is. let lists : List_type is.0 ≡ List_type is.3.0 = is.3.3 in let members : is.0 ≡ is.3.0 = cc in
      let items : is.0 ≡ is.1 = (let found : Some is.0 ≡ Some is.1 = is.4 in cc) in
      int-bool (sym is.3.1 ∙ sym members ∙ items ∙ is.5.0);
  name_twice = λ type is. let taken : Some Int_type ≡ None = is.2 in cc;
  two_branches = λ type is. int-bool (sym is.1 ∙ is.2);
  compared_texts = λ type is. let sides : Text_type ≡ Int_type = sym is.1 ∙ is.3 in cc;
  self_alone = λ type is. none-some type is;
  self_in_the_base = λ type is. none-some type is.0;
  letter_twice = λ type is. let apart : true ≡ false = is.0.0.0 in cc;
  two_sorts = λ type is. int-bool (sym is.0.2 ∙ is.1.0);
  set_in_a_property = λ after is. none-some is.0 is.1;
  give_without_into = λ is. none-some is.stmts.1.0 (sym is.into ∙ is.stmts.1.1);
  into_without_give = λ is. let none : false ≡ true = is.into.3 in cc;
  unknown_check = λ is. not-found is.items.0.0 is.items.0.1 is.items.0.2;
  check_twice = λ is. let apart : true ≡ false = is.distinct.0.0 in cc;
}
