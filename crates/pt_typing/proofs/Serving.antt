-- What is taken of a part, and which parts serve.
use Rattle.std.proofs.Common.{◌≡◌, ℤ, pos, negsuc, Bool, true, false, Option, Some, None, Result, Err, [], ◌∷◌, refl, sym, ◌∙◌, ap, subst, inl, inr}
use Rattle.std.specs.Prelude.{◌⊎◌, if◌then◌else◌}
use Rattle.pt_val.specs.declared.place.Place.{Place}
use Rattle.pt_ast.specs.declared.expr.Binder.{Binder}
use Rattle.pt_ast.specs.declared.expr.Binder.TheVariants.{All, Any, Each}
use Rattle.pt_ast.specs.declared.expr.CompareOp.{CompareOp}
use Rattle.pt_ast.specs.declared.expr.CompareOp.TheVariants.{Eq, Ne, Lt, Le, Gt, Ge}
use Rattle.pt_ast.specs.declared.expr.Func.{Func}
use Rattle.pt_ast.specs.declared.expr.Func.TheVariants.{Len, Has, Sum, Cat, Rev, Leaf, Node, Label, Kids, Labels}
use Rattle.pt_ast.specs.Types.{TypeTree, Int_type, Bool_type, Text_type, Bytes_type, Tree_type, List_type, Tuple_type, TypeTrees}
use Rattle.pt_ast.specs.Typing.{IsSequence, HasMember, HasPart, Compares, Takes, Yields}
use Rattle.pt_typing.specs.Fault.{Fault, Wrong}
use Rattle.pt_typing.specs.Steps.{after, giving, right}
use Rattle.pt_typing.specs.Served.{same_type, if_same, list_member, index_member, tuple_types, part_at, of_sequence, left_side, bound_type, takes_one, given_alone, second_needed, given_both}
use Rattle.pt_typing.specs.Serving.{Is, ServesAlone, ServesFirst, ServesSecond, TakesOne, TakesTwo}
use Rattle.pt_typing.specs.ExprChecks.{needs, takes, call_alone, call_both}
use Rattle.pt_typing.specs.ExprFaults.{IsWrong, Misfits}
use Rattle.pt_typing.specs.Laws.{IsCheck}
use Rattle.pt_typing.proofs.Types.{same-self, same-is}
use Rattle.pt_typing.proofs.Steps.{Finds, means, blames, err-check, after-check, giving-check, right-check}

test-finds : {A : Type 0} (test : Bool) (Holds : Type 0) (value : A) → (test ≡ true → Holds) → (Holds → test ≡ true) → Finds (λ v. Holds × (v ≡ value)) (if test then Some value else None)
test-finds true Holds value holds back = record {
  gives = λ v is. (holds refl, cc);
  takes = λ v so. ap Some (sym so.1);
}
test-finds false Holds value holds back = record {
  gives = λ v is. cc;
  takes = λ v so. let no : false ≡ true = back so.0 in cc;
}

pub same-finds : {A : Type 0} (found type : TypeTree) (value : A) → Finds (λ v. (found ≡ type) × (v ≡ value)) (if_same found type value)
same-finds found type value =
    test-finds (same_type found type) (found ≡ type) value (same-is found type) (λ is. ap (λ t. same_type t type) is ∙ same-self type)

-- what is taken of a part, where a value fits exactly where the part serves
pub takes-check : {A : Type 0} {Have : TypeTree → Type 0} {Faulty : Fault → Type 0} {check : Result TypeTree Fault} (Serves : TypeTree → Type 0) (Fits : TypeTree → A → Type 0) (take : TypeTree → Option A) (at : Place) →
    IsCheck Have Faulty check → ((found : TypeTree) → Finds (Fits found) (take found)) →
    ((found : TypeTree) → Serves found → (value : A) × Fits found value) → ((found : TypeTree) (value : A) → Fits found value → Serves found) →
    IsCheck (λ made. (found : TypeTree) × Have found × Fits found made) (Misfits Have Faulty at Serves) (takes take at check)
takes-check {A = A} {Have = Have} {Faulty = Faulty} {check = check} Serves Fits take at given finds there back =
    after-check given (λ found has. blames (right-check at (take found) (finds found))
    (λ fault bad. ((λ serves. bad.0 (there found serves)), bad.1))
    (λ fault bad. ((λ fits. bad.0 (back found fits.0 fits.1)), bad.1)))

pub needs-check : {Have : TypeTree → Type 0} {Faulty : Fault → Type 0} {check : Result TypeTree Fault} (type : TypeTree) (at : Place) → IsCheck Have Faulty check →
    IsCheck (λ _. Have type) (Misfits Have Faulty at (Is type)) (needs type at check)
needs-check {Have = Have} type at given =
    means (takes-check (Is type) (λ found v. (found ≡ type) × (v ≡ tt)) (λ found. if_same found type tt) at given (λ found. same-finds found type tt)
    (λ found is. (tt, (is, refl))) (λ found v fits. fits.0))
    (λ v so. subst Have so.2.0 so.1) (λ v has. (type, has, (refl, refl)))

pub list-finds : (found : TypeTree) → Finds (λ member. found ≡ List_type member) (list_member found)
list-finds (List_type member) = record { gives = λ v is. cc; takes = λ v is. cc }
list-finds Int_type = record { gives = λ v is. cc; takes = λ v is. cc }
list-finds Bool_type = record { gives = λ v is. cc; takes = λ v is. cc }
list-finds Text_type = record { gives = λ v is. cc; takes = λ v is. cc }
list-finds Bytes_type = record { gives = λ v is. cc; takes = λ v is. cc }
list-finds Tree_type = record { gives = λ v is. cc; takes = λ v is. cc }
list-finds (Tuple_type types) = record { gives = λ v is. cc; takes = λ v is. cc }

pub index-finds : (from : TypeTree) → Finds (HasMember from) (index_member from)
index-finds (List_type member) = record { gives = λ v is. cc; takes = λ v is. ap Some (sym is) }
index-finds Bytes_type = record { gives = λ v is. cc; takes = λ v is. ap Some (sym is) }
index-finds Int_type = record { gives = λ v is. cc; takes = λ v is. absurd is }
index-finds Bool_type = record { gives = λ v is. cc; takes = λ v is. absurd is }
index-finds Text_type = record { gives = λ v is. cc; takes = λ v is. absurd is }
index-finds Tree_type = record { gives = λ v is. cc; takes = λ v is. absurd is }
index-finds (Tuple_type types) = record { gives = λ v is. cc; takes = λ v is. absurd is }

pub tuple-finds : (from : TypeTree) → Finds (λ types. from ≡ Tuple_type types) (tuple_types from)
tuple-finds (Tuple_type types) = record { gives = λ v is. cc; takes = λ v is. cc }
tuple-finds Int_type = record { gives = λ v is. cc; takes = λ v is. cc }
tuple-finds Bool_type = record { gives = λ v is. cc; takes = λ v is. cc }
tuple-finds Text_type = record { gives = λ v is. cc; takes = λ v is. cc }
tuple-finds Bytes_type = record { gives = λ v is. cc; takes = λ v is. cc }
tuple-finds Tree_type = record { gives = λ v is. cc; takes = λ v is. cc }
tuple-finds (List_type member) = record { gives = λ v is. cc; takes = λ v is. cc }

pub part-finds : (part : ℤ) (types : TypeTrees) → Finds (HasPart part types) (part_at part types)
part-finds (pos place) types = record { gives = λ v is. is; takes = λ v is. is }
part-finds (negsuc place) types = record { gives = λ v is. cc; takes = λ v is. absurd is }

pub sequence-finds : (from type : TypeTree) → Finds (λ v. IsSequence from × (v ≡ type)) (of_sequence from type)
sequence-finds Text_type type = record { gives = λ v is. (tt, cc); takes = λ v so. ap Some (sym so.1) }
sequence-finds Bytes_type type = record { gives = λ v is. (tt, cc); takes = λ v so. ap Some (sym so.1) }
sequence-finds (List_type member) type = record { gives = λ v is. (tt, cc); takes = λ v so. ap Some (sym so.1) }
sequence-finds Int_type type = record { gives = λ v is. cc; takes = λ v so. absurd so.0 }
sequence-finds Bool_type type = record { gives = λ v is. cc; takes = λ v so. absurd so.0 }
sequence-finds Tree_type type = record { gives = λ v is. cc; takes = λ v so. absurd so.0 }
sequence-finds (Tuple_type types) type = record { gives = λ v is. cc; takes = λ v so. absurd so.0 }

-- a side of integers
int-side : (side : TypeTree) → Finds (λ v. (side ≡ Int_type) × (v ≡ side)) (if_same side Int_type side)
int-side side = same-finds side Int_type side

pub side-finds : (op : CompareOp) (side : TypeTree) → Finds (λ v. Compares op side × (v ≡ side)) (left_side op side)
side-finds Eq side = record { gives = λ v is. (tt, cc); takes = λ v so. ap Some (sym so.1) }
side-finds Ne side = record { gives = λ v is. (tt, cc); takes = λ v so. ap Some (sym so.1) }
side-finds Lt side = int-side side
side-finds Le side = int-side side
side-finds Gt side = int-side side
side-finds Ge side = int-side side

pub bound-finds : (binder : Binder) (item : TypeTree) → Finds (Yields binder item) (bound_type binder item)
bound-finds All item = same-finds item Bool_type Bool_type
bound-finds Any item = same-finds item Bool_type Bool_type
bound-finds Each item = record { gives = λ v is. cc; takes = λ v is. ap Some (sym is) }

pub alone-finds : (func : Func) (from : TypeTree) → Finds (λ type. Takes func (from ∷ []) type) (given_alone func from)
alone-finds Len from = sequence-finds from Int_type
alone-finds Has from = record { gives = λ v is. cc; takes = λ v is. absurd is }
alone-finds Sum from = same-finds from (List_type Int_type) Int_type
alone-finds Cat from = record { gives = λ v is. cc; takes = λ v is. absurd is }
alone-finds Rev from = sequence-finds from from
alone-finds Leaf from = same-finds from Int_type Tree_type
alone-finds Node from = record { gives = λ v is. cc; takes = λ v is. absurd is }
alone-finds Label from = same-finds from Tree_type Int_type
alone-finds Kids from = same-finds from Tree_type (List_type Tree_type)
alone-finds Labels from = same-finds from Tree_type (List_type Int_type)

-- the second value that a function needs beside the first
abbrev Beside : Func → TypeTree → TypeTree → Type 0
Beside Has first second = first ≡ List_type second
Beside Cat first second = IsSequence first × (second ≡ first)
Beside Node first second = (first ≡ Int_type) × (second ≡ List_type Tree_type)
Beside _ first second = ⊥

second-finds : (func : Func) (first : TypeTree) → Finds (Beside func first) (second_needed func first)
second-finds Has first = list-finds first
second-finds Cat first = sequence-finds first first
second-finds Node first = same-finds first Int_type (List_type Tree_type)
second-finds Len first = record { gives = λ v is. cc; takes = λ v is. absurd is }
second-finds Sum first = record { gives = λ v is. cc; takes = λ v is. absurd is }
second-finds Rev first = record { gives = λ v is. cc; takes = λ v is. absurd is }
second-finds Leaf first = record { gives = λ v is. cc; takes = λ v is. absurd is }
second-finds Label first = record { gives = λ v is. cc; takes = λ v is. absurd is }
second-finds Kids first = record { gives = λ v is. cc; takes = λ v is. absurd is }
second-finds Labels first = record { gives = λ v is. cc; takes = λ v is. absurd is }

-- it takes both exactly where the second is the one that is needed
pub both-taken : (func : Func) (first second : TypeTree) → Beside func first second → Takes func (first ∷ second ∷ []) (given_both func second)
both-taken Has first second is = (is, refl)
both-taken Cat first second is = (is.0, is.1, is.1)
both-taken Node first second is = (is.0, is.1, refl)
both-taken _ first second is = absurd is

pub both-needed : (func : Func) (first second type : TypeTree) → Takes func (first ∷ second ∷ []) type → Beside func first second × (type ≡ given_both func second)
both-needed Has first second type is = (is.0, is.1)
both-needed Cat first second type is = ((is.0, is.1), is.2 ∙ sym is.1)
both-needed Node first second type is = ((is.0, is.1), is.2)
both-needed _ first second type is = absurd is

-- one second value alone is needed
one-beside : (func : Func) (first second other : TypeTree) → Beside func first second → Beside func first other → other ≡ second
one-beside Has first second other left right = cc
one-beside Cat first second other left right = right.1 ∙ sym left.1
one-beside Node first second other left right = right.1 ∙ sym left.1
one-beside _ first second other left right = absurd left

-- how many values it takes
one-taken : (func : Func) → takes_one func ≡ true → TakesOne func
one-taken Len is = (Text_type, (Int_type, (tt, refl)))
one-taken Sum is = (List_type Int_type, (Int_type, (refl, refl)))
one-taken Rev is = (Text_type, (Text_type, (tt, refl)))
one-taken Leaf is = (Int_type, (Tree_type, (refl, refl)))
one-taken Label is = (Tree_type, (Int_type, (refl, refl)))
one-taken Kids is = (Tree_type, (List_type Tree_type, (refl, refl)))
one-taken Labels is = (Tree_type, (List_type Int_type, (refl, refl)))
one-taken _ is = cc

two-taken : (func : Func) → takes_one func ≡ false → TakesTwo func
two-taken Has is = (List_type Int_type, (Int_type, Bool_type, (refl, refl)))
two-taken Cat is = (Text_type, (Text_type, Text_type, (tt, refl, refl)))
two-taken Node is = (Int_type, (List_type Tree_type, Tree_type, (refl, refl, refl)))
two-taken _ is = cc

not-one : (func : Func) → takes_one func ≡ false → ¬ TakesOne func
not-one Has is takes = absurd takes.1.1
not-one Cat is takes = absurd takes.1.1
not-one Node is takes = absurd takes.1.1
not-one _ is takes = cc

not-two : (func : Func) → takes_one func ≡ true → ¬ TakesTwo func
not-two Has is takes = cc
not-two Cat is takes = cc
not-two Node is takes = cc
not-two _ is takes = absurd takes.1.2

-- the one fault that is left
only-right : (Holds : Type 0) (Faulty : Fault → Type 0) (at : Place) → Holds → (fault : Fault) → IsWrong Holds at fault ⊎ (Holds × Faulty fault) → Faulty fault
only-right Holds Faulty at holds fault (inl bad) = absurd (bad.0 holds)
only-right Holds Faulty at holds fault (inr bad) = bad.1

only-wrong : (Holds : Type 0) (Faulty : Fault → Type 0) → (¬ Holds) → (at : Place) (fault : Fault) → IsWrong Holds at fault ⊎ (Holds × Faulty fault) → fault ≡ Wrong at
only-wrong Holds Faulty fails at fault (inl bad) = bad.1
only-wrong Holds Faulty fails at fault (inr bad) = absurd (fails bad.0)

-- a call with one value, which the function takes or not
alone-check : (test : Bool) (func : Func) (Have : TypeTree → Type 0) (Faulty : Fault → Type 0) (check : Result TypeTree Fault) (at place : Place) → takes_one func ≡ test → IsCheck Have Faulty check →
    IsCheck (λ type. (only : TypeTree) × Have only × Takes func (only ∷ []) type) (λ fault. IsWrong (TakesOne func) at fault ⊎ (TakesOne func × Misfits Have Faulty place (ServesAlone func) fault))
    (if test then takes (given_alone func) place check else Err (Wrong at))
alone-check true func Have Faulty check at place is given =
    blames (takes-check (ServesAlone func) (λ from type. Takes func (from ∷ []) type) (given_alone func) place given (alone-finds func) (λ from so. so) (λ from type so. (type, so)))
    (λ fault bad. inr (one-taken func is, bad))
    (only-right (TakesOne func) (Misfits Have Faulty place (ServesAlone func)) at (one-taken func is))
alone-check false func Have Faulty check at place is given =
    blames (means (err-check (Wrong at)) (λ type no. absurd no) (λ type so. absurd (not-one func is (so.0, (type, so.2)))))
    (λ fault bad. inl (not-one func is, bad))
    (only-wrong (TakesOne func) (Misfits Have Faulty place (ServesAlone func)) (not-one func is) at)

pub call_alone-check : {Have : TypeTree → Type 0} {Faulty : Fault → Type 0} {check : Result TypeTree Fault} (func : Func) (at place : Place) → IsCheck Have Faulty check →
    IsCheck (λ type. (only : TypeTree) × Have only × Takes func (only ∷ []) type) (λ fault. IsWrong (TakesOne func) at fault ⊎ (TakesOne func × Misfits Have Faulty place (ServesAlone func) fault))
    (call_alone func at place check)
call_alone-check {Have = Have} {Faulty = Faulty} {check = check} func at place given = alone-check (takes_one func) func Have Faulty check at place refl given

-- what the first of two values is, and which second it needs
first-check : {Have : TypeTree → Type 0} {Faulty : Fault → Type 0} {check : Result TypeTree Fault} (func : Func) (place : Place) → IsCheck Have Faulty check →
    IsCheck (λ needed. (first : TypeTree) × Have first × Beside func first needed) (Misfits Have Faulty place (ServesFirst func)) (takes (second_needed func) place check)
first-check func place given = takes-check (ServesFirst func) (Beside func) (second_needed func) place given (second-finds func)
    (λ first so. (so.0, (both-needed func first so.0 so.1 so.2).0)) (λ first second so. (second, given_both func second, both-taken func first second so))

-- fewer types serve
misfits-more : (Have : TypeTree → Type 0) (Faulty : Fault → Type 0) (place : Place) (Serves Suits : TypeTree → Type 0) → ((found : TypeTree) → Suits found → Serves found) →
    (fault : Fault) → Misfits Have Faulty place Serves fault → Misfits Have Faulty place Suits fault
misfits-more Have Faulty place Serves Suits less fault (inl bad) = inl bad
misfits-more Have Faulty place Serves Suits less fault (inr (found, have, wrong)) = inr (found, have, ((λ suits. wrong.0 (less found suits)), wrong.1))

second-there : (func : Func) (first needed : TypeTree) → Beside func first needed → (found : TypeTree) → ServesSecond func first found → found ≡ needed
second-there func first needed beside found serves = one-beside func first needed found beside (both-needed func first found serves.0 serves.1).0

second-back : (func : Func) (first needed : TypeTree) → Beside func first needed → (found : TypeTree) → found ≡ needed → ServesSecond func first found
second-back func first needed beside found is = (given_both func found, both-taken func first found (subst (Beside func first) (sym is) beside))

-- the faults of two values: the first, and the second beside it
abbrev pub PairFaults : (TypeTree → Type 0) → (Fault → Type 0) → Place → (TypeTree → Type 0) → (Fault → Type 0) → Place → Func → Fault → Type 0
PairFaults Have Faulty place Own Bad other func fault = Misfits Have Faulty place (ServesFirst func) fault
    ⊎ ((first : TypeTree) × (Have first × ServesFirst func first) × Misfits Own Bad other (ServesSecond func first) fault)

-- the same by the second that is needed
abbrev NeededFaults : (TypeTree → Type 0) → (Fault → Type 0) → Place → (TypeTree → Type 0) → (Fault → Type 0) → Place → Func → Fault → Type 0
NeededFaults Have Faulty place Own Bad other func fault = Misfits Have Faulty place (ServesFirst func) fault
    ⊎ ((needed : TypeTree) × ((first : TypeTree) × Have first × Beside func first needed) × Misfits Own Bad other (Is needed) fault)

pair-there : (Have : TypeTree → Type 0) (Faulty : Fault → Type 0) (place : Place) (Own : TypeTree → Type 0) (Bad : Fault → Type 0) (other : Place) (func : Func) (fault : Fault) →
    NeededFaults Have Faulty place Own Bad other func fault → PairFaults Have Faulty place Own Bad other func fault
pair-there Have Faulty place Own Bad other func fault (inl bad) = inl bad
pair-there Have Faulty place Own Bad other func fault (inr (needed, (first, have, beside), bad)) =
    inr (
      first,
      (have, (needed, given_both func needed, both-taken func first needed beside)),
      misfits-more Own Bad other (Is needed) (ServesSecond func first) (second-there func first needed beside) fault bad,
    )

pair-back : (Have : TypeTree → Type 0) (Faulty : Fault → Type 0) (place : Place) (Own : TypeTree → Type 0) (Bad : Fault → Type 0) (other : Place) (func : Func) (fault : Fault) →
    PairFaults Have Faulty place Own Bad other func fault → NeededFaults Have Faulty place Own Bad other func fault
pair-back Have Faulty place Own Bad other func fault (inl bad) = inl bad
pair-back Have Faulty place Own Bad other func fault (inr (first, (have, serves), bad)) =
    let beside : Beside func first serves.0 = (both-needed func first serves.0 serves.1 serves.2).0 in
    inr (serves.0, (first, have, beside), misfits-more Own Bad other (ServesSecond func first) (Is serves.0) (second-back func first serves.0 beside) fault bad)

pair-check : (Have Own : TypeTree → Type 0) (Faulty Bad : Fault → Type 0) (check also : Result TypeTree Fault) (func : Func) (place other : Place) → IsCheck Have Faulty check → IsCheck Own Bad also →
    IsCheck (λ type. (first : TypeTree) × (second : TypeTree) × Have first × Own second × Takes func (first ∷ second ∷ []) type) (PairFaults Have Faulty place Own Bad other func)
    (after (takes (second_needed func) place check) (λ needed. giving (needs needed other also) (given_both func needed)))
pair-check Have Own Faulty Bad check also func place other given next =
    blames (means (after-check (first-check func place given) (λ needed first. giving-check (given_both func needed) (needs-check needed other next)))
    (λ type so. (so.1.0, so.0, so.1.1, so.2.0, subst (Takes func (so.1.0 ∷ so.0 ∷ [])) (sym so.2.1) (both-taken func so.1.0 so.0 so.1.2)))
    (λ type so. let need = both-needed func so.0 so.1 type so.4 in (so.1, (so.0, so.2, need.0), (so.3, need.1))))
    (pair-there Have Faulty place Own Bad other func) (pair-back Have Faulty place Own Bad other func)

both-check : (test : Bool) (func : Func) (Have Own : TypeTree → Type 0) (Faulty Bad : Fault → Type 0) (check also : Result TypeTree Fault) (at place other : Place) → takes_one func ≡ test →
    IsCheck Have Faulty check → IsCheck Own Bad also →
    IsCheck (λ type. (first : TypeTree) × (second : TypeTree) × Have first × Own second × Takes func (first ∷ second ∷ []) type)
    (λ fault. IsWrong (TakesTwo func) at fault ⊎ (TakesTwo func × PairFaults Have Faulty place Own Bad other func fault))
    (if test then Err (Wrong at) else after (takes (second_needed func) place check) (λ needed. giving (needs needed other also) (given_both func needed)))
both-check true func Have Own Faulty Bad check also at place other is given next =
    blames (means (err-check (Wrong at)) (λ type no. absurd no) (λ type so. absurd (not-two func is (so.0, (so.1, type, so.4)))))
    (λ fault bad. inl (not-two func is, bad))
    (only-wrong (TakesTwo func) (PairFaults Have Faulty place Own Bad other func) (not-two func is) at)
both-check false func Have Own Faulty Bad check also at place other is given next =
    blames (pair-check Have Own Faulty Bad check also func place other given next) (λ fault bad. inr (two-taken func is, bad))
    (only-right (TakesTwo func) (PairFaults Have Faulty place Own Bad other func) at (two-taken func is))

pub call_both-check : {Have Own : TypeTree → Type 0} {Faulty Bad : Fault → Type 0} {check also : Result TypeTree Fault} (func : Func) (at place other : Place) → IsCheck Have Faulty check → IsCheck Own Bad also →
    IsCheck (λ type. (first : TypeTree) × (second : TypeTree) × Have first × Own second × Takes func (first ∷ second ∷ []) type)
    (λ fault. IsWrong (TakesTwo func) at fault ⊎ (TakesTwo func × PairFaults Have Faulty place Own Bad other func fault))
    (call_both func at place check other also)
call_both-check {Have = Have} {Own = Own} {Faulty = Faulty} {Bad = Bad} {check = check} {also = also} func at place other given next =
    both-check (takes_one func) func Have Own Faulty Bad check also at place other refl given next
