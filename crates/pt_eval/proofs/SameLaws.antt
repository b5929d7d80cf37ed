-- The test of two values tells whether they are the same.
use Rattle.std.proofs.Common.{◌≡◌, ℕ, ℤ, Bool, true, false, ◌&&◌, List, [], ◌∷◌, map, refl, sym, ◌∙◌, ap, subst}
use Rattle.std.specs.Bool.{Decides}
use Rattle.std.specs.Cmp.{booleans_Decides, signed_Decides}
use Rattle.std.specs.Cmp.Lexicographic.{pointwise, bytes_decides}
use Rattle.std.specs.Ordering.{int_eq}
use Rattle.pt_val.specs.declared.val.Val.{Val, map-Val}
use Rattle.pt_val.specs.declared.val.Val.TheVariants as val
use Rattle.pt_val.specs.declared.val.Val.TheOpen.{Val-F}
use Rattle.pt_val.specs.declared.val.Val.TheOpen as shape
use Rattle.pt_val.specs.declared.val.Val.TheViews.{out-Val, roll-Val, out-roll-Val, roll-out-Val}
use Rattle.pt_val.specs.declared.val.Val.TheFolds.{fold_out-Val, ind-Val}
use Rattle.pt_eval.specs.Same.{all_pass, same_step, same_value}

-- each value of the list is told from all others
abbrev AreTold : {S : Type 0} → (S → Val) → Type 0
AreTold {S} value = (s : S) (other : Val) → Decides (same_value (value s) other) (value s ≡ other)

both-decide : (a b : Bool) (P Q R : Type 0) → Decides a P → Decides b Q → (P → Q → R) → (R → P × Q) → Decides (a && b) R
both-decide true true P Q R first second make part = (λ _. make (first.0 refl) (second.0 refl), λ _. refl)
both-decide true false P Q R first second make part = (λ is. cc, λ r. second.1 (part r).1)
both-decide false b P Q R first second make part = (λ is. cc, λ r. first.1 (part r).0)

heads : (x y : Val) (xs ys : List Val) → x ∷ xs ≡ y ∷ ys → (x ≡ y) × (xs ≡ ys)
heads x y xs ys is = (cc, cc)

members-told : {S : Type 0} (value : S → Val) → AreTold value → (given : List S) (others : List Val) →
    Decides (all_pass (map same_value (map value given)) others) (map value given ≡ others)
members-told value told [] [] = (λ _. refl, λ _. refl)
members-told value told [] (other ∷ others) = (λ is. cc, λ is. cc)
members-told value told (s ∷ given) [] = (λ is. cc, λ is. cc)
members-told value told (s ∷ given) (other ∷ others) =
    both-decide (same_value (value s) other) (all_pass (map same_value (map value given)) others) (value s ≡ other) (map value given ≡ others)
    (value s ∷ map value given ≡ other ∷ others) (told s other) (members-told value told given others)
    (λ one rest. ap (λ v. v ∷ map value given) one ∙ ap (λ vs. other ∷ vs) rest) (heads (value s) other (map value given) others)

-- a shape is told from all others, where the values in it are
shape-told : {S : Type 0} (value : S → Val) → AreTold value → (given : Val-F S) (other : Val-F Val) →
    Decides (same_step (map-Val Val (Val → Bool) same_value (map-Val S Val value given)) other) (map-Val S Val value given ≡ other)
shape-told value told (shape.Int a) (shape.Int b) = let is = signed_Decides a b in (λ e. ap shape.Int (is.0 e), λ e. is.1 cc)
shape-told value told (shape.Bool a) (shape.Bool b) = let is = booleans_Decides a b in (λ e. ap shape.Bool (is.0 e), λ e. is.1 cc)
shape-told value told (shape.Text a) (shape.Text b) = let is = bytes_decides a b in (λ e. ap shape.Text (is.0 e), λ e. is.1 cc)
shape-told value told (shape.Bytes a) (shape.Bytes b) = let is = bytes_decides a b in (λ e. ap shape.Bytes (is.0 e), λ e. is.1 cc)
shape-told value told (shape.List a) (shape.List b) = let is = members-told value told a b in (λ e. ap shape.List (is.0 e), λ e. is.1 cc)
shape-told value told (shape.Tuple a) (shape.Tuple b) = let is = members-told value told a b in (λ e. ap shape.Tuple (is.0 e), λ e. is.1 cc)
shape-told value told (shape.Node label a) (shape.Node other b) =
    both-decide (int_eq label other) (all_pass (map same_value (map value a)) b) (label ≡ other) (map value a ≡ b) _
    (signed_Decides label other) (members-told value told a b)
    (λ one rest. ap (λ l. shape.Node l (map value a)) one ∙ ap (λ vs. shape.Node other vs) rest) (λ e. (cc, cc))
shape-told value told given other = (λ is. cc, λ is. cc)

through : (value other : Val) → Decides (same_step (map-Val Val (Val → Bool) same_value (out-Val value)) (out-Val other)) (out-Val value ≡ out-Val other) →
    Decides (same_value value other) (value ≡ other)
through value other told =
    let opened : same_value value other ≡ same_step (map-Val Val (Val → Bool) same_value (out-Val value)) (out-Val other) =
    ap (λ f. f other) (fold_out-Val (Val → Bool) (λ s o. same_step s (out-Val o)) value) in
    (λ is. sym (roll-out-Val value) ∙ ap roll-Val (told.0 (sym opened ∙ is)) ∙ roll-out-Val other, λ is. opened ∙ told.1 (ap out-Val is))

pub same-value-decides : (value other : Val) → Decides (same_value value other) (value ≡ other)
same-value-decides = ind-Val (λ v. (other : Val) → Decides (same_value v other) (v ≡ other)) (λ x y is other.
    through (roll-Val x) other (subst (λ s. Decides (same_step (map-Val Val (Val → Bool) same_value s) (out-Val other)) (s ≡ out-Val other)) (is ∙ sym (out-roll-Val x))
    (shape-told (λ e. e.0) (λ e. e.1) y (out-Val other))))
