-- Command lines of one, three and four words.
use Rattle.std.proofs.Common.{◌≡◌, ◌<◌, ◌≤◌, List, [], ◌∷◌, length, get_or, map, ap, ◌∙◌, arith}

-- a list of one is its one item
pub one_item : {A : Type 0} (xs : List A) (a : A) → 1 ≤ length xs → length xs < 2 → a ≡ get_or xs 0 a → xs ≡ a ∷ []
one_item [] a least most pa = absurd (omega arith)
one_item (w ∷ []) a least most pa = cc
one_item (w ∷ x ∷ rest) a least most pa = absurd (omega arith)

-- a list of three is its three items
pub three_items : {A : Type 0} (xs : List A) (a b c : A) → 3 ≤ length xs → length xs < 4 →
    a ≡ get_or xs 0 a → b ≡ get_or xs 1 b → c ≡ get_or xs 2 c → xs ≡ a ∷ b ∷ c ∷ []
three_items [] a b c least most pa pb pc = absurd (omega arith)
three_items (w ∷ []) a b c least most pa pb pc = absurd (omega arith)
three_items (w ∷ x ∷ []) a b c least most pa pb pc = absurd (omega arith)
three_items (w ∷ x ∷ y ∷ []) a b c least most pa pb pc = cc
three_items (w ∷ x ∷ y ∷ z ∷ rest) a b c least most pa pb pc = absurd (omega arith)

-- a list of four is its four items
pub four_items : {A : Type 0} (xs : List A) (a b c d : A) → 4 ≤ length xs → length xs < 5 →
    a ≡ get_or xs 0 a → b ≡ get_or xs 1 b → c ≡ get_or xs 2 c → d ≡ get_or xs 3 d → xs ≡ a ∷ b ∷ c ∷ d ∷ []
four_items [] a b c d least most pa pb pc pd = absurd (omega arith)
four_items (w ∷ []) a b c d least most pa pb pc pd = absurd (omega arith)
four_items (w ∷ x ∷ []) a b c d least most pa pb pc pd = absurd (omega arith)
four_items (w ∷ x ∷ y ∷ []) a b c d least most pa pb pc pd = absurd (omega arith)
four_items (w ∷ x ∷ y ∷ z ∷ []) a b c d least most pa pb pc pd = cc
four_items (w ∷ x ∷ y ∷ z ∷ v ∷ rest) a b c d least most pa pb pc pd = absurd (omega arith)

-- and its image is their images
pub one_image : {A B : Type 0} (f : A → B) (xs : List A) (a : A) (p : B) → xs ≡ a ∷ [] → f a ≡ p → map f xs ≡ p ∷ []
one_image f xs a p items pa = ap (map f) items ∙ cc pa

pub three_images : {A B : Type 0} (f : A → B) (xs : List A) (a b c : A) (p q r : B) → xs ≡ a ∷ b ∷ c ∷ [] →
    f a ≡ p → f b ≡ q → f c ≡ r → map f xs ≡ p ∷ q ∷ r ∷ []
three_images f xs a b c p q r items pa pb pc = ap (map f) items ∙ cc (pa, pb, pc)

pub four_images : {A B : Type 0} (f : A → B) (xs : List A) (a b c d : A) (p q r s : B) → xs ≡ a ∷ b ∷ c ∷ d ∷ [] →
    f a ≡ p → f b ≡ q → f c ≡ r → f d ≡ s → map f xs ≡ p ∷ q ∷ r ∷ s ∷ []
four_images f xs a b c d p q r s items pa pb pc pd = ap (map f) items ∙ cc (pa, pb, pc, pd)
