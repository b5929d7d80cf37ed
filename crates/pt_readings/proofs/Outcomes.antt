-- What reading comes to, from the parts of a form to the whole.
use Rattle.std.proofs.Common.{◌≡◌, ℕ, Bool, true, false, List, [], ◌∷◌, ◌++◌, Result, Ok, Err, refl, sym, ap, subst, ◌∙◌, append_assoc}
use Rattle.std.specs.List.{AllByRecursion}
use Rattle.std.proofs.lemmas.List.{append-nil}
use Rattle.pt_token.specs.declared.token.Token.{Token}
use Rattle.pt_token.specs.declared.token.Kind.{Kind}
use Rattle.pt_grammar.specs.declared.sort.Sort.{Sort}
use Rattle.pt_grammar.specs.declared.sort.Sort.TheVariants as sort
use Rattle.pt_token.specs.Ending.{is_last}
use Rattle.pt_grammar.specs.Tokens.{IsReal}
use Rattle.pt_grammar.specs.Forms.{◌⨾◌, StandsInText}
use Rattle.pt_readings.specs.Faults.{Family, Begins, IsBefore}
use Rattle.pt_grammar.specs.Reading.{Fault, at, Reading, ◌>>=◌}

-- all of these stand in a text
abbrev pub AllReal : List Token → Type 0
AllReal = AllByRecursion IsReal

-- the end of a text is not among them
abbrev pub NoEnd : List Token → Type 0
NoEnd = AllByRecursion (λ (t : Token). is_last t.kind ≡ false)

pub no_end_join : (x y : List Token) → NoEnd x → NoEnd y → NoEnd (x ++ y)
no_end_join [] y h k = k
no_end_join (t ∷ ts) y h k = (h.0, no_end_join ts y h.1 k)

pub real_behind : (front rest : List Token) → AllReal (front ++ rest) → AllReal rest
real_behind [] rest all = all
real_behind (t ∷ ts) rest all = real_behind ts rest all.1

-- the first token, if there is one, is none with which the form would go on
abbrev pub Stops : (Kind → Bool) → List Token → Type 0
Stops on [] = Unit {0}
Stops on (token ∷ tokens) = on token.kind ≡ false

abbrev pub never : Kind → Bool
never which = false

pub stops_never : (tokens : List Token) → Stops never tokens
stops_never [] = tt
stops_never (t ∷ ts) = refl

-- some tree is spelled whatever is minded, by tokens that begin with none of a text
abbrev pub Some_of : {A : Type 0} → Family A → Type 0
Some_of {A} P = (a : A) × (ts : List Token) × ((s : Sort) → P s a ts) × (StandsInText ts → ⊥)

-- The tree is spelled at the front, whatever is minded. No other front of any tokens that are the same up to the first token of
-- the rest spells a tree, where what stands behind it stops the form.
pub record Found {A : Type 0} (P : Family A) (on : Kind → Bool) (tokens : List Token) (tree : A) (rest : List Token) : Type 0 where
  pub front : List Token
  pub spelled : (s : Sort) → P s tree front
  pub parts : tokens ≡ front ++ rest
  pub clean : NoEnd front
  pub only : (s : Sort) (other : A) (its z : List Token) (t : Token) (after more : List Token) → rest ≡ t ∷ after
      → P s other its → Stops on z → its ++ z ≡ front ++ t ∷ more → (other ≡ tree) × (z ≡ t ∷ more)

-- The tokens before the faulty one begin a tree, whatever is minded, and with it they begin none.
pub record Failed {A : Type 0} (P : Family A) (on : Kind → Bool) (tokens : List Token) (which : Sort) (bad : List Token) : Type 0 where
  pub front : List Token
  pub parts : tokens ≡ front ++ bad
  pub clean : NoEnd front
  pub begun : (a : A) × (more : List Token) × ((s : Sort) → P s a (front ++ more))
  pub reached : (t : Token) (after : List Token) → bad ≡ t ∷ after → (earlier : Sort) → IsBefore earlier which → Begins (P earlier) (front ++ t ∷ [])
  pub broken : (t : Token) (after : List Token) → bad ≡ t ∷ after → (s : Sort) → (IsBefore s which → ⊥) → (other : A) (its z more : List Token)
      → P s other its → Stops on z → its ++ z ≡ front ++ t ∷ more → ⊥

abbrev pub Outcome : {A : Type 0} → Family A → (Kind → Bool) → List Token → Reading A → Type 0
Outcome P on tokens (Ok found) = Found P on tokens found.0 found.1
Outcome P on tokens (Err fault) = Failed P on tokens fault.sort fault.rest

-- a form and its reader, which serves where something is given
pub record Form {A : Type 0} (C : Type 0) (P : Family A) (on : Kind → Bool) (read : List Token → Reading A) : Type 0 where
  pub some : Some_of P
  pub meets : C → (tokens : List Token) → AllReal tokens → Outcome P on tokens (read tokens)

unreal_join : (x y : List Token) → (StandsInText x → ⊥) → (StandsInText y → ⊥) → StandsInText (x ++ y) → ⊥
unreal_join [] y h k stands = k stands
unreal_join (t ∷ ts) y h k stands = h stands

pub real_rest : {A : Type 0} (P : Family A) (on : Kind → Bool) (tokens : List Token) (a : A) (rest : List Token) → Found P on tokens a rest → AllReal tokens → AllReal rest
real_rest P on tokens a rest h all = real_behind h.front rest (subst AllReal h.parts all)

-- the same, where more of the tokens behind the front is known
pub ahead : {A : Type 0} (P : Family A) (on : Kind → Bool) (tokens : List Token) (tree : A) (rest : List Token) (h : Found P on tokens tree rest)
    (behind : List Token) (t : Token) (after more : List Token) → rest ≡ behind ++ t ∷ after
    → (s : Sort) (other : A) (its z : List Token) → P s other its → Stops on z → its ++ z ≡ h.front ++ (behind ++ t ∷ more)
    → (other ≡ tree) × (z ≡ behind ++ t ∷ more)
ahead P on tokens tree rest h [] t after more is s other its z spelled stop same = h.only s other its z t after more is spelled stop same
ahead P on tokens tree rest h (u ∷ us) t after more is s other its z spelled stop same =
    h.only s other its z u (us ++ t ∷ after) (us ++ t ∷ more) is spelled stop same

-- one form and then another, which may depend on what the first spells
abbrev pub Seq : {A V : Type 0} → Family A → (A → Family V) → Family V
Seq {A} P Q s v ts = (a : A) × (P s a ⨾ Q a s v) ts

module _ {A V : Type 0} (P : Family A) (Q : A → Family V) (on off : Kind → Bool)
    (stops : (s : Sort) (a : A) (v : V) (ts z : List Token) → Q a s v ts → Stops off z → Stops on (ts ++ z))
    (some : (a : A) → Some_of (Q a)) where
  both : (tokens rest last : List Token) (a : A) (v : V) → Found P on tokens a rest → Found (Q a) off rest v last → Found (Seq P Q) off tokens v last
  both tokens rest last a v h k = record {
    front = h.front ++ k.front;
    spelled = λ s. (a, (h.front, k.front, h.spelled s, k.spelled s, refl));
    parts = h.parts ∙ ap (λ ts. h.front ++ ts) k.parts ∙ sym (append_assoc h.front k.front last);
    clean = no_end_join h.front k.front h.clean k.clean;
    only = λ s other its z t after more is spelled stop same.
        let x = spelled.1.0 in
        let y = spelled.1.1 in
        let whole : x ++ (y ++ z) ≡ h.front ++ (k.front ++ t ∷ more) =
        sym (append_assoc x y z) ∙ ap (λ ts. ts ++ z) (sym spelled.1.4) ∙ same ∙ append_assoc h.front k.front (t ∷ more) in
        let one = ahead P on tokens a rest h k.front t after more (k.parts ∙ ap (λ ts. k.front ++ ts) is) s spelled.0 x (y ++ z) spelled.1.2 (stops s spelled.0 other y z spelled.1.3 stop) whole in
        k.only s other y z t after more is (subst (λ b. Q b s other y) one.0 spelled.1.3) stop one.1;
  }

  second : (tokens rest bad : List Token) (which : Sort) (a : A) → Found P on tokens a rest → Failed (Q a) off rest which bad → Failed (Seq P Q) off tokens which bad
  second tokens rest bad which a h k = record {
    front = h.front ++ k.front;
    parts = h.parts ∙ ap (λ ts. h.front ++ ts) k.parts ∙ sym (append_assoc h.front k.front bad);
    clean = no_end_join h.front k.front h.clean k.clean;
    begun = (k.begun.0, k.begun.1, λ s. (a, (h.front, k.front ++ k.begun.1, h.spelled s, k.begun.2 s, append_assoc h.front k.front k.begun.1)));
    reached = λ t after is earlier before.
        let begun = k.reached t after is earlier before in (
          begun.0,
          begun.1,
          (
            a,
            (
              h.front,
              (k.front ++ t ∷ []) ++ begun.1,
              h.spelled earlier,
              begun.2,
              ap (λ ts. ts ++ begun.1) (append_assoc h.front k.front (t ∷ [])) ∙ append_assoc h.front (k.front ++ t ∷ []) begun.1,
            ),
          ),
        );
    broken = λ t after is s late other its z more spelled stop same.
        let x = spelled.1.0 in
        let y = spelled.1.1 in
        let whole : x ++ (y ++ z) ≡ h.front ++ (k.front ++ t ∷ more) =
        sym (append_assoc x y z) ∙ ap (λ ts. ts ++ z) (sym spelled.1.4) ∙ same ∙ append_assoc h.front k.front (t ∷ more) in
        let one = ahead P on tokens a rest h k.front t after more (k.parts ∙ ap (λ ts. k.front ++ ts) is) s spelled.0 x (y ++ z) spelled.1.2 (stops s spelled.0 other y z spelled.1.3 stop) whole in
        k.broken t after is s late other y z more (subst (λ b. Q b s other y) one.0 spelled.1.3) stop one.1;
  }

  first : (tokens bad : List Token) (which : Sort) → Failed P on tokens which bad → Failed (Seq P Q) off tokens which bad
  first tokens bad which h = record {
    front = h.front;
    parts = h.parts;
    clean = h.clean;
    begun =
        let end = some h.begun.0 in
        (end.0, h.begun.1 ++ end.1, λ s. (h.begun.0, (h.front ++ h.begun.1, end.1, h.begun.2 s, end.2 s, sym (append_assoc h.front h.begun.1 end.1))));
    reached = λ t after is earlier before.
        let begun = h.reached t after is earlier before in
        let end = some begun.0 in
        (end.0, begun.1 ++ end.1, (begun.0, ((h.front ++ t ∷ []) ++ begun.1, end.1, begun.2, end.2 earlier, sym (append_assoc (h.front ++ t ∷ []) begun.1 end.1))));
    broken = λ t after is s late other its z more spelled stop same.
        let x = spelled.1.0 in
        let y = spelled.1.1 in
        let whole : x ++ (y ++ z) ≡ h.front ++ t ∷ more = sym (append_assoc x y z) ∙ ap (λ ts. ts ++ z) (sym spelled.1.4) ∙ same in
        h.broken t after is s late spelled.0 x (y ++ z) more spelled.1.2 (stops s spelled.0 other y z spelled.1.3 stop) whole;
  }

  pub seq : (tokens : List Token) (r : Reading A) (g : A → List Token → Reading V) → Outcome P on tokens r
      → ((a : A) (rest : List Token) → Found P on tokens a rest → Outcome (Q a) off rest (g a rest)) → Outcome (Seq P Q) off tokens (r >>= λ x. g x.0 x.1)
  seq tokens (Err fault) g h next = first tokens fault.rest fault.sort h
  seq tokens (Ok found) g h next = behind (g found.0 found.1) (next found.0 found.1 h) where
    behind : (w : Reading V) → Outcome (Q found.0) off found.1 w → Outcome (Seq P Q) off tokens w
    behind (Ok last) k = both tokens found.1 last.1 found.0 last.0 h k
    behind (Err fault) k = second tokens found.1 fault.rest fault.sort found.0 h k

  pub seq_form : (C : Type 0) (r : List Token → Reading A) (g : A → List Token → Reading V) → Form C P on r → ((a : A) → Form C (Q a) off (g a))
      → Form C (Seq P Q) off (λ tokens. r tokens >>= λ x. g x.0 x.1)
  seq_form C r g f k = record {
    some = let one = f.some in let two = some one.0 in (two.0, one.1 ++ two.1, λ s. (one.0, (one.1, two.1, one.2 s, two.2 s, refl)), unreal_join one.1 two.1 one.3 two.3);
    meets = λ c tokens real. seq tokens (r tokens) g (f.meets c tokens real) (λ a rest h. (k a).meets c rest (real_rest P on tokens a rest h real));
  }
