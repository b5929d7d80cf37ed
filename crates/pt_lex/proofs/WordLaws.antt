-- Reserved words and names.
use Rattle.std.proofs.Common.{◌≡◌, ◌≢◌, ℕ, Bool, true, false, if◌then◌else◌, ◌≤◌, ◌<◌, ◌-◌, nat_le, nat_lt, nat_eq, List, [], ◌∷◌, ◌++◌, length, Option, Some, None, inl, refl, sym, ap, subst, ◌∙◌, arith, length-append}
use Rattle.std.specs.List.{list_all}
use Rattle.std.specs.Cmp.Lexicographic.{pointwise}
use Rattle.std.proofs.lemmas.List.{take_at}
use Rattle.pt_val.specs.Name.{is_letter, is_name, is_name_byte}
use Rattle.pt_token.specs.declared.token.Kind.{Kind}
use Rattle.pt_token.specs.declared.token.Kind.TheVariants as kind
use Rattle.pt_token.specs.declared.token.Word.{Word}
use Rattle.pt_token.specs.declared.token.Word.TheVariants as word
use Rattle.pt_ast.specs.declared.expr.Binder.TheVariants as binder
use Rattle.pt_ast.specs.declared.expr.Func.TheVariants as func
use Rattle.pt_lex.specs.Outcome.{StartsLetter}
use Rattle.pt_lex.specs.Tokens.{Spelled, BeginsBytes, TellsNumber}
use Rattle.pt_lex.specs.Words.{is_word, word_text}
use Rattle.pt_lex.specs.reading.Word.{behind_word, before, same_text, all_words, word_among, named, word_token}
use Rattle.pt_lex.proofs.Tables.{word_here, word_passed}
use Rattle.pt_lex.proofs.Fronts.{Stops, and_left, and_right, no_longer}
use Rattle.pt_lex.proofs.Taking.{Found, Wordlike, sort_at, sort_of, sort_there, words_are_words}

-- what a word's end leaves
pub record Cut (test : ℕ → Bool) (text rest : List ℕ) : Type 0 where
  pub front : List ℕ
  pub parts : text ≡ front ++ rest
  pub all : list_all test front ≡ true
  pub stops : Stops test rest

word_cut : (text : List ℕ) → Cut is_name_byte text (behind_word text)
word_cut [] = record { front = []; parts = refl; all = refl; stops = tt }
word_cut (char ∷ text) = cases (is_name_byte char) (word_cut text) refl where
  cases : (b : Bool) → Cut is_name_byte text (behind_word text) → is_name_byte char ≡ b → Cut is_name_byte (char ∷ text) (if is_name_byte char then behind_word text else char ∷ text)
  cases true more e =
      rw e (record { front = char ∷ more.front; parts = ap (λ l. char ∷ l) more.parts; all = rw (e, more.all) refl; stops = more.stops })
  cases false more e = rw e (record { front = []; parts = refl; all = refl; stops = e })

pub before_is : (front rest : List ℕ) → before rest (front ++ rest) ≡ front
before_is front rest = take_at front rest (length (front ++ rest) - length rest) (omega (arith, length-append front rest))

-- equal text
pub same_means : (xs ys : List ℕ) → same_text xs ys ≡ true → xs ≡ ys
same_means xs ys e = nat_pointwise xs ys e where
  nat_pointwise : (xs ys : List ℕ) → pointwise nat_eq xs ys ≡ true → xs ≡ ys
  nat_pointwise [] [] e = refl
  nat_pointwise [] (y ∷ ys) e = absurd cc
  nat_pointwise (x ∷ xs) [] e = absurd cc
  nat_pointwise (x ∷ xs) (y ∷ ys) e =
      let h : x ≡ y = eqb_means x y (and_left (nat_eq x y) (pointwise nat_eq xs ys) e) in
      rw (h, nat_pointwise xs ys (and_right (nat_eq x y) (pointwise nat_eq xs ys) e)) refl where
        eqb_means : (x y : ℕ) → nat_eq x y ≡ true → x ≡ y
        eqb_means x y e = grind (arith, e)

pub found_means : (words : List Word) (text : List ℕ) (which : Word) → word_among words text ≡ Some which → text ≡ word_text which
unfolding word_among
found_means [] text which e = absurd cc
found_means (w ∷ words) text which e = cases (same_text text (word_text w)) (found_means words text which) refl where
  cases : (b : Bool) → (word_among words text ≡ Some which → text ≡ word_text which) → same_text text (word_text w) ≡ b → text ≡ word_text which
  cases true more s = let h : Some w ≡ Some which = sym (word_here w words (word_text w) text refl s) ∙ e in let k : w ≡ which = cc in subst (λ x. text ≡ word_text x) k (same_means text (word_text w) s)
  cases false more s = more (sym (word_passed w words (word_text w) text refl s) ∙ e)

words_found : (which : Word) → word_among all_words (word_text which) ≡ Some which
unfolding word_among
words_found word.Property = refl
words_found word.Machine = refl
words_found word.Check = refl
words_found word.Runs = refl
words_found word.Shrink = refl
words_found word.Steps = refl
words_found word.State = refl
words_found word.Bundle = refl
words_found word.Invariant = refl
words_found word.Rule = refl
words_found word.When = refl
words_found word.Into = refl
words_found word.Draw = refl
words_found word.Let = refl
words_found word.Assume = refl
words_found word.Assert = refl
words_found word.Pick = refl
words_found word.From = refl
words_found word.Set = refl
words_found word.Give = refl
words_found word.If = refl
words_found word.Then = refl
words_found word.Else = refl
words_found word.And = refl
words_found word.Or = refl
words_found word.Not = refl
words_found word.True = refl
words_found word.False = refl
words_found word.Ints = refl
words_found word.Bools = refl
words_found word.Texts = refl
words_found word.Blobs = refl
words_found word.SampledFrom = refl
words_found word.Lists = refl
words_found word.Tuples = refl
words_found word.OneOf = refl
words_found word.Map = refl
words_found word.Filter = refl
words_found word.FlatMap = refl
words_found word.Recursive = refl
words_found word.Again = refl
words_found word.Int = refl
words_found word.Bool = refl
words_found word.Text = refl
words_found word.Bytes = refl
words_found word.Tree = refl
words_found word.List = refl
words_found word.Tuple = refl
words_found (word.Func func.Len) = refl
words_found (word.Func func.Has) = refl
words_found (word.Func func.Sum) = refl
words_found (word.Func func.Cat) = refl
words_found (word.Func func.Rev) = refl
words_found (word.Func func.Leaf) = refl
words_found (word.Func func.Node) = refl
words_found (word.Func func.Label) = refl
words_found (word.Func func.Kids) = refl
words_found (word.Func func.Labels) = refl
words_found (word.Binder binder.All) = refl
words_found (word.Binder binder.Any) = refl
words_found (word.Binder binder.Each) = refl

not_reserved : (text : List ℕ) → ((which : Word) → text ≢ word_text which) → (o : Option Word) → word_among all_words text ≡ o → o ≡ None
not_reserved text differ None e = refl
not_reserved text differ (Some which) e = absurd (differ which (found_means all_words text which e))

lt_no : (a b : ℕ) → a ≤ b → nat_lt b a ≡ false
lt_no a b le = grind (arith, le)

lt_yes : (a b : ℕ) → b < a → nat_lt b a ≡ true
lt_yes a b lt = grind (arith, lt)

-- no bytes are spelled so
abbrev pub IsUnhexed : List ℕ → Type 0
IsUnhexed lexeme = (inside : List ℕ) → lexeme ≡ 120 ∷ 34 ∷ inside → ⊥

-- what spells a word is what is read
pub only_named : (which : Kind) (lexeme : List ℕ) → IsUnhexed lexeme → Spelled which lexeme → sort_of which ≡ Wordlike → which ≡ named lexeme (word_among all_words lexeme)
only_named (kind.Word which) lexeme apart s e = rw s (rw (words_found which) refl)
only_named (kind.Name name) lexeme apart s e = rw (s.1, not_reserved lexeme s.0.1 (word_among all_words lexeme) refl) (rw (lt_no (length lexeme) 40 s.2) refl)
only_named kind.LongName lexeme apart s e = rw (not_reserved lexeme s.0.1 (word_among all_words lexeme) refl) (rw (lt_yes (length lexeme) 40 s.1) refl)
only_named (kind.Bytes bytes) lexeme apart s e = absurd (apart s.0.0 s.0.2)
only_named kind.LongBytes lexeme apart s e = absurd (apart s.1.0 s.1.2)
only_named other lexeme apart s e = absurd cc

pub named_spelled : (lexeme : List ℕ) → is_word lexeme ≡ true → Spelled (named lexeme (word_among all_words lexeme)) lexeme
named_spelled lexeme formed = cases (word_among all_words lexeme) refl where
  none_is : word_among all_words lexeme ≡ None → (which : Word) → lexeme ≢ word_text which
  none_is e which is = let h : word_among all_words lexeme ≡ Some which = ap (word_among all_words) is ∙ words_found which in absurd cc

  sized : (b : Bool) → nat_lt 40 (length lexeme) ≡ b → word_among all_words lexeme ≡ None → Spelled (if nat_lt 40 (length lexeme) then kind.LongName else kind.Name lexeme) lexeme
  sized true long e = rw long ((formed, none_is e), grind (arith, long))
  sized false short e = rw short ((formed, none_is e), refl, grind (arith, short))

  cases : (o : Option Word) → word_among all_words lexeme ≡ o → Spelled (named lexeme (word_among all_words lexeme)) lexeme
  cases (Some which) e = rw e (found_means all_words lexeme which e)
  cases None e = rw e (sized (nat_lt 40 (length lexeme)) refl e)

-- the form of a word
form_of : (which : Kind) (lexeme : List ℕ) → IsUnhexed lexeme → Spelled which lexeme → sort_of which ≡ Wordlike → is_word lexeme ≡ true
form_of (kind.Word which) lexeme apart s e = ap is_word s ∙ words_are_words which
form_of (kind.Name name) lexeme apart s e = s.0.0
form_of kind.LongName lexeme apart s e = s.0.0
form_of (kind.Bytes bytes) lexeme apart s e = absurd (apart s.0.0 s.0.2)
form_of kind.LongBytes lexeme apart s e = absurd (apart s.1.0 s.1.2)
form_of other lexeme apart s e = absurd cc

letter_within : (char : ℕ) → is_letter char ≡ true → is_name_byte char ≡ true
letter_within char e = rw e refl

all_within : (lexeme : List ℕ) → is_word lexeme ≡ true → list_all is_name_byte lexeme ≡ true
all_within [] e = absurd cc
all_within (first ∷ rest) e =
    rw (letter_within first (and_left (is_letter first) (list_all is_name_byte rest) e), and_right (is_letter first) (list_all is_name_byte rest) e) refl

-- a front that begins with a letter has the form of a word
formed : (first : ℕ) (text front rest : List ℕ) → is_letter first ≡ true → first ∷ text ≡ front ++ rest → list_all is_name_byte front ≡ true → Stops is_name_byte rest → is_word front ≡ true
formed first text [] [] letter e all stops = absurd cc
formed first text [] (b ∷ rest) letter e all stops =
    let same : b ≡ first = cc in
    let no : is_name_byte first ≡ false = subst (λ x. is_name_byte x ≡ false) same stops in
    let yes : is_name_byte first ≡ true = letter_within first letter in
    absurd cc
formed first text (b ∷ front) rest letter e all stops =
    let same : b ≡ first = cc in
    rw (same, letter) (and_right (is_name_byte b) (list_all is_name_byte front) all)

named_tells : (front rest : List ℕ) (o : Option Word) → TellsNumber (named front o) rest
named_tells front rest (Some which) = tt
named_tells front rest None = sized (nat_lt 40 (length front)) refl where
  sized : (b : Bool) → nat_lt 40 (length front) ≡ b → TellsNumber (if nat_lt 40 (length front) then kind.LongName else kind.Name front) rest
  sized true e = rw e tt
  sized false e = rw e tt

-- a front of a text that does not begin bytes
unhexed : (text lexeme rest : List ℕ) → ((inside : List ℕ) → text ≡ 120 ∷ 34 ∷ inside → ⊥) → text ≡ lexeme ++ rest → IsUnhexed lexeme
unhexed text lexeme rest apart e inside is = apart (inside ++ rest) (e ∙ ap (λ l. l ++ rest) is)

pub word_outcome : (first : ℕ) (text : List ℕ) → is_letter first ≡ true → ((inside : List ℕ) → first ∷ text ≡ 120 ∷ 34 ∷ inside → ⊥) → Found (first ∷ text) (word_token (first ∷ text))
unfolding word_token
word_outcome first text letter apart = at_front (word_cut (first ∷ text)) where
  sort_is : sort_at first ≡ Wordlike
  sort_is = rw letter refl

  at_front : Cut is_name_byte (first ∷ text) (behind_word (first ∷ text)) → Found (first ∷ text) (word_token (first ∷ text))
  at_front c = rw is (inl (record {
    lexeme = c.front;
    parts = c.parts;
    spelled = named_spelled c.front (formed first text c.front rest letter c.parts c.all c.stops);
    apart = begins_none;
    longest = none_longer;
    only = λ other s tells. only_named other c.front (unhexed (first ∷ text) c.front rest apart c.parts) s (sort_there other first text c.front rest s c.parts ∙ sort_is);
    tells = named_tells c.front rest (word_among all_words c.front);
  })) where
    rest : List ℕ
    rest = behind_word (first ∷ text)

    is : before rest (first ∷ text) ≡ c.front
    is = ap (before rest) c.parts ∙ before_is c.front rest

    none_longer : (other : Kind) (longer more : List ℕ) → Spelled other longer → first ∷ text ≡ longer ++ more → length longer ≤ length c.front
    none_longer other longer more s e =
        no_longer is_name_byte c.front rest longer more c.stops
        (all_within longer (form_of other longer (unhexed (first ∷ text) longer more apart e) s (sort_there other first text longer more s e ∙ sort_is))) (sym c.parts ∙ e)

    begins_none : BeginsBytes c.front rest → ⊥
    begins_none (x, (more, quote)) = apart more (c.parts ∙ ap (λ f. f ++ rest) x ∙ ap (λ r. 120 ∷ r) quote)

-- what stands before the end of a word is a word
pub word_formed : (text : List ℕ) → StartsLetter text → is_word (before (behind_word text) text) ≡ true
word_formed [] letter = absurd letter
word_formed (first ∷ text) letter =
    let c = word_cut (first ∷ text) in
    subst (λ w. is_word w ≡ true) (sym (ap (before (behind_word (first ∷ text))) c.parts ∙ before_is c.front (behind_word (first ∷ text))))
    (formed first text c.front (behind_word (first ∷ text)) letter c.parts c.all c.stops)

-- a word of at most 40 characters has the form of a name
pub short_word : (text : List ℕ) → is_word text ≡ true → length text ≤ 40 → is_name text ≡ true
short_word [] formed le = absurd cc
short_word (first ∷ rest) formed le =
    let short : nat_le (length rest) 39 ≡ true = grind (arith, le) in
    rw (and_left (is_letter first) (list_all is_name_byte rest) formed, and_right (is_letter first) (list_all is_name_byte rest) formed, short) refl
