-- Words and marks as tables.
use Rattle.std.proofs.Common.{◌≡◌, ℕ, ◌≤◌, true, false, length, drop, take, List, ◌∷◌, Some, None, sym, refl}
use Rattle.std.proofs.lemmas.List.{drop_all}
use Rattle.pt_token.specs.declared.token.Kind.TheVariants as kind
use Rattle.pt_token.specs.declared.token.Mark.{Mark}
use Rattle.pt_token.specs.declared.token.Word.{Word}
use Rattle.pt_lex.specs.Marks.{mark_text}
use Rattle.pt_lex.specs.Words.{word_text}
use Rattle.pt_lex.specs.reading.Mark.{mark_among}
use Rattle.pt_lex.specs.reading.Word.{word_among, same_text}

pub mark_here : (mark : Mark) (marks : List Mark) (spelling text rest : List ℕ) → spelling ≡ mark_text mark → same_text (take (length spelling) text) spelling ≡ true → rest ≡ drop (length spelling) text
    → mark_among (mark ∷ marks) text ≡ (kind.Mark mark, rest)
unfolding mark_among
mark_here mark marks spelling text rest is same parts = rw (sym is, same, parts) refl

pub mark_passed : (mark : Mark) (marks : List Mark) (spelling text : List ℕ) → spelling ≡ mark_text mark → same_text (take (length spelling) text) spelling ≡ false → mark_among (mark ∷ marks) text ≡ mark_among marks text
unfolding mark_among
mark_passed mark marks spelling text is same = rw (sym is, same) refl

pub mark_none : (marks : List Mark) (i : ℕ) (text : List ℕ) → length marks ≤ i → mark_among (drop i marks) text ≡ (kind.Malformed, text)
unfolding mark_among
mark_none marks i text le = rw (drop_all i marks le) refl

pub word_here : (which : Word) (words : List Word) (spelling text : List ℕ) → spelling ≡ word_text which → same_text text spelling ≡ true → word_among (which ∷ words) text ≡ Some which
unfolding word_among
word_here which words spelling text is same = rw (sym is, same) refl

pub word_passed : (which : Word) (words : List Word) (spelling text : List ℕ) → spelling ≡ word_text which → same_text text spelling ≡ false → word_among (which ∷ words) text ≡ word_among words text
unfolding word_among
word_passed which words spelling text is same = rw (sym is, same) refl

pub word_none : (words : List Word) (i : ℕ) (text : List ℕ) → length words ≤ i → word_among (drop i words) text ≡ None
unfolding word_among
word_none words i text le = rw (drop_all i words le) refl
