-- Marks.
use Rattle.std.proofs.Common.{◌≡◌, ◌⊎◌, ℕ, Bool, true, false, ◌&&◌, ◌≤◌, nat_le, List, [], ◌∷◌, ◌++◌, length, take, drop, inl, inr, refl, sym, ap, subst, ◌∙◌, arith}
use Rattle.std.specs.List.{list_all}
use Rattle.std.proofs.lemmas.List.{take_at, take-append-drop}
use Rattle.pt_token.specs.declared.token.Kind.{Kind}
use Rattle.pt_token.specs.declared.token.Kind.TheVariants as kind
use Rattle.pt_token.specs.declared.token.Mark.{Mark}
use Rattle.pt_token.specs.declared.token.Mark.TheVariants as mark
use Rattle.pt_ast.specs.declared.expr.CompareOp.TheVariants as compare
use Rattle.pt_lex.specs.Marks.{mark_text}
use Rattle.pt_lex.specs.Tokens.{Spelled, BeginsBytes}
use Rattle.pt_lex.specs.reading.Mark.{all_marks, mark_among, mark_token}
use Rattle.pt_lex.specs.reading.Word.{same_text}
use Rattle.pt_lex.proofs.Tables.{mark_here, mark_passed}
use Rattle.pt_lex.proofs.Fronts.{and_left, and_right}
use Rattle.pt_lex.proofs.WordLaws.{same_means}
use Rattle.pt_lex.proofs.Taking.{Found, Marking, sort_at, sort_of, sort_there, Starts, marks_start}

pub In : Mark → List Mark → Type 0
In which [] = ⊥
In which (other ∷ others) = (which ≡ other) ⊎ In which others

marks_in : (which : Mark) → In which all_marks
unfolding In
marks_in (mark.Compare compare.Eq) = inl refl
marks_in (mark.Compare compare.Ne) = inr (inl refl)
marks_in (mark.Compare compare.Le) = inr (inr (inl refl))
marks_in (mark.Compare compare.Ge) = inr (inr (inr (inl refl)))
marks_in mark.OpenBrace = inr (inr (inr (inr (inl refl))))
marks_in mark.CloseBrace = inr (inr (inr (inr (inr (inl refl)))))
marks_in mark.OpenParen = inr (inr (inr (inr (inr (inr (inl refl))))))
marks_in mark.CloseParen = inr (inr (inr (inr (inr (inr (inr (inl refl)))))))
marks_in mark.OpenBracket = inr (inr (inr (inr (inr (inr (inr (inr (inl refl))))))))
marks_in mark.CloseBracket = inr (inr (inr (inr (inr (inr (inr (inr (inr (inl refl)))))))))
marks_in mark.Comma = inr (inr (inr (inr (inr (inr (inr (inr (inr (inr (inl refl))))))))))
marks_in mark.Semicolon = inr (inr (inr (inr (inr (inr (inr (inr (inr (inr (inr (inl refl)))))))))))
marks_in mark.Colon = inr (inr (inr (inr (inr (inr (inr (inr (inr (inr (inr (inr (inl refl))))))))))))
marks_in mark.Dot = inr (inr (inr (inr (inr (inr (inr (inr (inr (inr (inr (inr (inr (inl refl)))))))))))))
marks_in mark.Assign = inr (inr (inr (inr (inr (inr (inr (inr (inr (inr (inr (inr (inr (inr (inl refl))))))))))))))
marks_in (mark.Compare compare.Lt) = inr (inr (inr (inr (inr (inr (inr (inr (inr (inr (inr (inr (inr (inr (inr (inl refl)))))))))))))))
marks_in (mark.Compare compare.Gt) = inr (inr (inr (inr (inr (inr (inr (inr (inr (inr (inr (inr (inr (inr (inr (inr (inl refl))))))))))))))))
marks_in mark.Plus = inr (inr (inr (inr (inr (inr (inr (inr (inr (inr (inr (inr (inr (inr (inr (inr (inr (inl refl)))))))))))))))))
marks_in mark.Star = inr (inr (inr (inr (inr (inr (inr (inr (inr (inr (inr (inr (inr (inr (inr (inr (inr (inr (inl refl))))))))))))))))))
marks_in mark.Slash = inr (inr (inr (inr (inr (inr (inr (inr (inr (inr (inr (inr (inr (inr (inr (inr (inr (inr (inr (inl refl)))))))))))))))))))
marks_in mark.Percent = inr (inr (inr (inr (inr (inr (inr (inr (inr (inr (inr (inr (inr (inr (inr (inr (inr (inr (inr (inr (inl refl))))))))))))))))))))

-- what is read of a mark's own spelling
marks_read : (which : Mark) → mark_token (mark_text which) ≡ (kind.Mark which, [])
unfolding mark_among
marks_read (mark.Compare compare.Eq) = refl
marks_read (mark.Compare compare.Ne) = refl
marks_read (mark.Compare compare.Le) = refl
marks_read (mark.Compare compare.Ge) = refl
marks_read mark.OpenBrace = refl
marks_read mark.CloseBrace = refl
marks_read mark.OpenParen = refl
marks_read mark.CloseParen = refl
marks_read mark.OpenBracket = refl
marks_read mark.CloseBracket = refl
marks_read mark.Comma = refl
marks_read mark.Semicolon = refl
marks_read mark.Colon = refl
marks_read mark.Dot = refl
marks_read mark.Assign = refl
marks_read (mark.Compare compare.Lt) = refl
marks_read (mark.Compare compare.Gt) = refl
marks_read mark.Plus = refl
marks_read mark.Star = refl
marks_read mark.Slash = refl
marks_read mark.Percent = refl

marks_small : (which : Mark) → mark_text which ≡ 120 ∷ [] → ⊥
unfolding Starts
marks_small which e = let h : sort_at 120 ≡ Marking = subst (Starts Marking) e (marks_start which) in absurd cc

-- the longer ones stand first
is_sorted : List Mark → Bool
is_sorted [] = true
is_sorted (which ∷ others) = list_all (λ other. nat_le (length (mark_text other)) (length (mark_text which))) others && is_sorted others

marks_sorted : is_sorted all_marks ≡ true
unfolding is_sorted
marks_sorted = refl

same_itself : (xs : List ℕ) → same_text xs xs ≡ true
same_itself [] = refl
same_itself (x ∷ xs) = grind (arith, same_itself xs)

pub starts_with_it : (spelling text : List ℕ) → same_text (take (length spelling) text) spelling ≡ true → text ≡ spelling ++ drop (length spelling) text
starts_with_it spelling text e = sym (take-append-drop (length spelling) text) ∙ ap (λ t. t ++ drop (length spelling) text) (same_means (take (length spelling) text) spelling e)

pub stripped : (spelling text rest : List ℕ) → same_text (take (length spelling) text) spelling ≡ true → rest ≡ drop (length spelling) text → text ≡ spelling ++ rest
stripped spelling text rest same is = starts_with_it spelling text same ∙ ap (λ r. spelling ++ r) (sym is)

found_there : (spelling rest : List ℕ) → same_text (take (length spelling) (spelling ++ rest)) spelling ≡ true
found_there spelling rest = subst (λ t. same_text t spelling ≡ true) (sym (take_at spelling rest (length spelling) refl)) (same_itself spelling)

shorter_in : (others : List Mark) (n : ℕ) (which : Mark) → list_all (λ other. nat_le (length (mark_text other)) n) others ≡ true → In which others → length (mark_text which) ≤ n
unfolding In
shorter_in [] n which all there = absurd there
shorter_in (o ∷ others) n which all (inl e) =
    let h : nat_le (length (mark_text o)) n ≡ true = and_left (nat_le (length (mark_text o)) n) (list_all (λ other. nat_le (length (mark_text other)) n) others) all in
    rw e (grind (arith, h))
shorter_in (o ∷ others) n which all (inr there) =
    shorter_in others n which (and_right (nat_le (length (mark_text o)) n) (list_all (λ other. nat_le (length (mark_text other)) n) others) all) there

-- what a table finds: the longest of its marks that stands there, or none stands there
pub data Finding (marks : List Mark) (text : List ℕ) : Kind × List ℕ → Type 0 where
  Hit : (which : Mark) (rest : List ℕ) → text ≡ mark_text which ++ rest → ((other : Mark) (more : List ℕ) → In other marks → text ≡ mark_text other ++ more → length (mark_text other) ≤ length (mark_text which))
      → Finding marks text (kind.Mark which, rest)
  Miss : ((other : Mark) (more : List ℕ) → In other marks → text ≡ mark_text other ++ more → ⊥) → Finding marks text (kind.Malformed, text)

search_marks : (marks : List Mark) (text : List ℕ) → is_sorted marks ≡ true → Finding marks text (mark_among marks text)
unfolding mark_among In is_sorted
search_marks [] text sorted = Miss (λ other more there e. there)
search_marks (m ∷ ms) text sorted = cases (same_text (take (length spelling) text) spelling) (search_marks ms text (and_right (list_all (λ other. nat_le (length (mark_text other)) (length spelling)) ms) (is_sorted ms) sorted)) refl where
  spelling : List ℕ
  spelling = mark_text m

  least : list_all (λ other. nat_le (length (mark_text other)) (length spelling)) ms ≡ true
  least = and_left (list_all (λ other. nat_le (length (mark_text other)) (length spelling)) ms) (is_sorted ms) sorted

  within : (other : Mark) (more : List ℕ) → In other (m ∷ ms) → text ≡ mark_text other ++ more → length (mark_text other) ≤ length spelling
  within other more (inl e) parts = rw e (omega arith)
  within other more (inr there) parts = shorter_in ms (length spelling) other least there

  passed : (x : Kind × List ℕ) → same_text (take (length spelling) text) spelling ≡ false → Finding ms text x → Finding (m ∷ ms) text x
  passed x no_match (Hit which rest parts longest) = Hit which rest parts longer where
    longer : (other : Mark) (more : List ℕ) → In other (m ∷ ms) → text ≡ mark_text other ++ more → length (mark_text other) ≤ length (mark_text which)
    longer other more (inl e) is = absurd (no yes) where
      no : same_text (take (length spelling) text) spelling ≡ true → ⊥
      no h = absurd cc

      yes : same_text (take (length spelling) text) spelling ≡ true
      yes = subst (λ b. same_text (take (length spelling) b) spelling ≡ true) (sym (is ∙ ap (λ m. mark_text m ++ more) e)) (found_there spelling more)
    longer other more (inr there) is = longest other more there is
  passed x no_match (Miss none) = Miss still where
    still : (other : Mark) (more : List ℕ) → In other (m ∷ ms) → text ≡ mark_text other ++ more → ⊥
    still other more (inl e) is = absurd (no yes) where
      no : same_text (take (length spelling) text) spelling ≡ true → ⊥
      no h = absurd cc

      yes : same_text (take (length spelling) text) spelling ≡ true
      yes = subst (λ b. same_text (take (length spelling) b) spelling ≡ true) (sym (is ∙ ap (λ m. mark_text m ++ more) e)) (found_there spelling more)
    still other more (inr there) is = none other more there is

  cases : (b : Bool) → Finding ms text (mark_among ms text) → same_text (take (length spelling) text) spelling ≡ b → Finding (m ∷ ms) text (mark_among (m ∷ ms) text)
  cases true more e = subst (λ x. Finding (m ∷ ms) text x) (sym (mark_here m ms spelling text (drop (length spelling) text) refl e refl)) (Hit m (drop (length spelling) text) (starts_with_it spelling text e) within)
  cases false more e = subst (λ x. Finding (m ∷ ms) text x) (sym (mark_passed m ms spelling text refl e)) (passed (mark_among ms text) e more)

only_mark : (which other : Mark) → mark_text which ≡ mark_text other → which ≡ other
only_mark which other e = let h : ◌≡◌ {A = Kind × List ℕ} (kind.Mark which, []) (kind.Mark other, []) = sym (marks_read which) ∙ ap mark_token e ∙ marks_read other in let k : kind.Mark which ≡ kind.Mark other = ap (λ x. x.0) h in cc

-- one mark is spelled so
pub only_marked : (which other : Kind) (lexeme : List ℕ) → Spelled which lexeme → Spelled other lexeme → sort_of which ≡ Marking → sort_of other ≡ Marking → which ≡ other
only_marked (kind.Mark which) (kind.Mark other) lexeme s t e k = ap (λ m. kind.Mark m) (only_mark which other (sym s ∙ t))
only_marked (kind.Mark which) other lexeme s t e k = absurd cc
only_marked which other lexeme s t e k = absurd cc

pub mark_outcome : (first : ℕ) (text : List ℕ) → sort_at first ≡ Marking → Found (first ∷ text) (mark_token (first ∷ text))
mark_outcome first text sort = from (mark_token (first ∷ text)) (search_marks all_marks (first ∷ text) marks_sorted) where
  only_here : (which : Mark) (other : Kind) → Spelled other (mark_text which) → sort_of other ≡ Marking → other ≡ kind.Mark which
  only_here which (kind.Mark other) s e = ap (λ m. kind.Mark m) (only_mark other which (sym s))
  only_here which other s e = absurd cc

  none_longer : (which : Mark) → ((other : Mark) (more : List ℕ) → In other all_marks → first ∷ text ≡ mark_text other ++ more → length (mark_text other) ≤ length (mark_text which))
      → (other : Kind) (longer more : List ℕ) → Spelled other longer → first ∷ text ≡ longer ++ more → sort_of other ≡ Marking → length longer ≤ length (mark_text which)
  none_longer which longest (kind.Mark other) longer more s e k = rw s (longest other more (marks_in other) (e ∙ ap (λ l. l ++ more) s))
  none_longer which longest other longer more s e k = absurd cc

  refused : ((other : Mark) (more : List ℕ) → In other all_marks → first ∷ text ≡ mark_text other ++ more → ⊥)
      → (which : Kind) (lexeme rest : List ℕ) → Spelled which lexeme → first ∷ text ≡ lexeme ++ rest → sort_of which ≡ Marking → BeginsBytes lexeme rest
  refused none (kind.Mark which) lexeme rest s e k = absurd (none which rest (marks_in which) (e ∙ ap (λ l. l ++ rest) s))
  refused none which lexeme rest s e k = absurd cc

  from : (x : Kind × List ℕ) → Finding all_marks (first ∷ text) x → Found (first ∷ text) x
  from x (Hit which rest parts longest) = inl (record {
    lexeme = mark_text which;
    parts = parts;
    spelled = refl;
    apart = λ b. marks_small which b.0;
    longest = λ other longer more s e. none_longer which longest other longer more s e (sort_there other first text longer more s e ∙ sort);
    tells = tt;
    only = λ other s tells. only_here which other s (sort_there other first text (mark_text which) rest s parts ∙ sort);
  })
  from x (Miss none) = inr (refl, λ which lexeme rest s e. refused none which lexeme rest s e (sort_there which first text lexeme rest s e ∙ sort))
