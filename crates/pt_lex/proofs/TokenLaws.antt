-- One token at the front.
use Rattle.std.proofs.Common.{◌≡◌, ℕ, List, ◌++◌, refl, sym, subst, ◌∙◌, arith}
use Rattle.pt_token.specs.declared.token.Kind.{Kind}
use Rattle.pt_lex.specs.Outcome.{Refused, Takes}
use Rattle.pt_lex.specs.Tokens.{IsToken, Spelled, TellsNumber}
use Rattle.pt_lex.proofs.Fronts.{same_front}
use Rattle.pt_lex.proofs.HexedLaws.{only_lettered}
use Rattle.pt_lex.proofs.MarkLaws.{only_marked}
use Rattle.pt_lex.proofs.MinusLaws.{only_minus}
use Rattle.pt_lex.proofs.NumberLaws.{only_value}
use Rattle.pt_lex.proofs.Taking.{Sort, Wordlike, Numeric, Textual, Signed, Marking, Nothing, nothing_spelled, same_sort, sort_of}
use Rattle.pt_lex.proofs.TextLaws.{only_text}

-- one kind of token is spelled so, where this follows it
one_kind : (which other : Kind) (lexeme rest : List ℕ) → Spelled which lexeme → Spelled other lexeme → TellsNumber which rest → TellsNumber other rest → which ≡ other
one_kind which other lexeme rest s t tells also = by (sort_of which) refl (sym (same_sort which other lexeme s t)) where
  by : (sort : Sort) → sort_of which ≡ sort → sort_of other ≡ sort_of which → which ≡ other
  by Wordlike e same = only_lettered which other lexeme s t e (same ∙ e)
  by Numeric e same = only_value which lexeme s e ∙ sym (only_value other lexeme t (same ∙ e))
  by Textual e same = only_text which other lexeme s t e (same ∙ e)
  by Signed e same = only_minus rest which e tells ∙ sym (only_minus rest other (same ∙ e) also)
  by Marking e same = only_marked which other lexeme s t e (same ∙ e)
  by Nothing e same = absurd (nothing_spelled which lexeme s e)

-- what is taken is a token
pub takes_token : (which : Kind) (text rest : List ℕ) (t : Takes which text rest) → IsToken which t.lexeme rest
takes_token which text rest t = record {
  spelled = t.spelled;
  longest = λ other longer more s e. t.longest other longer more s (t.parts ∙ e);
  apart = t.apart;
  tells = t.tells;
}

pub none_there : (text : List ℕ) → Refused text → (which : Kind) (lexeme more : List ℕ) → IsToken which lexeme more → text ≡ lexeme ++ more → ⊥
none_there text refused which lexeme more token e = token.apart (refused which lexeme more token.spelled e)

-- one token stands there
pub same_token : (which : Kind) (lexeme rest : List ℕ) (other : Kind) (longer more : List ℕ) → IsToken which lexeme rest → IsToken other longer more → lexeme ++ rest ≡ longer ++ more
    → (which ≡ other) × (lexeme ≡ longer) × (rest ≡ more)
same_token which lexeme rest other longer more token also e =
    let up = token.longest other longer more also.spelled e in
    let down = also.longest which lexeme rest token.spelled (sym e) in
    let same = same_front lexeme rest longer more e (omega arith) in
    (one_kind which other lexeme rest token.spelled (subst (Spelled other) (sym same.0) also.spelled) token.tells (subst (TellsNumber other) (sym same.1) also.tells), same.0, same.1)
