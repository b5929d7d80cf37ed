use Rattle.std.proofs.Common.{ℕ, List, ◌≡◌}
use Rattle.std.specs.Borrow.{Bor}
use Rattle.pt_token.specs.declared.token.Kind.{Kind}
use Rattle.pt_lex.specs.Outcome.{Outcome}
use Rattle.pt_lex.specs.reading.Word.{word_token}
use Rattle.pt_lex.proofs.ReadLaws.{if_ok, word_read}
use Rattle.pt_lex.proofs.lexing.read_lettered.Goals as goal

pub returns : goal.returns
returns c =
    let text = c.args.text.now in
    let P : Kind × Bor (List ℕ) → Type 0 = λ x. ◌≡◌ {A = Kind × List ℕ} (x.0, x.1.now) (word_token text) in
    if_ok c.read_word.result P (λ x. Outcome text x.0 x.1.now) (λ x e. word_read text (x.0, x.1.now) c.requires c.in_default.ensures.cases e) c.read_word.ensures
