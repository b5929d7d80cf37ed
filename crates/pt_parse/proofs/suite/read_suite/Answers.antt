use Rattle.std.proofs.Common.{sym, subst, arith}
use Rattle.pt_lex.specs.Lexing.{TokensOf}
use Rattle.pt_grammar.specs.Tokens.{IsText}
use Rattle.pt_parse.proofs.SuiteAnswers.{reads, bounded, numbered, faults}
use Rattle.pt_parse.proofs.suite.read_suite.Goals as goal

pub returns-in-Ok-read_whole-clause-reads : goal.returns-in-Ok-read_whole-clause-reads
returns-in-Ok-read_whole-clause-reads c =
    let tokens = c.as_slice.result.now in
    let lexed : TokensOf c.args.bytes.now tokens = subst (TokensOf c.args.bytes.now) (sym c.as_slice.ensures) c.in-Ok.ensures.tokens in
    let text : IsText tokens = record { real = c.tokens_end_once.ensures.real c.args.bytes.now tokens lexed; ends = c.tokens_end_once.ensures.once c.args.bytes.now tokens lexed } in
    reads c.args.bytes.now tokens lexed text _ c.in-Ok-read_whole.ensures

pub returns-in-Ok-read_whole-clause-bounded : goal.returns-in-Ok-read_whole-clause-bounded
returns-in-Ok-read_whole-clause-bounded c =
    let tokens = c.as_slice.result.now in
    let lexed : TokensOf c.args.bytes.now tokens = subst (TokensOf c.args.bytes.now) (sym c.as_slice.ensures) c.in-Ok.ensures.tokens in
    let text : IsText tokens = record { real = c.tokens_end_once.ensures.real c.args.bytes.now tokens lexed; ends = c.tokens_end_once.ensures.once c.args.bytes.now tokens lexed } in
    bounded c.args.bytes.now tokens lexed text _ c.in-Ok-read_whole.ensures

pub returns-in-Ok-read_whole-clause-numbered : goal.returns-in-Ok-read_whole-clause-numbered
returns-in-Ok-read_whole-clause-numbered c =
    let tokens = c.as_slice.result.now in
    let lexed : TokensOf c.args.bytes.now tokens = subst (TokensOf c.args.bytes.now) (sym c.as_slice.ensures) c.in-Ok.ensures.tokens in
    let text : IsText tokens = record { real = c.tokens_end_once.ensures.real c.args.bytes.now tokens lexed; ends = c.tokens_end_once.ensures.once c.args.bytes.now tokens lexed } in
    numbered c.args.bytes.now tokens lexed text _ c.in-Ok-read_whole.ensures (omega (arith, c.requires, c.tokens_end_once.ensures.few c.args.bytes.now tokens lexed))

pub returns-in-Err-At-clause-faults : goal.returns-in-Err-At-clause-faults
returns-in-Err-At-clause-faults c =
    let tokens = c.as_slice.result.now in
    let lexed : TokensOf c.args.bytes.now tokens = subst (TokensOf c.args.bytes.now) (sym c.as_slice.ensures) c.in-Ok.ensures.tokens in
    let text : IsText tokens = record { real = c.tokens_end_once.ensures.real c.args.bytes.now tokens lexed; ends = c.tokens_end_once.ensures.once c.args.bytes.now tokens lexed } in
    let given = rw c.in-Err-At.field-0-is at c.in-Err-At.ensures in
    rw (c.at.ensures, c.place.ensures) (faults c.args.bytes.now tokens lexed text c.in-Err-At.which c.in-Err-At.rest.now given)
