-- Blocks one after another on an output.
use Rattle.std.proofs.Common.{◌≡◌, ℕ, Option, Some, None, List, [], ◌∷◌, ◌++◌, take, refl, sym, ◌∙◌, ap, append_assoc, append-nil}
use Rattle.pt_found.specs.declared.finding.Finding.{Finding}
use Rattle.pt_io.specs.Sink.{Appends, AppendsPart}
use Rattle.pt_report.specs.Report.{IsBlock, AreBlocks}
use Rattle.pt_turns.specs.Blocks.{AreWritten, AreWrittenAnd, AreWrittenAndPart, IsLastCut}

-- a piece after a piece
appends-both : (old mid new : Option (List ℕ)) (one other : List ℕ) → Appends old one mid → Appends mid other new → Appends old (one ++ other) new
appends-both None mid new one other first second = rw first at second
appends-both (Some bytes) mid new one other first second = (rw first at second) ∙ ap (λ all. Some all) (append_assoc bytes one other)

blocks-more : (findings : List Finding) (finding : Finding) (blocks block : List ℕ) → AreBlocks findings blocks → IsBlock finding block →
    AreBlocks (findings ++ finding ∷ []) (blocks ++ block)
blocks-more [] finding blocks block are is = (block, [], is, refl, (ap (λ text. text ++ block) are) ∙ sym (append-nil block))
blocks-more (first ∷ findings) finding blocks block are is = (
  are.0,
  are.1 ++ block,
  are.2,
  blocks-more findings finding are.1 block are.3 is,
  ap (λ text. text ++ block) are.4 ∙ append_assoc are.0 are.1 block,
)

-- nothing is written of no findings
pub none-written : (old : Option (List ℕ)) → AreWritten [] old old
none-written None = ([], refl, refl)
none-written (Some bytes) = ([], refl, ap (λ text. Some text) (sym (append-nil bytes)))

module _ (old mid new : Option (List ℕ)) (findings : List Finding) where
  -- a block more
  pub written-more : (all : List Finding) (finding : Finding) (block : List ℕ) → all ≡ findings ++ finding ∷ [] → AreWritten findings old mid →
      IsBlock finding block → Appends mid block new → AreWritten all old new
  written-more all finding block pushed written is more =
      rw pushed (written.0 ++ block, blocks-more findings finding written.0 block written.1 is, appends-both old mid new written.0 block written.2 more)

  -- a text after the blocks
  pub written-and : (text : List ℕ) → AreWritten findings old mid → Appends mid text new → AreWrittenAnd findings text old new
  written-and text written more = (written.0, written.1, appends-both old mid new written.0 text written.2 more)

  -- a first part of it
  pub written-and-part : (text : List ℕ) → AreWritten findings old mid → AppendsPart mid text new → AreWrittenAndPart findings text old new
  written-and-part text written part = (part.0, (written.0, written.1, appends-both old mid new written.0 (take part.0 text) written.2 part.1))

  -- a first part of a block more
  pub last-cut : (all : List Finding) (finding : Finding) (block : List ℕ) → all ≡ findings ++ finding ∷ [] → AreWritten findings old mid →
      IsBlock finding block → AppendsPart mid block new → IsLastCut all old new
  last-cut all finding block pushed written is part = record {
    before = findings;
    last = finding;
    those = pushed;
    block = block;
    its = is;
    written = written-and-part block written part;
  }
