-- What is said of a file whose text was read.
use Rattle.std.proofs.Common.{◌≡◌, inl, inr, ℕ, List, Some, None, refl, sym, subst}
use Rattle.std.specs.Option.{option_map}
use Rattle.pt_val.specs.declared.place.Place.{Place}
use Rattle.pt_ast.specs.Plain.{plain_suite}
use Rattle.pt_ast.specs.Trees.{SuiteTree}
use Rattle.pt_check.specs.Says.{fault_in}
use Rattle.pt_check.specs.declared.fault.TypeFault.{TypeFault}
use Rattle.pt_check.specs.declared.fault.TypeFault.TheVariants as code
use Rattle.pt_io.specs.Files.{Shown, HasBytes}
use Rattle.pt_io.specs.Reading.{IsWithinLimit}
use Rattle.pt_parse.specs.Suites.{Reads}
use Rattle.pt_parse.specs.declared.fault.SuiteFault.TheVariants as text
use Rattle.pt_report.specs.declared.refusal.Refusal.{Refusal}
use Rattle.pt_report.specs.declared.refusal.Refusal.TheVariants as refusal
use Rattle.pt_report.specs.declared.refusal.Word.{Word}
use Rattle.pt_report.specs.declared.refusal.Word.TheVariants as word
use Rattle.pt_typing.specs.Fault.{Fault, Unknown, Twice, Wrong, UnknownCheck}
use Rattle.pt_typing.specs.SuiteFaults.{FaultInSuite}
use Rattle.pt_run.specs.declared.loading.Loaded.{Loaded}
use Rattle.pt_run.specs.declared.loading.Loaded.TheVariants.{Taken, Refused}
use Rattle.pt_run.specs.Suite.{ComesTo, IsFaulty, IsLoaded, IsTurnedDown, type_refusal}
use Rattle.pt_run.proofs.Messages.{HasBytes-follows}

out_some : {X : Type 0} {one other : X} → Some one ≡ Some other → one ≡ other
out_some is = cc

-- the first fault is the one that is said
pub said_of_types : (known : List (List ℕ)) (bytes : List ℕ) (suite : SuiteTree) (why : TypeFault) (said : Refusal) → Reads bytes suite →
    ((fault : Fault) → fault_in why ≡ Some fault → FaultInSuite known suite fault) → option_map type_refusal (fault_in why) ≡ Some said → IsFaulty known bytes said
said_of_types known bytes suite (code.Unknown at) said reads faults is = inr (suite, Unknown at, reads, faults (Unknown at) refl, out_some is)
said_of_types known bytes suite (code.Twice at) said reads faults is = inr (suite, Twice at, reads, faults (Twice at) refl, out_some is)
said_of_types known bytes suite (code.Wrong at) said reads faults is = inr (suite, Wrong at, reads, faults (Wrong at) refl, out_some is)
said_of_types known bytes suite (code.UnknownCheck at) said reads faults is = inr (suite, UnknownCheck at, reads, faults (UnknownCheck at) refl, out_some is)
said_of_types known bytes suite code.NoMemory said reads faults is = absurd (let none : None ≡ Some said = is in cc)

-- what is said has a place and a word
has_word : (known : List (List ℕ)) (bytes : List ℕ) (said : Refusal) → IsFaulty known bytes said → (at : Place) × (which : Word) × (said ≡ refusal.Suite at which)
has_word known bytes said (inl (text.NotUtf8 at, has, is)) = (at, word.NotUtf8, sym (out_some is))
has_word known bytes said (inl (text.Syntax at, has, is)) = (at, word.Syntax, sym (out_some is))
has_word known bytes said (inl (text.TooDeep at, has, is)) = (at, word.TooDeep, sym (out_some is))
has_word known bytes said (inl (text.OutOfRange at, has, is)) = (at, word.OutOfRange, sym (out_some is))
has_word known bytes said (inl (text.NoMemory, has, is)) = absurd has
has_word known bytes said (inr (suite, Unknown at, reads, has, is)) = (at, word.Unknown, sym is)
has_word known bytes said (inr (suite, Twice at, reads, has, is)) = (at, word.Twice, sym is)
has_word known bytes said (inr (suite, Wrong at, reads, has, is)) = (at, word.Wrong, sym is)
has_word known bytes said (inr (suite, UnknownCheck at, reads, has, is)) = (at, word.UnknownCheck, sym is)

module _ (known : List (List ℕ)) (old new : Shown) (file bytes : List ℕ) (quiet : new.faults ≡ old.faults) (has : HasBytes old file (λ there. there ≡ bytes))
    (small : IsWithinLimit bytes) where
  turned : (said : Refusal) → IsFaulty known bytes said → IsTurnedDown known old new file said
  turned said faulty =
      let form = has_word known bytes said faulty in
      let this : Refusal = refusal.Suite form.0 form.1 in
      let here : IsFaulty known bytes this = subst (λ (r : Refusal). IsFaulty known bytes r) form.2 faulty in
      subst (λ (r : Refusal). IsTurnedDown known old new file r) (sym form.2) (
        quiet,
        HasBytes-follows old file (λ there. there ≡ bytes) (λ b. IsWithinLimit b × IsFaulty known b this) has
            (λ b is. (subst IsWithinLimit (sym is) small, subst (λ (b : List ℕ). IsFaulty known b this) (sym is) here)),
      )

  -- what a text comes to is what its file was loaded to
  pub loaded : (came : Loaded) → ComesTo known bytes came → IsLoaded known old new file came
  loaded (Taken suite) comes = record {
    quiet = quiet;
    read = HasBytes-follows old file (λ there. there ≡ bytes) (λ b. IsWithinLimit b × Reads b (plain_suite suite)) has
        (λ b is. (subst IsWithinLimit (sym is) small, subst (λ (b : List ℕ). Reads b (plain_suite suite)) (sym is) comes.0));
    sound = comes.1;
  }
  loaded (Refused said) comes = turned said comes
