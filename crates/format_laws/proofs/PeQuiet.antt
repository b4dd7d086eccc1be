-- Addresses that are not in an epilog, by what is read of the code there.
use Rattle.std.proofs.Common.{◌≡◌, ℕ, ◌-◌, Bool, true, false, ltb, List, length, take, Option, Some, None, Result, Ok, Err, refl, sym, ap, ◌∙◌, inl, inr}
use Rattle.std.proofs.lemmas.Bool.{ltb-false}
use Rattle.pe_unwind_info.specs.declared.x86_64.fault.FrameFault.{FrameFault}
use Rattle.pe_unwind_info.specs.declared.x86_64.function_table.RuntimeFunction.{RuntimeFunction}
use Rattle.pe_unwind_info.specs.declared.x86_64.epilog.FunctionEpilogInstruction.{FunctionEpilogInstruction}
use Rattle.pe_unwind_info.specs.declared.x86_64.registers.Register.{Register}
use Rattle.pe_unwind_info.specs.Epilog.{Sequence, sequence_of}
use Rattle.pe_unwind_info.specs.EpilogList.{leading_epilogs, is_due}
use Rattle.pe_unwind_info.specs.Frame.{epilog_or_none, epilog_in}
use Rattle.pe_unwind_info.specs.FrameOf.{Image, epilog_if_tested}
use Rattle.pe_unwind_info.specs.Header.{frame_register_of}
use Rattle.pe_unwind_info.specs.Info.{Info}
use Rattle.pe_unwind_info.specs.InfoOperations.{operations_in}
use Rattle.pe_unwind_info.proofs.EpilogSequences.{sequence_is}
use Rattle.format_definitions.specs.PeModules.{BeginsWithNoEpilog, IsInNoEpilog}

abbrev Test : Type 0
Test = Result (Option (List FunctionEpilogInstruction)) FrameFault

-- what a test of the code at an address answers: no epilog
abbrev pub finds_none : Test → Bool
finds_none (Ok None) = true
finds_none (Ok (Some is)) = false
finds_none (Err e) = false

none_is : (r : Test) → finds_none r ≡ true → r ≡ Ok None
none_is (Ok None) e = refl
none_is (Ok (Some is)) e = absurd cc
none_is (Err e) h = absurd cc

not_some : (r : Sequence) (is : List FunctionEpilogInstruction) → epilog_or_none r ≡ None → r ≡ Ok is → ⊥
not_some r is none e = let h : epilog_or_none r ≡ Some is = ap epilog_or_none e in absurd cc

begins_with_none : (memory : Image) (frame : Option Register) (end a : ℕ) → epilog_in frame end a (memory a) ≡ Ok None → BeginsWithNoEpilog memory frame end a
begins_with_none memory frame end a e = go (memory a) refl
  where
    go : (o : Option (List ℕ)) → memory a ≡ o → BeginsWithNoEpilog memory frame end a
    go None at = let bad = sym (ap (epilog_in frame end a) at) ∙ e in absurd cc
    go (Some bytes) at = here (ltb end a) refl (ltb (length bytes) (end - a)) refl
      where
        read : epilog_in frame end a (Some bytes) ≡ Ok None
        read = sym (ap (epilog_in frame end a) at) ∙ e

        here : (b : Bool) → ltb end a ≡ b → (c : Bool) → ltb (length bytes) (end - a) ≡ c → BeginsWithNoEpilog memory frame end a
        here true p c q = let bad = rw p at read in absurd cc
        here false p true q = let bad = rw (p, q) at read in absurd cc
        here false p false q =
            let answer : ◌≡◌ {A = Test} (Ok (epilog_or_none (sequence_of frame (take (end - a) bytes)))) (Ok None) = rw (p, q) at read in
            let none : epilog_or_none (sequence_of frame (take (end - a) bytes)) ≡ None = cc in
            record {
              bytes = bytes;
              mapped = at;
              before = ltb-false end a p;
              fits = ltb-false (length bytes) (end - a) q;
              none = λ is few epilog. not_some (sequence_of frame (take (end - a) bytes)) is none (((sequence_is frame (take (end - a) bytes)).epilog is).1 (few, epilog));
            }

pub quiet_at : (memory : Image) (function : RuntimeFunction) (first : Info) (a : ℕ) →
    finds_none (epilog_if_tested (is_due function.end_address a (leading_epilogs (operations_in first))) memory (frame_register_of first.header) function.end_address a) ≡ true → IsInNoEpilog memory function first a
quiet_at memory function first a e = go (is_due function.end_address a (leading_epilogs (operations_in first))) refl
  where
    is : epilog_if_tested (is_due function.end_address a (leading_epilogs (operations_in first))) memory (frame_register_of first.header) function.end_address a ≡ Ok None
    is = none_is _ e

    go : (due : Bool) → is_due function.end_address a (leading_epilogs (operations_in first)) ≡ due → IsInNoEpilog memory function first a
    go false h = inl h
    go true h = inr (begins_with_none memory (frame_register_of first.header) function.end_address a (sym (ap (λ due. epilog_if_tested due memory (frame_register_of first.header) function.end_address a) h) ∙ is))
