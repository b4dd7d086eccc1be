-- What a header is where its parts read, one after the other, and the fault of the first that doesn't.
use Rattle.std.proofs.Common.{◌≡◌, ℕ, List, Result, Ok, Err, sym, ap, ◌∙◌}
use Rattle.std.specs.Prelude.{◌==◌}
use Rattle.std.specs.Int.{w8}
use Rattle.unwind_definitions.specs.declared.error.Error.{Error as Fault}
use Rattle.unwind_definitions.specs.declared.error.Error.TheVariants.{UnknownVersion}
use Rattle.unwind_definitions.specs.Faults.{◌>>=◌, unless}
use Rattle.unwind_definitions.specs.Input.{Input, number}
use Rattle.unwind_definitions.specs.Pointers.{Bases, Pointer, encoding, pointer}
use Rattle.unwind_definitions.specs.Header.{FrameHeader, bases_in, pair_count, header}

abbrev at_start : ℕ → List ℕ → Input
at_start a bytes = record { base = a; offset = 0; bytes = bytes }

abbrev numbered : ℕ → Input → Result (ℕ × Input) Fault
numbered n d = Ok (n, d)

pub version_read : (a : ℕ) (bytes : List ℕ) (c d : Input) (v : ℕ) → c ≡ at_start a bytes → v ≡ 1 → number w8 c ≡ Ok (v, d) → number w8 (at_start a bytes) ≡ Ok (1, d)
version_read a bytes c d v same one e = ap (number w8) (sym same) ∙ e ∙ ap (λ n. numbered n d) one

module _ (bases : Bases) (a : ℕ) where
  abbrev after_count : Pointer → ℕ → ℕ × Input → Result FrameHeader Fault
  after_count frame addresses count = Ok (record { frame = frame; count = count.0; encoding = addresses; bases = bases_in a bases; pairs = count.1 })

  abbrev after_frame : ℕ → ℕ → Pointer × Input → Result FrameHeader Fault
  after_frame counted addresses frame = pair_count counted addresses frame.1 >>= after_count frame.0 addresses

  abbrev after_addressed : ℕ → ℕ → ℕ × Input → Result FrameHeader Fault
  after_addressed framed counted addressed = pointer framed (bases_in a bases) addressed.1 >>= after_frame counted addressed.0

  abbrev after_counted : ℕ → ℕ × Input → Result FrameHeader Fault
  after_counted framed counted = encoding counted.1 >>= after_addressed framed counted.0

  abbrev after_framed : ℕ × Input → Result FrameHeader Fault
  after_framed framed = encoding framed.1 >>= after_counted framed.0

  abbrev after_version : ℕ × Input → Result FrameHeader Fault
  after_version version = unless (version.0 == 1) UnknownVersion >>= λ u. encoding version.1 >>= after_framed

  module _ (bytes : List ℕ) (c1 c2 c3 : Input) (framed counted : ℕ) (version : number w8 (at_start a bytes) ≡ Ok (1, c1)) (frame_encoding : encoding c1 ≡ Ok (framed, c2)) (count_encoding : encoding c2 ≡ Ok (counted, c3)) where
    to_third : header bases (at_start a bytes) ≡ (encoding c3 >>= after_addressed framed counted)
    to_third =
        ap (λ (r : Result (ℕ × Input) Fault). r >>= after_version) version ∙ ap (λ (r : Result (ℕ × Input) Fault). r >>= after_framed) frame_encoding ∙ ap (λ (r : Result (ℕ × Input) Fault). r >>= after_counted framed) count_encoding

    pub no_encoding : (e : Fault) → encoding c3 ≡ Err e → header bases (at_start a bytes) ≡ Err e
    no_encoding e third = to_third ∙ ap (λ (r : Result (ℕ × Input) Fault). r >>= after_addressed framed counted) third

    module _ (c4 : Input) (addresses : ℕ) (third : encoding c3 ≡ Ok (addresses, c4)) where
      to_pointer : header bases (at_start a bytes) ≡ (pointer framed (bases_in a bases) c4 >>= after_frame counted addresses)
      to_pointer = to_third ∙ ap (λ (r : Result (ℕ × Input) Fault). r >>= after_addressed framed counted) third

      pub no_pointer : (e : Fault) → pointer framed (bases_in a bases) c4 ≡ Err e → header bases (at_start a bytes) ≡ Err e
      no_pointer e is = to_pointer ∙ ap (λ (r : Result (Pointer × Input) Fault). r >>= after_frame counted addresses) is

      module _ (c5 : Input) (frame : Pointer) (leads : pointer framed (bases_in a bases) c4 ≡ Ok (frame, c5)) where
        to_count : header bases (at_start a bytes) ≡ (pair_count counted addresses c5 >>= after_count frame addresses)
        to_count = to_pointer ∙ ap (λ (r : Result (Pointer × Input) Fault). r >>= after_frame counted addresses) leads

        pub no_count : (e : Fault) → pair_count counted addresses c5 ≡ Err e → header bases (at_start a bytes) ≡ Err e
        no_count e is = to_count ∙ ap (λ (r : Result (ℕ × Input) Fault). r >>= after_count frame addresses) is

        pub whole_header : (c6 : Input) (count : ℕ) → pair_count counted addresses c5 ≡ Ok (count, c6) →
            header bases (at_start a bytes) ≡ Ok (record { frame = frame; count = count; encoding = addresses; bases = bases_in a bases; pairs = c6 })
        whole_header c6 count is = to_count ∙ ap (λ (r : Result (ℕ × Input) Fault). r >>= after_count frame addresses) is
