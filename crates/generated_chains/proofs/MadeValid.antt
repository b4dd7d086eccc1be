-- A chain that was made is valid.
use Rattle.std.proofs.Common.{◌≡◌, ℕ, ◌<◌, ◌≤◌, ◌^◌, List, length, refl, sym, ap, subst}
use Rattle.unwind_definitions.specs.Caller.{Columns}
use Rattle.unwind_definitions.specs.State.{State, Shows}
use Rattle.unwind_definitions.specs.Module.{Tables, Process, IsElfProcess}
use Rattle.unwind_definitions.specs.Valid.{IsElfValid}
use Rattle.generated_chains.specs.declared.outline.Outline.{Outline}
use Rattle.generated_chains.specs.declared.chain.Chain.{Chain}
use Rattle.generated_chains.specs.Outlines.{outlines}
use Rattle.generated_chains.specs.Code.{functions_of}
use Rattle.generated_chains.specs.Calls.{state_of, calls_of, resumes_of}
use Rattle.generated_chains.specs.Memory.{process_by, by_frames, by_header, image_of}
use Rattle.generated_chains.specs.Shown.{state_in}
use Rattle.generated_chains.specs.Made.{IsMade, spans_of, process_of, IsValidChain}
use Rattle.generated_chains.proofs.Loops.{numbered_from, length-outlines}
use Rattle.generated_chains.proofs.Valid.{valid_by_frames, valid_by_header, is_process}

spans_are : (c : Chain) (seed : ℕ) (os : List Outline) → IsMade c seed os → spans_of c ≡ image_of seed os
spans_are c seed os made = let sp : c.innermost.sp ≡ (state_of seed os).sp = ap (λ (s : State). s.sp) made.innermost in rw (made.header, made.frames, made.languages, made.stack, sp) refl

module _ (c : Chain) (seed count : ℕ) (made : IsMade c seed (outlines seed count)) (lt : seed < 2 ^ 64) (some : 0 < count) (few : count ≤ 100000) where
  abbrev os : List Outline
  os = outlines seed count

  long : length os ≡ count
  long = length-outlines seed 0 count

  process_is : (tables : Tables) → process_of tables c count ≡ process_by tables seed os
  process_is tables = rw (spans_are c seed os made, long) refl

  valid_process : (tables : Tables) → IsElfProcess (process_of tables c count)
  valid_process tables = subst IsElfProcess (sym (process_is tables)) (is_process seed lt os (numbered_from seed 0 count) (rw long some) (rw long few) tables)

  valid_for : (tables : Tables) → ((start : Columns) → Shows start (state_of seed os) → IsElfValid (process_by tables seed os) start (resumes_of os) (functions_of os) (state_of seed os) (calls_of seed os)) →
      (start : Columns) → Shows start (state_in c.innermost) → IsElfValid (process_of tables c count) start c.resumes.items (functions_of os) (state_in c.innermost) (calls_of seed os)
  valid_for tables each start shows =
      let shows' : Shows start (state_of seed os) = subst (Shows start) made.innermost shows in
      let at = each start shows' in
      subst (λ (s : State). IsElfValid (process_of tables c count) start c.resumes.items (functions_of os) s (calls_of seed os)) (sym made.innermost)
      (subst (λ (rs : List (ℕ × ℕ)). IsElfValid (process_of tables c count) start rs (functions_of os) (state_of seed os) (calls_of seed os)) (sym made.resumes)
      (subst (λ (p : Process). IsElfValid p start (resumes_of os) (functions_of os) (state_of seed os) (calls_of seed os)) (sym (process_is tables)) at))

  pub made_valid : IsValidChain c seed count
  made_valid = record {
    frames = record { process = valid_process by_frames; valid = valid_for by_frames (valid_by_frames seed lt os (numbered_from seed 0 count) (rw long some) (rw long few)) };
    header = record { process = valid_process by_header; valid = valid_for by_header (valid_by_header seed lt os (numbered_from seed 0 count) (rw long some) (rw long few)) };
  }
