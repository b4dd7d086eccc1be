-- The snapshot of a generated chain is taken, and describes the chain.
use Rattle.std.proofs.Common.{◌≡◌, ℕ, zero, suc, ◌+◌, ◌^◌, ◌<◌, ◌≤◌, true, List, [], ◌∷◌, length, Some, Result, Ok, refl, sym, ap, subst, ◌∙◌, arith}
use Rattle.std.proofs.lemmas.Bool.{le-leb, lt-leb}
use Rattle.unwind_definitions.specs.State.{CalleeSaved, RBX, RBP, R12, R13, R14, R15, column_of, value_of, State, Shows}
use Rattle.unwind_definitions.specs.Module.{Process}
use Rattle.unwind_definitions.specs.Valid.{IsElfValid}
use Rattle.unwind_arch.specs.ContextViews.{columns_of}
use Rattle.stack_steps.specs.SpaceViews.{process_of}
use Rattle.stack_deliver.specs.Resumes.{resume_table}
use Rattle.stack_deliver.proofs.ElfDeliveries.{elf_starts_valid}
use Rattle.generated_chains.specs.declared.outline.Outline.{Outline}
use Rattle.generated_chains.specs.declared.stack.Registers.{Registers}
use Rattle.generated_chains.specs.declared.chain.Chain.{Chain}
use Rattle.generated_chains.specs.Outlines.{following, outlines, outlines_from, AreNumbered}
use Rattle.generated_chains.specs.Code.{functions_of}
use Rattle.generated_chains.specs.Calls.{state_of, calls_of, resumes_of}
use Rattle.generated_chains.specs.Memory.{by_header, image_of}
use Rattle.generated_chains.specs.Shown.{state_in}
use Rattle.generated_chains.specs.Made as made
use Rattle.stack_snapshot.specs.declared.errors.Field.{Field}
use Rattle.stack_snapshot.specs.Content.{Content, space_of, takes_modules}
use Rattle.stack_snapshot.specs.Described.{DescribesChain}
use Rattle.stack_snapshot.specs.declared.parts.SnapshotParts.{SnapshotParts}
use Rattle.stack_snapshot.specs.Parts.{content_in, content_if_taken}
use Rattle.generated_cases.specs.Case.{case_of, content_with, context_in, context_at, module_over}
use Rattle.generated_cases.proofs.Taken.{AreTaken, laid_out_taken}
use Rattle.generated_cases.proofs.AscendingResumes.{ascending_resumes}

-- registers show the state that they are
shows : (r : Registers) → Shows (columns_of (context_in r)) (state_in r)
shows r = record { ra = refl; sp = refl; saved = saved }
  where
    saved : (s : CalleeSaved) → columns_of (context_in r) (column_of s) ≡ Some (value_of s (state_in r))
    saved RBX = refl
    saved RBP = refl
    saved R12 = refl
    saved R13 = refl
    saved R14 = refl
    saved R15 = refl

numbered : (x index outer : ℕ) → AreNumbered index (outlines_from x index outer)
numbered x index zero = tt
numbered x index (suc outer) = (refl, numbered (following x) (index + 1) outer)

length-outlines : (x index outer : ℕ) → length (outlines_from x index outer) ≡ outer
length-outlines x index zero = refl
length-outlines x index (suc outer) = ap suc (length-outlines (following x) (index + 1) outer)

length-calls : (seed : ℕ) (os : List Outline) → length (calls_of seed os) ≡ length os
length-calls seed [] = refl
length-calls seed (o ∷ os) = ap suc (length-calls seed os)

abbrev ok : Content → Result Content Field
ok s = Ok s

ok_same : (s t : Content) → ok s ≡ Ok t → s ≡ t
ok_same s t e = cc

module _ (c : Chain) (count seed : ℕ) (some : 0 < count) (few : count ≤ 100000) (is_made : made.IsMade c seed (outlines seed count)) (valid : made.IsValidChain c seed count) where
  abbrev os : List Outline
  os = outlines seed count

  taken : AreTaken [] (made.spans_of c)
  taken = laid_out_taken (made.spans_of c) valid.header.process.regions

  takes_module : takes_modules [] (module_over count ∷ []) ≡ true
  takes_module = rw (lt-leb (2 ^ 64) ((module_over count).end) (omega arith), lt-leb ((module_over count).end) ((module_over count).start) (omega arith)) refl

  -- a snapshot takes the parts
  pub case_assembled : content_if_taken (content_with c count) ≡ Ok (content_with c count)
  case_assembled = rw (taken.taken, takes_module, le-leb 1 (count + 1) (omega arith), le-leb (count + 1) 1048576 (omega arith)) refl

  -- what is made of them is that snapshot
  pub parts_made : (p : SnapshotParts) (s : Content) → content_in p ≡ content_with c count → content_if_taken (content_in p) ≡ Ok s → s ≡ content_with c count
  parts_made p s are is =
      let both : ok s ≡ Ok (content_with c count) = sym is ∙ ap content_if_taken are ∙ case_assembled in
      ok_same s (content_with c count) both

  resumes_made : resume_table c.resumes.items ≡ resumes_of os
  resumes_made = ap resume_table is_made.resumes ∙ ascending_resumes os (numbered seed 0 count)

  start_made : context_in c.innermost ≡ context_at (state_of seed os)
  start_made = ap context_at is_made.innermost

  regions_made : made.spans_of c ≡ image_of seed os
  regions_made =
      let sp : c.innermost.sp ≡ (state_of seed os).sp = ap (λ (s : State). s.sp) is_made.innermost in
      rw (is_made.header, is_made.frames, is_made.languages, is_made.stack, sp) refl

  -- it is the one that count and seed give
  pub case_made : content_with c count ≡ case_of count seed
  case_made = rw (regions_made, start_made, resumes_made) refl

  process_is : process_of (space_of (content_with c count)) ≡ made.process_of by_header c count
  process_is = rw taken.image refl

  pub case_described : DescribesChain (content_with c count) (functions_of os) (state_of seed os) (calls_of seed os)
  case_described =
      let by : State → Type 0 = λ s. IsElfValid (made.process_of by_header c count) (columns_of (context_in c.innermost)) c.resumes.items (functions_of os) s (calls_of seed os) in
      let v = subst by is_made.innermost (valid.header.valid (columns_of (context_in c.innermost)) (shows c.innermost)) in
      let by_table : List (ℕ × ℕ) → Type 0 = λ rs. IsElfValid (made.process_of by_header c count) (columns_of (context_in c.innermost)) rs (functions_of os) (state_of seed os) (calls_of seed os) in
      let w = subst by_table (is_made.resumes ∙ sym resumes_made) v in
      let in_process : Process → Type 0 = λ p. IsElfValid p (columns_of (context_in c.innermost)) (resume_table c.resumes.items) (functions_of os) (state_of seed os) (calls_of seed os) in
      let n = length-calls seed os in
      let m = length-outlines seed 0 count in
      elf_starts_valid (space_of (content_with c count)) (functions_of os) (state_of seed os) (resume_table c.resumes.items) (calls_of seed os) (columns_of (context_in c.innermost)) (tt, tt) (subst in_process (sym process_is) w)
      (context_in c.innermost) (count + 1) (w.shows) (omega arith)
