-- The memory of a generated chain holds its tables and its stack.
use Rattle.std.proofs.Common.{◌≡◌, ℕ, ◌+◌, ◌-◌, ◌*◌, ◌<◌, ◌≤◌, ◌^◌, true, false, List, [], ◌∷◌, length, drop, refl, ap, ◌∙◌, arith, lit<, lit≤}
use Rattle.std.specs.List.{flat_map}
use Rattle.std.proofs.lemmas.List.{length-append}
use Rattle.std.proofs.lemmas.Bool.Decides.{nat_tests}
use Rattle.memory_image.specs.Image.{Span, end_of, holds, table_at, IsLaidOut}
use Rattle.unwind_definitions.specs.State.{State}
use Rattle.generated_chains.specs.declared.outline.Kind.{Kind}
use Rattle.generated_chains.specs.declared.outline.Kind.TheVariants.{Pushes, PushesAndAllocates, SetsFrame, SetsFrameAndPushes}
use Rattle.generated_chains.specs.declared.outline.Outline.{Outline}
use Rattle.generated_chains.specs.Spelled.{word}
use Rattle.generated_chains.specs.Outlines.{AreNumbered}
use Rattle.generated_chains.specs.Calls.{top, state_of, entered_from, frame_words, frame_bytes, stack_bytes}
use Rattle.generated_chains.specs.Tables.{header_place, frames_place, languages_place, description_bytes, frame_table, pair_bytes, header_table, language_tables}
use Rattle.generated_chains.specs.Memory.{image_of, HoldsStack, HoldsTables}
use Rattle.generated_chains.proofs.SpelledLemmas.{length-half, length-word}
use Rattle.generated_chains.proofs.States.{Fits, state-fits}
use Rattle.generated_chains.proofs.ChainLaw.{entered-sp, has_room}
use Rattle.generated_chains.proofs.FrameList.{length-description}

-- ---- how long the tables are

length-descriptions : (os : List Outline) → length (flat_map description_bytes os) ≡ 32 * length os
length-descriptions [] = refl
length-descriptions (o ∷ os) = length-append (description_bytes o) (flat_map description_bytes os) ∙ (let one = length-description o in let ih = length-descriptions os in omega arith)

pub length-frames : (os : List Outline) → length (frame_table os) ≡ 56 + 32 * length os
length-frames os = let long = length-descriptions os in omega arith

length-pair : (o : Outline) → length (pair_bytes o) ≡ 8
length-pair o = simp (length-append, length-half)

length-pairs : (os : List Outline) → length (flat_map pair_bytes os) ≡ 8 * length os
length-pairs [] = refl
length-pairs (o ∷ os) = length-append (pair_bytes o) (flat_map pair_bytes os) ∙ (let one = length-pair o in let ih = length-pairs os in omega arith)

pub length-header : (os : List Outline) → length (header_table os) ≡ 12 + 8 * length os
length-header os = simp (length-append, length-half, length-pairs) (omega arith)

length-words : (ws : List ℕ) → length (flat_map word ws) ≡ 8 * length ws
length-words [] = refl
length-words (w ∷ ws) = length-append (word w) (flat_map word ws) ∙ (let one = length-word w in let ih = length-words ws in omega arith)

-- the stack ends at its top
pub stack_fills : (seed : ℕ) → seed < 2 ^ 64 → (index : ℕ) (os : List Outline) → AreNumbered index os → index + length os ≤ 100000 → (state_of seed os).sp + length (stack_bytes seed os) ≡ top
stack_fills seed lt index [] numbered few = refl
stack_fills seed lt index (o ∷ os) numbered few =
    let t : State = state_of seed os in
    let f : Fits (length os) t = state-fits seed lt (index + 1) os numbered.1 (omega arith) in
    let full : (entered_from o.kind o.index t).sp + 8 * length (frame_words o.kind t) ≡ t.sp = entered-sp o.kind o.index t (has_room (length os) t (omega arith) f) in
    let ih = stack_fills seed lt (index + 1) os numbered.1 (omega arith) in
    let words : length (frame_bytes o.kind t) ≡ 8 * length (frame_words o.kind t) = length-words (frame_words o.kind t) in
    let both = length-append (frame_bytes o.kind t) (stack_bytes seed os) in
    omega arith

-- ---- where they stand

missed : (s : Span) (ss : List Span) (a : ℕ) → end_of s ≤ a → table_at (s ∷ ss) a ≡ table_at ss a
missed s ss a past = let no : holds s a ≡ false = grind (arith, nat_tests) in rw no refl

held : (s : Span) (ss : List Span) (a : ℕ) → s.start ≤ a → a < end_of s → table_at (s ∷ ss) a ≡ drop (a - s.start) s.bytes
held s ss a from below = let yes : holds s a ≡ true = grind (arith, nat_tests) in rw yes refl

module _ (seed : ℕ) (lt : seed < 2 ^ 64) (os : List Outline) (numbered : AreNumbered 0 os) (some : 0 < length os) (few : length os ≤ 100000) where
  abbrev header_span : Span
  header_span = record { start = header_place; bytes = header_table os }

  abbrev frames_span : Span
  frames_span = record { start = frames_place; bytes = frame_table os }

  abbrev languages_span : Span
  languages_span = record { start = languages_place; bytes = language_tables }

  abbrev stack_span : Span
  stack_span = record { start = (state_of seed os).sp; bytes = stack_bytes seed os }

  header_end : end_of header_span ≤ frames_place
  header_end = let long = length-header os in omega arith

  frames_end : end_of frames_span ≤ languages_place
  frames_end = let long = length-frames os in omega arith

  stack_low : 0x7ffe00000000 ≤ (state_of seed os).sp
  stack_low = let f = state-fits seed lt 0 os numbered (omega arith) in omega (arith, f.low)

  stack_some : 0 < length (stack_bytes seed os)
  stack_some = longer os some
    where
      word_there : (kind : Kind) (t : State) → 0 < length (frame_words kind t)
      word_there Pushes t = lit< tt
      word_there PushesAndAllocates t = lit< tt
      word_there SetsFrame t = lit< tt
      word_there SetsFrameAndPushes t = lit< tt

      longer : (os : List Outline) → 0 < length os → 0 < length (stack_bytes seed os)
      longer [] some = absurd (omega arith)
      longer (o ∷ os) some =
          let t : State = state_of seed os in
          let there = word_there o.kind t in
          let words : length (frame_bytes o.kind t) ≡ 8 * length (frame_words o.kind t) = length-words (frame_words o.kind t) in
          let both = length-append (frame_bytes o.kind t) (stack_bytes seed os) in
          omega arith

  pub is_laid_out : IsLaidOut 0 (image_of seed os)
  is_laid_out =
      let one = length-header os in
      let two = length-frames os in
      let four = stack_fills seed lt 0 os numbered (omega arith) in
      let low = stack_low in
      let more = stack_some in (
        lit≤ tt,
        omega arith,
        omega arith,
        (header_end, omega arith, omega arith, (frames_end, lit< tt, lit≤ tt, (omega arith, more, omega arith, tt))),
      )

  pub holds_tables : HoldsTables (image_of seed os) os
  holds_tables =
      let one = length-header os in
      let two = length-frames os in
      record {
        header = held header_span (frames_span ∷ languages_span ∷ stack_span ∷ []) header_place (lit≤ tt) (omega arith);
        frames = missed header_span (frames_span ∷ languages_span ∷ stack_span ∷ []) frames_place header_end ∙ held frames_span (languages_span ∷ stack_span ∷ []) frames_place (lit≤ tt) (omega arith);
        cleanup = missed header_span (frames_span ∷ languages_span ∷ stack_span ∷ []) languages_place (omega arith) ∙ (missed frames_span (languages_span ∷ stack_span ∷ []) languages_place frames_end ∙ held languages_span (stack_span ∷ []) languages_place (lit≤ tt) (lit< tt));
        catch = missed header_span (frames_span ∷ languages_span ∷ stack_span ∷ []) (languages_place + 12) (omega arith) ∙ (missed frames_span (languages_span ∷ stack_span ∷ []) (languages_place + 12) (omega arith) ∙ held languages_span (stack_span ∷ []) (languages_place + 12) (lit≤ tt) (lit< tt));
      }

  pub holds_stack : HoldsStack (image_of seed os) seed os
  holds_stack =
      let low = stack_low in
      let a : ℕ = (state_of seed os).sp in
      let one = length-header os in
      let two = length-frames os in
      let more = stack_some in
      let nothing : a - a ≡ 0 = omega arith in
      record {
        laid = is_laid_out;
        stack = missed header_span (frames_span ∷ languages_span ∷ stack_span ∷ []) a (omega arith) ∙ (missed frames_span (languages_span ∷ stack_span ∷ []) a (omega arith)
            ∙ (missed languages_span (stack_span ∷ []) a (omega arith) ∙ (held stack_span [] a (omega arith) (omega arith) ∙ ap (λ (n : ℕ). drop n (stack_bytes seed os)) nothing)));
      }
