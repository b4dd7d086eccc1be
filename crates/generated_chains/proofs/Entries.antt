-- The entries of a generated frame table, as they are read.
use Rattle.std.proofs.Common.{◌≡◌, ℕ, ◌+◌, ◌-◌, ◌<◌, ◌≤◌, ◌^◌, false, List, [], ◌∷◌, ◌++◌, length, drop, Option, Some, None, Ok, refl, sym, subst, arith, lit<, lit≤}
use Rattle.std.specs.Prelude.{◌≢◌}
use Rattle.std.proofs.lemmas.List.{length-append, append-nil}
use Rattle.std.proofs.lemmas.Bool.{le-ltb, ne_eqb, le-leb}
use Rattle.unwind_definitions.specs.Input.{Input}
use Rattle.unwind_definitions.specs.Pointers.{Bases, Pointer, Direct, pointer}
use Rattle.unwind_definitions.specs.Entries.{Cie, Fde, ACie, AFde, cie_at, fde_body, entry_in, entry_at}
use Rattle.generated_chains.specs.declared.outline.Kind.{Kind}
use Rattle.generated_chains.specs.declared.outline.Kind.TheVariants.{Pushes, PushesAndAllocates, SetsFrame, SetsFrameAndPushes}
use Rattle.generated_chains.specs.declared.outline.Handling.{Handling}
use Rattle.generated_chains.specs.declared.outline.Handling.TheVariants.{PassesOn, CleansUp, Catches}
use Rattle.generated_chains.specs.declared.outline.Outline.{Outline}
use Rattle.generated_chains.specs.Spelled.{half}
use Rattle.generated_chains.specs.Code.{start_of}
use Rattle.generated_chains.specs.Tables.{frames_place, languages_place, relative, plain_entry, language_entry, common_offset, language_place, program_of, offset_of, description_body, description_bytes}
use Rattle.generated_chains.proofs.SpelledLemmas.{length-half}
use Rattle.generated_chains.proofs.Readers.{input, read_u32, read_small, read_relative, split_front, read_body}

-- ---- what the entries are

abbrev pub entry_program : List ℕ
entry_program = 0x0c ∷ 7 ∷ 8 ∷ 0x90 ∷ 1 ∷ 0 ∷ 0 ∷ []

abbrev pub plain_cie : Cie
plain_cie = record {
  offset = 0;
  version = 1;
  code_factor = 1;
  data_factor = 2 ^ 64 - 8;
  return_column = 16;
  augmentation = 0x7a ∷ 0x52 ∷ [];
  letters = record { language = None; personality = None; address = Some 0x1b; signal = false };
  program = input frames_place 17 entry_program;
}

abbrev pub language_cie : Cie
language_cie = record {
  offset = 24;
  version = 1;
  code_factor = 1;
  data_factor = 2 ^ 64 - 8;
  return_column = 16;
  augmentation = 0x7a ∷ 0x50 ∷ 0x4c ∷ 0x52 ∷ [];
  letters = record { language = Some 0x1b; personality = Some (0x1b, Direct 0x3f000000); address = Some 0x1b; signal = false };
  program = input frames_place 49 entry_program;
}

abbrev pub cie_by : Handling → Cie
cie_by PassesOn = plain_cie
cie_by CleansUp = language_cie
cie_by Catches = language_cie

abbrev pub language_by : Handling → Option Pointer
language_by PassesOn = None
language_by CleansUp = Some (Direct languages_place)
language_by Catches = Some (Direct (languages_place + 12))

-- the description of a function, by its offset and its start
abbrev pub fde_at : Kind → Handling → ℕ → ℕ → Fde
fde_at kind handling offset start = record { offset = offset; cie = cie_by handling; start = start; size = 64; language = language_by handling; program = input frames_place (offset + 21) (program_of kind) }

abbrev pub fde_by : Outline → Fde
fde_by o = fde_at o.kind o.handling (offset_of o.index) (start_of o.index)

-- ---- the common entries

plain_read : (bases : Bases) (more : List ℕ) → cie_at bases (input frames_place 0 (plain_entry ++ more)) 0 ≡ Ok plain_cie
plain_read bases more =
    rw (read_body frames_place 0 20 20 0 0 0 (0 ∷ 0 ∷ 0 ∷ 0 ∷ 1 ∷ 0x7a ∷ 0x52 ∷ 0 ∷ 1 ∷ 0x78 ∷ 16 ∷ 1 ∷ 0x1b ∷ 0x0c ∷ 7 ∷ 8 ∷ 0x90 ∷ 1 ∷ 0 ∷ 0 ∷ []) more refl (λ e. absurd cc) (lit< tt) refl) refl

language_read : (bases : Bases) (more : List ℕ) → cie_at bases (input frames_place 0 (plain_entry ++ (language_entry ++ more))) 24 ≡ Ok language_cie
language_read bases more =
    rw (read_body frames_place 24 28 28 0 0 0 (0 ∷ 0 ∷ 0 ∷ 0 ∷ 1 ∷ 0x7a ∷ 0x50 ∷ 0x4c ∷ 0x52 ∷ 0 ∷ 1 ∷ 0x78 ∷ 16 ∷ 7 ∷ 0x1b ∷ 0xd5 ∷ 0xff ∷ 0xff ∷ 0x1e ∷ 0x1b ∷ 0x1b ∷ 0x0c ∷ 7 ∷ 8 ∷ 0x90 ∷ 1 ∷ 0 ∷ 0 ∷ []) more refl (λ e. absurd cc) (lit< tt) refl) refl

-- ---- descriptions

-- a pointer at an offset that is spelled in another way, and bytes after it
relative_at : (bases : Bases) (p q to : ℕ) (rest : List ℕ) → p ≡ q → frames_place + q < 2 ^ 31 → to < 2 ^ 31 →
    pointer 0x1b bases (input frames_place p (relative (frames_place + q) to ++ rest)) ≡ Ok (Direct to, input frames_place (p + 4) rest)
relative_at bases p q to rest same la lt =
    subst (λ (x : ℕ). pointer 0x1b bases (input frames_place x (relative (frames_place + q) to ++ rest)) ≡ Ok (Direct to, input frames_place (x + 4) rest)) (sym same) (read_relative bases frames_place q to rest la lt)

relative_alone : (bases : Bases) (p q to : ℕ) → p ≡ q → frames_place + q < 2 ^ 31 → to < 2 ^ 31 →
    pointer 0x1b bases (input frames_place p (relative (frames_place + q) to)) ≡ Ok (Direct to, input frames_place (p + 4) [])
relative_alone bases p q to same la lt =
    subst (λ (bytes : List ℕ). pointer 0x1b bases (input frames_place p bytes) ≡ Ok (Direct to, input frames_place (p + 4) [])) (append-nil (relative (frames_place + q) to)) (relative_at bases p q to [] same la lt)

-- a description's bytes after the distance to its common entry
abbrev after_distance : Kind → Handling → ℕ → ℕ → List ℕ
after_distance kind handling offset start =
    relative (frames_place + (offset + 8)) start ++ (half 64 ++ (4 ∷ (relative (frames_place + (offset + 17)) (language_place handling) ++ program_of kind)))

-- the description that these bytes spell
description_read : (bases : Bases) (kind : Kind) (handling : Handling) (q start : ℕ) → q < 2 ^ 28 → start < 2 ^ 31 →
    fde_body bases (cie_by handling) q (input frames_place ((q + 4) + 4) (after_distance kind handling q start)) ≡ Ok (fde_at kind handling q start)
description_read bases kind PassesOn q start lq ls =
    let e1 = relative_at bases ((q + 4) + 4) (q + 8) start (half 64 ++ (4 ∷ (relative (frames_place + (q + 17)) (language_place PassesOn) ++ program_of kind))) (omega arith) (omega arith) ls in
    let e2 = read_u32 frames_place (((q + 4) + 4) + 4) 64 (4 ∷ (relative (frames_place + (q + 17)) (language_place PassesOn) ++ program_of kind)) (lit< tt) in
    let e3 = read_small frames_place ((((q + 4) + 4) + 4) + 4) 4 (relative (frames_place + (q + 17)) (language_place PassesOn) ++ program_of kind) (lit< tt) in
    let e4 = split_front frames_place (((((q + 4) + 4) + 4) + 4) + 1) 4 (relative (frames_place + (q + 17)) (language_place PassesOn)) (program_of kind) (length-half _) in
    let fits : start + 64 ≤ 2 ^ 64 - 1 = omega arith in
    let end : (((((q + 4) + 4) + 4) + 4) + 1) + 4 ≡ q + 21 = omega arith in
    rw (e1, e2, le-leb (start + 64) (2 ^ 64 - 1) fits, e3, e4, end) refl
description_read bases kind CleansUp q start lq ls =
    let e1 = relative_at bases ((q + 4) + 4) (q + 8) start (half 64 ++ (4 ∷ (relative (frames_place + (q + 17)) (language_place CleansUp) ++ program_of kind))) (omega arith) (omega arith) ls in
    let e2 = read_u32 frames_place (((q + 4) + 4) + 4) 64 (4 ∷ (relative (frames_place + (q + 17)) (language_place CleansUp) ++ program_of kind)) (lit< tt) in
    let e3 = read_small frames_place ((((q + 4) + 4) + 4) + 4) 4 (relative (frames_place + (q + 17)) (language_place CleansUp) ++ program_of kind) (lit< tt) in
    let e4 = split_front frames_place (((((q + 4) + 4) + 4) + 4) + 1) 4 (relative (frames_place + (q + 17)) (language_place CleansUp)) (program_of kind) (length-half _) in
    let e5 = relative_alone (record bases { func = Some start }) (((((q + 4) + 4) + 4) + 4) + 1) (q + 17) languages_place (omega arith) (omega arith) (lit< tt) in
    let fits : start + 64 ≤ 2 ^ 64 - 1 = omega arith in
    let end : (((((q + 4) + 4) + 4) + 4) + 1) + 4 ≡ q + 21 = omega arith in
    rw (e1, e2, le-leb (start + 64) (2 ^ 64 - 1) fits, e3, e4, e5, end) refl
description_read bases kind Catches q start lq ls =
    let e1 = relative_at bases ((q + 4) + 4) (q + 8) start (half 64 ++ (4 ∷ (relative (frames_place + (q + 17)) (language_place Catches) ++ program_of kind))) (omega arith) (omega arith) ls in
    let e2 = read_u32 frames_place (((q + 4) + 4) + 4) 64 (4 ∷ (relative (frames_place + (q + 17)) (language_place Catches) ++ program_of kind)) (lit< tt) in
    let e3 = read_small frames_place ((((q + 4) + 4) + 4) + 4) 4 (relative (frames_place + (q + 17)) (language_place Catches) ++ program_of kind) (lit< tt) in
    let e4 = split_front frames_place (((((q + 4) + 4) + 4) + 4) + 1) 4 (relative (frames_place + (q + 17)) (language_place Catches)) (program_of kind) (length-half _) in
    let e5 = relative_alone (record bases { func = Some start }) (((((q + 4) + 4) + 4) + 4) + 1) (q + 17) (languages_place + 12) (omega arith) (omega arith) (lit< tt) in
    let fits : start + 64 ≤ 2 ^ 64 - 1 = omega arith in
    let end : (((((q + 4) + 4) + 4) + 4) + 1) + 4 ≡ q + 21 = omega arith in
    rw (e1, e2, le-leb (start + 64) (2 ^ 64 - 1) fits, e3, e4, e5, end) refl

length-program : (kind : Kind) → length (program_of kind) ≡ 11
length-program Pushes = refl
length-program PushesAndAllocates = refl
length-program SetsFrame = refl
length-program SetsFrameAndPushes = refl

pub length-body : (o : Outline) → length (description_body o) ≡ 28
length-body o = simp (length-append, length-half, length-program) (omega arith)

common_read : (bases : Bases) (handling : Handling) (more : List ℕ) → cie_at bases (input frames_place 0 (plain_entry ++ (language_entry ++ more))) (common_offset handling) ≡ Ok (cie_by handling)
common_read bases PassesOn more = plain_read bases (language_entry ++ more)
common_read bases CleansUp more = language_read bases more
common_read bases Catches more = language_read bases more

small_common : (handling : Handling) → common_offset handling ≤ 24
small_common PassesOn = lit≤ tt
small_common CleansUp = lit≤ tt
small_common Catches = lit≤ tt

-- ---- an entry at its offset
abbrev pub table : List ℕ → Input
table more = input frames_place 0 (plain_entry ++ (language_entry ++ more))

module _ (bases : Bases) (more : List ℕ) where
  entry_is : (o : Outline) → o.index < 100000 → entry_in bases (table more) (offset_of o.index) (input frames_place (offset_of o.index + 4) (description_body o)) ≡ Ok (AFde (fde_by o))
  entry_is o lt =
      let q : ℕ = offset_of o.index in
      let back : ℕ = (q + 4) - common_offset o.handling in
      let few = small_common o.handling in
      let e1 = read_u32 frames_place (q + 4) back (after_distance o.kind o.handling q (start_of o.index)) (omega arith) in
      let some : back ≢ 0 = λ e. absurd (omega arith) in
      let less : back ≤ q + 4 = omega arith in
      let place : (q + 4) - back ≡ common_offset o.handling = omega arith in
      let e2 = common_read bases o.handling more in
      let e3 = description_read bases o.kind o.handling q (start_of o.index) (omega arith) (omega arith) in
      rw (e1, ne_eqb back 0 some, le-ltb (q + 4) back less, place, e2, e3) refl

  pub entry_read : (o : Outline) (rest : List ℕ) → o.index < 100000 → drop (offset_of o.index) (plain_entry ++ (language_entry ++ more)) ≡ description_bytes o ++ rest →
      entry_at bases (table more) (offset_of o.index) ≡ Ok (Some (record { entry = AFde (fde_by o); next = (offset_of o.index + 4) + 28 }))
  unfolding entry_at
  entry_read o rest lt here =
      let q : ℕ = offset_of o.index in
      let start : 0 + q ≡ q = omega arith in
      let e1 = read_body frames_place q 28 28 0 0 0 (description_body o) rest refl (λ e. absurd cc) (lit< tt) (length-body o) in
      rw (start, here, e1, entry_is o lt) refl

  pub plain_entry_read : entry_at bases (table more) 0 ≡ Ok (Some (record { entry = ACie plain_cie; next = 24 }))
  unfolding entry_at
  plain_entry_read =
      rw (read_body frames_place 0 20 20 0 0 0 (0 ∷ 0 ∷ 0 ∷ 0 ∷ 1 ∷ 0x7a ∷ 0x52 ∷ 0 ∷ 1 ∷ 0x78 ∷ 16 ∷ 1 ∷ 0x1b ∷ 0x0c ∷ 7 ∷ 8 ∷ 0x90 ∷ 1 ∷ 0 ∷ 0 ∷ []) (language_entry ++ more) refl (λ e. absurd cc) (lit< tt) refl) refl

  pub language_entry_read : entry_at bases (table more) 24 ≡ Ok (Some (record { entry = ACie language_cie; next = 56 }))
  unfolding entry_at
  language_entry_read =
      rw (read_body frames_place 24 28 28 0 0 0 (0 ∷ 0 ∷ 0 ∷ 0 ∷ 1 ∷ 0x7a ∷ 0x50 ∷ 0x4c ∷ 0x52 ∷ 0 ∷ 1 ∷ 0x78 ∷ 16 ∷ 7 ∷ 0x1b ∷ 0xd5 ∷ 0xff ∷ 0xff ∷ 0x1e ∷ 0x1b ∷ 0x1b ∷ 0x0c ∷ 7 ∷ 8 ∷ 0x90 ∷ 1 ∷ 0 ∷ 0 ∷ []) more refl (λ e. absurd cc) (lit< tt) refl) refl

  pub end_read : (q : ℕ) → drop q (plain_entry ++ (language_entry ++ more)) ≡ [] → entry_at bases (table more) q ≡ Ok None
  unfolding entry_at
  end_read q here = rw here refl
