-- A generated header table lists the descriptions of its frame table.
use Rattle.std.proofs.Common.{◌≡◌, ℕ, ◌+◌, ◌%◌, ◌<◌, ◌≤◌, ◌^◌, List, [], ◌∷◌, ◌++◌, map, length, take, drop, Ok, refl, sym, ap, ◌∙◌, arith, lit<}
use Rattle.std.specs.Int.{w32}
use Rattle.std.specs.List.{flat_map}
use Rattle.std.proofs.lemmas.List.{length-map, append_assoc}
use Rattle.std.proofs.lemmas.List.Sorted.{IsPermutation-refl}
use Rattle.memory_image.specs.Image.{Span}
use Rattle.unwind_definitions.specs.Input.{Input, number}
use Rattle.unwind_definitions.specs.Pointers.{direct}
use Rattle.unwind_definitions.specs.Module.{no_bases, header_bases, header_pointer, ArePairs, pair_of, StartsAscend, IsHeaderTable}
use Rattle.generated_chains.specs.declared.outline.Outline.{Outline}
use Rattle.generated_chains.specs.Outlines.{AreNumbered}
use Rattle.generated_chains.specs.Spelled.{half}
use Rattle.generated_chains.specs.Code.{start_of}
use Rattle.generated_chains.specs.Tables.{header_place, frames_place, relative, offset_of, pair_bytes}
use Rattle.generated_chains.specs.Memory.{HoldsTables}
use Rattle.generated_chains.proofs.Readers.{input, read_u32, read_relative, read_from_header}
use Rattle.generated_chains.proofs.Entries.{fde_by}

abbrev places_of : List Outline → List (ℕ × ℕ)
places_of os = map (pair_of frames_place) (map fde_by os)

pairs_from : (p index : ℕ) (os : List Outline) → AreNumbered index os → index + length os ≤ 100000 → ArePairs header_place (input header_place p (flat_map pair_bytes os)) (places_of os)
pairs_from p index [] numbered few = tt
pairs_from p index (o ∷ os) numbered few =
    let lt : o.index < 100000 = omega (arith, numbered.0) in
    let rest : List ℕ = flat_map pair_bytes os in
    let start : List ℕ = relative header_place (start_of o.index) in
    let place : List ℕ = relative header_place (frames_place + offset_of o.index) in
    let bytes : (start ++ place) ++ rest ≡ start ++ (place ++ rest) = append_assoc start place rest in
    let low : (frames_place + offset_of o.index) % 2 ^ 64 ≡ frames_place + offset_of o.index = omega arith in
    let one = read_from_header (header_bases header_place) header_place header_place p (start_of o.index) (place ++ rest) (lit< tt) (omega arith) refl in
    let two = read_from_header (header_bases header_place) header_place header_place (p + 4) (frames_place + offset_of o.index) rest (lit< tt) (omega arith) refl in (
      input header_place (p + 4) (place ++ rest),
      input header_place ((p + 4) + 4) rest,
      ap (λ (b : List ℕ). direct 0x3b (header_bases header_place) (input header_place p b)) bytes ∙ one,
      two ∙ ap (λ (a : ℕ). Ok (a, input header_place ((p + 4) + 4) rest)) (sym low),
      pairs_from ((p + 4) + 4) (index + 1) os numbered.1 (omega arith),
    )

ascend_from : (index : ℕ) (os : List Outline) → AreNumbered index os → StartsAscend (places_of os)
ascend_from index [] numbered = tt
ascend_from index (o ∷ []) numbered = tt
ascend_from index (o ∷ p ∷ os) numbered = (omega (arith, numbered.0, numbered.1.0), ascend_from (index + 1) (p ∷ os) numbered.1)

module _ (image : List Span) (os : List Outline) (holds : HoldsTables image os) (numbered : AreNumbered 0 os) (few : length os ≤ 100000) where
  abbrev pub counted : Input
  counted = input header_place 8 (half (length os) ++ flat_map pair_bytes os)

  abbrev listed : Input
  listed = input header_place 12 (flat_map pair_bytes os)

  pub leads : header_pointer image header_place ≡ Ok (frames_place, counted)
  leads = ap (λ (b : List ℕ). direct 0x1b no_bases (input header_place 4 (drop 4 b))) holds.header ∙ rw (read_relative no_bases header_place 4 frames_place (half (length os) ++ flat_map pair_bytes os) (lit< tt) (lit< tt)) refl

  counts : number w32 counted ≡ Ok (length (map fde_by os), listed)
  counts = read_u32 header_place 8 (length os) (flat_map pair_bytes os) (omega arith) ∙ ap (λ (n : ℕ). Ok (n, listed)) (sym (length-map os fde_by))

  pub header_lists : IsHeaderTable image header_place frames_place (map fde_by os)
  header_lists = record {
    form = ap (take 4) holds.header;
    counted = counted;
    pointer = leads;
    listed = listed;
    count = counts;
    pairs = places_of os;
    reads = pairs_from 12 0 os numbered (omega arith);
    each = IsPermutation-refl (places_of os);
    ascend = ascend_from 0 os numbered;
  }
