-- A word in a window is the image's.
use Rattle.std.proofs.Common.{inl, inr, ◌≡◌, ℕ, ◌+◌, ◌-◌, ◌%◌, ◌^◌, ◌<◌, ◌≤◌, List, [], length, take, drop, Some, refl, sym, ap, ◌∙◌, arith}
use Rattle.std.proofs.lemmas.Bool.Decides.{leb_tells}
use Rattle.std.proofs.lemmas.List.{drop-drop, length-drop, length-take-le, take_rest}
use Rattle.memory_image.specs.Image.{Span, IsLaidOut, table_at, word_at}
use Rattle.memory_image.specs.ImageLaws.{table_at-add, table_past, word_at-table}
use Rattle.memory_image.specs.Words.{number_of, u64_at, u64_at-take}
use Rattle.unwinding_frames.specs.Slots.{AreSlots}
use Rattle.unwinding_frames.specs.Windows.{IsWindow, AreKeptBytes}

u64_at-drop : (bytes : List ℕ) (k : ℕ) → u64_at (drop k bytes) 0 ≡ u64_at bytes k
unfolding u64_at
u64_at-drop bytes k = refl

module _ (image : List Span) (start : ℕ) (bytes : List ℕ) (places : ℕ) (window : IsWindow image start bytes places) where
  pub place_fits : (k : ℕ) → k < places → k + 8 ≤ length bytes
  place_fits k inside = let whole = window.whole in omega arith

  table_there : (k : ℕ) → k < places → table_at image (start + k) ≡ drop k bytes
  table_there k inside =
      let fits : k + 8 ≤ length bytes = place_fits k inside in
      let here : k < length (table_at image start) = rw (← window.held) (omega arith) in
      rw window.held (table_at-add image 0 start k window.laid_out here)

  long_there : (k : ℕ) → k < places → 8 ≤ length (table_at image (start + k))
  long_there k inside =
      let fits : k + 8 ≤ length bytes = place_fits k inside in
      rw (table_there k inside, length-drop) (omega arith)

  below : (k : ℕ) → k < places → start + k < 2 ^ 64
  below k inside = elim (leb_tells (2 ^ 64) (start + k)) [
    | inl past ↦
        let none : table_at image (start + k) ≡ [] = table_past image 0 (start + k) window.laid_out past.1 in
        let long : 8 ≤ 0 = rw none at (long_there k inside) in
        absurd (omega arith)
    | inr low ↦ low.1
  ]

  pub word_there : (address k : ℕ) → address < 2 ^ 64 → k ≡ (address + (2 ^ 64 - start)) % 2 ^ 64 → k < places → word_at image address ≡ Some (u64_at bytes k)
  word_there address k small is inside =
      let end : start + k < 2 ^ 64 = below k inside in
      let same : start + k ≡ address = omega arith in
      let long : 8 ≤ length (table_at image address) = rw same at (long_there k inside) in
      let table : table_at image address ≡ drop k bytes = rw same at (table_there k inside) in
      word_at-table image address window.laid_out long ∙ rw table (ap Some (u64_at-drop bytes k))

  -- so many bytes below an address, where the lowest and the highest word of them stand in the window
  pub slots_there : (address size first : ℕ) → address < 2 ^ 64 → size < 2 ^ 64 → 8 ≤ size → first ≡ ((address + (2 ^ 64 - size)) % 2 ^ 64 + (2 ^ 64 - start)) % 2 ^ 64 → first < places → size - 8 < places - first →
      AreSlots image address size (take size (drop first bytes))
  unfolding u64_at
  slots_there address size first small fits long is inside room =
      let whole = window.whole in
      let rest : length (drop first bytes) ≡ length bytes - first = length-drop first bytes in
      record {
        some = omega arith;
        whole = length-take-le size (drop first bytes) (omega arith);
        words = λ n above close.
            let k : ℕ = n + size - 2 ^ 64 in
            let last : first + k < places = omega arith in
            let end : start + (first + k) < 2 ^ 64 = below (first + k) last in
            let there : word_at image ((address + n) % 2 ^ 64) ≡ Some (u64_at bytes (first + k)) = word_there ((address + n) % 2 ^ 64) (first + k) (omega arith) (omega arith) last in
            let same : u64_at (take size (drop first bytes)) k ≡ u64_at bytes (first + k) = u64_at-take (drop first bytes) size k (omega arith) ∙ ap (λ l. number_of (take 8 l)) (drop-drop k first bytes) in
            there ∙ ap Some (sym same);
      }

-- ---- places

-- what was looked up at an address
pub kept_from : (image : List Span) (start : ℕ) (bytes : List ℕ) → IsLaidOut 0 image → bytes ≡ table_at image start → AreKeptBytes image start bytes
kept_from image start bytes laid held = λ k inside.
    let here : k < length (table_at image start) = rw (← held) inside in
    rw held (table_at-add image 0 start k laid here)

-- the bytes from a place's offset on are those at the address so far from its start
pub kept_there : (image : List Span) (start : ℕ) (bytes : List ℕ) → IsLaidOut 0 image → AreKeptBytes image start bytes → (address k : ℕ) → address < 2 ^ 64 → k ≡ (address + (2 ^ 64 - start)) % 2 ^ 64 → k < length bytes → drop k bytes ≡ table_at image address
kept_there image start bytes laid place address k small is inside =
    let there : table_at image (start + k) ≡ drop k bytes = place k inside in
    let end : start + k < 2 ^ 64 = elim (leb_tells (2 ^ 64) (start + k)) [
      | inl past ↦
          let none : table_at image (start + k) ≡ [] = table_past image 0 (start + k) laid past.1 in
          let long : length (drop k bytes) ≡ 0 = ap length (sym there ∙ none) in
          let rest : length (drop k bytes) ≡ length bytes - k = length-drop k bytes in
          absurd (omega arith)
      | inr low ↦ low.1
    ] in
    let same : start + k ≡ address = omega arith in
    sym (rw same at there)

-- what is read of a place from an offset on
pub kept_read : (image : List Span) (start : ℕ) (bytes : List ℕ) → IsLaidOut 0 image → AreKeptBytes image start bytes → (address k : ℕ) → address < 2 ^ 64 → k ≡ (address + (2 ^ 64 - start)) % 2 ^ 64 → k < length bytes →
    (rest : List ℕ) → rest ≡ take (length bytes - k) (drop k bytes) → (rest ≡ table_at image address) × (0 < length rest)
kept_read image start bytes laid place address k small is inside rest read =
    let all : take (length bytes - k) (drop k bytes) ≡ drop k bytes = rw take_rest refl in
    let rest_is : rest ≡ drop k bytes = read ∙ all in
    let long : length rest ≡ length bytes - k = ap length rest_is ∙ length-drop k bytes in
    (rest_is ∙ kept_there image start bytes laid place address k small is inside, omega arith)
