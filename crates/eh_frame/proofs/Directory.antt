-- A directory of ascending addresses: what it says of an address in one of its stretches, and how it is made.
use Rattle.std.proofs.Common.{◌≡◌, ℕ, zero, suc, ◌+◌, ◌-◌, ◌*◌, ◌/◌, ◌%◌, ◌^◌, ◌<◌, ◌≤◌, List, [], ◌∷◌, ◌++◌, length, map, get_or, refl, sym, ap, subst, arith, add-mul, one-mul, div-add-mod', mod-lt}
use Rattle.std.proofs.lemmas.List.{length-map}
use Rattle.std.proofs.lemmas.Nat.{one_shl, pow_pos}
use Rattle.eh_frame.specs.Directory.{AreBefore, IsDirectory, AreBoundsAt, AreBoundsOf}
use Rattle.eh_frame.specs.Looking.{Narrows}
use Rattle.eh_frame.specs.Index.{Described, described_in, start_of}
use Rattle.eh_frame.specs.declared.cie.Cie.{Cie as CodeCie}
use Rattle.eh_frame.specs.declared.prepared.PreparedFunction.{PreparedFunction}
use Rattle.eh_frame.specs.declared.starts.Bounds.{Bounds}
use Rattle.frame_rows.specs.KeptRows.{Kept}

-- ---- the stretch of an address

pub next_stretch : (b width : ℕ) → (b + 1) * width ≡ b * width + width
next_stretch b width = let a = add-mul b 1 width in let o = one-mul width in omega arith

in_stretch : (first n width : ℕ) → 0 < width → (first + n / width * width ≤ first + n) × (first + n < first + (n / width + 1) * width)
in_stretch first n width some =
    let whole = div-add-mod' n width in
    let rest = mod-lt n some in
    let next = next_stretch (n / width) width in
    (omega arith, omega arith)

pub at_address : (starts : List ℕ) (first digits pc : ℕ) (directory : List Bounds) (w : Bounds) → IsDirectory starts first digits directory → first ≤ pc → (pc - first) / 2 ^ digits < length directory → w ≡ get_or directory ((pc - first) / 2 ^ digits) w → AreBoundsAt starts pc w
at_address starts first digits pc directory w d le lt is =
    let n = pc - first in
    let b = n / 2 ^ digits in
    let stretch = in_stretch first n (2 ^ digits) (pow_pos digits) in
    let at : first + n ≡ pc = omega arith in
    let low = stretch.0 in
    let high = stretch.1 in
    let of : AreBoundsOf starts (first + b * 2 ^ digits) (first + (b + 1) * 2 ^ digits) w = subst (λ (v : Bounds). AreBoundsOf starts (first + b * 2 ^ digits) (first + (b + 1) * 2 ^ digits) v) (sym is) (d.each b w lt) in
    record {
      within = of.within;
      reached = λ some. let a = of.reached some in omega arith;
      after = λ above. let a = of.after above in omega arith;
    }

-- ---- how it is made

pub width_is : (digits : ℕ) → digits < 64 → (1 * 2 ^ digits) % 18446744073709551616 ≡ 2 ^ digits
width_is digits few = one_shl digits 64 few

pub begun : (starts : List ℕ) (first digits : ℕ) → digits < 64 → IsDirectory starts first digits []
begun starts first digits few = record { few = few; each = λ b w lt. absurd (omega arith) }

pushed_at : (P : ℕ → Bounds → Type 0) (ws : List Bounds) (w v : Bounds) (b : ℕ) → ((c : ℕ) → c < length ws → P c (get_or ws c v)) → P (length ws) w → b < length (ws ++ w ∷ []) → P b (get_or (ws ++ w ∷ []) b v)
pushed_at P [] w v zero each last lt = last
pushed_at P [] w v (suc b) each last lt = absurd (omega arith)
pushed_at P (x ∷ ws) w v zero each last lt = each zero (omega arith)
pushed_at P (x ∷ ws) w v (suc b) each last lt = pushed_at (λ c. P (suc c)) ws w v b (λ c l. each (suc c) (omega arith)) last (omega arith)

pub pushed : (starts : List ℕ) (first digits from to : ℕ) (ws : List Bounds) (w : Bounds) → IsDirectory starts first digits ws → from ≡ first + length ws * 2 ^ digits → to ≡ from + 2 ^ digits → AreBoundsOf starts from to w → IsDirectory starts first digits (ws ++ w ∷ [])
pushed starts first digits from to ws w d at next of =
    let Stretch : ℕ → Bounds → Type 0 = λ b v. AreBoundsOf starts (first + b * 2 ^ digits) (first + (b + 1) * 2 ^ digits) v in
    let more = next_stretch (length ws) (2 ^ digits) in
    let end : to ≡ first + (length ws + 1) * 2 ^ digits = omega arith in
    let last : Stretch (length ws) w = subst (λ n. AreBoundsOf starts (first + length ws * 2 ^ digits) n w) end (subst (λ n. AreBoundsOf starts n to w) at of) in
    record { few = d.few; each = λ b v lt. pushed_at Stretch ws w v b (λ c l. d.each c v l) last lt }

pub next_from : (first from to digits : ℕ) (ws : List Bounds) (w : Bounds) → from ≡ first + length ws * 2 ^ digits → to ≡ from + 2 ^ digits → to ≡ first + length (ws ++ w ∷ []) * 2 ^ digits
next_from first from to digits ws w at next =
    let more = next_stretch (length ws) (2 ^ digits) in
    let n : length (ws ++ w ∷ []) ≡ length ws + 1 = length_one ws in
    let same = ap (λ n. n * 2 ^ digits) n in
    omega arith
  where
    length_one : (ws : List Bounds) → length (ws ++ w ∷ []) ≡ length ws + 1
    length_one [] = refl
    length_one (x ∷ ws) = let ih = length_one ws in omega arith

-- the bounds of a stretch: from the last of those before it on, to the first after it
pub bounds_of : (starts : List ℕ) (from to before : ℕ) (w : Bounds) → AreBefore starts before from → w.low ≡ before - 1 → w.high ≤ length starts → (w.high < length starts → to ≤ get_or starts w.high 0) → AreBoundsOf starts from to w
bounds_of starts from to before w all low within after = record { within = within; reached = λ some. let a = all w.low (omega arith) in omega arith; after = after }

pub still_before : (starts : List ℕ) (count from to : ℕ) → AreBefore starts count from → from ≤ to → AreBefore starts count to
still_before starts count from to all le i lt = let a = all i lt in omega arith

pub one_more_before : (starts : List ℕ) (count a : ℕ) → AreBefore starts count a → get_or starts count 0 < a → AreBefore starts (count + 1) a
one_more_before [] zero a all lt zero below = lt
one_more_before [] zero a all lt (suc i) below = absurd (omega arith)
one_more_before [] (suc count) a all lt i below = lt
one_more_before (x ∷ xs) zero a all lt zero below = lt
one_more_before (x ∷ xs) zero a all lt (suc i) below = absurd (omega arith)
one_more_before (x ∷ xs) (suc count) a all lt zero below = all zero (omega arith)
one_more_before (x ∷ xs) (suc count) a all lt (suc i) below = one_more_before xs count a (λ j l. all (suc j) (omega arith)) lt i (omega arith)

-- ---- of functions

module _ (cies : List CodeCie) (rows : List Kept) where
  pub start_at : (fs : List PreparedFunction) (i : ℕ) (d : Described) → i < length fs → get_or (map start_of fs) i 0 ≡ (get_or (map (described_in cies rows) fs) i d).fde.start
  start_at [] i d lt = absurd (omega arith)
  start_at (f ∷ fs) zero d lt = refl
  start_at (f ∷ fs) (suc i) d lt = start_at fs i d (omega arith)

  pub narrowed : (fs : List PreparedFunction) (starts : List ℕ) (pc : ℕ) (w : Bounds) → starts ≡ map start_of fs → w.low < w.high → AreBoundsAt starts pc w → Narrows (map (described_in cies rows) fs) pc w
  narrowed fs starts pc w are some at =
      let n = length-map fs start_of in
      let m = length-map fs (described_in cies rows) in
      let s = ap length are in
      let within = at.within in
      record {
        some = some;
        within = omega arith;
        reached = λ d before. let a = at.reached before in let e = ap (λ (l : List ℕ). get_or l w.low 0) are in let f = start_at fs w.low d (omega arith) in omega arith;
        after = λ d lt. let a = at.after (omega arith) in let e = ap (λ (l : List ℕ). get_or l w.high 0) are in let f = start_at fs w.high d (omega arith) in omega arith;
      }
