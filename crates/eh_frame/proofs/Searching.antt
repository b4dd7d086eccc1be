-- A scan answers the first description that contains an address, or the first fault before it.
use Rattle.std.proofs.Common.{◌≡◌, ℕ, zero, suc, ◌+◌, ◌<◌, ◌≤◌, Bool, true, false, List, [], ◌∷◌, length, Option, Some, None, Result, Ok, Err, refl, arith, inl, inr}
use Rattle.std.specs.Prelude.{◌⊎◌, if◌then◌else◌}
use Rattle.std.specs.Option.{option_map_or}
use Rattle.unwind_definitions.specs.declared.error.Error.{Error as Fault}
use Rattle.unwind_definitions.specs.declared.error.Error.TheVariants.{NoUnwindInfoForAddress}
use Rattle.unwind_definitions.specs.Faults.{◌>>=◌}
use Rattle.unwind_definitions.specs.Input.{Input}
use Rattle.unwind_definitions.specs.Pointers.{Bases}
use Rattle.unwind_definitions.specs.Entries.{Fde, Entry, ACie, AFde, Found, entry_at, AreEntries}
use Rattle.unwind_definitions.specs.Row.{covers_pc}
use Rattle.unwind_definitions.specs.Scan.{fdes_of, first_covering, found_or, scan_after, scan_from, scan}
use Rattle.eh_frame.specs.Search.{IsFirst, IsUnreadable, NoneContains}
use Rattle.eh_frame.proofs.Ahead.{next_within}

module _ (bases : Bases) (table : Input) (pc : ℕ) (start : table.offset ≡ 0) where
  -- what a search from an offset on comes to
  abbrev pub Comes : ℕ → Result Fde Fault → Type 0
  Comes from (Ok fde) = IsFirst bases table pc from fde
  Comes from (Err e) = IsUnreadable bases table pc from e ⊎ ((e ≡ NoUnwindInfoForAddress) × NoneContains bases table pc from)

  -- an entry that doesn't contain the address stands before a search
  before : (from : ℕ) (e : Entry) (next : ℕ) (r : Result Fde Fault) → entry_at bases table from ≡ Ok (Some (record { entry = e; next = next })) →
      ((es : List Entry) → first_covering (fdes_of es) pc ≡ None → first_covering (fdes_of (e ∷ es)) pc ≡ None) → Comes next r → Comes from r
  before from e next (Ok fde) at none c =
      record { before = e ∷ c.before; offset = c.offset; next = c.next; precede = (next, at, c.precede); none_before = none c.before c.none_before; stands = c.stands; contains = c.contains }
  before from e next (Err f) at none c =
      elim c [
        | inl u ↦ inl (record { before = e ∷ u.before; offset = u.offset; precede = (next, at, u.precede); none_before = none u.before u.none_before; unread = u.unread })
        | inr u ↦ inr (u.0, record { entries = e ∷ u.1.entries; are = (next, at, u.1.are); none = none u.1.entries u.1.none })
      ]

  passed : (fde : Fde) → covers_pc fde pc ≡ false → (es : List Entry) → first_covering (fdes_of es) pc ≡ None → first_covering (fdes_of (AFde fde ∷ es)) pc ≡ None
  passed fde out es none = rw out none

  -- what a search of so many turns comes to, wherever it may begin
  abbrev Later : ℕ → Type 0
  Later turns = (n : ℕ) → n ≤ length table.bytes → length table.bytes < turns + n → Comes n (scan_from turns bases table pc n)

  pub comes : (turns from : ℕ) → from ≤ length table.bytes → length table.bytes < turns + from → Comes from (scan_from turns bases table pc from)
  comes zero from within enough = absurd (omega arith)
  comes (suc turns) from within enough = go (entry_at bases table from) refl (comes turns)
    where
      inside : (found : Found) → Later turns → entry_at bases table from ≡ Ok (Some found) → Comes found.next (scan_from turns bases table pc found.next)
      inside found later at =
          let next = next_within bases table from found start within at in
          let low = next.0 in
          later found.next next.1 (omega arith)

      described : (fde : Fde) (next : ℕ) (b : Bool) → Later turns → entry_at bases table from ≡ Ok (Some (record { entry = AFde fde; next = next })) → covers_pc fde pc ≡ b →
          Comes from (if b then Ok fde else scan_from turns bases table pc next)
      described fde next true later at is = record { before = []; offset = from; next = next; precede = refl; none_before = refl; stands = at; contains = is }
      described fde next false later at is = before from (AFde fde) next (scan_from turns bases table pc next) at (passed fde is) (inside (record { entry = AFde fde; next = next }) later at)

      go : (r : Result (Option Found) Fault) → entry_at bases table from ≡ r → Later turns → Comes from (r >>= λ found. scan_after pc found (scan_from turns bases table pc))
      go (Err e) at later = inl (record { before = []; offset = from; precede = refl; none_before = refl; unread = at })
      go (Ok None) at later = inr (refl, record { entries = []; are = at; none = refl })
      go (Ok (Some found)) at later = placed found.entry found.next at later
        where
          placed : (e : Entry) (next : ℕ) → entry_at bases table from ≡ Ok (Some (record { entry = e; next = next })) → Later turns → Comes from (found_or pc e (scan_from turns bases table pc next))
          placed (ACie cie) next at later = before from (ACie cie) next (scan_from turns bases table pc next) at (λ es none. none) (inside (record { entry = ACie cie; next = next }) later at)
          placed (AFde fde) next at later = described fde next (covers_pc fde pc) later at refl

  -- each entry takes a byte at least
  few : (from : ℕ) (es : List Entry) → from ≤ length table.bytes → AreEntries bases table from es → from + length es ≤ length table.bytes
  few from [] within are = omega arith
  few from (e ∷ es) within are =
      let next = next_within bases table from (record { entry = e; next = are.0 }) start within are.1 in
      let low = next.0 in
      let rest = few are.0 es next.1 are.2 in
      omega arith

  -- where all entries can be read and none contains the address, nothing is found
  none_found : (turns from : ℕ) (es : List Entry) → AreEntries bases table from es → length es < turns → first_covering (fdes_of es) pc ≡ None →
      scan_from turns bases table pc from ≡ Err NoUnwindInfoForAddress
  none_found zero from es are lt none = absurd (omega arith)
  none_found (suc turns) from [] are lt none = rw are refl
  none_found (suc turns) from (ACie cie ∷ es) are lt none = rw are.1 (none_found turns are.0 es are.2 (omega arith) none)
  none_found (suc turns) from (AFde fde ∷ es) are lt none = rw are.1 (go (covers_pc fde pc) refl (none_found turns are.0 es are.2 (omega arith)))
    where
      go : (b : Bool) → covers_pc fde pc ≡ b → (first_covering (fdes_of es) pc ≡ None → scan_from turns bases table pc are.0 ≡ Err NoUnwindInfoForAddress) →
          (if covers_pc fde pc then Ok fde else scan_from turns bases table pc are.0) ≡ Err NoUnwindInfoForAddress
      go true is later = let some = rw is at none in absurd cc
      go false is later = rw is (later (rw is at none))

  pub scan_comes : Comes 0 (scan bases table pc)
  unfolding scan
  scan_comes = comes (suc (length table.bytes)) 0 (omega arith) (omega arith)

  pub uncovered : NoneContains bases table pc 0 → scan bases table pc ≡ Err NoUnwindInfoForAddress
  unfolding scan
  uncovered u = let all = few 0 u.entries (omega arith) u.are in none_found (suc (length table.bytes)) 0 u.entries u.are (omega arith) u.none

  -- what a scan answers where all entries can be read
  scans : (turns from : ℕ) (es : List Entry) → AreEntries bases table from es → length es < turns → scan_from turns bases table pc from ≡ option_map_or (λ (x : Fde). Ok x) (first_covering (fdes_of es) pc) (Err NoUnwindInfoForAddress)
  scans zero from es are lt = absurd (omega arith)
  scans (suc turns) from [] are lt = rw are refl
  scans (suc turns) from (ACie cie ∷ es) are lt = rw are.1 (scans turns are.0 es are.2 (omega arith))
  scans (suc turns) from (AFde fde ∷ es) are lt = rw are.1 (go (covers_pc fde pc) refl (scans turns are.0 es are.2 (omega arith)))
    where
      go : (b : Bool) → covers_pc fde pc ≡ b → scan_from turns bases table pc are.0 ≡ option_map_or (λ (x : Fde). Ok x) (first_covering (fdes_of es) pc) (Err NoUnwindInfoForAddress) →
          (if covers_pc fde pc then Ok fde else scan_from turns bases table pc are.0) ≡ option_map_or (λ (x : Fde). Ok x) (first_covering (fde ∷ fdes_of es) pc) (Err NoUnwindInfoForAddress)
      go true is later = rw is refl
      go false is later = rw is later

  pub scan_listed : (es : List Entry) → AreEntries bases table 0 es → scan bases table pc ≡ option_map_or (λ (x : Fde). Ok x) (first_covering (fdes_of es) pc) (Err NoUnwindInfoForAddress)
  unfolding scan
  scan_listed es are = let all = few 0 es (omega arith) are in scans (suc (length table.bytes)) 0 es are (omega arith)
