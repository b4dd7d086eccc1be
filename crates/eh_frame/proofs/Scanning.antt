-- A scan's step: what it gives with one turn more, by what stands at its offset.
use Rattle.std.proofs.Common.{◌≡◌, ℕ, suc, Bool, true, false, cond, Option, Some, None, Result, Ok, Err, refl}
use Rattle.unwind_definitions.specs.declared.error.Error.{Error as Fault}
use Rattle.unwind_definitions.specs.declared.error.Error.TheVariants.{NoUnwindInfoForAddress}
use Rattle.unwind_definitions.specs.Input.{Input}
use Rattle.unwind_definitions.specs.Pointers.{Bases}
use Rattle.unwind_definitions.specs.Entries.{ACie, AFde, Entry, Fde, Found, entry_at}
use Rattle.unwind_definitions.specs.Faults.{◌>>=◌}
use Rattle.unwind_definitions.specs.Row.{covers_pc}
use Rattle.eh_frame.specs.Standing.{covering}
use Rattle.unwind_definitions.specs.Scan.{found_or, scan_from}

module _ (bases : Bases) (table : Input) (pc turns left offset : ℕ) (more : left ≡ suc turns) where
  pub scan_fault : (e : Fault) → entry_at bases table offset ≡ Err e → scan_from left bases table pc offset ≡ Err e
  scan_fault e fault = rw (more, fault) refl

  pub scan_end : entry_at bases table offset ≡ Ok None → scan_from left bases table pc offset ≡ Err NoUnwindInfoForAddress
  scan_end at_end = rw (more, at_end) refl

  pub scan_next : (found : Found) → entry_at bases table offset ≡ Ok (Some found) →
      scan_from left bases table pc offset ≡ found_or pc found.entry (scan_from turns bases table pc found.next)
  scan_next found stands = rw (more, stands) refl

-- what a scan does with an entry, by whether it is a description that contains the address
module _ (pc : ℕ) where
  pub faults : (r : Result Entry Fault) (e : Fault) → (r >>= λ entry. Ok (covering pc entry)) ≡ Err e → r ≡ Err e
  faults (Err f) e is = cc
  faults (Ok entry) e is = absurd cc

  pub covers : (r : Result Entry Fault) (fde : Fde) → (r >>= λ entry. Ok (covering pc entry)) ≡ Ok (Some fde) → (entry : Entry) × (r ≡ Ok entry) × ((later : Result Fde Fault) → found_or pc entry later ≡ Ok fde)
  covers (Err f) fde is = absurd cc
  covers (Ok (ACie cie)) fde is = absurd cc
  covers (Ok (AFde own)) fde is = (AFde own, refl, λ later. go (covers_pc own pc) later is)
    where
      go : (t : Bool) (later : Result Fde Fault) → ◌≡◌ {A = Result (Option Fde) Fault} (Ok (cond t (Some own) None)) (Ok (Some fde)) → ◌≡◌ {A = Result Fde Fault} (cond t (Ok own) later) (Ok fde)
      go true later is = cc
      go false later is = absurd cc

  pub passes : (r : Result Entry Fault) → (r >>= λ entry. Ok (covering pc entry)) ≡ Ok None → (entry : Entry) × (r ≡ Ok entry) × ((later : Result Fde Fault) → found_or pc entry later ≡ later)
  passes (Err f) is = absurd cc
  passes (Ok (ACie cie)) is = (ACie cie, refl, λ later. refl)
  passes (Ok (AFde own)) is = (AFde own, refl, λ later. go (covers_pc own pc) later is)
    where
      go : (t : Bool) (later : Result Fde Fault) → ◌≡◌ {A = Result (Option Fde) Fault} (Ok (cond t (Some own) None)) (Ok None) → ◌≡◌ {A = Result Fde Fault} (cond t (Ok own) later) later
      go true later is = absurd cc
      go false later is = refl
