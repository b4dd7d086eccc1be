-- A description that a search finds contains the address.
use Rattle.std.proofs.Common.{◌≡◌, ℕ, zero, suc, Bool, true, false, Option, Some, None, Result, Ok, Err, refl, subst, cond}
use Rattle.std.specs.Prelude.{IsTrue, length}
use Rattle.unwind_definitions.specs.declared.error.Error.{Error as Fault}
use Rattle.unwind_definitions.specs.Faults.{◌>>=◌}
use Rattle.unwind_definitions.specs.Input.{Input}
use Rattle.unwind_definitions.specs.Pointers.{Bases}
use Rattle.unwind_definitions.specs.Entries.{Fde, Entry, ACie, AFde, Found, entry_at}
use Rattle.unwind_definitions.specs.Row.{covers_pc}
use Rattle.unwind_definitions.specs.Scan.{scan, scan_from, scan_after, found_or}
use Rattle.fde_finders.specs.Finding.{FoundFde, found_in, scanned_in}

module _ (bases : Bases) (table : Input) (pc : ℕ) (fde : Fde) where
  in_entry : (entry : Entry) (later : Result Fde Fault) → (later ≡ Ok fde → IsTrue (covers_pc fde pc)) → found_or pc entry later ≡ Ok fde → IsTrue (covers_pc fde pc)
  in_entry (ACie cie) later after e = after e
  in_entry (AFde first) later after e = go (covers_pc first pc) refl e
    where
      go : (b : Bool) → covers_pc first pc ≡ b → cond b (Ok first) later ≡ Ok fde → IsTrue (covers_pc fde pc)
      go true is e = let same : first ≡ fde = cc in subst (λ (f : Fde). IsTrue (covers_pc f pc)) same is
      go false is e = after e

  covers_from : (turns offset : ℕ) → scan_from turns bases table pc offset ≡ Ok fde → IsTrue (covers_pc fde pc)
  covers_from zero offset e = absurd cc
  covers_from (suc turns) offset e = go (λ next later. covers_from turns next later) (entry_at bases table offset) e
    where
      go : ((next : ℕ) → scan_from turns bases table pc next ≡ Ok fde → IsTrue (covers_pc fde pc)) → (r : Result (Option Found) Fault) →
          (r >>= λ found. scan_after pc found (scan_from turns bases table pc)) ≡ Ok fde → IsTrue (covers_pc fde pc)
      go after (Err x) e = absurd cc
      go after (Ok None) e = absurd cc
      go after (Ok (Some found)) e = in_entry found.entry (scan_from turns bases table pc found.next) (after found.next) e

  pub scan-covers : scan bases table pc ≡ Ok fde → IsTrue (covers_pc fde pc)
  unfolding scan
  scan-covers e = covers_from (suc (length table.bytes)) 0 e

pub in_found : (bases : Bases) (table : Input) (pc : ℕ) (found : FoundFde) (r : Result Fde Fault) → scan bases table pc ≡ r → found_in bases table r ≡ Some found → IsTrue (covers_pc found.fde pc)
in_found bases table pc found (Ok fde) is e =
    let same : fde ≡ found.fde = cc in
    subst (λ (f : Fde). IsTrue (covers_pc f pc)) same (scan-covers bases table pc fde is)
in_found bases table pc found (Err x) is e = absurd cc

-- what a scan finds contains the address
pub scanned_covers : (bases : Bases) (table : Input) (pc : ℕ) (found : FoundFde) → scanned_in bases table pc ≡ Some found → IsTrue (covers_pc found.fde pc)
scanned_covers bases table pc found e = in_found bases table pc found (scan bases table pc) refl e
