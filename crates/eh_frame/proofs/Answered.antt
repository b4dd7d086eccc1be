-- What the answer of a scan says, in the words of the table's entries.
use Rattle.std.proofs.Common.{◌≡◌, ℕ, Result, Ok, Err, subst, inl, inr}
use Rattle.std.specs.Prelude.{◌≢◌, IfOk, IfErr, IsTrue}
use Rattle.unwind_definitions.specs.declared.error.Error.{Error as Fault}
use Rattle.unwind_definitions.specs.declared.error.Error.TheVariants.{NoUnwindInfoForAddress}
use Rattle.unwind_definitions.specs.Input.{Input}
use Rattle.unwind_definitions.specs.Pointers.{Bases}
use Rattle.unwind_definitions.specs.Row.{covers_pc}
use Rattle.unwind_definitions.specs.Scan.{scan}
use Rattle.eh_frame.specs.declared.fde.Fde.{Fde}
use Rattle.encoded_pointers.specs.Readers.{Answers}
use Rattle.eh_frame.specs.Search.{IsFirst, IsUnreadable, NoneContains}
use Rattle.eh_frame.specs.EntryViews.{fde_of}
use Rattle.eh_frame.proofs.Faults.{other_entry_at}
use Rattle.eh_frame.proofs.Searching.{Comes, scan_comes, uncovered}

module _ (bases : Bases) (table : Input) (pc : ℕ) (start : table.offset ≡ 0) where
  pub answered_first : (r : Result Fde Fault) → Answers fde_of r (scan bases table pc) → IfOk r (λ fde. IsFirst bases table pc 0 (fde_of fde))
  answered_first (Ok fde) is = subst (Comes bases table pc start 0) is (scan_comes bases table pc start)
  answered_first (Err e) is = tt

  pub answered_contains : (r : Result Fde Fault) → Answers fde_of r (scan bases table pc) → IfOk r (λ fde. IsTrue (covers_pc (fde_of fde) pc))
  answered_contains (Ok fde) is = (answered_first (Ok fde) is).contains
  answered_contains (Err e) is = tt

  pub answered_fault : (r : Result Fde Fault) → Answers fde_of r (scan bases table pc) → IfErr r (λ e. e ≢ NoUnwindInfoForAddress → IsUnreadable bases table pc 0 e)
  answered_fault (Ok fde) is = tt
  answered_fault (Err e) is = λ ne. elim (subst (Comes bases table pc start 0) is (scan_comes bases table pc start)) [ inl u ↦ u | inr u ↦ absurd (ne u.0) ]

  pub answered_none : (r : Result Fde Fault) → Answers fde_of r (scan bases table pc) → r ≡ Err NoUnwindInfoForAddress → NoneContains bases table pc 0
  answered_none (Ok fde) is none = absurd cc
  answered_none (Err e) is none =
      let same : e ≡ NoUnwindInfoForAddress = cc in
      elim (subst (Comes bases table pc start 0) is (scan_comes bases table pc start)) [ inl u ↦ absurd (other_entry_at bases table u.offset (rw (← same) u.unread)) | inr u ↦ u.1 ]

  pub answers_none : (r : Result Fde Fault) → Answers fde_of r (scan bases table pc) → NoneContains bases table pc 0 → r ≡ Err NoUnwindInfoForAddress
  answers_none (Ok fde) is u = let none = uncovered bases table pc start u in absurd cc
  answers_none (Err e) is u = let none = uncovered bases table pc start u in cc
