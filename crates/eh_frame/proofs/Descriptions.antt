-- The entries of a table are listed: a common information entry, or a description after the one that it names.
use Rattle.std.proofs.Common.{◌≡◌, ℕ, ◌-◌, ◌<◌, ◌≤◌, Bool, cond, true, false, List, [], ◌∷◌, ◌++◌, length, map, Result, Ok, ap, sym, subst, ◌∙◌, arith}
use Rattle.std.specs.Prelude.{nat_lt}
use Rattle.std.specs.Int.{w32}
use Rattle.std.specs.List.{AllByRecursion}
use Rattle.unwind_definitions.specs.declared.error.Error.{Error as Fault}
use Rattle.unwind_definitions.specs.Input.{Input, number}
use Rattle.unwind_definitions.specs.Pointers.{Bases}
use Rattle.unwind_definitions.specs.Entries.{Cie, Fde, ACie, AFde, cie_at, cie_body, fde_body}
use Rattle.eh_frame.specs.FdeLists.{AddsCie, AddsFde, IsListOf, IsTold, KeepsCie, ListsEntry, cie_in, fde_with, function_in}
use Rattle.eh_frame.specs.Listed.{nonempty}
use Rattle.eh_frame.specs.Shared.{StandsIn}
use Rattle.eh_frame.specs.EntryViews.{cie_of}
use Rattle.eh_frame.specs.declared.cie.Cie.{Cie as CodeCie}
use Rattle.eh_frame.specs.declared.fde_list.FdeList.{FdeList}
use Rattle.eh_frame.specs.declared.indexed_fde.IndexedFde.{IndexedFde}
use Rattle.eh_frame.specs.declared.prepared.PreparedFunction.{PreparedFunction}
use Rattle.eh_frame.proofs.EntryParts.{no_common, no_fde, whole_common, whole_fde}
use Rattle.eh_frame.proofs.ListingFdes.{cie_added, cie_kept, function_added}
use Rattle.eh_frame.proofs.Sharing.{at_own}

pub common_listed : (bases : Bases) (table : Input) (offset : ℕ) (b rest : Input) → number w32 b ≡ Ok (0, rest) → (old new : FdeList) → new.fdes ≡ old.fdes → (readable : Bool) → AddsCie (cie_body bases offset rest) old.cies.items readable new.cies.items → ListsEntry bases table offset b old readable new
common_listed bases table offset b rest read old new same true (code, is, more) = (
  ACie (cie_of code),
  whole_common bases table offset b rest read (cie_of code) is,
  λ fdes list one. subst (λ v. IsListOf bases table new.cies.items v.items (fdes ++ [])) (sym same) (cie_added bases table old.cies.items old.fdes.items fdes list new.cies.items code more one),
)
common_listed bases table offset b rest read old new same false (e, is) = (e, no_common bases table offset b rest read e is)

pub description_added : (bases : Bases) (cies : List CodeCie) (i offset : ℕ) (body : Input) (code : CodeCie) (fde : IndexedFde) (f : PreparedFunction) (old new : List PreparedFunction) → cie_in cies i ≡ cie_of code → i < length cies →
    fde_body bases (cie_of code) offset body ≡ Ok (fde_with (cie_of code) fde) → IsTold (cie_of code) fde → fde.cie ≡ i → f.fde ≡ fde → new ≡ cond (nat_lt 0 fde.len) (old ++ f ∷ []) old → AddsFde (fde_body bases (cie_in cies i) offset body) cies old true new
description_added bases cies i offset body code fde f old new there lt reads told at is more =
    let own : f.fde.cie ≡ i = ap (λ (g : IndexedFde). g.cie) is ∙ at in
    let same : cie_in cies f.fde.cie ≡ cie_of code = ap (cie_in cies) own ∙ there in
    let view : fde_with (cie_of code) fde ≡ function_in cies f = ap (fde_with (cie_of code)) (sym is) ∙ ap (λ (k : Cie). fde_with k f.fde) (sym same) in (
      f,
      ap (λ (k : Cie). fde_body bases k offset body) there ∙ reads ∙ ap (λ (x : Fde). let r : Result Fde Fault = Ok x in r) view,
      record { within = omega arith; told = subst (λ (k : Cie). IsTold k f.fde) (sym same) (subst (IsTold (cie_of code)) (sym is) told) },
      more ∙ ap (λ (g : IndexedFde). cond (nat_lt 0 g.len) (old ++ f ∷ []) old) (sym is),
    )

module _ (bases : Bases) (table : Input) (offset : ℕ) (b rest : Input) (id place index : ℕ) (read : number w32 b ≡ Ok (id, rest)) (other : id ≡ 0 → ⊥) (stands : place ≡ b.offset) (within : id ≤ place)
    (old middle new : FdeList) (all : AllByRecursion (StandsIn bases table) (map cie_of old.cies.items)) (lists : (cie : Cie) × (cie_at bases table (place - id) ≡ Ok cie) × KeepsCie old.cies.items cie index middle.cies.items) (same : middle.fdes ≡ old.fdes) (cies : new.cies ≡ middle.cies) where
  stands_there : StandsIn bases table lists.0
  stands_there = at_own bases table (place - id) lists.0 lists.1

  there : cie_in middle.cies.items index ≡ lists.0
  there = lists.2.is bases table all stands_there

  pub description_listed : (readable : Bool) → AddsFde (fde_body bases (cie_in middle.cies.items index) offset rest) middle.cies.items middle.fdes.items readable new.fdes.items → ListsEntry bases table offset b old readable new
  description_listed true (f, is, named, more) =
      let made = ap (λ (c : Cie). fde_body bases c offset rest) (sym there) ∙ is in (
        AFde (function_in middle.cies.items f),
        whole_fde bases table offset b rest id place read other stands within lists.0 lists.1 (function_in middle.cies.items f) made,
        λ fdes list one.
            let kept = cie_kept bases table old.cies.items old.fdes.items fdes list middle.cies.items lists.0 index lists.2 stands_there in
            let kept' = subst (λ v. IsListOf bases table middle.cies.items v.items fdes) (sym same) kept in
            subst (λ v. IsListOf bases table v.items new.fdes.items (fdes ++ nonempty (AFde (function_in middle.cies.items f) ∷ []))) (sym cies)
            (function_added bases table middle.cies.items middle.fdes.items fdes kept' f new.fdes.items named more),
      )
  description_listed false (e, is) = (e, no_fde bases table offset b rest id place read other stands within lists.0 lists.1 e (ap (λ (c : Cie). fde_body bases c offset rest) (sym there) ∙ is))
