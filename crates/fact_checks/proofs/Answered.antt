-- What an audit lists, of a module whose tables read.
use Rattle.std.proofs.Common.{◌≡◌, ℕ, List, [], ◌∷◌, Some, subst, arith}
use Rattle.std.specs.Prelude.{◌↔◌, IsTrue, slice_get}
use Rattle.std.specs.List.{AllByRecursion, AllPairs}
use Rattle.memory_image.specs.Image.{Span, IsLaidOut}
use Rattle.unwind_definitions.specs.Entries.{Fde}
use Rattle.unwind_definitions.specs.Function.{in_range}
use Rattle.unwind_definitions.specs.Module.{DescriptionsApart, bases_of}
use Rattle.unwind_definitions.specs.Pointers.{Bases}
use Rattle.unwind_definitions.specs.Scan.{fdes_of}
use Rattle.unwind_laws.proofs.Booleans.{first}
use Rattle.fde_finders.specs.declared.custom.FrameInfo.{FrameInfo}
use Rattle.fde_finders.specs.FrameTables.{FrameTable, table_by}
use Rattle.frame_facts.specs.Claims.{Claim, IsClaimSaid}
use Rattle.frame_facts.specs.FactTables.{HasTables, SaysFactsAt}
use Rattle.frame_facts_laws.proofs.Stretches.{claimed_said}
use Rattle.table_check.specs.Modules.{module_of}
use Rattle.fact_checks.specs.declared.stretches.Difference.{Difference}
use Rattle.fact_checks.specs.Audits.{AreAudited, NoneOf}
use Rattle.fact_checks.specs.InOrder.{AreInOrder}
use Rattle.fact_checks.specs.Looking.{FindsAmong}
use Rattle.fact_checks.proofs.AllClaims.{all_passed, passed_said, said_passed}
use Rattle.fact_checks.proofs.Named.{is_named}

module _ (image : List Span) (laid : IsLaidOut 0 image) (frame : FrameInfo) (t : FrameTable) (named : table_by frame image ≡ Some t) (claims : List Claim) (ds : List Difference)
    (lists : (fdes : List Fde) → FindsAmong t fdes → AllPairs DescriptionsApart fdes → AreAudited t.bases fdes 0 claims ds)
    (start end : ℕ) (d : HasTables image (module_of start end frame)) where
  abbrev bases : Bases
  bases = bases_of (module_of start end frame) d.frame

  abbrev fdes : List Fde
  fdes = fdes_of d.entries

  pub audited_by : AreAudited bases fdes 0 claims ds
  audited_by = let n = is_named image laid start end frame.text_base frame.kind d t named in subst (λ b. AreAudited b fdes 0 claims ds) n.bases_are (lists fdes n.finds d.apart)

  passed : (i : ℕ) (c : Claim) → slice_get claims i ≡ Some c → NoneOf i ds → IsClaimSaid bases fdes c
  passed i c at none = passed_said bases fdes 0 i claims c ds at audited_by (subst (λ k. NoneOf k ds) (omega arith) none)

  pub exact_by : AreInOrder 0 claims → (i : ℕ) (c : Claim) → slice_get claims i ≡ Some c → NoneOf i ds ↔ IsClaimSaid bases fdes c
  exact_by order i c at = (passed i c at, λ said. subst (λ k. NoneOf k ds) (omega arith) (said_passed bases fdes d.apart 0 i 0 claims c ds order at audited_by said))

  pub said_by : AreInOrder 0 claims → AllByRecursion (IsClaimSaid bases fdes) claims → ds ≡ []
  said_by order said = all_passed bases fdes d.apart 0 0 claims ds order audited_by said

  pub facts_by : (i a : ℕ) (c : Claim) → slice_get claims i ≡ Some c → NoneOf i ds → IsTrue (in_range a c.range) → SaysFactsAt image (module_of start end frame) a c.facts
  facts_by i a c at none inside =
      claimed_said image (module_of start end frame) (c ∷ []) c a (record { tables = d; each = (passed i c at none, tt) }) (first c []) inside
