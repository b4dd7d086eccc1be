-- What is claimed of registers is what is known of them.
use Rattle.std.proofs.Common.{◌≡◌, ℕ, Option, Some, None, refl, subst, ap, inl, inr}
use Rattle.std.specs.Option.{option_map}
use Rattle.unwind_definitions.specs.State.{CalleeSaved}
use Rattle.unwind_definitions.specs.Instructions.{Rule}
use Rattle.unwind_laws.proofs.Booleans.{all_contains, contains_filter, filter_contains}
use Rattle.frame_facts.specs.Facts.{Slot}
use Rattle.frame_facts.specs.FactRows.{FindsKnown}
use Rattle.frame_facts.specs.StepFacts.{all_callee_saved}
use Rattle.frame_facts_laws.proofs.FromSteps.{among_all}
use Rattle.frame_facts_laws.proofs.Lists.{all_mapped, contains_mapped}
use Rattle.fact_checks.specs.declared.facts.ClaimedFacts.{ClaimedFacts}
use Rattle.fact_checks.specs.declared.facts.KnownRegisters.{KnownRegisters}
use Rattle.fact_checks.specs.ClaimViews.{facts_of, is_kept_in, known_of, slot_in}
use Rattle.fact_checks.specs.RowFacts.{IsFound}

abbrev slot : CalleeSaved → ℕ → Slot
slot r d = record { register = r; distance = d }

module _ (k : KnownRegisters) where
  abbrev IsIn : Slot → Type 0
  IsIn s = (known_of k s.register).slot ≡ Some s.distance

  slot_is : (r : CalleeSaved) (s : Slot) → slot_in k r ≡ Some s → IsIn s
  slot_is r s e = go (known_of k r).slot refl e
    where
      go : (o : Option ℕ) → (known_of k r).slot ≡ o → option_map (slot r) o ≡ Some s → IsIn s
      go None is e = absurd cc
      go (Some d) is e = let same : slot r d ≡ s = cc in subst IsIn same is

module _ (c : ClaimedFacts) where
  abbrev k : KnownRegisters
  k = c.registers

  pub known_found : (r : CalleeSaved) (rule : Option Rule) → FindsKnown (facts_of c) r rule → IsFound (known_of k r) rule
  known_found r rule (inl (d, has, is)) = inl (d, all_contains (IsIn k) (facts_of c).saved (slot r d) (all_mapped (IsIn k) (slot_in k) all_callee_saved (slot_is k)) has, is)
  known_found r rule (inr (has, is)) = inr ((filter_contains (is_kept_in k) all_callee_saved r has).1, is)

  pub found_known : (r : CalleeSaved) (rule : Option Rule) → IsFound (known_of k r) rule → FindsKnown (facts_of c) r rule
  found_known r rule (inl (d, has, is)) = inl (d, contains_mapped (slot_in k) all_callee_saved r (slot r d) (among_all r) (ap (option_map (slot r)) has), is)
  found_known r rule (inr (has, is)) = inr (contains_filter (is_kept_in k) all_callee_saved r (among_all r) has, is)
