-- What is claimed, as claims of the definitions.
use Rattle.std.specs.Prelude.{Bool, Option}
use Rattle.std.specs.List.{filter, filter_map}
use Rattle.std.specs.Option.{option_map}
use Rattle.unwind_definitions.specs.State.{CalleeSaved, RBX, RBP, R12, R13, R14, R15}
use Rattle.frame_facts.specs.Facts.{Slot, Facts}
use Rattle.frame_facts.specs.StepFacts.{all_callee_saved}
use Rattle.frame_facts.specs.Claims.{Claim}
use Rattle.fact_checks.specs.declared.facts.ClaimedFacts.{ClaimedFacts}
use Rattle.fact_checks.specs.declared.facts.KnownRegister.{KnownRegister}
use Rattle.fact_checks.specs.declared.facts.KnownRegisters.{KnownRegisters}

abbrev pub known_of : KnownRegisters → CalleeSaved → KnownRegister
known_of k RBX = k.rbx
known_of k RBP = k.rbp
known_of k R12 = k.r12
known_of k R13 = k.r13
known_of k R14 = k.r14
known_of k R15 = k.r15

-- where a register is saved, if it is
abbrev pub slot_in : KnownRegisters → CalleeSaved → Option Slot
slot_in k r = option_map (λ d. record { register = r; distance = d }) (known_of k r).slot

abbrev pub is_kept_in : KnownRegisters → CalleeSaved → Bool
is_kept_in k r = (known_of k r).is_kept

abbrev pub facts_of : ClaimedFacts → Facts
facts_of c = record { rsp = c.rsp; rbp = c.rbp; saved = filter_map (slot_in c.registers) all_callee_saved; kept = filter (is_kept_in c.registers) all_callee_saved; outermost = c.is_outermost }

abbrev pub claim_of : ClaimedFacts → Claim
claim_of c = record { range = record { from = c.from; to = c.to }; facts = facts_of c }
