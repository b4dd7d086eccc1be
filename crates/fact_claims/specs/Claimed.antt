-- What is claimed, in the words in which it is told what a row says. DWARF 5 section 6.4.1; System V x86-64 psABI for the columns.
use Rattle.std.specs.Prelude.{ℕ, Bool, true, false, List, ◌++◌, Option, Some, None, codes}
use Rattle.std.specs.Fmt.{decimal}
use Rattle.unwind_definitions.specs.Columns as column
use Rattle.unwind_definitions.specs.DescribedRows.{negative}
use Rattle.unwind_definitions.specs.Instructions.{Rule, Offset, SameValue}
use Rattle.frame_facts.specs.FactRows.{return_rule}
use Rattle.fact_checks.specs.declared.facts.ClaimedFacts.{ClaimedFacts}
use Rattle.fact_checks.specs.declared.facts.KnownRegister.{KnownRegister}
use Rattle.fact_checks.specs.declared.facts.KnownRegisters.{KnownRegisters}
use Rattle.fact_checks.specs.Said.{said_rule}
use Rattle.fact_claims.specs.Said.{above_text, rule_text}

-- where the CFA is known to be: so far above RSP, or so far above RBP, or both
abbrev pub known_cfa_text : (rsp rbp : Option ℕ) → List ℕ
known_cfa_text None None = codes " unknown"
known_cfa_text (Some n) None = above_text column.rsp n
known_cfa_text None (Some m) = above_text column.rbp m
known_cfa_text (Some n) (Some m) = above_text column.rsp n ++ codes " or" ++ above_text column.rbp m

-- what a row says by a rule
abbrev pub row_text : Rule → List ℕ
row_text rule = rule_text (said_rule (Some rule))

-- by what rule a row finds what is saved so far below the CFA
abbrev pub slot_text : ℕ → List ℕ
slot_text d = row_text (Offset (negative d))

-- by what rules a row finds a register that is saved so far below the CFA, if it is, and that is kept, if it is
abbrev pub found_text : Option ℕ → Bool → List ℕ
found_text None false = codes " unknown"
found_text (Some d) false = slot_text d
found_text None true = row_text SameValue
found_text (Some d) true = slot_text d ++ codes " or" ++ row_text SameValue

-- what is known of the register of a column
unfoldable pub known_text : ℕ → KnownRegister → List ℕ
known_text c k = codes ", rule " ++ decimal c ++ found_text k.slot k.is_kept

unfoldable pub registers_text : KnownRegisters → List ℕ
registers_text k =
    known_text column.rbx k.rbx ++ known_text column.rbp k.rbp ++ known_text column.r12 k.r12
    ++ known_text column.r13 k.r13 ++ known_text column.r14 k.r14 ++ known_text column.r15 k.r15

-- by what rule a row finds the return address
abbrev pub return_text : Bool → List ℕ
return_text outermost = row_text (return_rule outermost)

-- the CFA, the callee-saved registers and the return address
unfoldable pub claimed_text : ClaimedFacts → List ℕ
claimed_text c =
    codes "; claimed cfa" ++ known_cfa_text c.rsp c.rbp ++ registers_text c.registers
    ++ codes ", rule " ++ decimal column.ra ++ return_text c.is_outermost
