-- What a row says, in words.
use Rattle.std.specs.Prelude.{ℕ, ◌-◌, ◌^◌, nat_lt, List, ◌++◌, codes, if◌then◌else◌}
use Rattle.std.specs.Fmt.{decimal}
use Rattle.fact_checks.specs.declared.rows.Mismatch.{Mismatch}
use Rattle.fact_checks.specs.declared.rows.Mismatch.TheVariants as mismatch
use Rattle.fact_checks.specs.declared.said.SaidCfa.{SaidCfa}
use Rattle.fact_checks.specs.declared.said.SaidCfa.TheVariants as cfa
use Rattle.fact_checks.specs.declared.said.SaidRule.{SaidRule}
use Rattle.fact_checks.specs.declared.said.SaidRule.TheVariants as said
use Rattle.stack_report.specs.Digits.{hexadecimal}

-- an offset, a word: one from 2 ^ 63 on is below 0
unfoldable pub offset_text : ℕ → List ℕ
offset_text n = if nat_lt n (2 ^ 63) then codes "+" ++ hexadecimal n else codes "-" ++ hexadecimal (2 ^ 64 - n)

-- how far an address lies above the register of a column
abbrev pub above_text : ℕ → ℕ → List ℕ
above_text column n = codes " r" ++ decimal column ++ offset_text n

-- where the CFA is by a row
abbrev pub cfa_text : SaidCfa → List ℕ
cfa_text (cfa.Above register n) = above_text register.0 n
cfa_text cfa.Expression = codes " expression"

-- how a register's value in the caller is found by a row
abbrev pub rule_text : SaidRule → List ℕ
rule_text said.Nothing = codes " none"
rule_text said.Undefined = codes " undefined"
rule_text said.SameValue = codes " same value"
rule_text (said.Offset n) = codes " c" ++ offset_text n
rule_text (said.ValOffset n) = codes " v" ++ offset_text n
rule_text (said.Register register) = codes " r" ++ decimal register.0
rule_text said.Expression = codes " expression"
rule_text said.ValExpression = codes " value expression"

-- why a row doesn't say what is claimed: that there is none, or what it says instead
abbrev pub mismatch_text : Mismatch → List ℕ
mismatch_text mismatch.NoDescription = codes " no description"
mismatch_text mismatch.SignalFrame = codes " signal frame"
mismatch_text (mismatch.Fault e) = codes " fault"
mismatch_text (mismatch.Cfa cfa) = codes " cfa" ++ cfa_text cfa
mismatch_text (mismatch.Rule register rule) = codes " rule " ++ decimal register.0 ++ rule_text rule
