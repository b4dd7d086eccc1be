-- What is written of a check.
use Rattle.std.specs.Prelude.{ℕ, List, ◌++◌, codes}
use Rattle.std.specs.Fmt.{decimal}
use Rattle.table_check.specs.declared.reason.Reason.{Reason}
use Rattle.table_check.specs.declared.reason.Reason.TheVariants as reason
use Rattle.table_check.specs.declared.verdict.Verdict.{Verdict}
use Rattle.table_check.specs.declared.verdict.Verdict.TheVariants.{Yes, No}
use Rattle.stack_report.specs.Digits.{hexadecimal}
use Rattle.stack_report.specs.Report.{line}

-- the part that fails first
abbrev pub reason_text : Reason → List ℕ
reason_text (reason.Claim i) = codes "claim " ++ decimal i
reason_text (reason.Range i) = codes "range " ++ decimal i
reason_text reason.Header = codes "header"
reason_text (reason.Entry offset) = codes "entry " ++ hexadecimal offset
reason_text (reason.Extra start) = codes "extra " ++ hexadecimal start
reason_text (reason.Missing i) = codes "missing " ++ decimal i
reason_text (reason.Program i) = codes "program " ++ decimal i
reason_text (reason.Sites i) = codes "sites " ++ decimal i
reason_text reason.HeaderTable = codes "header table"

abbrev pub verdict_text : Verdict → List ℕ
verdict_text Yes = codes "yes"
verdict_text (No r) = codes "no " ++ reason_text r

abbrev pub verdict_line : Verdict → List ℕ
verdict_line v = line (verdict_text v)
