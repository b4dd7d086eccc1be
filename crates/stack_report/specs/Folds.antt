-- The text of folded samples.
use Rattle.std.specs.Prelude.{ℕ, List, [], ◌∷◌, ◌++◌, codes}
use Rattle.std.specs.Fmt.{decimal}
use Rattle.folded_stacks.specs.Counts.{FoldedValue, StackCount}
use Rattle.stack_report.specs.Digits.{hexadecimal}
use Rattle.stack_report.specs.Report.{line}
use Rattle.stack_report.specs.Summary.{count_line}

-- the addresses after the first
abbrev pub other_addresses : List ℕ → List ℕ
other_addresses [] = []
other_addresses (a ∷ others) = codes ";" ++ hexadecimal a ++ other_addresses others

-- the return addresses of a stack, the outermost first
abbrev pub stack_text : List ℕ → List ℕ
stack_text [] = codes "[end]"
stack_text (a ∷ others) = hexadecimal a ++ other_addresses others

-- a stack, and how many samples show it
unfoldable pub fold_line : StackCount → List ℕ
fold_line l = line (stack_text l.stack ++ codes " " ++ decimal l.count)

abbrev pub fold_lines : List StackCount → List ℕ
fold_lines [] = []
fold_lines (l ∷ ls) = fold_line l ++ fold_lines ls

-- what is written of folded samples
abbrev pub fold_report_of : FoldedValue → List ℕ
fold_report_of f = fold_lines f.lines ++ count_line (codes "refused ") f.refused
