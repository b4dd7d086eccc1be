use Rattle.unwinding_frames.proofs.CxxRecords.{handled, cleaned, passed}
use Rattle.unwinding_frames.proofs.cxx.laws.first_record_that_takes_decides.Goals as goal

pub returns-clause-handled : goal.returns-clause-handled
returns-clause-handled c = λ image bases x t pad first filter. handled image bases x t pad first filter

pub returns-clause-cleaned : goal.returns-clause-cleaned
returns-clause-cleaned c = λ image bases x t pad first. cleaned image bases x t pad first

pub returns-clause-passed : goal.returns-clause-passed
returns-clause-passed c = λ image bases x t pad first. passed image bases x t pad first
