use Rattle.format_laws.proofs.Homes.{one_home, in_home}
use Rattle.format_laws.proofs.validity.address_lies_in_one_module.Goals as goal

pub returns-clause-one : goal.returns-clause-one
returns-clause-one c' = λ image modules a m n is p q i j. one_home modules is.apart a m n p q i j

pub returns-clause-home : goal.returns-clause-home
returns-clause-home c' = λ image modules functions f a lies has low high. in_home image modules functions f lies has a low high
