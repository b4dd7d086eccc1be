use Rattle.unwind_definitions.specs.LanguageTable.{input_at}
use Rattle.unwind_definitions.specs.HeaderSearch.{table_answer}
use Rattle.unwind_definitions.specs.HeaderSearchLaws.{table_answer-is}
use Rattle.unwind_definitions.specs.Module.{bases_of}
use Rattle.unwind_laws.proofs.HeaderListed.{header_read, search_answers}
use Rattle.unwind_laws.proofs.tables.header_search_answers_as_a_scan.Goals as goal

pub returns-clause-reads : goal.returns-clause-reads
returns-clause-reads c image h frame fdes bases table = header_read image h frame fdes bases table

pub returns-clause-answers : goal.returns-clause-answers
returns-clause-answers c image m functions d h bases table pc found t answer laid reads has by = search_answers image m functions d h bases table pc found t answer laid reads has by

pub returns-clause-exact : goal.returns-clause-exact
returns-clause-exact c image m functions d h bases table pc found t laid reads has =
    search_answers image m functions d h bases table pc found t (table_answer (bases_of m d.frame) (input_at image d.frame) t pc) laid reads has (table_answer-is t pc (bases_of m d.frame) (input_at image d.frame))
