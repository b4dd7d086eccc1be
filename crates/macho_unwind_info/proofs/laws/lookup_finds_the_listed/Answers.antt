use Rattle.macho_unwind_info.specs.Lookup.{lookup_of}
use Rattle.macho_unwind_info.proofs.Covering.{each}
use Rattle.macho_unwind_info.proofs.LookupLemmas.{lookup_of-is}
use Rattle.macho_unwind_info.proofs.laws.lookup_finds_the_listed.Goals as goal

pub returns : goal.returns
returns c = λ info pc described. each info pc (lookup_of info pc) described (lookup_of-is info pc)
