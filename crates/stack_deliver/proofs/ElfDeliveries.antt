-- A chain that is valid by ELF modules alone is one through modules of whatever format.
use Rattle.std.proofs.Common.{ℕ, ◌<◌, List, length}
use Rattle.unwind_definitions.specs.Caller.{Columns}
use Rattle.unwind_definitions.specs.State.{State, Shows}
use Rattle.unwind_definitions.specs.Function.{Function}
use Rattle.unwind_definitions.specs.Chain.{Call}
use Rattle.unwind_definitions.specs.Valid.{IsElfValid}
use Rattle.unwind_arch.specs.declared.x86_64.Context.{Context}
use Rattle.unwind_arch.specs.ContextViews.{columns_of}
use Rattle.stack_steps.specs.Modules.{AreElf, SpaceValue}
use Rattle.stack_steps.specs.SpaceViews.{process_of}
use Rattle.stack_walks.proofs.ElfChains.{parts_described, no_others, chain_in}
use Rattle.stack_deliver.specs.Delivering.{StartsValidChain}

pub elf_starts_valid : (space : SpaceValue) (functions : List Function) (s : State) (resumes : List (ℕ × ℕ)) (calls : List Call) (columns : Columns) → AreElf space.modules → IsElfValid (process_of space) columns resumes functions s calls →
    (c : Context) (limit : ℕ) → Shows (columns_of c) s → length calls < limit → StartsValidChain space c resumes limit functions s calls
elf_starts_valid space functions s resumes calls columns elf is c limit shows shorter = record {
  valid = record {
    parts = parts_described space functions elf is.are_functions is.modules;
    no_others = no_others space functions is.no_others;
    shows = shows;
    chain = chain_in space functions elf s calls is.chain;
    resumed = is.resumed;
  };
  shorter = shorter;
}
