-- The sample of three functions that call one another begins a described chain.
use Rattle.std.proofs.Common.{◌≡◌, Some, refl, arith}
use Rattle.unwind_definitions.specs.State.{Shows, column_of, value_of}
use Rattle.unwind_laws.specs.Three as three
use Rattle.unwind_laws.proofs.RowFacts.{by_register}
use Rattle.unwind_laws.proofs.ThreeValid.{caught_valid}
use Rattle.unwind_laws.proofs.Walk.{valid_described}
use Rattle.unwind_arch.specs.ContextViews.{columns_of}
use Rattle.stack_walks.specs.Walking.{StartsChain}
use Rattle.stack_walks.proofs.ElfChains.{elf_starts}
use Rattle.stack_snapshot.specs.Content.{space_of}
use Rattle.backtrace.specs.ChainSample.{calling, calling_start}

shown : Shows (columns_of calling_start) three.start
shown = record { ra = refl; sp = refl; saved = λ r. by_register (λ r. columns_of calling_start (column_of r) ≡ Some (value_of r three.start)) refl refl refl refl refl refl r }

pub starts : StartsChain (space_of calling) calling_start 8 three.functions three.start three.calls
starts = elf_starts (space_of calling) three.functions (tt, tt) three.start three.calls (valid_described three.process _ _ three.functions three.start three.calls caught_valid) calling_start 8 shown (omega arith)
