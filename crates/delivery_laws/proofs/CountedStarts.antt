-- Where the counts of steps are known: a delivery by a header, and a frame that a scan finds.
use Rattle.std.proofs.Common.{◌^◌, ◌<◌, false, refl, lit<, lit≤}
use Rattle.memory_image.specs.Image.{IsLaidOut}
use Rattle.unwind_laws.specs.Three.{start, resumes, functions, calls}
use Rattle.unwind_laws.proofs.ThreeValid.{three_header_process, header_valid}
use Rattle.fde_finders.specs.HeaderFinding.{pairs_by_header}
use Rattle.stack_steps.specs.Modules.{AreApart}
use Rattle.stack_steps.specs.StopSample.{pushing_module, pushing_space, stopped_at}
use Rattle.stack_steps.specs.Ticking.{IsScannedAt, CountsWithin, module_pairs}
use Rattle.stack_deliver.specs.Delivering.{StartsValidChain}
use Rattle.stack_deliver.specs.Searches.{HasOneHeader}
use Rattle.stack_deliver.proofs.ElfDeliveries.{elf_starts_valid}
use Rattle.delivery_laws.proofs.Starts.{registers_show}
use Rattle.delivery_laws.specs.CountedSpaces.{header_tables, header_loaded, space_by_header}
use Rattle.delivery_laws.specs.StateRegisters.{registers_of}

pub header_memory : IsLaidOut 0 space_by_header.image
header_memory = three_header_process.regions

pub header_apart : AreApart 0 space_by_header.modules
header_apart = (lit≤ tt, lit< tt, lit< tt)

pub header_starts : StartsValidChain space_by_header (registers_of start) resumes 8 functions start calls
header_starts = elf_starts_valid space_by_header functions start resumes calls _ (tt, tt) header_valid (registers_of start) 8 (registers_show start) (lit< tt)

-- the header lists three descriptions
few_pairs : module_pairs space_by_header.image header_loaded.tables < 2 ^ 2
unfolding pairs_by_header
few_pairs = lit< tt

pub one_header : HasOneHeader space_by_header 2
one_header = record { holder = header_loaded; tables = header_tables; header = 0x504000; one = refl; elf = refl; names = refl; pairs = few_pairs }

pub counts : CountsWithin space_by_header 2
counts = ((few_pairs, tt), (lit< tt, tt))

-- ---- a scan

pub scanned_memory : IsLaidOut 0 pushing_space.image
scanned_memory = (lit≤ tt, lit< tt, lit≤ tt, (lit≤ tt, lit< tt, lit≤ tt, tt))

pub scanned_apart : AreApart 0 pushing_space.modules
scanned_apart = (lit≤ tt, lit< tt, lit< tt)

pub scanned : IsScannedAt pushing_space (stopped_at 0x401006) false
scanned = record { returns = λ e. absurd cc; holder = pushing_module; holds = refl; unsearched = (0x500000, refl); unprepared = refl }
