-- The worked example is read as what it holds.
use Rattle.std.proofs.Common.{◌≡◌, Some, None, refl}
use Rattle.memory_image.specs.Words.{u16_at, u32_at, u64_at}
use Rattle.elf_symbols.specs.Functions.{function_at, table_of}
use Rattle.elf_symbols.specs.Sample.{inner, outer, small_file, small_table}

pub small_file_is_read : table_of small_file ≡ Some small_table
unfolding u16_at u32_at u64_at table_of
small_file_is_read = refl

pub at_outer : function_at small_table 0x1000 ≡ Some outer
at_outer = refl

pub at_inner : function_at small_table 0x1013 ≡ Some inner
at_inner = refl

pub after_inner : function_at small_table 0x1020 ≡ Some outer
after_inner = refl

pub past_outer : function_at small_table 0x1040 ≡ None
past_outer = refl
