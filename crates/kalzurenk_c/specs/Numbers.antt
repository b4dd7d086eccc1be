-- The numbers of errors, as the header has them.
use Rattle.std.specs.Prelude.{ℕ}
use Rattle.unwind_definitions.specs.declared.error.Error.{Error}
use Rattle.unwind_definitions.specs.declared.error.Error.TheVariants as table
use Rattle.macho_unwind_info.specs.declared.error.Error as macho-error
use Rattle.macho_unwind_info.specs.declared.error.Error.TheVariants as macho
use Rattle.macho_unwind_info.specs.declared.error.ReadError as read-error
use Rattle.macho_unwind_info.specs.declared.error.ReadError.TheVariants as read
use Rattle.stack_steps.specs.declared.error.DeliverError.{DeliverError}
use Rattle.stack_steps.specs.declared.error.DeliverError.TheVariants as step

abbrev pub table_number : Error → ℕ
table_number table.UnexpectedEof = 1
table_number table.UnknownPointerEncoding = 2
table_number table.UnsupportedPointerEncoding = 3
table_number table.CannotParseOmitPointerEncoding = 4
table_number table.UndefinedBase = 5
table_number table.BadUnsignedLeb128 = 6
table_number table.BadSignedLeb128 = 7
table_number table.UnknownVersion = 8
table_number table.UnsupportedAddressSize = 9
table_number table.UnknownAugmentation = 10
table_number table.NotCie = 11
table_number table.NotFde = 12
table_number table.AddressOverflow = 13
table_number table.LocationGoesBack = 14
table_number table.UnknownInstruction = 15
table_number table.NoCfaRegister = 16
table_number table.TooManyRegisterRules = 17
table_number table.StackFull = 18
table_number table.PopWithEmptyStack = 19
table_number table.UnsupportedRegister = 20
table_number table.UnknownOperation = 21
table_number table.DivisionByZero = 22
table_number table.BadBranch = 23
table_number table.TooManyOperations = 24
table_number table.NoUnwindInfoForAddress = 25

abbrev pub part_number : read-error.ReadError → ℕ
part_number read.Header = 101
part_number read.GlobalOpcodes = 102
part_number read.Pages = 103
part_number read.RegularPage = 104
part_number read.RegularPageFunctions = 105
part_number read.CompressedPage = 106
part_number read.CompressedPageFunctions = 107
part_number read.LocalOpcodes = 108
part_number read.PageKind = 109
part_number read.Personalities = 114
part_number read.Lsda = 115

abbrev pub macho_number : macho-error.Error → ℕ
macho_number (macho.ReadError part) = part_number part
macho_number macho.InvalidPageEntryFirstAddress = 110
macho_number macho.InvalidPageKind = 111
macho_number macho.UnexpectedSentinelPage = 112
macho_number macho.AddressOverflow = 113

abbrev pub refused_number : DeliverError → ℕ
refused_number (step.Table e) = table_number e
refused_number (step.MachO e) = macho_number e
refused_number (step.Unmapped a) = 201
refused_number step.CompactForm = 202
refused_number step.PeInfo = 203
refused_number step.ChainLimit = 204
refused_number step.NoMemory = 210
refused_number step.FrameLimit = 211
refused_number step.PassLimit = 212
refused_number (step.NoResume pad) = 213

-- the address that isn't mapped, or the landing pad without a return address
abbrev pub refused_detail : DeliverError → ℕ
refused_detail (step.Unmapped a) = a
refused_detail (step.NoResume pad) = pad
refused_detail _ = 0
