-- Why there is no report.
use Rattle.std.specs.Prelude.{ℕ, List, ◌++◌, codes}
use Rattle.unwind_definitions.specs.declared.error.Error.{Error}
use Rattle.unwind_definitions.specs.declared.error.Error.TheVariants as errors
use Rattle.macho_unwind_info.specs.declared.error.Error.{Error as MachoError}
use Rattle.macho_unwind_info.specs.declared.error.Error.TheVariants as sections
use Rattle.macho_unwind_info.specs.declared.error.ReadError.{ReadError}
use Rattle.macho_unwind_info.specs.declared.error.ReadError.TheVariants as parts
use Rattle.stack_steps.specs.declared.error.DeliverError.{DeliverError}
use Rattle.stack_steps.specs.declared.error.DeliverError.TheVariants as refusals
use Rattle.stack_report.specs.Digits.{hexadecimal}
use Rattle.stack_report.specs.Report.{line}

abbrev pub error_name : Error → List ℕ
error_name errors.UnexpectedEof = codes "UnexpectedEof"
error_name errors.UnknownPointerEncoding = codes "UnknownPointerEncoding"
error_name errors.UnsupportedPointerEncoding = codes "UnsupportedPointerEncoding"
error_name errors.CannotParseOmitPointerEncoding = codes "CannotParseOmitPointerEncoding"
error_name errors.UndefinedBase = codes "UndefinedBase"
error_name errors.BadUnsignedLeb128 = codes "BadUnsignedLeb128"
error_name errors.BadSignedLeb128 = codes "BadSignedLeb128"
error_name errors.UnknownVersion = codes "UnknownVersion"
error_name errors.UnsupportedAddressSize = codes "UnsupportedAddressSize"
error_name errors.UnknownAugmentation = codes "UnknownAugmentation"
error_name errors.NotCie = codes "NotCie"
error_name errors.NotFde = codes "NotFde"
error_name errors.AddressOverflow = codes "AddressOverflow"
error_name errors.LocationGoesBack = codes "LocationGoesBack"
error_name errors.UnknownInstruction = codes "UnknownInstruction"
error_name errors.NoCfaRegister = codes "NoCfaRegister"
error_name errors.TooManyRegisterRules = codes "TooManyRegisterRules"
error_name errors.StackFull = codes "StackFull"
error_name errors.PopWithEmptyStack = codes "PopWithEmptyStack"
error_name errors.UnsupportedRegister = codes "UnsupportedRegister"
error_name errors.UnknownOperation = codes "UnknownOperation"
error_name errors.DivisionByZero = codes "DivisionByZero"
error_name errors.BadBranch = codes "BadBranch"
error_name errors.TooManyOperations = codes "TooManyOperations"
error_name errors.NoUnwindInfoForAddress = codes "NoUnwindInfoForAddress"

abbrev pub part_name : ReadError → List ℕ
part_name parts.Header = codes "Header"
part_name parts.GlobalOpcodes = codes "GlobalOpcodes"
part_name parts.Pages = codes "Pages"
part_name parts.RegularPage = codes "RegularPage"
part_name parts.RegularPageFunctions = codes "RegularPageFunctions"
part_name parts.CompressedPage = codes "CompressedPage"
part_name parts.CompressedPageFunctions = codes "CompressedPageFunctions"
part_name parts.LocalOpcodes = codes "LocalOpcodes"
part_name parts.PageKind = codes "PageKind"
part_name parts.Personalities = codes "Personalities"
part_name parts.Lsda = codes "Lsda"

abbrev pub section_text : MachoError → List ℕ
section_text (sections.ReadError part) = codes "macho ReadError " ++ part_name part
section_text sections.InvalidPageEntryFirstAddress = codes "macho InvalidPageEntryFirstAddress"
section_text sections.InvalidPageKind = codes "macho InvalidPageKind"
section_text sections.UnexpectedSentinelPage = codes "macho UnexpectedSentinelPage"
section_text sections.AddressOverflow = codes "macho AddressOverflow"

abbrev pub refusal_text : DeliverError → List ℕ
refusal_text refusals.NoMemory = codes "no memory"
refusal_text (refusals.Unmapped a) = codes "unmapped " ++ hexadecimal a
refusal_text refusals.FrameLimit = codes "frame limit"
refusal_text refusals.PassLimit = codes "pass limit"
refusal_text (refusals.NoResume pad) = codes "no resume " ++ hexadecimal pad
refusal_text (refusals.Table e) = codes "table " ++ error_name e
refusal_text (refusals.MachO e) = section_text e
refusal_text refusals.CompactForm = codes "compact form"
refusal_text refusals.PeInfo = codes "pe info"
refusal_text refusals.ChainLimit = codes "chain limit"

abbrev pub refused_line : DeliverError → List ℕ
refused_line e = line (codes "refused: " ++ refusal_text e)
