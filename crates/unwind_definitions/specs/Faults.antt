-- Why call frame bytes can't be read or run, and readings that stop at the first fault.
use Rattle.std.specs.Prelude.{Result, Ok, Err, Bool, if◌then◌else◌}
pub use Rattle.memory_image.specs.Results.{◌>>=◌}
pub use Rattle.unwind_definitions.specs.declared.error.Error.{Error as Fault}
pub use Rattle.unwind_definitions.specs.declared.error.Error.TheVariants.{UnexpectedEof, UnknownPointerEncoding, UnsupportedPointerEncoding, CannotParseOmitPointerEncoding, UndefinedBase, BadUnsignedLeb128, BadSignedLeb128, UnknownVersion, UnsupportedAddressSize, UnknownAugmentation, NotCie, NotFde, AddressOverflow, LocationGoesBack, UnknownInstruction, NoCfaRegister, TooManyRegisterRules, StackFull, PopWithEmptyStack, UnsupportedRegister, UnknownOperation, DivisionByZero, BadBranch, TooManyOperations, NoUnwindInfoForAddress}

-- what holds, or else is a fault
abbrev pub unless : Bool → Fault → Result (Unit {0}) Fault
unless b e = if b then Ok tt else Err e
