-- The code's records as those of the definitions.
use Rattle.std.specs.Option.{option_map}
use Rattle.unwind_definitions.specs.Entries.{Cie, Fde, Entry, ACie, AFde}
use Rattle.eh_frame.specs.declared.cie.Cie.{Cie as CodeCie}
use Rattle.eh_frame.specs.declared.fde.Fde.{Fde as CodeFde}
use Rattle.eh_frame.specs.declared.entries.EhFrame.{EhFrame}
use Rattle.eh_frame.specs.declared.entries.Entry.{Entry as CodeEntry}
use Rattle.eh_frame.specs.declared.entries.Entry.TheVariants as entries
use Rattle.unwind_definitions.specs.Input.{Input}
use Rattle.encoded_pointers.specs.CursorViews.{at}
use Rattle.encoded_pointers.specs.PointerViews.{pointer_of}
use Rattle.eh_frame.specs.Letters.{letters_of}

abbrev pub cie_of : CodeCie → Cie
cie_of c = record {
  offset = c.offset;
  version = c.version;
  code_factor = c.code_alignment;
  data_factor = c.data_alignment;
  return_column = c.return_column.0;
  augmentation = c.augmentation.now;
  letters = letters_of c.letters;
  program = at c.program;
}

abbrev pub fde_of : CodeFde → Fde
fde_of f = record {
  offset = f.offset;
  cie = cie_of f.cie;
  start = f.initial_address;
  size = f.len;
  language = option_map pointer_of f.lsda;
  program = at f.program;
}

abbrev pub table_of : EhFrame → Input
table_of t = record { base = t.address; offset = 0; bytes = t.bytes.now }

abbrev pub entry_of : CodeEntry → Entry
entry_of (entries.Cie cie) = ACie (cie_of cie)
entry_of (entries.Fde fde) = AFde (fde_of fde)
