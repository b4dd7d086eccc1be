-- The frame table of one function of 16 bytes, which pushes RBX, and its index.
use Rattle.std.specs.Prelude.{◌-◌, ◌^◌, false, List, [], ◌∷◌, Some, None, Ok}
use Rattle.unwind_definitions.specs.Columns as column
use Rattle.unwind_definitions.specs.Input.{Input}
use Rattle.unwind_definitions.specs.Instructions.{Offset}
use Rattle.unwind_definitions.specs.Entries.{Cie, Fde, Entry, ACie, AFde}
use Rattle.unwind_definitions.specs.Row.{ColumnAndOffset}
use Rattle.frame_rows.specs.KeptRows.{Kept}
use Rattle.frame_rows.specs.RowValue.{RowValue}
use Rattle.eh_frame.specs.Index.{Index}

abbrev pub table : Input
table = record {
  base = 0x500000;
  offset = 0;
  bytes = 0x14 ∷ 0x00 ∷ 0x00 ∷ 0x00 ∷ 0x00 ∷ 0x00 ∷ 0x00 ∷ 0x00 ∷ 0x01 ∷ 0x7a ∷ 0x52 ∷ 0x00 ∷ 0x01 ∷ 0x78 ∷ 0x10 ∷ 0x01 ∷ 0x1b ∷ 0x0c ∷ 0x07 ∷ 0x08 ∷ 0x90 ∷ 0x01 ∷ 0x00 ∷ 0x00 ∷
      0x14 ∷ 0x00 ∷ 0x00 ∷ 0x00 ∷ 0x1c ∷ 0x00 ∷ 0x00 ∷ 0x00 ∷ 0xe0 ∷ 0x0f ∷ 0xf0 ∷ 0xff ∷ 0x10 ∷ 0x00 ∷ 0x00 ∷ 0x00 ∷ 0x00 ∷ 0x41 ∷ 0x0e ∷ 0x10 ∷ 0x83 ∷ 0x02 ∷ 0x00 ∷ 0x00 ∷
      0x00 ∷ 0x00 ∷ 0x00 ∷ 0x00 ∷ [];
}

abbrev pub cie : Cie
cie = record {
  offset = 0;
  version = 1;
  code_factor = 1;
  data_factor = 2 ^ 64 - 8;
  return_column = 16;
  augmentation = 0x7a ∷ 0x52 ∷ [];
  letters = record { language = None; personality = None; address = Some 0x1b; signal = false };
  program = record { base = 0x500000; offset = 17; bytes = 0x0c ∷ 0x07 ∷ 0x08 ∷ 0x90 ∷ 0x01 ∷ 0x00 ∷ 0x00 ∷ [] };
}

abbrev pub fde : Fde
fde = record {
  offset = 24;
  cie = cie;
  start = 0x401000;
  size = 0x10;
  language = None;
  program = record { base = 0x500000; offset = 41; bytes = 0x41 ∷ 0x0e ∷ 0x10 ∷ 0x83 ∷ 0x02 ∷ 0x00 ∷ 0x00 ∷ [] };
}

abbrev pub entries : List Entry
entries = ACie cie ∷ AFde fde ∷ []

-- at the start the return address stands 8 bytes below the CFA
abbrev pub row_at_start : RowValue
row_at_start = record { cfa = ColumnAndOffset column.rsp 8; rules = (column.ra, Offset (2 ^ 64 - 8)) ∷ []; saved_args_size = 0 }

-- and after the push RBX stands below it
abbrev pub row_in_body : RowValue
row_in_body = record { cfa = ColumnAndOffset column.rsp 16; rules = (column.rbx, Offset (2 ^ 64 - 16)) ∷ (column.ra, Offset (2 ^ 64 - 8)) ∷ []; saved_args_size = 0 }

abbrev pub kept : List Kept
kept = record { location = 0x401000; answer = Ok row_at_start } ∷ record { location = 0x401001; answer = Ok row_in_body } ∷ []

abbrev pub index : Index
index = record { functions = record { fde = fde; kept = kept } ∷ []; row_count = 2; rule_count = 3 }
