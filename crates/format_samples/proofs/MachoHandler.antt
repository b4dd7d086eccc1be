-- A Mach-O module whose function has a handler is described, beside modules of other formats.
use Rattle.std.proofs.Common.{◌≡◌, false, [], ◌∷◌, refl, arith, lit<, lit≤}
use Rattle.memory_image.specs.Image.{word_at}
use Rattle.unwind_definitions.specs.State.{value_of}
use Rattle.unwind_definitions.specs.Prologue.{SystemV, steps_of}
use Rattle.unwind_definitions.specs.Entered.{IsEntered}
use Rattle.unwind_definitions.specs.Function.{IsFunction}
use Rattle.unwind_definitions.specs.LanguageTable.{IsLanguageTable}
use Rattle.unwind_laws.proofs.RowFacts.{by_register}
use Rattle.macho_unwind_info.specs.Unaligned.{u32_of_number}
use Rattle.format_definitions.specs.MachoModules.{DescribesMacho}
use Rattle.format_laws.specs.MachoSamples.{sample_module}
use Rattle.format_laws.proofs.MachoValid.{frameless}
use Rattle.format_samples.specs.Handlers.{image, macho_sites, macho_function, in_macho, in_pe}

table : IsLanguageTable image 0x100001800 0x100001000 macho_sites
table = record { nonzero = λ e. absurd cc; size = 4; after = _; header = refl; listed = _; actions = _; parts = refl; each = (_, refl, refl) }

pub described : DescribesMacho image sample_module (macho_function ∷ [])
described = record {
  info = _;
  parses = refl;
  personalities = u32_of_number 0x3000 ∷ [];
  named = refl;
  pages = (lit< tt, record { opened = _; reads = refl; begin = refl; ascend = (record { at = 0x1000; is = refl; from_low = lit≤ tt; below_high = lit< tt; opcode = 0x52010000; reads = refl }, tt) }, tt);
  tables = (lit< tt, record { entries = _; reads = refl; ascend = tt }, tt);
  each = (
    record {
      listed = record { start_address = 0x1000; end_address = 0x2000; opcode = 0x52010000 };
      among = (0, lit< tt, refl);
      describes = record {
        start = refl;
        end = refl;
        inside = lit≤ tt;
        opcode = (refl, frameless);
        language = record { index = lit≤ tt; leads = (macho_sites, refl, table) };
      };
    },
    tt,
  );
}

pub is_function : IsFunction SystemV macho_function
is_function = record {
  prologue = record { ends = tt; each = tt; once = λ i j d lt below. absurd (omega arith) };
  has_body = λ e. absurd cc;
  bodies = (lit≤ tt, lit< tt, lit≤ tt, tt);
  sites = record { ranges = (lit≤ tt, lit< tt, lit≤ tt, tt); actions = ((lit< tt, lit< tt), tt) };
  outermost = λ e. absurd cc;
}

pub entered : IsEntered image false (steps_of macho_function.prologue) in_pe in_macho
unfolding word_at
entered = record { room = lit≤ tt; returns = λ _. refl; leaves = tt; stack = refl; keeps = λ r e. by_register (λ q. value_of q in_macho ≡ value_of q in_pe) refl refl refl refl refl refl r }
