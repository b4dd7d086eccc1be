-- A PE module whose function has a handler is described, beside modules of other formats.
use Rattle.std.proofs.Common.{◌≡◌, ℕ, ◌-◌, Bool, true, false, leb, ltb, [], ◌∷◌, Some, None, Ok, refl, arith, inl, lit<, lit≤}
use Rattle.std.specs.Prelude.{IsTrue}
use Rattle.std.proofs.lemmas.Bool.{leb-true, ltb-true}
use Rattle.memory_image.specs.Image.{word_at}
use Rattle.unwind_definitions.specs.State.{value_of}
use Rattle.unwind_definitions.specs.Prologue.{Windows, steps_of}
use Rattle.unwind_definitions.specs.Entered.{IsEntered}
use Rattle.unwind_definitions.specs.Function.{IsFunction, in_body}
use Rattle.unwind_definitions.specs.LanguageTable.{IsLanguageTable}
use Rattle.unwind_laws.specs.Three as three
use Rattle.unwind_laws.proofs.Booleans.{both_true, either_false}
use Rattle.unwind_laws.proofs.RowFacts.{by_register}
use Rattle.pe_unwind_info.specs.Chain.{chain_of}
use Rattle.pe_unwind_info.specs.Epilog.{parsed_instruction, sequence_from}
use Rattle.pe_unwind_info.specs.EpilogList.{leading_epilogs, after_epilogs, is_due}
use Rattle.pe_unwind_info.specs.FrameOf.{epilog_if_tested}
use Rattle.pe_unwind_info.specs.Handlers.{records_of, handler_of}
use Rattle.pe_unwind_info.specs.Header.{frame_register_of}
use Rattle.pe_unwind_info.specs.InfoOperations.{operations_in}
use Rattle.pe_unwind_info.specs.Operations.{operations_of}
use Rattle.format_definitions.specs.PeImage.{memory_of}
use Rattle.format_definitions.specs.PeModules.{IsInNoEpilog, DescribesRecord, DescribesPe}
use Rattle.format_laws.specs.PeSamples.{module_of_one, table_bytes}
use Rattle.format_laws.proofs.PeQuiet.{finds_none, quiet_at}
use Rattle.format_laws.proofs.Tables.{all_from, each_from}
use Rattle.format_samples.specs.Handlers.{image, handled_record, handled_info, handler, pe_sites, pe_function, in_pe}

table : IsLanguageTable image 0x140002018 0x140001000 pe_sites
table = record { nonzero = λ e. absurd cc; size = 4; after = _; header = refl; listed = _; actions = _; parts = refl; each = (_, refl, refl) }

abbrev test : ℕ → Bool
test a = finds_none (epilog_if_tested (is_due 0x1100 a (leading_epilogs (operations_in handled_info))) (memory_of image 0x140000000) (frame_register_of handled_info.header) 0x1100 a)

tests : all_from 0x1000 256 test ≡ true
unfolding parsed_instruction sequence_from leading_epilogs operations_of
tests = refl

quiet : (pc : ℕ) → IsTrue (in_body pe_function pc) → IsInNoEpilog (memory_of image 0x140000000) handled_record handled_info (pc - 0x140000000)
quiet pc h =
    let both = both_true (leb 0x140001000 pc) (ltb pc 0x140001100) (either_false _ h) in
    let low = leb-true 0x140001000 pc both.0 in
    let high = ltb-true pc 0x140001100 both.1 in
    quiet_at (memory_of image 0x140000000) handled_record handled_info (pc - 0x140000000) (each_from 256 0x1000 test tests (pc - 0x140000000) (omega arith) (omega arith))

unfoldable described_record : DescribesRecord image module_of_one handled_record pe_function
unfolding chain_of operations_of after_epilogs
described_record = record {
  start = refl;
  end = refl;
  not_outermost = refl;
  first = handled_info;
  chained = [];
  reads = refl;
  chain = refl;
  language = record { trailer = λ named none. absurd cc; alone = λ named. refl; quiet = tt; leads = (pe_sites, refl, table) };
  whole = (tt, tt);
  inherited = [];
  own = [];
  prologue = refl;
  inherited_ends = tt;
  own_ends = tt;
  undoes_own = refl;
  undoes_inherited = refl;
  grouped = record { frame = []; set = None; stores = []; is = refl; frames = tt; are_stores = tt };
  frame_offset = tt;
  names = (refl, tt);
  bodies = quiet;
}

pub described : DescribesPe image module_of_one (pe_function ∷ [])
described = record {
  bytes = table_bytes 0x00 0x11;
  mapped = refl;
  table = handled_record ∷ [];
  reads = refl;
  ordered = (lit≤ tt, lit< tt, lit≤ tt, tt);
  each = (inl (record { function = handled_record; listed = (0, lit< tt, refl); describes = described_record }), tt);
}

-- the handler that the record names, as it is found
pub found : handler_of (memory_of image 0x140000000) (Some handled_record) ≡ Ok (Some handler)
unfolding records_of
found = refl

pub is_function : IsFunction Windows pe_function
is_function = record {
  prologue = record { ends = (0, [], refl, tt); each = tt; once = λ i j d lt below. absurd (omega arith) };
  has_body = λ e. absurd cc;
  bodies = (lit≤ tt, lit< tt, lit≤ tt, tt);
  sites = record { ranges = (lit≤ tt, lit< tt, lit≤ tt, tt); actions = ((lit< tt, lit< tt), tt) };
  outermost = λ e. absurd cc;
}

pub entered : IsEntered image false (steps_of pe_function.prologue) (three.third 0x401060) in_pe
unfolding word_at
entered = record { room = lit≤ tt; returns = λ _. refl; leaves = tt; stack = refl; keeps = λ r e. by_register (λ q. value_of q in_pe ≡ value_of q (three.third 0x401060)) refl refl refl refl refl refl r }
