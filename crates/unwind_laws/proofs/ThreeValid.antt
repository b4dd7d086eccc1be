-- Three functions with language tables: calls of them are valid, by their frame table alone, and by a header table.
use Rattle.std.proofs.Common.{◌≡◌, ℕ, zero, suc, ◌^◌, ◌<◌, false, List, [], ◌∷◌, map, Some, None, refl, subst, arith, inl, inr, lit<, lit≤}
use Rattle.std.specs.Prelude.{IsFalse, ◌≢◌, Ok, slice_index}
use Rattle.std.specs.List.{Contains, AllPairs, AllByRecursion, list_any}
use Rattle.std.proofs.lemmas.List.Sorted.{IsPermutation-refl}
use Rattle.memory_image.specs.Image.{Span, word_at}
use Rattle.unwind_definitions.specs.Header.{pair_at}
use Rattle.unwind_definitions.specs.HeaderSearch.{IsTableAnswer}
use Rattle.unwind_definitions.specs.HeaderSearchLaws.{AreStarts}
use Rattle.unwind_definitions.specs.Pointers.{Bases}
use Rattle.unwind_definitions.specs.Entries.{Fde, entry_at}
use Rattle.unwind_definitions.specs.State.{State, value_of, IsState}
use Rattle.unwind_definitions.specs.Prologue.{SystemV, Save, steps_of, distance}
use Rattle.unwind_definitions.specs.Entered.{IsEntered}
use Rattle.unwind_definitions.specs.Function.{Site, Cleanup, Catch, NoAction, IsFunction}
use Rattle.unwind_definitions.specs.LanguageTable.{IsLanguageTable}
use Rattle.unwind_definitions.specs.FrameTable.{IsEmittedCie, DescribesFrames, MeetsNot, has_range_of}
use Rattle.unwind_definitions.specs.Module.{Module, IsElfProcess, AreApart, bases_of, DescriptionsApart, DescribesModule, CoversNot, IsUncovered, IsHeaderTable, pair_of}
use Rattle.unwind_definitions.specs.Chain.{IsCalled, IsChain}
use Rattle.unwind_definitions.specs.Valid.{IsElfValid}
use Rattle.unwind_laws.specs.Columns.{columns_of}
use Rattle.unwind_laws.specs.Three.{header, image, table, cie_plain, cie_language, fde_a, fde_b, fde_c, fa, fb, fc, functions, entries, module_of_them, process, start, second, third, last, calls_through, calls, resumes, unlisted_process, unlisted_calls, pairs, starts, module_with_header, header_image, header_process, longer_module, longer_process, after}
use Rattle.unwind_laws.proofs.Booleans.{here_or_later, none_in_nil, pairs_one, pairs_two}
use Rattle.unwind_laws.proofs.RowFacts.{by_register, state_fits}
use Rattle.unwind_laws.proofs.PushingValid.{columns_show}
use Rattle.unwind_laws.proofs.ThreeRows.{rows_a, rows_b, rows_c}

abbrev pub sites_b : List Site
sites_b = record { range = record { from = 0x401028; to = 0x401038 }; action = Cleanup 0x401040 } ∷ record { range = record { from = 0x401040; to = 0x401050 }; action = NoAction } ∷ []

abbrev pub sites_c : List Site
sites_c = record { range = record { from = 0x401058; to = 0x401068 }; action = Catch 0x401070 } ∷ []

-- ---- the functions
pub function_a : IsFunction SystemV fa
function_a = record {
  prologue = record {
    ends = (lit< tt, (lit< tt, (lit< tt, (lit< tt, tt))));
    each = (refl, ((refl, refl, refl), (refl, ((lit< tt, refl), tt))));
    once = pairs_two (λ (a b : Save). a.register ≢ b.register) _ _ (λ e. absurd cc);
  };
  has_body = λ e. absurd cc;
  bodies = (lit≤ tt, lit< tt, lit≤ tt, tt);
  sites = tt;
  outermost = λ e. absurd cc;
}

pub function_b : IsFunction SystemV fb
function_b = record {
  prologue = record { ends = (lit< tt, tt); each = (refl, tt); once = pairs_one (λ (a b : Save). a.register ≢ b.register) _ };
  has_body = λ e. absurd cc;
  bodies = (lit≤ tt, lit< tt, lit≤ tt, tt);
  sites = record { ranges = (lit≤ tt, lit< tt, lit≤ tt, (lit≤ tt, lit< tt, lit≤ tt, tt)); actions = ((lit< tt, lit< tt), (tt, tt)) };
  outermost = λ e. absurd cc;
}

pub function_c : IsFunction SystemV fc
function_c = record {
  prologue = record { ends = (lit< tt, (lit< tt, (lit< tt, tt))); each = (refl, (refl, ((lit< tt, refl), tt))); once = pairs_two (λ (a b : Save). a.register ≢ b.register) _ _ (λ e. absurd cc) };
  has_body = λ e. absurd cc;
  bodies = (lit≤ tt, lit< tt, lit≤ tt, tt);
  sites = record { ranges = (lit≤ tt, lit< tt, lit≤ tt, tt); actions = ((lit< tt, lit< tt), tt) };
  outermost = λ e. absurd cc;
}

-- ---- the tables
pub emitted_plain : (memory : List Span) → IsEmittedCie memory cie_plain
emitted_plain memory = record { version = refl; code_factor = refl; data_factor = refl; return_column = refl; augmentation = inl refl; address = refl; language = inl refl; personality = tt; program = (2, refl) }

pub pairs_three : AllPairs DescriptionsApart (fde_a ∷ fde_b ∷ fde_c ∷ [])
pairs_three i zero d lt below = absurd (omega arith)
pairs_three zero (suc zero) d lt below = inl (lit≤ tt)
pairs_three zero (suc (suc zero)) d lt below = inl (lit≤ tt)
pairs_three (suc zero) (suc zero) d lt below = absurd (omega arith)
pairs_three (suc zero) (suc (suc zero)) d lt below = inl (lit≤ tt)
pairs_three (suc (suc i)) (suc zero) d lt below = absurd (omega arith)
pairs_three (suc (suc i)) (suc (suc zero)) d lt below = absurd (omega arith)
pairs_three i (suc (suc (suc j))) d lt below = absurd (omega arith)

pub each_fde : (P : Fde → Type 0) → P fde_a → P fde_b → P fde_c → (f : Fde) → Contains (fde_a ∷ fde_b ∷ fde_c ∷ []) f → P f
each_fde P a b c f h = elim (here_or_later fde_a (fde_b ∷ fde_c ∷ []) f h) [
  | inl e ↦ subst P e a
  | inr h2 ↦ elim (here_or_later fde_b (fde_c ∷ []) f h2) [
    | inl e ↦ subst P e b
    | inr h3 ↦ elim (here_or_later fde_c [] f h3) [ inl e ↦ subst P e c | inr none ↦ absurd (none_in_nil f none) ]
  ]
]

module _ (b : ℕ) (more : List Span) where
  pub language_b : IsLanguageTable (image b more) 0x502000 0x401020 sites_b
  language_b = record { nonzero = λ e. absurd cc; size = 8; after = _; header = refl; listed = _; actions = _; parts = refl; each = (_, refl, (_, refl, refl)) }

  pub language_c : IsLanguageTable (image b more) 0x50200c 0x401050 sites_c
  language_c = record { nonzero = λ e. absurd cc; size = 4; after = _; header = refl; listed = _; actions = _; parts = refl; each = (_, refl, refl) }

  pub emitted_language : IsEmittedCie (image b more) cie_language
  unfolding word_at
  emitted_language = record { version = refl; code_factor = refl; data_factor = refl; return_column = refl; augmentation = inr (inr refl); address = refl; language = inr refl; personality = inr (refl, λ e. absurd cc); program = (2, refl) }

  frames_described : (bases : Bases) → DescribesFrames (image b more) bases table entries functions
  unfolding entry_at
  frames_described bases = record {
    reads = (24, refl, (52, refl, (84, refl, (112, refl, (148, refl, refl)))));
    lengths = ((20, _, refl, lit< tt), ((24, _, refl, lit< tt), ((28, _, refl, lit< tt), ((24, _, refl, lit< tt), ((32, _, refl, lit< tt), tt)))));
    each = (
      record { fde = fde_a; one = refl; describes = record { code = record { cie = emitted_plain (image b more); earlier = lit< tt; start = refl; end = refl; rows = rows_a bases }; language = refl } },
      (
        record { fde = fde_b; one = refl; describes = record { code = record { cie = emitted_language; earlier = lit< tt; start = refl; end = refl; rows = rows_b bases }; language = (sites_b, refl, language_b) } },
        (record { fde = fde_c; one = refl; describes = record { code = record { cie = emitted_language; earlier = lit< tt; start = refl; end = refl; rows = rows_c bases }; language = (sites_c, refl, language_c) } }, tt),
      ),
    );
    foreign = each_fde (λ fde. IsFalse (list_any (λ f. has_range_of f fde) functions) → AllByRecursion (MeetsNot fde) functions) (λ none. absurd cc) (λ none. absurd cc) (λ none. absurd cc);
  }

  module_described : DescribesModule (image b more) module_of_them functions
  module_described = record {
    frame = 0x500000;
    address = refl;
    entries = entries;
    frames = frames_described (bases_of module_of_them 0x500000);
    nonempty = (lit< tt, (lit< tt, (lit< tt, tt)));
    apart = pairs_three;
    inside = ((lit≤ tt, lit≤ tt), ((lit≤ tt, lit≤ tt), ((lit≤ tt, lit≤ tt), tt)));
    header = tt;
  }

-- ---- the calls
pub words : (s : State) → s.ra < 2 ^ 64 → s.sp < 2 ^ 64 → s.rbx < 2 ^ 64 → s.rbp < 2 ^ 64 → s.r14 < 2 ^ 64 → s.r12 ≡ 0 → s.r13 ≡ 0 → s.r15 ≡ 0 → IsState s
words s a b c d e f g h = state_fits s a b c d (omega arith) (omega arith) e (omega arith)

-- of a byte, whatever regions stand after
module _ (b ra : ℕ) (more : List Span) (at : word_at (image b more) 0x70d8 ≡ Some ra) where
  pub entered_a : IsEntered (image b more) false (steps_of fa.prologue) second start
  unfolding word_at
  entered_a = record {
    room = lit≤ tt;
    returns = λ _. refl;
    leaves = (lit≤ tt, refl, (lit< tt, (lit≤ tt, refl, (lit≤ tt, tt))));
    stack = (lit≤ tt, refl);
    keeps = by_register (λ r. distance r (steps_of fa.prologue) ≡ None → value_of r start ≡ value_of r second) (λ e. absurd cc) (λ e. absurd cc) (λ e. refl) (λ e. refl) (λ e. refl) (λ e. refl);
  }

  slot_b : word_at (image b more) 0x70d0 ≡ Some 0x22
  unfolding word_at
  slot_b = refl

  entered_b : IsEntered (image b more) false (steps_of fb.prologue) (third ra) second
  entered_b = record {
    room = lit≤ tt;
    returns = λ _. at;
    leaves = (lit≤ tt, slot_b, tt);
    stack = refl;
    keeps = by_register (λ r. distance r (steps_of fb.prologue) ≡ None → value_of r second ≡ value_of r (third ra)) (λ e. absurd cc) (λ e. refl) (λ e. refl) (λ e. refl) (λ e. refl) (λ e. refl);
  }

  entered_c : IsEntered (image b more) false (steps_of fc.prologue) last (third ra)
  unfolding word_at
  entered_c = record {
    room = lit≤ tt;
    returns = λ _. refl;
    leaves = (lit≤ tt, refl, (lit≤ tt, refl, (lit≤ tt, tt)));
    stack = refl;
    keeps = by_register (λ r. distance r (steps_of fc.prologue) ≡ None → value_of r (third ra) ≡ value_of r last) (λ e. absurd cc) (λ e. refl) (λ e. refl) (λ e. refl) (λ e. absurd cc) (λ e. refl);
  }

  chain_is : (Uncovered : ℕ → Type 0) → ra < 2 ^ 64 → IsCalled (image b more) (third ra) (record { callee = fc; caller = last }) → IsChain (image b more) Uncovered functions start (calls_through ra)
  chain_is Uncovered lt called = (
    record { state = words start (lit< tt) (lit< tt) (lit< tt) (lit< tt) (lit< tt) refl refl refl; listed = (0, lit< tt, refl); called = record { returns = λ e. absurd cc; inside = refl; entered = entered_a }; last = λ outer. absurd cc },
    (
      record { state = words second (lit< tt) (lit< tt) (lit< tt) (lit< tt) (lit< tt) refl refl refl; listed = (1, lit< tt, refl); called = record { returns = λ e. absurd cc; inside = refl; entered = entered_b }; last = λ outer. absurd cc },
      (
        record { state = words (third ra) lt (lit< tt) (lit< tt) (lit< tt) (lit< tt) refl refl refl; listed = (2, lit< tt, refl); called = called; last = λ outer. absurd cc },
        record { state = words last (lit< tt) (lit< tt) (lit< tt) (lit< tt) (lit< tt) refl refl refl; ends = inl refl },
      ),
    ),
  )

pub listed_word : (more : List Span) → word_at (image 0x60 more) 0x70d8 ≡ Some 0x401060
unfolding word_at
listed_word more = refl

unlisted_word : (more : List Span) → word_at (image 0x70 more) 0x70d8 ≡ Some 0x401070
unfolding word_at
unlisted_word more = refl

pub listed_chain : (more : List Span) (Uncovered : ℕ → Type 0) → IsChain (image 0x60 more) Uncovered functions start calls
listed_chain more Uncovered = let at = listed_word more in chain_is 0x60 0x401060 more at Uncovered (lit< tt) (record { returns = λ e. absurd cc; inside = refl; entered = entered_c 0x60 0x401060 more at })

pub unlisted_chain : (more : List Span) (Uncovered : ℕ → Type 0) → IsChain (image 0x70 more) Uncovered functions start unlisted_calls
unlisted_chain more Uncovered = let at = unlisted_word more in chain_is 0x70 0x401070 more at Uncovered (lit< tt) (record { returns = λ e. absurd cc; inside = refl; entered = entered_c 0x70 0x401070 more at })

-- an exception in these calls is caught
pub caught_valid : IsElfValid process (columns_of start) resumes functions start calls
caught_valid = record {
  are_functions = (function_a, (function_b, (function_c, tt)));
  modules = (module_described 0x60 [], tt);
  no_others = (refl, (refl, (refl, tt)));
  shows = columns_show start;
  chain = listed_chain [] (IsUncovered process);
  resumed = λ f found accepted. (tt, ((λ e. absurd cc, refl, refl), tt));
}

-- and in these it ends the program
pub unlisted_valid : IsElfValid unlisted_process (columns_of start) resumes functions start unlisted_calls
unlisted_valid = record {
  are_functions = (function_a, (function_b, (function_c, tt)));
  modules = (module_described 0x70 [], tt);
  no_others = (refl, (refl, (refl, tt)));
  shows = columns_show start;
  chain = unlisted_chain [] (IsUncovered unlisted_process);
  resumed = λ f found accepted. (tt, ((λ e. absurd cc, refl, refl), tt));
}

-- ---- by a header table
abbrev places : List (ℕ × ℕ)
places = map (pair_of 0x500000) (fde_a ∷ fde_b ∷ fde_c ∷ [])

header_lists : IsHeaderTable header_image 0x504000 0x500000 (fde_a ∷ fde_b ∷ fde_c ∷ [])
header_lists = record {
  form = refl;
  counted = _;
  pointer = refl;
  listed = _;
  count = refl;
  pairs = places;
  reads = (_, _, refl, refl, (_, _, refl, refl, (_, _, refl, refl, tt)));
  each = IsPermutation-refl places;
  ascend = (lit< tt, (lit< tt, tt));
}

pub starts_listed : AreStarts pairs starts
starts_listed = record { all = refl; each = each }
  where
    each : (i : ℕ) → i < 3 → (p : ℕ × ℕ) × (pair_at pairs i ≡ Ok p) × (p.0 ≡ slice_index starts i)
    each zero lt = ((0x401000, 0x500018), refl, refl)
    each (suc zero) lt = ((0x401020, 0x500054), refl, refl)
    each (suc (suc zero)) lt = ((0x401050, 0x500070), refl, refl)
    each (suc (suc (suc i))) lt = absurd (omega arith)

pub first_answered : IsTableAnswer (bases_of module_with_header 0x500000) table pairs 0x40100f (Ok fde_a)
unfolding entry_at
first_answered = record {
  place = Ok (Some (0x401000, 0x500018));
  finds = record { index = 0; within = lit< tt; reads = refl; at_or_before = lit≤ tt; next_after = λ lt. ((0x401020, 0x500054), refl, lit< tt) };
  is = refl;
}

header_described : DescribesModule header_image module_with_header functions
header_described = record {
  frame = 0x500000;
  address = refl;
  entries = entries;
  frames = frames_described 0x60 (record { start = 0x504000; bytes = header } ∷ []) (bases_of module_with_header 0x500000);
  nonempty = (lit< tt, (lit< tt, (lit< tt, tt)));
  apart = pairs_three;
  inside = ((lit≤ tt, lit≤ tt), ((lit≤ tt, lit≤ tt), ((lit≤ tt, lit≤ tt), tt)));
  header = header_lists;
}

pub header_valid : IsElfValid header_process (columns_of start) resumes functions start calls
header_valid = record {
  are_functions = (function_a, (function_b, (function_c, tt)));
  modules = (header_described, tt);
  no_others = (refl, (refl, (refl, tt)));
  shows = columns_show start;
  chain = listed_chain (record { start = 0x504000; bytes = header } ∷ []) (IsUncovered header_process);
  resumed = λ f found accepted. (tt, ((λ e. absurd cc, refl, refl), tt));
}

-- ---- after the functions
longer_described : DescribesModule header_image longer_module functions
longer_described = record {
  frame = 0x500000;
  address = refl;
  entries = entries;
  frames = frames_described 0x60 (record { start = 0x504000; bytes = header } ∷ []) (bases_of longer_module 0x500000);
  nonempty = (lit< tt, (lit< tt, (lit< tt, tt)));
  apart = pairs_three;
  inside = ((lit≤ tt, lit≤ tt), ((lit≤ tt, lit≤ tt), ((lit≤ tt, lit≤ tt), tt)));
  header = header_lists;
}

after_uncovered : IsUncovered longer_process 0x401090
unfolding longer_described
after_uncovered m has inside = elim (here_or_later longer_module [] m has) [
  | inl same ↦ subst (λ (k : Module). CoversNot header_image k 0x401090) same (record {
    frame = 0x500000;
    address = refl;
    entries = entries;
    reads = longer_described.frames.reads;
    uncovered = (refl, (refl, (refl, tt)));
    header = header_lists;
  })
  | inr none ↦ absurd (none_in_nil m none)
]

pub after_valid : IsElfValid longer_process (columns_of after) [] functions after []
after_valid = record {
  are_functions = (function_a, (function_b, (function_c, tt)));
  modules = (longer_described, tt);
  no_others = (refl, (refl, (refl, tt)));
  shows = columns_show after;
  chain = record { state = words after (lit< tt) (lit< tt) (lit< tt) (lit< tt) (lit< tt) refl refl refl; ends = inr (λ e. absurd cc, after_uncovered) };
  resumed = λ f found accepted. absurd cc;
}

-- regions and modules share no address
pub three_process : IsElfProcess process
three_process = record { regions = (lit≤ tt, lit< tt, lit≤ tt, (lit≤ tt, lit< tt, lit≤ tt, (lit≤ tt, lit< tt, lit≤ tt, (lit≤ tt, lit< tt, lit≤ tt, tt)))); ranges = ((lit< tt, lit< tt), tt); apart = pairs_one AreApart module_of_them }

pub three_header_process : IsElfProcess header_process
three_header_process = record {
  regions = (lit≤ tt, lit< tt, lit≤ tt, (lit≤ tt, lit< tt, lit≤ tt, (lit≤ tt, lit< tt, lit≤ tt, (lit≤ tt, lit< tt, lit≤ tt, (lit≤ tt, lit< tt, lit≤ tt, tt)))));
  ranges = ((lit< tt, lit< tt), tt);
  apart = pairs_one AreApart module_with_header;
}
