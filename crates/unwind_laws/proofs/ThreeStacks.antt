-- Three functions with language tables: calls of them are valid in two modules too, from outside of all modules, and over
-- a deeper stack.
use Rattle.std.proofs.Common.{◌≡◌, ℕ, ◌-◌, ◌^◌, ◌<◌, List, [], ◌∷◌, None, false, refl, sym, subst, inl, inr, lit<, lit≤}
use Rattle.std.specs.Prelude.{IsFalse, IsTrue}
use Rattle.std.specs.List.{Contains, AllByRecursion, list_any}
use Rattle.memory_image.specs.Image.{Span, word_at}
use Rattle.unwind_definitions.specs.Input.{Input}
use Rattle.unwind_definitions.specs.Pointers.{Bases}
use Rattle.unwind_definitions.specs.Entries.{Fde, AreEntries, entry_at}
use Rattle.unwind_definitions.specs.State.{State, value_of}
use Rattle.unwind_definitions.specs.Prologue.{steps_of, distance}
use Rattle.unwind_definitions.specs.Entered.{IsEntered}
use Rattle.unwind_definitions.specs.Function.{Function}
use Rattle.unwind_definitions.specs.LanguageTable.{input_at, IsLanguageTable}
use Rattle.unwind_definitions.specs.FrameTable.{IsEmittedCie, HasDescription, DescribesFrames, HasShortLength, MeetsNot, has_range_of}
use Rattle.unwind_definitions.specs.Module.{Module, bases_of, in_module, DescribesModule, IsUncovered}
use Rattle.unwind_definitions.specs.Chain.{Call, IsLink, IsChain}
use Rattle.unwind_definitions.specs.Valid.{IsElfValid}
use Rattle.unwind_laws.specs.Columns.{columns_of}
use Rattle.unwind_laws.specs.Three.{image, table, cie_language, fde_a, fde_b, fde_c, fa, fb, fc, functions, entries, module_of_them, start, second, third, last, calls, resumes, module_of_first, module_of_others, process_of_two, process_of_first, first_call, deep_image, deep_process, deep_start, deep_second, deep_calls}
use Rattle.unwind_laws.proofs.Booleans.{here_or_later, none_in_nil}
use Rattle.unwind_laws.proofs.RowFacts.{by_register}
use Rattle.unwind_laws.proofs.PushingValid.{columns_show}
use Rattle.unwind_laws.proofs.ThreeRows.{rows_a, rows_b, rows_c}
use Rattle.unwind_laws.proofs.ThreeValid.{sites_b, sites_c, function_a, function_b, function_c, emitted_plain, emitted_language, language_b, language_c, pairs_three, each_fde, words, entered_a, listed_word, listed_chain}

abbrev bases : Bases
bases = bases_of module_of_them 0x500000

abbrev fdes : List Fde
fdes = fde_a ∷ fde_b ∷ fde_c ∷ []

entries_read : AreEntries bases table 0 entries
unfolding entry_at
entries_read = (24, refl, (52, refl, (84, refl, (112, refl, (148, refl, refl)))))

lengths : AllByRecursion (HasShortLength table) entries
lengths = ((20, _, refl, lit< tt), ((24, _, refl, lit< tt), ((28, _, refl, lit< tt), ((24, _, refl, lit< tt), ((32, _, refl, lit< tt), tt)))))

-- ---- what a memory holds of the tables

record HoldsTables (memory : List Span) : Type 0 where
  frames : input_at memory 0x500000 ≡ table
  second : IsLanguageTable memory 0x502000 0x401020 sites_b
  third : IsLanguageTable memory 0x50200c 0x401050 sites_c
  cie : IsEmittedCie memory cie_language

holds_image : (b : ℕ) → HoldsTables (image b [])
holds_image b = record { frames = refl; second = language_b b []; third = language_c b []; cie = emitted_language b [] }

holds_deep : HoldsTables deep_image
unfolding word_at
holds_deep = record {
  frames = refl;
  second = record { nonzero = λ e. absurd cc; size = 8; after = _; header = refl; listed = _; actions = _; parts = refl; each = (_, refl, (_, refl, refl)) };
  third = record { nonzero = λ e. absurd cc; size = 4; after = _; header = refl; listed = _; actions = _; parts = refl; each = (_, refl, refl) };
  cie = record { version = refl; code_factor = refl; data_factor = refl; return_column = refl; augmentation = inr (inr refl); address = refl; language = inr refl; personality = inr (refl, λ e. absurd cc); program = (2, refl) };
}

-- the other descriptions meet none of these functions
abbrev AreForeign : List Function → Type 0
AreForeign fs = (fde : Fde) → Contains fdes fde → IsFalse (list_any (λ f. has_range_of f fde) fs) → AllByRecursion (MeetsNot fde) fs

abbrev MeetsNone : List Function → Fde → Type 0
MeetsNone fs fde = IsFalse (list_any (λ f. has_range_of f fde) fs) → AllByRecursion (MeetsNot fde) fs

module _ (memory : List Span) (holds : HoldsTables memory) where
  has_a : HasDescription memory bases fdes fa
  has_a = record { fde = fde_a; one = refl; describes = record { code = record { cie = emitted_plain memory; earlier = lit< tt; start = refl; end = refl; rows = rows_a bases }; language = refl } }

  has_b : HasDescription memory bases fdes fb
  has_b = record { fde = fde_b; one = refl; describes = record { code = record { cie = holds.cie; earlier = lit< tt; start = refl; end = refl; rows = rows_b bases }; language = (sites_b, refl, holds.second) } }

  has_c : HasDescription memory bases fdes fc
  has_c = record { fde = fde_c; one = refl; describes = record { code = record { cie = holds.cie; earlier = lit< tt; start = refl; end = refl; rows = rows_c bases }; language = (sites_c, refl, holds.third) } }

  frames_of : (fs : List Function) → AllByRecursion (HasDescription memory bases fdes) fs → AreForeign fs → DescribesFrames memory bases (input_at memory 0x500000) entries fs
  frames_of fs each foreign = let P : Input → Type 0 = λ t. DescribesFrames memory bases t entries fs in
      subst P (sym holds.frames) (record { reads = entries_read; lengths = lengths; each = each; foreign = foreign })

  all_described : DescribesModule memory module_of_them functions
  all_described = record {
    frame = 0x500000;
    address = refl;
    entries = entries;
    frames = frames_of functions (has_a, (has_b, (has_c, tt))) (each_fde (MeetsNone functions) (λ none. absurd cc) (λ none. absurd cc) (λ none. absurd cc));
    nonempty = (lit< tt, (lit< tt, (lit< tt, tt)));
    apart = pairs_three;
    inside = ((lit≤ tt, lit≤ tt), ((lit≤ tt, lit≤ tt), ((lit≤ tt, lit≤ tt), tt)));
    header = tt;
  }

  first_described : DescribesModule memory module_of_first (fa ∷ [])
  first_described = record {
    frame = 0x500000;
    address = refl;
    entries = entries;
    frames = frames_of (fa ∷ []) (has_a, tt) (each_fde (MeetsNone (fa ∷ [])) (λ none. absurd cc) (λ none. (inr (lit≤ tt), tt)) (λ none. (inr (lit≤ tt), tt)));
    nonempty = (lit< tt, (lit< tt, (lit< tt, tt)));
    apart = pairs_three;
    inside = ((lit≤ tt, lit≤ tt), tt);
    header = tt;
  }

  others_described : DescribesModule memory module_of_others (fb ∷ fc ∷ [])
  others_described = record {
    frame = 0x500000;
    address = refl;
    entries = entries;
    frames = frames_of (fb ∷ fc ∷ []) (has_b, (has_c, tt)) (each_fde (MeetsNone (fb ∷ fc ∷ [])) (λ none. (inl (lit≤ tt), (inl (lit≤ tt), tt))) (λ none. absurd cc) (λ none. absurd cc));
    nonempty = (lit< tt, (lit< tt, (lit< tt, tt)));
    apart = pairs_three;
    inside = ((lit≤ tt, lit≤ tt), ((lit≤ tt, lit≤ tt), tt));
    header = tt;
  }

-- ---- calls over the first stack

-- the functions lie in two modules
pub two_valid : IsElfValid process_of_two (columns_of start) resumes functions start calls
two_valid = record {
  are_functions = (function_a, (function_b, (function_c, tt)));
  modules = (first_described (image 0x60 []) (holds_image 0x60), (others_described (image 0x60 []) (holds_image 0x60), tt));
  no_others = (refl, (refl, (refl, tt)));
  shows = columns_show start;
  chain = listed_chain [] (IsUncovered process_of_two);
  resumed = λ f found accepted. (tt, ((λ e. absurd cc, refl, refl), tt));
}

-- the first function's caller is in no module
outside : IsUncovered process_of_first (0x401030 - 1)
outside m has inside = elim (here_or_later module_of_first [] m has) [
  | inl same ↦ let P : Module → Type 0 = λ k. IsTrue (in_module 0x40102f k) in let h : IsTrue (in_module 0x40102f module_of_first) = subst P (sym same) inside in absurd cc
  | inr none ↦ absurd (none_in_nil m none)
]

pub first_valid : IsElfValid process_of_first (columns_of start) [] (fa ∷ []) start (first_call ∷ [])
first_valid = record {
  are_functions = (function_a, tt);
  modules = (first_described (image 0x60 []) (holds_image 0x60), tt);
  no_others = (refl, tt);
  shows = columns_show start;
  chain = (
    record { state = words start (lit< tt) (lit< tt) (lit< tt) (lit< tt) (lit< tt) refl refl refl; listed = (0, lit< tt, refl); called = record { returns = λ e. absurd cc; inside = refl; entered = entered_a 0x60 0x401060 [] (listed_word []) }; last = λ outer. absurd cc },
    record { state = words second (lit< tt) (lit< tt) (lit< tt) (lit< tt) (lit< tt) refl refl refl; ends = inr (λ e. absurd cc, outside) },
  );
  resumed = λ f found accepted. absurd cc;
}

-- ---- calls over the deeper stack

deep_entered_a : IsEntered deep_image false (steps_of fa.prologue) (deep_second 0x70b0) deep_start
unfolding word_at
deep_entered_a = record {
  room = lit≤ tt;
  returns = λ _. refl;
  leaves = (lit≤ tt, refl, (lit< tt, (lit≤ tt, refl, (lit≤ tt, tt))));
  stack = (lit≤ tt, refl);
  keeps = by_register (λ r. distance r (steps_of fa.prologue) ≡ None → value_of r deep_start ≡ value_of r (deep_second 0x70b0)) (λ e. absurd cc) (λ e. absurd cc) (λ e. refl) (λ e. refl) (λ e. refl) (λ e. refl);
}

deep_entered_b : IsEntered deep_image false (steps_of fb.prologue) (deep_second 0x70c0) (deep_second 0x70b0)
unfolding word_at
deep_entered_b = record {
  room = lit≤ tt;
  returns = λ _. refl;
  leaves = (lit≤ tt, refl, tt);
  stack = refl;
  keeps = by_register (λ r. distance r (steps_of fb.prologue) ≡ None → value_of r (deep_second 0x70b0) ≡ value_of r (deep_second 0x70c0)) (λ e. absurd cc) (λ e. refl) (λ e. refl) (λ e. refl) (λ e. refl) (λ e. refl);
}

deep_entered_b2 : IsEntered deep_image false (steps_of fb.prologue) (deep_second 0x70d0) (deep_second 0x70c0)
unfolding word_at
deep_entered_b2 = record {
  room = lit≤ tt;
  returns = λ _. refl;
  leaves = (lit≤ tt, refl, tt);
  stack = refl;
  keeps = by_register (λ r. distance r (steps_of fb.prologue) ≡ None → value_of r (deep_second 0x70c0) ≡ value_of r (deep_second 0x70d0)) (λ e. absurd cc) (λ e. refl) (λ e. refl) (λ e. refl) (λ e. refl) (λ e. refl);
}

deep_entered_b3 : IsEntered deep_image false (steps_of fb.prologue) (third 0x401060) (deep_second 0x70d0)
unfolding word_at
deep_entered_b3 = record {
  room = lit≤ tt;
  returns = λ _. refl;
  leaves = (lit≤ tt, refl, tt);
  stack = refl;
  keeps = by_register (λ r. distance r (steps_of fb.prologue) ≡ None → value_of r (deep_second 0x70d0) ≡ value_of r (third 0x401060)) (λ e. absurd cc) (λ e. refl) (λ e. refl) (λ e. refl) (λ e. refl) (λ e. refl);
}

deep_entered_c : IsEntered deep_image false (steps_of fc.prologue) last (third 0x401060)
unfolding word_at
deep_entered_c = record {
  room = lit≤ tt;
  returns = λ _. refl;
  leaves = (lit≤ tt, refl, (lit≤ tt, refl, (lit≤ tt, tt)));
  stack = refl;
  keeps = by_register (λ r. distance r (steps_of fc.prologue) ≡ None → value_of r (third 0x401060) ≡ value_of r last) (λ e. absurd cc) (λ e. refl) (λ e. refl) (λ e. refl) (λ e. absurd cc) (λ e. refl);
}

deep_link : (sp : ℕ) (t : State) (outer : List Call) → sp < 2 ^ 64 → IsEntered deep_image false (steps_of fb.prologue) t (deep_second sp) → IsLink deep_image functions (deep_second sp) (record { callee = fb; caller = t }) outer
deep_link sp t outer low entered = record { state = words (deep_second sp) (lit< tt) low (lit< tt) (lit< tt) (lit< tt) refl refl refl; listed = (1, lit< tt, refl); called = record { returns = λ e. absurd cc; inside = refl; entered = entered }; last = λ outer. absurd cc }

deep_chain : IsChain deep_image (IsUncovered deep_process) functions deep_start deep_calls
deep_chain = (
  record { state = words deep_start (lit< tt) (lit< tt) (lit< tt) (lit< tt) (lit< tt) refl refl refl; listed = (0, lit< tt, refl); called = record { returns = λ e. absurd cc; inside = refl; entered = deep_entered_a }; last = λ outer. absurd cc },
  (
    deep_link 0x70b0 (deep_second 0x70c0) _ (lit< tt) deep_entered_b,
    (
      deep_link 0x70c0 (deep_second 0x70d0) _ (lit< tt) deep_entered_b2,
      (
        deep_link 0x70d0 (third 0x401060) _ (lit< tt) deep_entered_b3,
        (
          record { state = words (third 0x401060) (lit< tt) (lit< tt) (lit< tt) (lit< tt) (lit< tt) refl refl refl; listed = (2, lit< tt, refl); called = record { returns = λ e. absurd cc; inside = refl; entered = deep_entered_c }; last = λ outer. absurd cc },
          record { state = words last (lit< tt) (lit< tt) (lit< tt) (lit< tt) (lit< tt) refl refl refl; ends = inl refl },
        ),
      ),
    ),
  ),
)

-- the cleanup of the second function runs three times
pub deep_valid : IsElfValid deep_process (columns_of deep_start) resumes functions deep_start deep_calls
deep_valid = record {
  are_functions = (function_a, (function_b, (function_c, tt)));
  modules = (all_described deep_image holds_deep, tt);
  no_others = (refl, (refl, (refl, tt)));
  shows = columns_show deep_start;
  chain = deep_chain;
  resumed = λ f found accepted. (tt, ((λ e. absurd cc, refl, refl), ((λ e. absurd cc, refl, refl), ((λ e. absurd cc, refl, refl), tt))));
}
