-- A function of a module for Windows is one, and is entered.
use Rattle.std.proofs.Common.{◌≡◌, ℕ, zero, suc, ◌+◌, Bool, true, false, ◌&&◌, List, Option, Some, None, refl, arith, lit<, lit≤}
use Rattle.std.specs.Prelude.{◌≢◌, is_some}
use Rattle.std.specs.List.{AllPairs}
use Rattle.memory_image.specs.Image.{Span, word_at, byte_at}
use Rattle.unwind_definitions.specs.State.{value_of}
use Rattle.unwind_definitions.specs.Prologue.{Windows, Save, saves, steps_of, distance}
use Rattle.unwind_definitions.specs.Entered.{IsMapped, IsEntered}
use Rattle.unwind_definitions.specs.Function.{IsFunction}
use Rattle.unwind_laws.specs.Windows.{prologue, function, image, start, caller}
use Rattle.unwind_laws.proofs.Booleans.{both_true}
use Rattle.unwind_laws.proofs.RowFacts.{by_register}

-- whether n bytes are mapped
all_mapped : List Span → ℕ → ℕ → Bool
all_mapped memory a zero = true
all_mapped memory a (suc n) = is_some (byte_at memory a) && all_mapped memory (a + 1) n

is_mapped : (memory : List Span) (a n : ℕ) → all_mapped memory a n ≡ true → IsMapped memory a n
unfolding all_mapped
is_mapped memory a zero e k lt = absurd (omega arith)
is_mapped memory a (suc n) e zero lt = let both = both_true (is_some (byte_at memory a)) (all_mapped memory (a + 1) n) e in let same : a + zero ≡ a = omega arith in rw same (there (byte_at memory a) both.0)
  where
    there : (o : Option ℕ) → is_some o ≡ true → o ≢ None
    there None e = absurd cc
    there (Some b) e = λ h. absurd cc
is_mapped memory a (suc n) e (suc k) lt =
    let both = both_true (is_some (byte_at memory a)) (all_mapped memory (a + 1) n) e in
    let same : a + suc k ≡ (a + 1) + k = omega arith in
    rw same (is_mapped memory (a + 1) n both.1 k (omega arith))

rdi_mapped : IsMapped image 0x7ff0 8
unfolding all_mapped
rdi_mapped = is_mapped image 0x7ff0 8 refl

rsi_mapped : IsMapped image 0x7fc0 8
unfolding all_mapped
rsi_mapped = is_mapped image 0x7fc0 8 refl

xmm_mapped : IsMapped image 0x7fd0 16
unfolding all_mapped
xmm_mapped = is_mapped image 0x7fd0 16 refl

differ : AllPairs (λ (a b : Save). a.register ≢ b.register) (saves (steps_of prologue))
differ i zero d lt below = absurd (omega arith)
differ zero (suc zero) d lt below = λ e. absurd cc
differ zero (suc (suc zero)) d lt below = λ e. absurd cc
differ (suc zero) (suc (suc zero)) d lt below = λ e. absurd cc
differ zero (suc (suc (suc zero))) d lt below = λ e. absurd cc
differ (suc zero) (suc (suc (suc zero))) d lt below = λ e. absurd cc
differ (suc (suc zero)) (suc (suc (suc zero))) d lt below = λ e. absurd cc
differ zero (suc (suc (suc (suc zero)))) d lt below = λ e. absurd cc
differ (suc zero) (suc (suc (suc (suc zero)))) d lt below = λ e. absurd cc
differ (suc (suc zero)) (suc (suc (suc (suc zero)))) d lt below = λ e. absurd cc
differ (suc (suc (suc zero))) (suc (suc (suc (suc zero)))) d lt below = λ e. absurd cc
differ (suc i) (suc zero) d lt below = absurd (omega arith)
differ (suc (suc i)) (suc (suc zero)) d lt below = absurd (omega arith)
differ (suc (suc (suc i))) (suc (suc (suc zero))) d lt below = absurd (omega arith)
differ (suc (suc (suc (suc i)))) (suc (suc (suc (suc zero)))) d lt below = absurd (omega arith)
differ i (suc (suc (suc (suc (suc j))))) d lt below = absurd (omega arith)

pub windows_function : IsFunction Windows function
windows_function = record {
  prologue = record {
    ends = (2, _, refl, (lit< tt, (lit< tt, (lit< tt, (lit< tt, (lit< tt, tt))))));
    each = (refl, (refl, ((lit< tt, refl), ((refl, refl, tt), ((refl, refl, lit≤ tt), ((refl, refl, lit≤ tt), ((refl, refl, lit≤ tt), tt)))))));
    once = differ;
  };
  has_body = λ e. absurd cc;
  bodies = (lit≤ tt, lit< tt, lit≤ tt, tt);
  sites = tt;
  outermost = λ e. absurd cc;
}

pub windows_entered : IsEntered image false (steps_of prologue) caller start
unfolding word_at
windows_entered = record {
  room = lit≤ tt;
  returns = λ _. refl;
  leaves = (lit≤ tt, rdi_mapped, (lit≤ tt, refl, (lit≤ tt, (lit< tt, (lit≤ tt, refl, (lit≤ tt, rsi_mapped, (lit≤ tt, xmm_mapped, tt)))))));
  stack = (lit≤ tt, refl);
  keeps = by_register (λ r. distance r (steps_of prologue) ≡ None → value_of r start ≡ value_of r caller) (λ e. absurd cc) (λ e. absurd cc) (λ e. refl) (λ e. refl) (λ e. refl) (λ e. refl);
}
