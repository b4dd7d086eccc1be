-- Stacks that end at an address outside the one module.
use Rattle.std.proofs.Common.{◌≡◌, ◌≢◌, ℕ, ◌-◌, false, List, [], sym, subst, inl, inr}
use Rattle.std.specs.Prelude.{IsTrue}
use Rattle.std.specs.List.{Contains}
use Rattle.memory_image.specs.Image.{Span}
use Rattle.unwind_definitions.specs.State.{State, IsState}
use Rattle.unwind_definitions.specs.Function.{Function}
use Rattle.unwind_laws.proofs.Booleans.{here_or_later, none_in_nil}
use Rattle.format_definitions.specs.Modules.{FormatModule, Pe, in_format, IsDescribedChain}
use Rattle.format_laws.specs.Sample.{pe_modules}
use Rattle.format_laws.specs.PeSamples.{module_of_one}

in_none : (a : ℕ) → in_format a (Pe module_of_one) ≡ false → (m : FormatModule) → Contains pe_modules m → IsTrue (in_format a m) → ⊥
in_none a out m known inside = elim (here_or_later (Pe module_of_one) [] m known) [
  | inl same ↦ let there : IsTrue (in_format a (Pe module_of_one)) = subst (λ h. IsTrue (in_format a h)) (sym same) inside in absurd cc
  | inr later ↦ none_in_nil m later
]

pub ends_outside : (image : List Span) (functions : List Function) (s : State) → IsState s → s.ra ≢ 0 → in_format (s.ra - 1) (Pe module_of_one) ≡ false → IsDescribedChain image pe_modules functions s []
ends_outside image functions s fits returns out = record {
  chain = record { state = fits; ends = inr (returns, λ m known inside. absurd (in_none (s.ra - 1) out m known inside)) };
  described = tt;
  ends = inr (λ m known inside. absurd (in_none (s.ra - 1) out m known inside));
}
