-- What the delivery over a generated chain counts.
use Rattle.std.specs.Prelude.{◌≡◌, ℕ, ◌+◌, ◌-◌, ◌*◌, ◌/◌, ◌^◌, ◌<◌, ◌≤◌}
use Rattle.stack_deliver.specs.declared.outcome.Outcome.TheVariants.{Installed}
use Rattle.stack_report.specs.declared.summary.Summary.{Summary}

-- How many entries of tables are looked at, at most, over a chain of so many functions. The search for a handler asks for the
-- description of each state once, and so do the passes, which ask for that of a state which cleans up once more. For one
-- description as many entries are looked at as the number of functions has binary digits.
abbrev pub AreFewProbes : ℕ → ℕ → Type 0
AreFewProbes count probes = (digits : ℕ) → count < 2 ^ digits → probes ≤ (2 * count + (count - 1) / 4) * digits

-- Of so many functions the state of each is visited, each fourth one but the outermost cleans up, and the outermost one
-- catches the exception.
pub record SumsUp (s : Summary) (count : ℕ) : Type 0 where
  pub functions : s.functions ≡ count
  pub frames : s.frames ≡ count
  pub cleanups : s.cleanups ≡ (count - 1) / 4
  pub outcome : s.outcome ≡ Installed
  pub probes : AreFewProbes count s.probes
