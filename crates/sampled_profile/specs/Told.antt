-- What a reading of a profile answers.
use Rattle.std.specs.Prelude.{◌≡◌, Result, Ok, Err}
use Rattle.perf_data.specs.declared.errors.PerfError.{PerfError}
use Rattle.sampled_profile.specs.declared.profile.ProfileError.{ProfileError}
use Rattle.sampled_profile.specs.declared.profile.ProfileError.TheVariants.{NoMemory, Unread}

-- a result is the one that is due, unless memory ran out
abbrev pub Gives : {A : Type 0} → Result A ProfileError → Result A PerfError → Type 0
Gives (Ok told) due = due ≡ Ok told
Gives (Err NoMemory) due = Unit {0}
Gives (Err (Unread e)) due = due ≡ Err e
