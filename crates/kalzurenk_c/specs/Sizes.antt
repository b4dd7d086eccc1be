-- How many bytes the structs of the header have. A caller writes the size of each first, as it was compiled: so a struct can grow, and
-- one of another version is refused.
use Rattle.std.specs.Prelude.{ℕ, ◌==◌, Result, Err, if◌then◌else◌}
use Rattle.kalzurenk_c.specs.declared.refusal.Refusal.{Refusal}
use Rattle.kalzurenk_c.specs.declared.refusal.Refusal.TheVariants as refused

abbrev pub region_size : ℕ
region_size = 32

abbrev pub module_size : ℕ
module_size = 48

abbrev pub registers_size : ℕ
registers_size = 144

abbrev pub frame_size : ℕ
frame_size = 72

abbrev pub end_size : ℕ
end_size = 48

abbrev pub place_size : ℕ
place_size = 24

abbrev pub throw_size : ℕ
throw_size = 24

abbrev pub resume_size : ℕ
resume_size = 24

abbrev pub cleanup_size : ℕ
cleanup_size = 16

abbrev pub delivery_size : ℕ
delivery_size = 184

-- what follows where a size is known
abbrev pub if_sized : {A : Type 0} → ℕ → ℕ → Refusal → Result A Refusal → Result A Refusal
if_sized size known refusal more = if size == known then more else Err refusal

-- the same by the size of the place of what is faulty
abbrev pub place_sized : {A : Type 0} → ℕ → Result A Refusal → Result A Refusal
place_sized place more = if_sized place place_size refused.PlaceSize more

-- and by the sizes of what a walk starts from and is told in: of that place, the registers, the end, and a frame
abbrev pub walk_sized : {A : Type 0} → ℕ → ℕ → ℕ → ℕ → Result A Refusal → Result A Refusal
walk_sized place start end frame more =
    place_sized place
    (if_sized start registers_size refused.RegistersSize (if_sized end end_size refused.EndSize (if_sized frame frame_size refused.FrameSize more)))
