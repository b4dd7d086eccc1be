use Rattle.std.proofs.Common.{◌≡◌, Bool, true, false, refl}
use Rattle.memory_image.specs.Image.{holds, table_at}
use Rattle.stack_steps.specs.GrownSample.{grown_image, table_image, table_span}
use Rattle.stack_steps.proofs.grown.an_image_grows.Goals as goal

pub returns-clause-grows : goal.returns-clause-grows
returns-clause-grows c a some = go (holds table_span a) refl
  where
    go : (b : Bool) → holds table_span a ≡ b → table_at grown_image a ≡ table_at table_image a
    go true added_module = rw added_module refl
    go false added_module = absurd (some (rw added_module refl))

pub returns-clause-seen : goal.returns-clause-seen
returns-clause-seen c = record { same = refl; grows = λ a some. returns-clause-grows c a some }
