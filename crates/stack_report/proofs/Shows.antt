-- What is written of what the code holds is the text of what it shows.
use Rattle.std.proofs.Common.{◌≡◌, ℕ, ◌+◌, List, [], ◌∷◌, ◌++◌, Option, Some, None, refl, ap}
use Rattle.std.specs.Prelude.{map}
use Rattle.std.specs.Option.{option_map}
use Rattle.unwind_arch.specs.declared.x86_64.Context.{Context}
use Rattle.stack_deliver.specs.StackDelivery.{DeliveryValue}
use Rattle.stack_walks.specs.declared.room.Trail.{Trail}
use Rattle.stack_deliver.specs.StateViews.{state_of, pair_of, landing_of, delivery_shown}
use Rattle.stack_report.specs.Report.{state_line, pad_line, state_lines, pad_lines, handler_lines, delivery_text, frame_line, frame_lines, cleanup_line, cleanup_lines, landing_line, landing_lines, report_of, walk_report_of, walk_text}

frames_shown : (i : ℕ) (cs : List Context) → frame_lines i cs ≡ state_lines i (map state_of cs)
unfolding frame_line
frames_shown i [] = refl
frames_shown i (c ∷ cs) = ap (λ (rest : List ℕ). state_line i (state_of c) ++ rest) (frames_shown (i + 1) cs)

cleanups_shown : (ts : List Trail) → cleanup_lines ts ≡ pad_lines (map pair_of ts)
unfolding cleanup_line
cleanups_shown [] = refl
cleanups_shown (t ∷ ts) = ap (λ (rest : List ℕ). pad_line (pair_of t) ++ rest) (cleanups_shown ts)

landing_shown : (o : Option Context) → landing_lines o ≡ handler_lines (option_map landing_of o)
unfolding landing_line
landing_shown None = refl
landing_shown (Some c) = refl

-- the report of a delivery is the text of what it shows
pub report_shown : (d : DeliveryValue) → report_of d ≡ delivery_text (delivery_shown d)
report_shown d = rw (frames_shown 0 d.visited, cleanups_shown d.trail, landing_shown d.landing) refl

-- and so is the report of a walk
pub walk_shown : (cs : List Context) → walk_report_of cs ≡ walk_text (map state_of cs)
walk_shown cs = rw (frames_shown 0 cs) refl
