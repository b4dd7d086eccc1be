use Rattle.std.proofs.Common.{◌≡◌, ◌≢◌, ℕ, zero, suc, List, [], ◌∷◌, Ok, refl, arith}
use Rattle.std.specs.Prelude.{replicate}
use Rattle.std.proofs.lemmas.List.{length-replicate}
use Rattle.memory_image.specs.Image.{Span}
use Rattle.unwind_definitions.specs.Caller.{Columns}
use Rattle.unwind_definitions.specs.Operations.{operation_of, decision}
use Rattle.unwind_definitions.specs.Expressions.{Configuration, initial_configuration, step, IsRun, last_of, done}
use Rattle.frame_expressions.proofs.laws.loop_is_endless.Goals as goal

turns : (image : List Span) (columns : Columns) (x : List ℕ) (c : Configuration) (n : ℕ) → step image columns x c ≡ Ok c → IsRun image columns x c (replicate n c)
turns image columns x c zero h = tt
turns image columns x c (suc n) h = (h, turns image columns x c n h)

stays : (c : Configuration) (n end : ℕ) → c.position ≢ end → (last_of c (replicate n c)).position ≢ end
stays c zero end h = h
stays c (suc n) end h = stays c n end h

turn : (image : List Span) (columns : Columns) (stack : List ℕ) → step image columns (0x2f ∷ 0xfd ∷ 0xff ∷ []) (initial_configuration stack) ≡ Ok (initial_configuration stack)
unfolding operation_of decision done
turn image columns stack = refl

pub returns : goal.returns
returns c image columns stack = record {
  run = replicate 10003 (initial_configuration stack);
  follows = turns image columns (0x2f ∷ 0xfd ∷ 0xff ∷ []) (initial_configuration stack) 10003 (turn image columns stack);
  full = length-replicate 10003 (initial_configuration stack);
  goes_on = stays (initial_configuration stack) 10003 3 (λ e. absurd (omega arith));
}
