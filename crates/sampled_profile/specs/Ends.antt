-- What a profile says of a stack, and the words for why there is no more.
use Rattle.std.specs.Prelude.{ℕ, Bool, true, false, List, map, Option, Some, None, codes}
use Rattle.unwind_arch.specs.declared.x86_64.Context.{Context}
use Rattle.sampled_profile.specs.declared.stack_end.StackEnd.{StackEnd}
use Rattle.sampled_profile.specs.declared.stack_end.StackEnd.TheVariants.{Outermost, NoTable, Cut, Refused, Limit, NoRegisters, Narrow}

-- the word that stands for the end of a stack, unless its last frame is the outermost
abbrev pub end_word : StackEnd → Option (List ℕ)
end_word Outermost = None
end_word NoTable = Some (codes "[no table]")
end_word Cut = Some (codes "[cut]")
end_word Refused = Some (codes "[refused]")
end_word Limit = Some (codes "[limit]")
end_word NoRegisters = Some (codes "[no registers]")
end_word Narrow = Some (codes "[32 bits]")

-- the word that says of a stack that registers were kept which were popped where the thread was interrupted
abbrev pub popped_word : Bool → Option (List ℕ)
popped_word false = None
popped_word true = Some (codes "[popped]")

-- the return addresses of a stack's frames, the innermost first, whose own is that at which the thread was interrupted; why it goes
-- no further; and whether popped registers were kept
pub record StackWalk : Type 0 where
  pub returns : List ℕ
  pub end : StackEnd
  pub popped : Bool

-- What a profile says of a stack: where its frames are by their functions, the innermost first; why it goes no
-- further; and whether popped registers were kept.
pub record StackFrames : Type 0 where
  pub places : List ℕ
  pub end : StackEnd
  pub popped : Bool

-- the return addresses of states
abbrev pub returns_of : List Context → List ℕ
returns_of states = map (λ (c : Context). c.ra) states
