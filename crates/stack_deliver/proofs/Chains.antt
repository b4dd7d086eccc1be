-- The states that contexts show.
use Rattle.std.proofs.Common.{◌≡◌, List, [], ◌∷◌, Some, get_or, refl}
use Rattle.std.specs.Prelude.{map}
use Rattle.unwind_definitions.specs.State.{RBX, RBP, R12, R13, R14, R15, State, Shows}
use Rattle.unwind_arch.specs.declared.x86_64.Context.{Context}
use Rattle.unwind_arch.specs.ContextViews.{columns_of}
use Rattle.stack_deliver.specs.StateViews.{state_of}
use Rattle.stack_walks.specs.Walking.{EachShows}

-- ---- contexts that show states

-- the state that a context shows
pub shown_state : (c : Context) (s : State) → Shows (columns_of c) s → state_of c ≡ s
shown_state c s shows =
    let ra : c.ra ≡ s.ra = let e = shows.ra in cc in
    let sp : get_or c.registers 7 0 ≡ s.sp = let e = shows.sp in cc in
    let rbx : get_or c.registers 3 0 ≡ s.rbx = let e : Some (get_or c.registers 3 0) ≡ Some s.rbx = shows.saved RBX in cc in
    let rbp : get_or c.registers 6 0 ≡ s.rbp = let e : Some (get_or c.registers 6 0) ≡ Some s.rbp = shows.saved RBP in cc in
    let r12 : get_or c.registers 12 0 ≡ s.r12 = let e : Some (get_or c.registers 12 0) ≡ Some s.r12 = shows.saved R12 in cc in
    let r13 : get_or c.registers 13 0 ≡ s.r13 = let e : Some (get_or c.registers 13 0) ≡ Some s.r13 = shows.saved R13 in cc in
    let r14 : get_or c.registers 14 0 ≡ s.r14 = let e : Some (get_or c.registers 14 0) ≡ Some s.r14 = shows.saved R14 in cc in
    let r15 : get_or c.registers 15 0 ≡ s.r15 = let e : Some (get_or c.registers 15 0) ≡ Some s.r15 = shows.saved R15 in cc in
    rw (ra, sp, rbx, rbp, r12, r13, r14, r15) refl

pub shown_states : (cs : List Context) (ss : List State) → EachShows cs ss → map state_of cs ≡ ss
shown_states [] [] each = refl
shown_states (c ∷ cs) (s ∷ ss) each = let first : state_of c ≡ s = shown_state c s each.0 in let later : map state_of cs ≡ ss = shown_states cs ss each.1 in cc
shown_states [] (s ∷ ss) each = absurd each
shown_states (c ∷ cs) [] each = absurd each
