-- The walks that go on from a trace by frame pointers: each takes a place of the limit, or is the last; and they are one list.
use Rattle.std.proofs.Common.{◌≡◌, ℕ, zero, suc, ◌+◌, ◌-◌, ◌<◌, ◌≤◌, ◌++◌, Bool, true, false, List, [], ◌∷◌, length, Option, Some, None, refl, sym, subst, ◌∙◌, append_assoc, arith}
use Rattle.std.specs.Prelude.{if◌then◌else◌}
use Rattle.unwind_arch.specs.declared.x86_64.Context.{Context}
use Rattle.format_frames.specs.declared.machine.Stepped.{Stepped}
use Rattle.stack_steps.specs.Modules.{SpaceValue}
use Rattle.stack_walks.specs.declared.walk_end.EndReason.{EndReason}
use Rattle.stack_walks.specs.declared.walk_end.EndReason.TheVariants.{Outermost, NoModule, NoDescription, UnreadableTable, Refused, Limit}
use Rattle.stack_walks.specs.WalkEnds.{reached_after, reached_by, caller_from, start_state, contexts_to_end, ComesTo}
use Rattle.stack_walks.proofs.EndAnswers.{one_front}
use Rattle.stack_walks.proofs.EndThere.{end_there}
use Rattle.backtrace.specs.Code.{CodeValue}
use Rattle.backtrace.specs.Tracing.{TraceValue}
use Rattle.backtrace.specs.FramePointers.{is_without_table, guess_after, IsWalkFrom, AreGuesses}
use Rattle.backtrace.specs.Lines.{FormValue, frame_lines, pointed_form, pointed_text, shown_states}

-- ---- how many states a walk has

-- no more than the limit
pub reached_most : (next : Stepped → Option Stepped) (limit : ℕ) (s : Stepped) → length (reached_by next limit s).contexts ≤ limit
reached_most next zero s = omega arith
reached_most next (suc room) s = go (λ t. reached_most next room t) (next s)
  where
    go : ((t : Stepped) → length (reached_by next room t).contexts ≤ room) → (o : Option Stepped) → length (reached_after s o (reached_by next room)).contexts ≤ suc room
    go later None = omega arith
    go later (Some t) = let rest = later t in omega arith

-- the first of them is there, where the limit has a place
reached_some : (next : Stepped → Option Stepped) (limit : ℕ) (s : Stepped) → 0 < limit → 0 < length (reached_by next limit s).contexts
reached_some next zero s is = absurd (omega arith)
reached_some next (suc room) s is = go (next s)
  where
    go : (o : Option Stepped) → 0 < length (reached_after s o (reached_by next room)).contexts
    go None = omega arith
    go (Some t) = omega arith

-- without a place it comes to the limit
comes_to_limit : (why : EndReason) (space : SpaceValue) (c : Context) (interrupted : Bool) → ComesTo why space zero c interrupted → why ≡ Limit
comes_to_limit Outermost space c interrupted is = absurd is
comes_to_limit (NoModule a) space c interrupted is = absurd is
comes_to_limit (NoDescription a) space c interrupted is = absurd is
comes_to_limit (UnreadableTable a offset e) space c interrupted is = absurd is
comes_to_limit (Refused a e) space c interrupted is = absurd is
comes_to_limit Limit space c interrupted is = refl

module _ (space : SpaceValue) (limit : ℕ) (c : Context) (t : TraceValue) (walk : IsWalkFrom space limit c t) where
  pub walk_most : length t.states ≤ limit
  walk_most = let most = reached_most (caller_from space) limit (start_state c false) in rw walk.1.states most

  walk_some : 0 < limit → 0 < length t.states
  walk_some place = let some = reached_some (caller_from space) limit (start_state c false) place in rw walk.1.states some

  walk_of_none : limit ≡ 0 → t.why ≡ Limit
  walk_of_none none = comes_to_limit t.why space c false (subst (λ n. ComesTo t.why space n c false) none walk.1.why)

-- one state more leaves fewer places
fewer_left : (limit n more left : ℕ) → limit - n ≤ suc left → (0 < limit - n → 0 < more) → limit - (n + more) ≤ left
fewer_left limit n more left short some = go (limit - n) refl
  where
    go : (m : ℕ) → limit - n ≡ m → limit - (n + more) ≤ left
    go zero none = omega arith
    go (suc m) is = let place : 0 < more = some (omega arith) in omega arith

-- ---- one list of them

pub same_parts : (t u : TraceValue) → t.first ≡ u.first → t.states ≡ u.states → t.why ≡ u.why → t.popped ≡ u.popped → t ≡ u
same_parts t u a b c d = λ i. record { first = a i; states = b i; why = c i; popped = d i }

one_walk : (space : SpaceValue) (limit : ℕ) (c : Context) (t u : TraceValue) → IsWalkFrom space limit c t → IsWalkFrom space limit c u → t ≡ u
one_walk space limit c t u is other =
    same_parts t u (is.0 ∙ sym other.0) (is.1.states ∙ sym other.1.states) (one_front space limit (start_state c false) t.why u.why is.1.why other.1.why) (is.1.marked ∙ sym other.1.marked)

module _ (pointers : Bool) (space : SpaceValue) (code : List CodeValue) (limit : ℕ) where
  pub one_guesses : (n : ℕ) (t : TraceValue) (ts us : List TraceValue) → AreGuesses pointers space code limit n t ts → AreGuesses pointers space code limit n t us → ts ≡ us
  one_guesses n t [] [] is other = refl
  one_guesses n t [] (v ∷ vs) is other = let bad : ◌≡◌ {A = Option Context} None (Some other.0) = sym is ∙ other.1 in absurd cc
  one_guesses n t (u ∷ us) [] is other = let bad : ◌≡◌ {A = Option Context} None (Some is.0) = sym other ∙ is.1 in absurd cc
  one_guesses n t (u ∷ us) (v ∷ vs) is other =
      let both : ◌≡◌ {A = Option Context} (Some is.0) (Some other.0) = sym is.1 ∙ other.1 in
      let same : is.0 ≡ other.0 = cc in
      let first : u ≡ v = one_walk space (limit - n) other.0 u v (subst (λ (c : Context). IsWalkFrom space (limit - n) c u) same is.2) other.2 in
      let later : us ≡ vs = one_guesses (n + length u.states) u us vs is.3 (subst (λ (w : TraceValue). AreGuesses pointers space code limit (n + length w.states) w vs) (sym first) other.3) in
      cc

  -- at the limit there is none
  none_at_limit : (t : TraceValue) → t.why ≡ Limit → guess_after pointers space code t ≡ None
  none_at_limit t is = rw is refl

  -- they are there
  pub guesses_there : (left n : ℕ) (t : TraceValue) → limit - n ≤ left → (ts : List TraceValue) × AreGuesses pointers space code limit n t ts
  guesses_there zero n t short = go (guess_after pointers space code t) refl
    where
      go : (o : Option Context) → guess_after pointers space code t ≡ o → (ts : List TraceValue) × AreGuesses pointers space code limit n t ts
      go None none = ([], none)
      go (Some c) some =
          let front = end_there space (limit - n) c false in
          let u : TraceValue = record { first = None; states = contexts_to_end space (limit - n) c false; why = front.0; popped = false } in
          let walk : IsWalkFrom space (limit - n) c u = (refl, record { states = refl; why = front.1; marked = refl }) in
          let last : u.why ≡ Limit = walk_of_none space (limit - n) c u walk (omega arith) in
          (u ∷ [], (c, some, walk, none_at_limit u last))
  guesses_there (suc left) n t short = go (λ k u fewer. guesses_there left k u fewer) (guess_after pointers space code t) refl
    where
      go : ((k : ℕ) (u : TraceValue) → limit - k ≤ left → (ts : List TraceValue) × AreGuesses pointers space code limit k u ts) → (o : Option Context) → guess_after pointers space code t ≡ o →
          (ts : List TraceValue) × AreGuesses pointers space code limit n t ts
      go later None none = ([], none)
      go later (Some c) some =
          let front = end_there space (limit - n) c false in
          let u : TraceValue = record { first = None; states = contexts_to_end space (limit - n) c false; why = front.0; popped = false } in
          let walk : IsWalkFrom space (limit - n) c u = (refl, record { states = refl; why = front.1; marked = refl }) in
          let place : 0 < limit - n → 0 < length u.states = walk_some space (limit - n) c u walk in
          let fewer : limit - (n + length u.states) ≤ left = fewer_left limit n (length u.states) left short place in
          let rest = later (n + length u.states) u fewer in
          (u ∷ rest.0, (c, some, walk, rest.1))

  -- ---- what is left

  -- how many places are left, and whether the trace may go on
  abbrev pub left_of : ℕ → TraceValue → ℕ
  left_of n t = (limit - n) + (if is_without_table code t.why then 1 else 0)

  -- a trace goes on where no table describes its end
  goes_on : (t : TraceValue) (c : Context) → guess_after pointers space code t ≡ Some c → is_without_table code t.why ≡ true
  goes_on t c some = go (is_without_table code t.why) refl
    where
      go : (b : Bool) → is_without_table code t.why ≡ b → is_without_table code t.why ≡ true
      go true is = is
      go false is = let none : guess_after pointers space code t ≡ None = rw is refl in let bad : ◌≡◌ {A = Option Context} None (Some c) = sym none ∙ some in absurd cc

  pub fewer_after : (n : ℕ) (t : TraceValue) (c : Context) (u : TraceValue) → guess_after pointers space code t ≡ Some c → IsWalkFrom space (limit - n) c u → left_of (n + length u.states) u < left_of n t
  fewer_after n t c u some walk = rw (goes_on t c some) (go (limit - n) refl)
    where
      one_at_most : (b : Bool) → (if b then 1 else 0) ≤ 1
      one_at_most true = omega arith
      one_at_most false = omega arith

      go : (m : ℕ) → limit - n ≡ m → left_of (n + length u.states) u < (limit - n) + 1
      go zero none =
          let last : u.why ≡ Limit = walk_of_none space (limit - n) c u walk none in
          let over : limit - (n + length u.states) ≡ 0 = omega arith in
          rw (last, over, none) (omega arith)
      go (suc m) some_left =
          let place : 0 < length u.states = walk_some space (limit - n) c u walk (omega arith) in
          let flag = one_at_most (is_without_table code u.why) in
          omega arith

  -- ---- their lines

  module _ (form : FormValue) (n₀ : ℕ) (t₀ : TraceValue) (text₀ : List ℕ) where
    -- With the lines of what follows a trace, a text is the text before with those of all that follows the first trace.
    abbrev pub LeadsOn : ℕ → TraceValue → List ℕ → Type 0
    LeadsOn n t text =
        (ts : List TraceValue) → AreGuesses pointers space code limit n t ts →
        (all : List TraceValue) × AreGuesses pointers space code limit n₀ t₀ all × (text ++ pointed_text form n t.why ts ≡ text₀ ++ pointed_text form n₀ t₀.why all)

    -- so it is after one more walk and its lines
    pub leads_on : (n : ℕ) (t : TraceValue) (text : List ℕ) (c : Context) (u : TraceValue) (more : List ℕ) → guess_after pointers space code t ≡ Some c → IsWalkFrom space (limit - n) c u →
        more ≡ text ++ frame_lines (pointed_form form n) n (shown_states u.states) → LeadsOn n t text → LeadsOn (n + length u.states) u more
    leads_on n t text c u more some walk is leads = λ ts rest.
        let all = leads (u ∷ ts) (c, some, walk, rest) in
        let lines = frame_lines (pointed_form form n) n (shown_states u.states) in
        let joined : more ++ pointed_text form (n + length u.states) u.why ts ≡ text ++ (lines ++ pointed_text form (n + length u.states) u.why ts) =
        rw is (append_assoc text lines (pointed_text form (n + length u.states) u.why ts)) in
        (all.0, all.1, joined ∙ all.2)
