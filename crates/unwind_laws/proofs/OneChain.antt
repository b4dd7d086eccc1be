-- Two described chains of one start go through the same states, and what is delivered to them is one.
use Rattle.std.proofs.Common.{◌≡◌, ◌≢◌, ℕ, ◌-◌, ◌<◌, ◌≤◌, Bool, true, false, List, [], ◌∷◌, ◌++◌, Option, Some, None, Err, refl, sym, ap, subst, ◌∙◌, arith, inl, inr}
use Rattle.std.proofs.Math.Numerals.{one-add}
use Rattle.std.specs.Prelude.{◌⊎◌, IsTrue}
use Rattle.std.specs.List.{AllPairs, AllByRecursion, Contains, find, before_first, filter_map, cons_option}
use Rattle.std.specs.Option.{option_map_or, option_map}
use Rattle.memory_image.specs.Image.{Span}
use Rattle.unwind_definitions.specs.Caller.{Columns, Evaluates, StepFault, Unmapped, x86_64, caller_of}
use Rattle.unwind_definitions.specs.State.{CalleeSaved, RBX, RBP, R12, R13, R14, R15, State, value_of, Shows}
use Rattle.unwind_definitions.specs.Prologue.{SystemV}
use Rattle.unwind_definitions.specs.Entries.{Fde}
use Rattle.unwind_definitions.specs.Function.{Function, IsFunction, Action, NoAction, Cleanup, Catch, Filter, Terminate, action_at, in_body}
use Rattle.unwind_definitions.specs.LanguageTable.{LeadsToLanguage}
use Rattle.unwind_definitions.specs.Module.{Process, AreApart, IsUncovered}
use Rattle.unwind_definitions.specs.Chain.{Call, IsEnd, IsChain, states_of}
use Rattle.unwind_definitions.specs.Delivery.{Frame, frames_of, action_of_frame, is_deciding, decides, cleanup_of, cleanup_pad, states_in, inner_frames, deciding_frame, Delivery, decided_by, delivery_without_handler, landing_at, Installed, EndOfStack, FatalPhase1, delivery_of}
use Rattle.unwind_definitions.specs.Valid.{IsElfChain}
use Rattle.unwind_laws.specs.Columns.{columns_of}
use Rattle.unwind_laws.specs.Walked.{Steps, IsElfWalk}
use Rattle.unwind_laws.specs.Apart.{FunctionsApart}
use Rattle.unwind_laws.proofs.Booleans.{all_contains, here_or_later, none_in_nil, tail_pairs, head_pairs}
use Rattle.unwind_laws.proofs.Found.{body_inside}
use Rattle.unwind_laws.proofs.OneModule.{Same, one_found, found_is_covered, ok_is}
use Rattle.unwind_laws.proofs.OneLanguage.{one_action}
use Rattle.unwind_laws.proofs.PushingValid.{columns_show}
use Rattle.unwind_laws.proofs.Walk.{chain_walked}

-- ---- columns show one state
some_number : (a b : ℕ) → ◌≡◌ {A = Option ℕ} (Some a) (Some b) → a ≡ b
some_number a b e = cc

pub one_state : (c : Columns) (s t : State) → Shows c s → Shows c t → s ≡ t
one_state c x y a b =
    let make : ℕ → ℕ → ℕ → ℕ → ℕ → ℕ → ℕ → ℕ → State = λ a b c d e f g h. record { ra = a; sp = b; rbx = c; rbp = d; r12 = e; r13 = f; r14 = g; r15 = h } in
    let values : (r : CalleeSaved) → value_of r x ≡ value_of r y = λ r. some_number (value_of r x) (value_of r y) (sym (a.saved r) ∙ b.saved r) in
    ap (λ v. make v x.sp x.rbx x.rbp x.r12 x.r13 x.r14 x.r15) (some_number x.ra y.ra (sym a.ra ∙ b.ra)) ∙
    ap (λ v. make y.ra v x.rbx x.rbp x.r12 x.r13 x.r14 x.r15) (some_number x.sp y.sp (sym a.sp ∙ b.sp)) ∙
    ap (λ v. make y.ra y.sp v x.rbp x.r12 x.r13 x.r14 x.r15) (values RBX) ∙
    ap (λ v. make y.ra y.sp y.rbx v x.r12 x.r13 x.r14 x.r15) (values RBP) ∙
    ap (λ v. make y.ra y.sp y.rbx y.rbp v x.r13 x.r14 x.r15) (values R12) ∙
    ap (λ v. make y.ra y.sp y.rbx y.rbp y.r12 v x.r14 x.r15) (values R13) ∙
    ap (λ v. make y.ra y.sp y.rbx y.rbp y.r12 y.r13 v x.r15) (values R14) ∙
    ap (λ v. make y.ra y.sp y.rbx y.rbp y.r12 y.r13 y.r14 v) (values R15)

-- ---- chains that go through the same states, at each of which the same is asked
abbrev pub Alike : State → List Call → List Call → Type 0
Alike s [] [] = Unit {0}
Alike s [] (d ∷ ds) = ⊥
Alike s (c ∷ cs) [] = ⊥
Alike s (c ∷ cs) (d ∷ ds) = (c.caller ≡ d.caller) × (action_at c.callee (s.ra - 1) ≡ action_at d.callee (s.ra - 1)) × Alike c.caller cs ds

module _ (p : Process) (apart : AllPairs AreApart p.modules) (evaluates : Evaluates) where
  -- one step by one set of columns
  one_step : (columns : Columns) (s : State) (c d : Call) (x : Steps p evaluates columns (s.ra - 1) c) (y : Steps p evaluates columns (s.ra - 1) d) →
      (c.caller ≡ d.caller) × (action_at c.callee (s.ra - 1) ≡ action_at d.callee (s.ra - 1)) × (x.undoes.caller ≡ y.undoes.caller)
  one_step columns s c d x y =
      let same : Same p apart c.callee d.callee (s.ra - 1) x.finds y.finds = one_found p apart c.callee d.callee (s.ra - 1) x.finds y.finds in
      let callers : x.undoes.caller ≡ y.undoes.caller = ok_is {E = StepFault} x.undoes.caller y.undoes.caller (sym x.undoes.is_caller ∙ ap (caller_of x86_64 evaluates p.image columns) same.run ∙ y.undoes.is_caller) in
      let states : c.caller ≡ d.caller = one_state x.undoes.caller c.caller d.caller x.undoes.shows (subst (λ (k : Columns). Shows k d.caller) (sym callers) y.undoes.shows) in
      let starts : c.callee.start ≡ d.callee.start = sym x.finds.describes.code.start ∙ ap (λ (k : Fde). k.start) same.fde ∙ y.finds.describes.code.start in
      let leads : LeadsToLanguage p.image d.callee x.finds.fde.language = subst (λ (k : Fde). LeadsToLanguage p.image d.callee k.language) (sym same.fde) y.finds.describes.language in
      let actions = one_action p.image c.callee d.callee x.finds.fde.language (s.ra - 1) starts x.finds.describes.language leads in
      (states, actions, callers)

  not_ended : (columns : Columns) (s : State) (functions : List Function) (d : Call) → s.ra ≢ 0 → Steps p evaluates columns (s.ra - 1) d → IsEnd p.image (IsUncovered p) functions s → ⊥
  not_ended columns s functions d nonzero y end = elim end.ends [ inl z ↦ nonzero z | inr u ↦ found_is_covered p apart d.callee (s.ra - 1) y.finds u.1 ]

  walks_alike : (functions more : List Function) (s : State) (cs ds : List Call) (columns : Columns) → IsElfWalk p evaluates functions columns s cs → IsElfWalk p evaluates more columns s ds → Alike s cs ds
  walks_alike functions more s [] [] columns x y = tt
  walks_alike functions more s [] (d ∷ ds) columns x y = absurd (not_ended columns s functions d y.1 y.3.0 x.1)
  walks_alike functions more s (c ∷ cs) [] columns x y = absurd (not_ended columns s more c x.1 x.3.0 y.1)
  walks_alike functions more s (c ∷ cs) (d ∷ ds) columns x y =
      let one = one_step columns s c d x.3.0 y.3.0 in
      let rest : IsElfWalk p evaluates more x.3.0.undoes.caller c.caller ds =
      subst (λ (k : State). IsElfWalk p evaluates more x.3.0.undoes.caller k ds) (sym one.0) (subst (λ (k : Columns). IsElfWalk p evaluates more k d.caller ds) (sym one.2) y.3.1) in
      (one.0, one.1, walks_alike functions more c.caller cs ds x.3.0.undoes.caller x.3.1 rest)

-- ---- what is delivered to such chains
pub same_states : (s : State) (cs ds : List Call) → Alike s cs ds → states_of s cs ≡ states_of s ds
same_states s [] [] a = refl
same_states s [] (d ∷ ds) a = absurd a
same_states s (c ∷ cs) [] a = absurd a
same_states s (c ∷ cs) (d ∷ ds) a = ap (λ (l : List State). s ∷ l) (same_states c.caller cs ds a.2 ∙ ap (λ (t : State). states_of t ds) a.0)

-- what a delivery sees of a frame
abbrev view : Frame → State × Action
view f = (f.state, action_of_frame f)

-- what a delivery sees of frames: the states and the cleanups before the first that decides, and that one
pub record SeenAlike (fs gs : List Frame) : Type 0 where
  pub states : states_in (before_first is_deciding fs) ≡ states_in (before_first is_deciding gs)
  pub trail : filter_map cleanup_of (before_first is_deciding fs) ≡ filter_map cleanup_of (before_first is_deciding gs)
  pub deciding : option_map view (find is_deciding fs) ≡ option_map view (find is_deciding gs)

pub before_cons : {A : Type 0} (p : A → Bool) (x : A) (xs : List A) → p x ≡ false → before_first p (x ∷ xs) ≡ x ∷ before_first p xs
before_cons p x xs e = rw (e, one-add) refl

pub before_now : {A : Type 0} (p : A → Bool) (x : A) (xs : List A) → p x ≡ true → before_first p (x ∷ xs) ≡ []
before_now p x xs e = rw e refl

same_cleanup : (f g : Frame) → f.state ≡ g.state → action_of_frame f ≡ action_of_frame g → cleanup_of f ≡ cleanup_of g
same_cleanup f g state action = ap (λ (a : Action). option_map (λ pad. (pad, f.state.sp)) (cleanup_pad a)) action ∙ ap (λ (s : State). option_map (λ pad. (pad, s.sp)) (cleanup_pad (action_of_frame g))) state

abbrev some_view : State → Action → Option (State × Action)
some_view s a = Some (s, a)

seen_cons : (f g : Frame) (fs gs : List Frame) → f.state ≡ g.state → action_of_frame f ≡ action_of_frame g → SeenAlike fs gs → SeenAlike (f ∷ fs) (g ∷ gs)
seen_cons f g fs gs state action rest = go (is_deciding f) refl (sym (ap decides action))
  where
    go : (b : Bool) → is_deciding f ≡ b → is_deciding g ≡ is_deciding f → SeenAlike (f ∷ fs) (g ∷ gs)
    go true at same =
        let at' : is_deciding g ≡ true = same ∙ at in
        let x = before_now is_deciding f fs at in
        let y = before_now is_deciding g gs at' in
        record {
          states = ap states_in (x ∙ sym y);
          trail = ap (filter_map cleanup_of) (x ∙ sym y);
          deciding = rw (at, at') (ap (λ (s : State). some_view s (action_of_frame f)) state ∙ ap (some_view g.state) action);
        }
    go false at same =
        let at' : is_deciding g ≡ false = same ∙ at in
        let x = before_cons is_deciding f fs at in
        let y = before_cons is_deciding g gs at' in
        record {
          states = ap states_in x ∙ ap (λ (l : List State). f.state ∷ l) rest.states ∙ ap (λ (t : State). t ∷ states_in (before_first is_deciding gs)) state ∙ sym (ap states_in y);
          trail = ap (filter_map cleanup_of) x
              ∙ ap (λ (l : List (ℕ × ℕ)). cons_option (cleanup_of f) l) rest.trail
              ∙ ap (λ (o : Option (ℕ × ℕ)). cons_option o (filter_map cleanup_of (before_first is_deciding gs))) (same_cleanup f g state action)
              ∙ sym (ap (filter_map cleanup_of) y);
          deciding = rw (at, at') rest.deciding;
        }

seen_alike : (s : State) (cs ds : List Call) → Alike s cs ds → SeenAlike (frames_of s cs) (frames_of s ds)
seen_alike s [] [] a = record { states = refl; trail = refl; deciding = refl }
seen_alike s [] (d ∷ ds) a = absurd a
seen_alike s (c ∷ cs) [] a = absurd a
seen_alike s (c ∷ cs) (d ∷ ds) a =
    let rest : SeenAlike (frames_of c.caller cs) (frames_of d.caller ds) = subst (λ (t : State). SeenAlike (frames_of c.caller cs) (frames_of t ds)) a.0 (seen_alike c.caller cs ds a.2) in
    seen_cons (record { state = s; function = c.callee }) (record { state = s; function = d.callee }) (frames_of c.caller cs) (frames_of d.caller ds) refl a.1 rest

-- a delivery by what it sees
abbrev delivered : ℕ → List State → List (ℕ × ℕ) → State × Action → Delivery
delivered e states trail (s, Catch pad) = record { visited = states ++ s ∷ []; trail = trail; landing = Some (landing_at e s pad); outcome = Installed }
delivered e states trail (s, Filter pad) = record { visited = states ++ s ∷ []; trail = trail; landing = Some (landing_at e s pad); outcome = Installed }
delivered e states trail (s, _) = delivery_without_handler (states ++ s ∷ []) FatalPhase1

decided_is : (e : ℕ) (inside : List Frame) (s : State) (a : Action) → decided_by e inside s a ≡ delivered e (states_in inside) (filter_map cleanup_of inside) (s, a)
decided_is e inside s NoAction = refl
decided_is e inside s (Cleanup pad) = refl
decided_is e inside s (Catch pad) = refl
decided_is e inside s (Filter pad) = refl
decided_is e inside s Terminate = refl

abbrev delivery_by : ℕ → List State → List (ℕ × ℕ) → List State → Option (State × Action) → Delivery
delivery_by e states trail all o = option_map_or (delivered e states trail) o (delivery_without_handler all EndOfStack)

delivery_is : (e : ℕ) (s : State) (cs : List Call) → delivery_of e s cs ≡ delivery_by e (states_in (inner_frames s cs)) (filter_map cleanup_of (inner_frames s cs)) (states_of s cs) (option_map view (deciding_frame s cs))
delivery_is e s cs = go (deciding_frame s cs)
  where
    go : (o : Option Frame) → option_map_or (λ (f : Frame). decided_by e (inner_frames s cs) f.state (action_of_frame f)) o (delivery_without_handler (states_of s cs) EndOfStack) ≡
        delivery_by e (states_in (inner_frames s cs)) (filter_map cleanup_of (inner_frames s cs)) (states_of s cs) (option_map view o)
    go None = refl
    go (Some f) = decided_is e (inner_frames s cs) f.state (action_of_frame f)

pub same_delivery : (e : ℕ) (s : State) (cs ds : List Call) → Alike s cs ds → delivery_of e s cs ≡ delivery_of e s ds
same_delivery e s cs ds a =
    let seen = seen_alike s cs ds a in
    delivery_is e s cs
    ∙ ap (λ (l : List State). delivery_by e l (filter_map cleanup_of (inner_frames s cs)) (states_of s cs) (option_map view (deciding_frame s cs))) seen.states
    ∙ ap (λ (l : List (ℕ × ℕ)). delivery_by e (states_in (inner_frames s ds)) l (states_of s cs) (option_map view (deciding_frame s cs))) seen.trail
    ∙ ap (λ (l : List State). delivery_by e (states_in (inner_frames s ds)) (filter_map cleanup_of (inner_frames s ds)) l (option_map view (deciding_frame s cs))) (same_states s cs ds a)
    ∙ ap (delivery_by e (states_in (inner_frames s ds)) (filter_map cleanup_of (inner_frames s ds)) (states_of s ds)) seen.deciding
    ∙ sym (delivery_is e s ds)

-- expressions that give nothing: no described row has one
abbrev no_expressions : Evaluates
no_expressions bytes stack columns = Err (Unmapped 0)

-- two described chains of one start
pub chains_alike : (p : Process) → AllPairs AreApart p.modules → (functions more : List Function) (s : State) (cs ds : List Call) →
    IsElfChain p functions s cs → IsElfChain p more s ds → Alike s cs ds
chains_alike p apart functions more s cs ds x y =
    walks_alike p apart no_expressions functions more s cs ds (columns_of s)
    (chain_walked p no_expressions functions s cs (columns_of s) x (columns_show s)) (chain_walked p no_expressions more s ds (columns_of s) y (columns_show s))

-- ---- chains over one list of functions that share no address
within : (f : Function) (a : ℕ) → IsFunction SystemV f → IsTrue (in_body f a) → (f.start ≤ a) × (a < f.end)
within f a is h = body_inside f a is h

apart_not : (f g : Function) (a : ℕ) → FunctionsApart f g → (f.start ≤ a) × (a < f.end) → (g.start ≤ a) × (a < g.end) → ⊥
apart_not f g a (inl le) x y = omega (arith, x.1, y.0)
apart_not f g a (inr le) x y = omega (arith, x.0, y.1)

one_function : (fs : List Function) → AllPairs FunctionsApart fs → (a : ℕ) (f g : Function) → Contains fs f → Contains fs g → (f.start ≤ a) × (a < f.end) → (g.start ≤ a) × (a < g.end) → f ≡ g
one_function [] apart a f g p q i j = absurd (none_in_nil f p)
one_function (x ∷ xs) apart a f g p q i j = go (here_or_later x xs f p) (here_or_later x xs g q) (λ p' q'. one_function xs (tail_pairs FunctionsApart x xs apart) a f g p' q' i j)
  where
    go : (x ≡ f) ⊎ Contains xs f → (x ≡ g) ⊎ Contains xs g → (Contains xs f → Contains xs g → f ≡ g) → f ≡ g
    go (inl e) (inl h) ih = sym e ∙ h
    go (inl e) (inr q') ih = absurd (apart_not f g a (subst (λ y. FunctionsApart y g) e (head_pairs FunctionsApart x xs g apart q')) i j)
    go (inr p') (inl h) ih = absurd (apart_not g f a (subst (λ y. FunctionsApart y f) h (head_pairs FunctionsApart x xs f apart p')) j i)
    go (inr p') (inr q') ih = ih p' q'

same_callees : (image : List Span) (Uncovered : ℕ → Type 0) (functions : List Function) → AllPairs FunctionsApart functions → AllByRecursion (IsFunction SystemV) functions → (s : State) (cs ds : List Call) →
    IsChain image Uncovered functions s cs → IsChain image Uncovered functions s ds → Alike s cs ds → cs ≡ ds
same_callees image Uncovered functions apart are s [] [] x y a = refl
same_callees image Uncovered functions apart are s [] (d ∷ ds) x y a = absurd a
same_callees image Uncovered functions apart are s (c ∷ cs) [] x y a = absurd a
same_callees image Uncovered functions apart are s (c ∷ cs) (d ∷ ds) x y a =
    let at : ℕ = s.ra - 1 in
    let callee : c.callee ≡ d.callee = one_function functions apart at c.callee d.callee x.0.listed y.0.listed
    (within c.callee at (all_contains (IsFunction SystemV) functions c.callee are x.0.listed) x.0.called.inside) (within d.callee at (all_contains (IsFunction SystemV) functions d.callee are y.0.listed) y.0.called.inside) in
    let make : Function → State → Call = λ f t. record { callee = f; caller = t } in
    let call : c ≡ d = ap (λ (f : Function). make f c.caller) callee ∙ ap (make d.callee) a.0 in
    let rest : cs ≡ ds = same_callees image Uncovered functions apart are c.caller cs ds x.1 (subst (λ (t : State). IsChain image Uncovered functions t ds) (sym a.0) y.1) a.2 in
    ap (λ (k : Call). k ∷ cs) call ∙ ap (λ (l : List Call). d ∷ l) rest

-- over functions that share no address, two described chains of one start are one
pub one_chain : (p : Process) → AllPairs AreApart p.modules → (functions : List Function) → AllPairs FunctionsApart functions → (s : State) (cs ds : List Call) →
    IsElfChain p functions s cs → IsElfChain p functions s ds → cs ≡ ds
one_chain p apart functions alone s cs ds x y = same_callees p.image (IsUncovered p) functions alone x.are_functions s cs ds x.chain y.chain (chains_alike p apart functions functions s cs ds x y)
