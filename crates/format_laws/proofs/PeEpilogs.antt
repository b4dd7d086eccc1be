-- The frame of a state that stands in an epilog undoes its call.
use Rattle.std.proofs.Common.{◌≡◌, ℕ, ◌+◌, ◌-◌, ◌%◌, ◌^◌, ◌<◌, ◌≤◌, Bool, true, false, cond, eqb, ltb, ◌||◌, List, [], ◌∷◌, ◌++◌, map, length, take, sum, Option, Some, None, Result, Ok, refl, sym, ap, subst, ◌∙◌, arith, inl, inr, append_assoc, length-append}
use Rattle.std.specs.Prelude.{◌⊎◌, reverse, IsFalse}
use Rattle.std.specs.List.{AllByRecursion, AllPairs, list_any, Contains}
use Rattle.std.proofs.lemmas.Bool.{ne_eqb, le-ltb, le-leb, lt-ltb}
use Rattle.std.proofs.lemmas.List.{reverse-reverse}
use Rattle.std.proofs.lemmas.List.Sums.{sum_by-cons}
use Rattle.memory_image.specs.Image.{Span, word_at}
use Rattle.unwind_definitions.specs.State.{CalleeSaved, RBP, State, IsState, value_of}
use Rattle.unwind_definitions.specs.Prologue.{Windows, Register as Saved, is_register, Step, Push, Allocate, saves, pushes, steps_of}
use Rattle.unwind_definitions.specs.Entered.{Leaves, stack_after}
use Rattle.unwind_definitions.specs.Function.{Function, IsFunction}
use Rattle.unwind_laws.proofs.Booleans.{here_or_later, none_in_nil}
use Rattle.pe_unwind_info.specs.declared.x86_64.fault.FrameFault.{FrameFault}
use Rattle.pe_unwind_info.specs.declared.x86_64.function_table.RuntimeFunction.{RuntimeFunction}
use Rattle.pe_unwind_info.specs.declared.x86_64.epilog.FunctionEpilogInstruction.{FunctionEpilogInstruction}
use Rattle.pe_unwind_info.specs.declared.x86_64.epilog.FunctionEpilogInstruction.TheVariants.{AddSP, AddSPFromFP, Pop}
use Rattle.pe_unwind_info.specs.declared.x86_64.operations.EpilogInformation.{EpilogInformation as Epilog}
use Rattle.pe_unwind_info.specs.declared.x86_64.registers.Register.{Register}
use Rattle.pe_unwind_info.specs.declared.x86_64.registers.Register.TheVariants as pe
use Rattle.pe_unwind_info.specs.declared.x86_64.unwind_info.UnwindInfoHeader.{UnwindInfoHeader}
use Rattle.pe_unwind_info.specs.Epilog.{Sequence, sequence_of}
use Rattle.pe_unwind_info.specs.EpilogGrammar.{IsPrefix, IsTerminator, ret, short_jump, near_jump, memory_jump, IsRun, IsEpilog}
use Rattle.pe_unwind_info.specs.EpilogList.{leading_epilogs, is_within, lists, any_lists, lists_last, is_due}
use Rattle.pe_unwind_info.specs.Frame.{epilog_or_none, epilog_in}
use Rattle.pe_unwind_info.specs.FrameOf.{Image, epilog_if_tested, by_test, in_record}
use Rattle.pe_unwind_info.specs.Header.{frame_register_of}
use Rattle.pe_unwind_info.specs.Info.{Info}
use Rattle.pe_unwind_info.specs.InfoOperations.{operations_in}
use Rattle.pe_unwind_info.specs.Machine.{Registers, Stack, with_stack_pointer, plus, After, Goes, then_goes, then_ends, pop_return}
use Rattle.pe_unwind_info.specs.Operations.{size_of_epilogs, ends_with_one, offset_of_epilog}
use Rattle.pe_unwind_info.specs.Steps.{epilog_act, epilog_run}
use Rattle.pe_unwind_info.proofs.EpilogSequences.{sequence_is}
use Rattle.format_definitions.specs.PeImage.{PeModule, memory_of}
use Rattle.format_definitions.specs.PeRegisters.{number_of, ShowsRegisters, KeepsScratch}
use Rattle.format_definitions.specs.PeUndoing.{general_of, undo, IsPushOrAllocation, set_step, Names}
use Rattle.format_definitions.specs.PeModules.{DescribesRecord}
use Rattle.format_definitions.specs.PeEpilogs.{AreSpelled, concatenation, pops, StandsAt, before_add, before_lea, before_pops, Lists, last, other, StandsInEpilog}
use Rattle.format_laws.specs.PeUndone.{FrameUndone}
use Rattle.format_laws.proofs.PeMachine.{set_other, not_sp, scratch_not, act_by, run_by, goes_same, leaves_append, stack_append, stack_falls}
use Rattle.format_laws.proofs.PeBack.{no_frame, PopsBack, pops_back}
use Rattle.format_laws.proofs.PeUndone.{all_reverse, any_reverse}
use Rattle.format_laws.proofs.PeFrames.{map_append, map_reverse, last_registers, popped_is, last_shows, last_scratch}
use Rattle.format_laws.proofs.PeFew.{Apart, few_instructions}

-- ---- codes
prefix_length : (prefix : List ℕ) (bit : ℕ) (code : List ℕ) → IsPrefix prefix bit → 0 < length code → 0 < length (prefix ++ code)
prefix_length prefix bit code is some = omega (arith, length-append prefix code)

pub terminator_length : (code : List ℕ) → IsTerminator code → 0 < length code
terminator_length code (ret {prefix} {bit} p) = prefix_length prefix bit (0xc3 ∷ []) p (omega arith)
terminator_length code (short_jump {prefix} {bit} p next) = prefix_length prefix bit (0xeb ∷ next ∷ []) p (omega arith)
terminator_length code (near_jump {prefix} {bit} p next) = prefix_length prefix bit (0xe9 ∷ next ∷ []) p (omega arith)
terminator_length code (memory_jump {prefix} {bit} p modrm h) = prefix_length prefix bit (0xff ∷ modrm ∷ []) p (omega arith)

-- codes are a run of the grammar
runs : (frame : Option Register) (allowed : Bool) (codes : List (List ℕ)) (is : List FunctionEpilogInstruction) (rest : List ℕ) → AreSpelled frame allowed codes is → IsRun frame allowed (concatenation codes ++ rest) is rest
runs frame allowed [] [] rest spelled = refl
runs frame allowed (code ∷ codes) (i ∷ is) rest spelled = (concatenation codes ++ rest, (code, append_assoc code (concatenation codes) rest, spelled.0), runs frame false codes is rest spelled.2)
runs frame allowed [] (i ∷ is) rest spelled = absurd spelled
runs frame allowed (code ∷ codes) [] rest spelled = absurd spelled

-- ---- pops are the operations that undo pushes
abbrev pop_of : Saved → FunctionEpilogInstruction
pop_of r = Pop (general_of r)

pop_act : (frame : Option Register) (stack : Stack) (r : Saved) (regs : Registers) → epilog_act frame stack (pop_of r) regs ≡ act_by None stack (undo (Push r)) regs
pop_act None stack r regs = refl
pop_act (Some q) stack r regs = refl

same_run : (frame : Option Register) (stack : Stack) (rs : List Saved) (regs : Registers) → epilog_run frame stack (map pop_of rs) regs ≡ run_by None stack (map undo (map Push rs)) regs
unfolding epilog_run
same_run frame stack [] regs = refl
same_run frame stack (r ∷ rs) regs =
    ap (λ (x : After). then_goes x (epilog_run frame stack (map pop_of rs))) (pop_act frame stack r regs)
    ∙ goes_same _ (epilog_run frame stack (map pop_of rs)) (run_by None stack (map undo (map Push rs))) (λ after. same_run frame stack rs after)

any_pushes : (r : CalleeSaved) (xs : List Saved) → list_any (pushes r) (map Push xs) ≡ list_any (is_register r) xs
any_pushes r [] = refl
any_pushes r (x ∷ xs) = ap (λ b. is_register r x || b) (any_pushes r xs)

-- allocations lower the stack pointer by their sum
lowered : (image : List Span) (t : State) (rooms : List ℕ) (sp : ℕ) → Leaves image t sp (map Allocate rooms) → stack_after sp (map Allocate rooms) + sum rooms ≡ sp
lowered image t [] sp leaves = omega arith
lowered image t (n ∷ rooms) sp leaves = let ih = lowered image t rooms (sp - n) leaves.1 in let le : n ≤ sp = leaves.0 in omega (arith, sum_by-cons (λ (x : ℕ). x) n rooms)

-- ---- a listed epilog is tested
within : (end size a offset : ℕ) → end ≤ a + offset → a + offset < end + size → is_within end size a offset ≡ true
within end size a offset low high = rw (le-leb end (a + offset) low, lt-ltb (a + offset) (end + size) high) refl

or_second : (a b : Bool) → b ≡ true → (a || b) ≡ true
or_second true b h = refl
or_second false b h = h

any_listed : (end size a : ℕ) (epilog : Epilog) (epilogs : List Epilog) → Contains epilogs epilog → lists end size a epilog ≡ true → any_lists end size a epilogs ≡ true
unfolding any_lists
any_listed end size a epilog [] has h = absurd (none_in_nil epilog has)
any_listed end size a epilog (e ∷ epilogs) has h = go (here_or_later e epilogs epilog has) (λ later. any_listed end size a epilog epilogs later h)
  where
    go : (e ≡ epilog) ⊎ Contains epilogs epilog → (Contains epilogs epilog → any_lists end size a epilogs ≡ true) → (lists end size a e || any_lists end size a epilogs) ≡ true
    go (inl same) ih = let is : lists end size a e ≡ true = ap (lists end size a) same ∙ h in rw is refl
    go (inr later) ih = or_second (lists end size a e) (any_lists end size a epilogs) (ih later)

due : (end a offset size : ℕ) (epilogs : List Epilog) → (epilogs ≡ []) ⊎ Lists offset size epilogs → end ≤ a + offset → a + offset < end + size → is_due end a epilogs ≡ true
due end a offset size [] listed low high = refl
due end a offset size (first ∷ later) (inl nil) low high = absurd cc
due end a offset size (first ∷ later) (inr (last s ends same)) low high =
    let size_is : offset ≡ size_of_epilogs first = same ∙ sym s in
    let w : is_within end (size_of_epilogs first) a (size_of_epilogs first) ≡ true = within end _ a _ (subst (λ n. end ≤ a + n) size_is low) (omega (arith, s, same)) in
    let e : ends_with_one first ≡ true = ends in
    rw (e, w) refl
due end a offset size (first ∷ later) (inr (other {epilog = p} s has at nonzero)) low high =
    let w : is_within end (size_of_epilogs first) a (offset_of_epilog p) ≡ true = within end _ a _ (omega (arith, at)) (omega (arith, at, s)) in
    let z : eqb (offset_of_epilog p) 0 ≡ false = ne_eqb (offset_of_epilog p) 0 (λ q. nonzero (sym at ∙ q)) in
    or_second (lists_last end a first) (any_lists end (size_of_epilogs first) a later) (any_listed end (size_of_epilogs first) a p later has (rw (z, w) refl))

take_all : (xs ys : List ℕ) → take (length xs) (xs ++ ys) ≡ xs
take_all [] ys = refl
take_all (x ∷ xs) ys = ap (λ l. x ∷ l) (take_all xs ys)

-- ---- the frame register
abbrev rbp_if : Option ℕ → Option Register
rbp_if None = None
rbp_if (Some m) = Some pe.RBP

names_rbp : (set : Option ℕ) (header : UnwindInfoHeader) → Names set header → frame_register_of header ≡ rbp_if set
names_rbp None header names = rw names refl
names_rbp (Some m) header names = rw names.0 refl

-- ---- lists
first_part : (P : Step → Type 0) (xs ys : List Step) → AllByRecursion P (xs ++ ys) → AllByRecursion P xs
first_part P [] ys h = tt
first_part P (x ∷ xs) ys h = (h.0, first_part P xs ys h.1)

unmapped : (P : Step → Type 0) (xs : List Saved) → AllByRecursion P (map Push xs) → AllByRecursion (λ (r : Saved). P (Push r)) xs
unmapped P [] h = tt
unmapped P (x ∷ xs) h = (h.0, unmapped P xs h.1)

module _ (image : List Span) (m : PeModule) (function : RuntimeFunction) (f : Function) (d : DescribesRecord image m function f) (is : IsFunction Windows f) (t s : State) (words : IsState t) (regs : Registers) (shows : ShowsRegisters regs s) (st : StandsInEpilog image m function f d t s) where
  abbrev start : ℕ
  start = t.sp - 8

  abbrev stack : Stack
  stack = word_at image

  abbrev register : Option Register
  register = frame_register_of d.first.header

  top : t.sp - 8 < 2 ^ 64
  top = let h = words.sp in omega arith

  abbrev after_frame : List Step
  after_frame = set_step d.grouped.set ++ d.grouped.stores

  steps_are : steps_of f.prologue ≡ map Push st.pushed ++ (map Allocate st.rooms ++ after_frame)
  steps_are = d.grouped.is ∙ ap (λ l. l ++ after_frame) st.frame ∙ append_assoc (map Push st.pushed) (map Allocate st.rooms) after_frame

  whole : Leaves image t start (map Push st.pushed ++ (map Allocate st.rooms ++ after_frame))
  whole = subst (Leaves image t start) steps_are st.leaves

  pushed_part : Leaves image t start (map Push st.pushed)
  pushed_part = (leaves_append image t (map Push st.pushed) (map Allocate st.rooms ++ after_frame) start whole).0

  allocated_part : stack_after start (map Push st.pushed ++ map Allocate st.rooms) + sum st.rooms ≡ stack_after start (map Push st.pushed)
  allocated_part =
      let later = (leaves_append image t (map Push st.pushed) (map Allocate st.rooms ++ after_frame) start whole).1 in
      let rooms = (leaves_append image t (map Allocate st.rooms) after_frame (stack_after start (map Push st.pushed)) later).0 in
      let h = lowered image t st.rooms (stack_after start (map Push st.pushed)) rooms in
      let e = stack_append (map Push st.pushed) (map Allocate st.rooms) start in
      omega (arith, h, e)

  frames : AllByRecursion IsPushOrAllocation (map Push st.pushed)
  frames = first_part IsPushOrAllocation (map Push st.pushed) (map Allocate st.rooms) (subst (AllByRecursion IsPushOrAllocation) st.frame d.grouped.frames)

  -- the pops of registers, as undone pushes
  turned : (left : List Saved) → map Push (reverse left) ≡ reverse (map Push left)
  turned left = map_reverse (λ (r : Saved). Push r) left

  popped : (left : List Saved) (q : Registers) → AllByRecursion IsPushOrAllocation (map Push left) → Leaves image t start (map Push left) → q.general 4 ≡ stack_after start (map Push left) →
      PopsBack image t None no_frame start (map Push (reverse left)) q
  popped left q all leaves sp =
      subst (λ l. PopsBack image t None no_frame start l q) (sym (turned left))
      (pops_back image t None no_frame (reverse (map Push left)) start q (all_reverse IsPushOrAllocation (map Push left) all) top
      (subst (Leaves image t start) (sym (reverse-reverse (map Push left))) leaves) (sp ∙ ap (stack_after start) (sym (reverse-reverse (map Push left)))))

  values_of : (left : List Saved) (q : Registers) → ((r : CalleeSaved) → q.general (number_of r) ≡ value_of r s) → ((r : CalleeSaved) → IsFalse (list_any (is_register r) left) → value_of r s ≡ value_of r t) →
      (back : PopsBack image t None no_frame start (map Push (reverse left)) q) → (r : CalleeSaved) → back.after.general (number_of r) ≡ value_of r t
  values_of left q same values back r = go (list_any (pushes r) (map Push (reverse left))) refl (back.values r)
    where
      go : (b : Bool) → list_any (pushes r) (map Push (reverse left)) ≡ b → back.after.general (number_of r) ≡ cond (list_any (pushes r) (map Push (reverse left))) (value_of r t) (q.general (number_of r)) →
          back.after.general (number_of r) ≡ value_of r t
      go true e h = h ∙ ap (λ b. cond b (value_of r t) (q.general (number_of r))) e
      go false e h =
          h ∙ ap (λ b. cond b (value_of r t) (q.general (number_of r))) e ∙ same r
          ∙ values r (sym (any_reverse (is_register r) left) ∙ sym (any_pushes r (reverse left)) ∙ e)

  -- the instructions that are to be done
  pub record EpilogDone (todo : List FunctionEpilogInstruction) : Type 0 where
    pub after : Registers
    pub ran : epilog_run register stack todo regs ≡ Goes after
    pub sp : after.general 4 ≡ t.sp - 8
    pub values : (r : CalleeSaved) → after.general (number_of r) ≡ value_of r t
    pub scratch : KeepsScratch regs after

  moved : (v : ℕ) (r : CalleeSaved) → (with_stack_pointer v regs).general (number_of r) ≡ value_of r s
  moved v r = set_other (number_of r) 4 v regs (not_sp r) ∙ shows.saved r

  -- an instruction that gives the stack back, and then all pops
  after_adjustment : (i : FunctionEpilogInstruction) (v : ℕ) → epilog_act register stack i regs ≡ Goes (with_stack_pointer v regs) → v ≡ stack_after start (map Push st.pushed) →
      ((r : CalleeSaved) → IsFalse (list_any (is_register r) st.pushed) → value_of r s ≡ value_of r t) → EpilogDone (i ∷ pops st.pushed)
  unfolding epilog_run
  after_adjustment i v acts at values =
      let next : Registers = with_stack_pointer v regs in
      let back = popped st.pushed next frames pushed_part at in
      record {
        after = back.after;
        ran = ap (λ (x : After). then_goes x (epilog_run register stack (pops st.pushed))) acts ∙ same_run register stack (reverse st.pushed) next ∙ back.is;
        sp = back.sp;
        values = values_of st.pushed next (moved v) values back;
        scratch = λ n h. back.scratch n h ∙ set_other n 4 v regs (scratch_not n 4 h refl);
      }

  add_acts : (frame : Option Register) (n : ℕ) → epilog_act frame stack (AddSP n) regs ≡ Goes (with_stack_pointer (plus (regs.general 4) n) regs)
  add_acts None n = refl
  add_acts (Some q) n = refl

  by_place : (todo : List FunctionEpilogInstruction) (left : List Saved) → StandsAt t s st.pushed st.rooms d.grouped.set todo left →
      ((r : CalleeSaved) → IsFalse (list_any (is_register r) left) → value_of r s ≡ value_of r t) → EpilogDone todo
  by_place todo left (before_add {n = n} total sp) values =
      let at = shows.sp in let parts = allocated_part in let falls = stack_falls (map Push st.pushed) start in let high = top in
      let back_is : (regs.general 4 + n) % 2 ^ 64 ≡ stack_after start (map Push st.pushed) = omega arith in
      after_adjustment (AddSP n) (plus (regs.general 4) n) (add_acts register n) back_is values
  by_place todo left (before_lea {n = n} {m = k} set total sp frame) values =
      let at : regs.general 5 ≡ s.rbp = shows.saved RBP in let parts = allocated_part in let falls = stack_falls (map Push st.pushed) start in let high = top in
      let back_is : (regs.general 5 + n) % 2 ^ 64 ≡ stack_after start (map Push st.pushed) = omega arith in
      let named : register ≡ Some pe.RBP = names_rbp d.grouped.set d.first.header d.names.0 ∙ ap rbp_if set in
      after_adjustment (AddSPFromFP n) (plus (regs.general 5) n) (ap (λ o. epilog_act o stack (AddSPFromFP n) regs) named) back_is values
  by_place todo left (before_pops gone split sp) values =
      let both : map Push st.pushed ≡ map Push left ++ map Push gone = ap (map Push) split ∙ map_append (λ (r : Saved). Push r) left gone in
      let back = popped left regs (first_part IsPushOrAllocation (map Push left) (map Push gone) (subst (AllByRecursion IsPushOrAllocation) both frames))
      (leaves_append image t (map Push left) (map Push gone) start (subst (Leaves image t start) both pushed_part)).0 (shows.sp ∙ sp) in
      record {
        after = back.after;
        ran = same_run register stack (reverse left) regs ∙ back.is;
        sp = back.sp;
        values = values_of left regs shows.saved values back;
        scratch = back.scratch;
      }

  few : length st.todo ≤ 12
  few = few_instructions t s st.pushed st.rooms d.grouped.set st.todo st.left (map Allocate st.rooms ++ after_frame) st.stands (unmapped IsPushOrAllocation st.pushed frames)
      (subst (λ l. AllPairs Apart (saves l)) steps_are is.prologue.once)

  abbrev bytes : List ℕ
  bytes = concatenation st.codes ++ (st.terminator ++ st.rest)

  reads : sequence_of register bytes ≡ Ok st.todo
  reads =
      let epilog : IsEpilog register bytes st.todo = (st.terminator ++ st.rest, runs register true st.codes st.todo (st.terminator ++ st.rest) st.spelled, (st.terminator, st.rest, refl, st.ends)) in
      ((sequence_is register bytes).epilog st.todo).1 (few, epilog)

  pub in_epilog_undone : FrameUndone (memory_of image m.base) (word_at image) (Some function) (s.ra - m.base) regs t
  in_epilog_undone =
      let done : EpilogDone st.todo = by_place st.todo st.left st.stands st.values in
      let a : ℕ = s.ra - m.base in
      let memory : Image = memory_of image m.base in
      let starts = d.start in let ends = d.end in let from = st.begins in let at = st.begun in
      let some : 0 < length st.terminator = terminator_length st.terminator st.ends in
      let long = length-append (concatenation st.codes) (st.terminator ++ st.rest) in
      let long' = length-append st.terminator st.rest in
      let long'' = length-append (concatenation st.codes) st.terminator in
      let up = st.up_to_end in
      let end_is : function.end_address - a ≡ f.end - s.ra = omega arith in
      let length_is : length bytes ≡ function.end_address - a = st.up_to_end ∙ sym end_is in
      let is_due_here : is_due function.end_address a (leading_epilogs (operations_in d.first)) ≡ true =
      due function.end_address a (f.end - st.from) ((s.ra - st.from) + length (concatenation st.codes ++ st.terminator)) (leading_epilogs (operations_in d.first)) st.listed (omega arith) (omega arith) in
      let not_past : ltb function.end_address a ≡ false = le-ltb function.end_address a (omega arith) in
      let enough : ltb (length (bytes ++ st.beyond)) (function.end_address - a) ≡ false = le-ltb (length (bytes ++ st.beyond)) (function.end_address - a) (omega (arith, length-append bytes st.beyond, length_is)) in
      let taken : take (function.end_address - a) (bytes ++ st.beyond) ≡ bytes = ap (λ n. take n (bytes ++ st.beyond)) (sym length_is) ∙ take_all bytes st.beyond in
      let found : List FunctionEpilogInstruction → Result (Option (List FunctionEpilogInstruction)) FrameFault = λ instructions. Ok (Some instructions) in
      let answer : Sequence → Result (Option (List FunctionEpilogInstruction)) FrameFault = λ r. Ok (epilog_or_none r) in
      let tested_is : epilog_in register function.end_address a (memory a) ≡ Ok (Some st.todo) =
      (ap (epilog_in register function.end_address a) st.mapped ∙ rw (not_past, enough) (ap (λ l. answer (sequence_of register l)) taken ∙ ap answer reads)) in
      let test : epilog_if_tested (is_due function.end_address a (leading_epilogs (operations_in d.first))) memory register function.end_address a ≡ Ok (Some st.todo) =
      (ap (λ b. epilog_if_tested b memory register function.end_address a) is_due_here ∙ tested_is) in
      record {
        after = last_registers image t words st.room st.returns done.after done.sp;
        is = ap (λ (r : Result Info FrameFault). in_record memory stack a function r regs) d.reads
            ∙ ap (λ (r : Result (Option (List FunctionEpilogInstruction)) FrameFault). by_test memory stack a function d.first r regs) test
            ∙ ap (λ (x : After). then_ends x (pop_return stack)) done.ran
            ∙ popped_is image t words st.room st.returns done.after done.sp;
        shows = last_shows image t words st.room st.returns done.after done.sp done.values;
        scratch = λ n h. last_scratch image t words st.room st.returns done.after done.sp n h ∙ done.scratch n h;
      }
