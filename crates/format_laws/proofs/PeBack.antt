-- Operations undo the steps of a prologue, the last one first.
use Rattle.std.proofs.Common.{◌≡◌, ℕ, ◌+◌, ◌-◌, ◌*◌, ◌%◌, ◌^◌, ◌<◌, ◌≤◌, Bool, true, false, cond, ◌||◌, List, [], ◌∷◌, map, Some, None, refl, sym, ap, subst, ◌∙◌, arith}
use Rattle.std.specs.Prelude.{reverse}
use Rattle.std.specs.List.{AllByRecursion, list_any}
use Rattle.std.proofs.lemmas.Grind.{reverse_onto}
use Rattle.memory_image.specs.Image.{Span, word_at}
use Rattle.unwind_definitions.specs.State.{CalleeSaved, State, value_of, is_same}
use Rattle.unwind_definitions.specs.Prologue.{Followed, RDI, RSI, XMM, Step, Push, Allocate, SetFrame, Store, size_of, pushes}
use Rattle.unwind_definitions.specs.Entered.{Leaves, SlotHolds, stack_after}
use Rattle.pe_unwind_info.specs.declared.x86_64.registers.Register.{Register}
use Rattle.pe_unwind_info.specs.declared.x86_64.registers.XmmRegister.{XmmRegister}
use Rattle.pe_unwind_info.specs.declared.x86_64.registers.Register.TheVariants as pe
use Rattle.pe_unwind_info.specs.declared.x86_64.operations.UnwindOperation.TheVariants.{PopNonVolatile, ReadNonVolatile, ReadXMM}
use Rattle.pe_unwind_info.specs.Machine.{Registers, with_general, with_xmm, with_stack_pointer, plus, less, Goes, word_or_fault, with_word}
use Rattle.pe_unwind_info.specs.Operations.{frame_offset}
use Rattle.pe_unwind_info.specs.Registers.{register_number, xmm_number, xmm_register_of}
use Rattle.format_definitions.specs.PeRegisters.{pe_register, number_of, is_kept, KeepsScratch}
use Rattle.format_definitions.specs.PeUndoing.{undo, IsPushOrAllocation, IsStore}
use Rattle.format_laws.proofs.PeMachine.{same_register, set_saved, set_other, not_sp, sp_not, bp_not, not_si, not_di, kept_number, scratch_not, FrameBase, base_in, resolved, act_by, run_by, run_cons, word_read, mapped_word, mapped_two, leaves_append, stack_append, stack_falls}

abbrev pub stores_in : CalleeSaved → Step → Bool
stores_in r (Store (Followed q) k) = is_same r q
stores_in r _ = false

-- what the values of the followed registers come to: the caller's where they were saved
merge : (b c : Bool) (x y z : ℕ) → (b ≡ true → z ≡ x) → cond c x (cond b z y) ≡ cond (b || c) x y
merge true true x y z h = refl
merge true false x y z h = h refl
merge false true x y z h = refl
merge false false x y z h = refl

-- the frame register, where one is named, is RBP
pub data IsFrame : FrameBase → Type 0 where
  no_frame : IsFrame None
  by_rbp : {m : ℕ} → IsFrame (Some (5, m))

base_kept : (frame : FrameBase) → IsFrame frame → (old new : Registers) → new.general 4 ≡ old.general 4 → new.general 5 ≡ old.general 5 → base_in frame new ≡ base_in frame old
base_kept _ no_frame old new sp bp = ap (λ v. less v 0) sp
base_kept _ (by_rbp {m}) old new sp bp = ap (λ v. less v m) bp

module _ (image : List Span) (t : State) (frame : FrameBase) (is_frame : IsFrame frame) where
  -- ---- stores
  pub record StoresBack (ss : List Step) (regs : Registers) : Type 0 where
    pub after : Registers
    pub is : run_by frame (word_at image) (map undo ss) regs ≡ Goes after
    pub sp : after.general 4 ≡ regs.general 4
    pub bp : after.general 5 ≡ regs.general 5
    pub values : (r : CalleeSaved) → after.general (number_of r) ≡ cond (list_any (stores_in r) ss) (value_of r t) (regs.general (number_of r))
    pub scratch : KeepsScratch regs after

  read_goes : (q : Register) (k a v : ℕ) (regs : Registers) → resolved frame regs k ≡ a → word_at image a ≡ Some v → act_by frame (word_at image) (ReadNonVolatile q (frame_offset k)) regs ≡ Goes (with_general (register_number q) v regs)
  read_goes q k a v regs e w =
      ap (λ b. with_word (word_or_fault (word_at image) b) regs (λ x. Goes (with_general (register_number q) x regs))) e
      ∙ ap (λ r. with_word r regs (λ x. Goes (with_general (register_number q) x regs))) (word_read (word_at image) a v w)

  xmm_goes : (q : XmmRegister) (k a v u : ℕ) (regs : Registers) → resolved frame regs k ≡ a → word_at image a ≡ Some v → word_at image (plus a 8) ≡ Some u → act_by frame (word_at image) (ReadXMM q (frame_offset k)) regs ≡ Goes (with_xmm (xmm_number q) (v + 2 ^ 64 * u) regs)
  xmm_goes q k a v u regs e w h =
      ap (λ b. with_word (word_or_fault (word_at image) b) regs (λ low. with_word (word_or_fault (word_at image) (plus b 8)) regs (λ high. Goes (with_xmm (xmm_number q) (low + 2 ^ 64 * high) regs)))) e
      ∙ ap (λ r. with_word r regs (λ low. with_word (word_or_fault (word_at image) (plus a 8)) regs (λ high. Goes (with_xmm (xmm_number q) (low + 2 ^ 64 * high) regs)))) (word_read (word_at image) a v w)
      ∙ ap (λ r. with_word r regs (λ high. Goes (with_xmm (xmm_number q) (v + 2 ^ 64 * high) regs))) (word_read (word_at image) (plus a 8) u h)

  abbrev pub IsSlot : ℕ → Step → Type 0
  IsSlot base (Store r k) = (base + k + size_of r ≤ 2 ^ 64) × SlotHolds image t (base + k) r × IsStore (Store r k)
  IsSlot base (Push r) = ⊥
  IsSlot base (Allocate n) = ⊥
  IsSlot base (SetFrame m) = ⊥

  at_slot : (base k : ℕ) (regs : Registers) → base_in frame regs ≡ base → base + k + 8 ≤ 2 ^ 64 → resolved frame regs k ≡ base + k
  at_slot base k regs e fits = let h : (base_in frame regs + k) % 2 ^ 64 ≡ base + k = omega arith in h

  -- one store is undone by a write that none of the others sees
  step_back : (step : Step) (ss : List Step) (regs next : Registers) → act_by frame (word_at image) (undo step) regs ≡ Goes next → next.general 4 ≡ regs.general 4 → next.general 5 ≡ regs.general 5 →
      ((r : CalleeSaved) → next.general (number_of r) ≡ cond (stores_in r step) (value_of r t) (regs.general (number_of r))) → KeepsScratch regs next → StoresBack ss next → StoresBack (step ∷ ss) regs
  step_back step ss regs next acts sp bp values scratch ih = record {
    after = ih.after;
    is = run_cons frame (word_at image) (undo step) (map undo ss) regs next acts ∙ ih.is;
    sp = ih.sp ∙ sp;
    bp = ih.bp ∙ bp;
    values = λ r. ih.values r ∙ ap (λ v. cond (list_any (stores_in r) ss) (value_of r t) v) (values r) ∙ merge (stores_in r step) (list_any (stores_in r) ss) (value_of r t) (regs.general (number_of r)) (value_of r t) (λ e. refl);
    scratch = λ n h. ih.scratch n h ∙ scratch n h;
  }

  pub stores_back : (ss : List Step) (base : ℕ) (regs : Registers) → AllByRecursion (IsSlot base) ss → base_in frame regs ≡ base → StoresBack ss regs
  stores_back [] base regs all at = record { after = regs; is = refl; sp = refl; bp = refl; values = λ r. refl; scratch = λ n h. refl }
  stores_back (Store (Followed q) k ∷ ss) base regs all at =
      let next : Registers = with_general (number_of q) (value_of q t) regs in
      let sp : next.general 4 ≡ regs.general 4 = ap (λ b. cond b (value_of q t) (regs.general 4)) (sp_not q) in
      let bp : next.general 5 ≡ regs.general 5 = ap (λ b. cond b (value_of q t) (regs.general 5)) (bp_not q all.0.2) in
      step_back (Store (Followed q) k) ss regs next (read_goes (pe_register q) k (base + k) (value_of q t) regs (at_slot base k regs at all.0.0) all.0.1) sp bp
      (λ r. set_saved r q (value_of q t) regs ∙ same_value r q (is_same r q) refl (regs.general (number_of r)))
      (λ n h. set_other n (number_of q) (value_of q t) regs (scratch_not n (number_of q) h (kept_number q)))
      (stores_back ss base next all.1 (base_kept frame is_frame regs next sp bp ∙ at))
    where
      same_value : (r q : CalleeSaved) (b : Bool) → is_same r q ≡ b → (y : ℕ) → cond b (value_of q t) y ≡ cond b (value_of r t) y
      same_value r q true e y = ap (λ (p : CalleeSaved). value_of p t) (sym (same_register r q e))
      same_value r q false e y = refl
  stores_back (Store RDI k ∷ ss) base regs all at =
      let w = mapped_word image (base + k) all.0.1 in
      let next : Registers = with_general 7 w.0 regs in
      step_back (Store RDI k) ss regs next (read_goes pe.RDI k (base + k) w.0 regs (at_slot base k regs at all.0.0) w.1) refl refl (λ r. set_other (number_of r) 7 w.0 regs (not_di r)) (λ n h. set_other n 7 w.0 regs (scratch_not n 7 h refl))
      (stores_back ss base next all.1 (base_kept frame is_frame regs next refl refl ∙ at))
  stores_back (Store RSI k ∷ ss) base regs all at =
      let w = mapped_word image (base + k) all.0.1 in
      let next : Registers = with_general 6 w.0 regs in
      step_back (Store RSI k) ss regs next (read_goes pe.RSI k (base + k) w.0 regs (at_slot base k regs at all.0.0) w.1) refl refl (λ r. set_other (number_of r) 6 w.0 regs (not_si r)) (λ n h. set_other n 6 w.0 regs (scratch_not n 6 h refl))
      (stores_back ss base next all.1 (base_kept frame is_frame regs next refl refl ∙ at))
  stores_back (Store (XMM n) k ∷ ss) base regs all at =
      let fits : base + k + 16 ≤ 2 ^ 64 = all.0.0 in
      let two = mapped_two image (base + k) all.0.1 in
      let w = mapped_word image (base + k) two.0 in
      let u = mapped_word image (base + k + 8) two.1 in
      let place : (base + k + 8) % 2 ^ 64 ≡ base + k + 8 = omega arith in
      let high : word_at image (plus (base + k) 8) ≡ Some u.0 = ap (word_at image) place ∙ u.1 in
      let next : Registers = with_xmm (xmm_number (xmm_register_of n)) (w.0 + 2 ^ 64 * u.0) regs in
      step_back (Store (XMM n) k) ss regs next (xmm_goes (xmm_register_of n) k (base + k) w.0 u.0 regs (at_slot base k regs at (omega arith)) w.1 high) refl refl (λ r. refl) (λ i h. refl)
      (stores_back ss base next all.1 (base_kept frame is_frame regs next refl refl ∙ at))
  stores_back (Push r ∷ ss) base regs all at = absurd all.0
  stores_back (Allocate n ∷ ss) base regs all at = absurd all.0
  stores_back (SetFrame m ∷ ss) base regs all at = absurd all.0

  -- ---- pushes and allocations
  pub record PopsBack (sp0 : ℕ) (rs : List Step) (regs : Registers) : Type 0 where
    pub after : Registers
    pub is : run_by frame (word_at image) (map undo rs) regs ≡ Goes after
    pub sp : after.general 4 ≡ sp0
    pub values : (r : CalleeSaved) → after.general (number_of r) ≡ cond (list_any (pushes r) rs) (value_of r t) (regs.general (number_of r))
    pub scratch : KeepsScratch regs after

  pop_goes : (q : Register) (a v : ℕ) (regs : Registers) → regs.general 4 ≡ a → a + 8 < 2 ^ 64 → word_at image a ≡ Some v → act_by frame (word_at image) (PopNonVolatile q) regs ≡ Goes (with_stack_pointer (a + 8) (with_general (register_number q) v regs))
  pop_goes q a v regs at fits w =
      let place : (a + 8) % 2 ^ 64 ≡ a + 8 = omega arith in
      ap (λ b. with_word (word_or_fault (word_at image) b) regs (λ x. Goes (with_stack_pointer (plus b 8) (with_general (register_number q) x regs)))) at
      ∙ ap (λ r. with_word r regs (λ x. Goes (with_stack_pointer (plus a 8) (with_general (register_number q) x regs)))) (word_read (word_at image) a v w)
      ∙ ap (λ b. Goes (with_stack_pointer b (with_general (register_number q) v regs))) place

  pop_back : (step : Step) (rs : List Step) (sp0 : ℕ) (regs next : Registers) → act_by frame (word_at image) (undo step) regs ≡ Goes next →
      ((r : CalleeSaved) → next.general (number_of r) ≡ cond (pushes r step) (value_of r t) (regs.general (number_of r))) → KeepsScratch regs next → PopsBack sp0 rs next → PopsBack sp0 (step ∷ rs) regs
  pop_back step rs sp0 regs next acts values scratch ih = record {
    after = ih.after;
    is = run_cons frame (word_at image) (undo step) (map undo rs) regs next acts ∙ ih.is;
    sp = ih.sp;
    values = λ r. ih.values r ∙ ap (λ v. cond (list_any (pushes r) rs) (value_of r t) v) (values r) ∙ merge (pushes r step) (list_any (pushes r) rs) (value_of r t) (regs.general (number_of r)) (value_of r t) (λ e. refl);
    scratch = λ n h. ih.scratch n h ∙ scratch n h;
  }

  -- a register that is popped, and the stack pointer, are none of the scratch registers
  popped_scratch : (k a v : ℕ) (regs : Registers) → is_kept k ≡ true → KeepsScratch regs (with_stack_pointer a (with_general k v regs))
  popped_scratch k a v regs kept n h = set_other n 4 a (with_general k v regs) (scratch_not n 4 h refl) ∙ set_other n k v regs (scratch_not n k h kept)

  split_last : (step : Step) (rs : List Step) (sp0 : ℕ) → Leaves image t sp0 (reverse (step ∷ rs)) → Leaves image t sp0 (reverse rs) × Leaves image t (stack_after sp0 (reverse rs)) (step ∷ [])
  split_last step rs sp0 leaves = leaves_append image t (reverse rs) (step ∷ []) sp0 (subst (Leaves image t sp0) (reverse_onto rs step []) leaves)

  stack_last : (step : Step) (rs : List Step) (sp0 : ℕ) → stack_after sp0 (reverse (step ∷ rs)) ≡ stack_after (stack_after sp0 (reverse rs)) (step ∷ [])
  stack_last step rs sp0 = ap (stack_after sp0) (reverse_onto rs step []) ∙ stack_append (reverse rs) (step ∷ []) sp0

  pub pops_back : (rs : List Step) (sp0 : ℕ) (regs : Registers) → AllByRecursion IsPushOrAllocation rs → sp0 < 2 ^ 64 → Leaves image t sp0 (reverse rs) → regs.general 4 ≡ stack_after sp0 (reverse rs) → PopsBack sp0 rs regs
  pops_back [] sp0 regs all top leaves at = record { after = regs; is = refl; sp = at; values = λ r. refl; scratch = λ n h. refl }
  pops_back (Push (Followed q) ∷ rs) sp0 regs all top leaves at =
      let parts = split_last (Push (Followed q)) rs sp0 leaves in
      let low : 8 ≤ stack_after sp0 (reverse rs) = parts.1.0 in
      let falls = stack_falls (reverse rs) sp0 in
      let a : ℕ = stack_after sp0 (reverse rs) - 8 in
      let next : Registers = with_stack_pointer (a + 8) (with_general (number_of q) (value_of q t) regs) in
      let back : a + 8 ≡ stack_after sp0 (reverse rs) = omega arith in
      pop_back (Push (Followed q)) rs sp0 regs next (pop_goes (pe_register q) a (value_of q t) regs (at ∙ stack_last (Push (Followed q)) rs sp0) (omega arith) parts.1.1)
      (λ r. set_other (number_of r) 4 (a + 8) (with_general (number_of q) (value_of q t) regs) (not_sp r) ∙ set_saved r q (value_of q t) regs ∙ same_value r q (is_same r q) refl (regs.general (number_of r)))
      (popped_scratch (number_of q) (a + 8) (value_of q t) regs (kept_number q))
      (pops_back rs sp0 next all.1 top parts.0 back)
    where
      same_value : (r q : CalleeSaved) (b : Bool) → is_same r q ≡ b → (y : ℕ) → cond b (value_of q t) y ≡ cond b (value_of r t) y
      same_value r q true e y = ap (λ (p : CalleeSaved). value_of p t) (sym (same_register r q e))
      same_value r q false e y = refl
  pops_back (Push RDI ∷ rs) sp0 regs all top leaves at =
      let parts = split_last (Push RDI) rs sp0 leaves in
      let low : 8 ≤ stack_after sp0 (reverse rs) = parts.1.0 in
      let falls = stack_falls (reverse rs) sp0 in
      let a : ℕ = stack_after sp0 (reverse rs) - 8 in
      let w = mapped_word image a parts.1.1 in
      let next : Registers = with_stack_pointer (a + 8) (with_general 7 w.0 regs) in
      let back : a + 8 ≡ stack_after sp0 (reverse rs) = omega arith in
      pop_back (Push RDI) rs sp0 regs next (pop_goes pe.RDI a w.0 regs (at ∙ stack_last (Push RDI) rs sp0) (omega arith) w.1)
      (λ r. set_other (number_of r) 4 (a + 8) (with_general 7 w.0 regs) (not_sp r) ∙ set_other (number_of r) 7 w.0 regs (not_di r))
      (popped_scratch 7 (a + 8) w.0 regs refl)
      (pops_back rs sp0 next all.1 top parts.0 back)
  pops_back (Push RSI ∷ rs) sp0 regs all top leaves at =
      let parts = split_last (Push RSI) rs sp0 leaves in
      let low : 8 ≤ stack_after sp0 (reverse rs) = parts.1.0 in
      let falls = stack_falls (reverse rs) sp0 in
      let a : ℕ = stack_after sp0 (reverse rs) - 8 in
      let w = mapped_word image a parts.1.1 in
      let next : Registers = with_stack_pointer (a + 8) (with_general 6 w.0 regs) in
      let back : a + 8 ≡ stack_after sp0 (reverse rs) = omega arith in
      pop_back (Push RSI) rs sp0 regs next (pop_goes pe.RSI a w.0 regs (at ∙ stack_last (Push RSI) rs sp0) (omega arith) w.1)
      (λ r. set_other (number_of r) 4 (a + 8) (with_general 6 w.0 regs) (not_sp r) ∙ set_other (number_of r) 6 w.0 regs (not_si r))
      (popped_scratch 6 (a + 8) w.0 regs refl)
      (pops_back rs sp0 next all.1 top parts.0 back)
  pops_back (Push (XMM n) ∷ rs) sp0 regs all top leaves at = absurd all.0
  pops_back (Allocate n ∷ rs) sp0 regs all top leaves at =
      let parts = split_last (Allocate n) rs sp0 leaves in
      let low : n ≤ stack_after sp0 (reverse rs) = parts.1.0 in
      let falls = stack_falls (reverse rs) sp0 in
      let next : Registers = with_stack_pointer (plus (regs.general 4) n) regs in
      let at' : regs.general 4 ≡ stack_after sp0 (reverse rs) - n = at ∙ stack_last (Allocate n) rs sp0 in
      let back : (regs.general 4 + n) % 2 ^ 64 ≡ stack_after sp0 (reverse rs) = omega arith in
      pop_back (Allocate n) rs sp0 regs next refl (λ r. set_other (number_of r) 4 (plus (regs.general 4) n) regs (not_sp r)) (λ i h. set_other i 4 (plus (regs.general 4) n) regs (scratch_not i 4 h refl))
      (pops_back rs sp0 next all.1 top parts.0 back)
  pops_back (SetFrame m ∷ rs) sp0 regs all top leaves at = absurd all.0
  pops_back (Store r k ∷ rs) sp0 regs all top leaves at = absurd all.0
