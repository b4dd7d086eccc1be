-- Registers by their numbers, and runs of operations that count from RBP or from the stack pointer.
use Rattle.std.proofs.Common.{◌≡◌, ◌≢◌, ℕ, zero, suc, ◌+◌, ◌-◌, ◌*◌, ◌≤◌, Bool, true, false, cond, eqb, List, [], ◌∷◌, ◌++◌, Option, Some, None, Ok, refl, sym, ap, subst, ◌∙◌, arith}
use Rattle.std.specs.Prelude.{IsFalse}
use Rattle.std.specs.Option.{option_map, option_and_then}
use Rattle.std.proofs.lemmas.Bool.{eqb-true}
use Rattle.memory_image.specs.Image.{Span, byte_at, number_at, word_at}
use Rattle.unwind_definitions.specs.State.{CalleeSaved, RBX, RBP, R12, R13, R14, R15, State, is_same}
use Rattle.unwind_definitions.specs.Prologue.{Step, Push, Allocate, SetFrame, Store}
use Rattle.unwind_definitions.specs.Entered.{IsMapped, Leaves, stack_after}
use Rattle.pe_unwind_info.specs.declared.x86_64.operations.UnwindOperation.{UnwindOperation}
use Rattle.pe_unwind_info.specs.declared.x86_64.operations.UnwindOperation.TheVariants.{EpilogInformation, PopNonVolatile, UnStackAlloc, RestoreSPFromFP, ReadNonVolatile, ReadXMM, PopMachineFrame}
use Rattle.pe_unwind_info.specs.declared.x86_64.unwind_info.UnwindInfoHeader.{UnwindInfoHeader}
use Rattle.pe_unwind_info.specs.Chain.{headed_operations, run_headed}
use Rattle.pe_unwind_info.specs.Info.{Info}
use Rattle.pe_unwind_info.specs.Machine.{Registers, Stack, with_general, stack_pointer, with_stack_pointer, plus, less, After, Goes, Ends, Returned, word_or_fault, pop_into, pop_return, then_goes}
use Rattle.pe_unwind_info.specs.Operations.{offset_value}
use Rattle.pe_unwind_info.specs.Registers.{register_number, xmm_number}
use Rattle.pe_unwind_info.specs.Steps.{with_saved_register, saved_xmm, machine_frame, act}
use Rattle.format_definitions.specs.PeRegisters.{number_of, is_kept}
use Rattle.format_definitions.specs.PeUndoing.{Names}

-- ---- registers

pub same_register : (r q : CalleeSaved) → is_same r q ≡ true → r ≡ q
same_register RBX RBX e = refl
same_register RBP RBP e = refl
same_register R12 R12 e = refl
same_register R13 R13 e = refl
same_register R14 R14 e = refl
same_register R15 R15 e = refl
same_register _ _ e = absurd cc

number_eq : (r q : CalleeSaved) → eqb (number_of r) (number_of q) ≡ is_same r q
number_eq RBX RBX = refl
number_eq RBP RBP = refl
number_eq R12 R12 = refl
number_eq R13 R13 = refl
number_eq R14 R14 = refl
number_eq R15 R15 = refl
number_eq _ _ = refl

-- a register that is set, and the others
pub set_saved : (r q : CalleeSaved) (v : ℕ) (regs : Registers) → (with_general (number_of q) v regs).general (number_of r) ≡ cond (is_same r q) v (regs.general (number_of r))
set_saved r q v regs = ap (λ b. cond b v (regs.general (number_of r))) (number_eq r q)

pub set_other : (n k v : ℕ) (regs : Registers) → eqb n k ≡ false → (with_general k v regs).general n ≡ regs.general n
set_other n k v regs e = ap (λ b. cond b v (regs.general n)) e

pub not_sp : (r : CalleeSaved) → eqb (number_of r) 4 ≡ false
not_sp RBX = refl
not_sp RBP = refl
not_sp R12 = refl
not_sp R13 = refl
not_sp R14 = refl
not_sp R15 = refl

pub sp_not : (r : CalleeSaved) → eqb 4 (number_of r) ≡ false
sp_not RBX = refl
sp_not RBP = refl
sp_not R12 = refl
sp_not R13 = refl
sp_not R14 = refl
sp_not R15 = refl

pub bp_not : (r : CalleeSaved) → r ≢ RBP → eqb 5 (number_of r) ≡ false
bp_not RBX h = refl
bp_not RBP h = absurd (h refl)
bp_not R12 h = refl
bp_not R13 h = refl
bp_not R14 h = refl
bp_not R15 h = refl

pub not_si : (r : CalleeSaved) → eqb (number_of r) 6 ≡ false
not_si RBX = refl
not_si RBP = refl
not_si R12 = refl
not_si R13 = refl
not_si R14 = refl
not_si R15 = refl

pub not_di : (r : CalleeSaved) → eqb (number_of r) 7 ≡ false
not_di RBX = refl
not_di RBP = refl
not_di R12 = refl
not_di R13 = refl
not_di R14 = refl
not_di R15 = refl

pub kept_number : (r : CalleeSaved) → is_kept (number_of r) ≡ true
kept_number RBX = refl
kept_number RBP = refl
kept_number R12 = refl
kept_number R13 = refl
kept_number R14 = refl
kept_number R15 = refl

-- a scratch register is none of those that are kept
pub scratch_not : (n k : ℕ) → IsFalse (is_kept n) → is_kept k ≡ true → eqb n k ≡ false
scratch_not n k scratch kept = go (eqb n k) refl
  where
    go : (b : Bool) → eqb n k ≡ b → b ≡ false
    go false e = refl
    go true e = let same : n ≡ k = eqb-true n k e in let h : is_kept n ≡ true = ap is_kept same ∙ kept in let f : is_kept n ≡ false = scratch in absurd cc

-- ---- operations by what their offsets count from

-- the register, and how far it is above the stack pointer that it was set from; none where they count from the stack pointer
abbrev pub FrameBase : Type 0
FrameBase = Option (ℕ × ℕ)

abbrev pub frame_named : Option ℕ → FrameBase
frame_named None = None
frame_named (Some m) = Some (5, m)

abbrev pub base_in : FrameBase → Registers → ℕ
base_in None regs = less (regs.general 4) 0
base_in (Some f) regs = less (regs.general f.0) f.1

abbrev pub resolved : FrameBase → Registers → ℕ → ℕ
resolved frame regs k = plus (base_in frame regs) k

abbrev pub restored_by : FrameBase → Registers → Registers
restored_by None regs = regs
restored_by (Some f) regs = with_stack_pointer (less (regs.general f.0) f.1) regs

abbrev pub act_by : FrameBase → Stack → UnwindOperation → Registers → After
act_by frame stack (EpilogInformation e) regs = Goes regs
act_by frame stack (PopNonVolatile r) regs = pop_into stack (register_number r) regs
act_by frame stack (UnStackAlloc n) regs = Goes (with_stack_pointer (plus (stack_pointer regs) n) regs)
act_by frame stack RestoreSPFromFP regs = Goes (restored_by frame regs)
act_by frame stack (ReadNonVolatile r k) regs = with_saved_register stack (resolved frame regs (offset_value k)) (register_number r) regs
act_by frame stack (ReadXMM r k) regs = saved_xmm stack (resolved frame regs (offset_value k)) (xmm_number r) regs
act_by frame stack (PopMachineFrame code) regs = machine_frame stack (plus (stack_pointer regs) (cond code 8 0)) regs

abbrev pub run_by : FrameBase → Stack → List UnwindOperation → Registers → After
run_by frame stack [] regs = Goes regs
run_by frame stack (o ∷ os) regs = then_goes (act_by frame stack o regs) (run_by frame stack os)

unnamed_act : (header : UnwindInfoHeader) (stack : Stack) (o : UnwindOperation) (regs : Registers) → Names None header → act header stack o regs ≡ act_by None stack o regs
unnamed_act header stack (EpilogInformation e) regs none = refl
unnamed_act header stack (PopNonVolatile r) regs none = refl
unnamed_act header stack (UnStackAlloc n) regs none = refl
unnamed_act header stack RestoreSPFromFP regs none = rw none refl
unnamed_act header stack (ReadNonVolatile r k) regs none = rw none refl
unnamed_act header stack (ReadXMM r k) regs none = rw none refl
unnamed_act header stack (PopMachineFrame code) regs none = refl

based_act : (m : ℕ) (header : UnwindInfoHeader) (stack : Stack) (o : UnwindOperation) (regs : Registers) → Names (Some m) header → act header stack o regs ≡ act_by (Some (5, m)) stack o regs
based_act m header stack (EpilogInformation e) regs names = refl
based_act m header stack (PopNonVolatile r) regs names = refl
based_act m header stack (UnStackAlloc n) regs names = refl
based_act m header stack RestoreSPFromFP regs names = rw (names.0, names.1) refl
based_act m header stack (ReadNonVolatile r k) regs names = rw (names.0, names.1) refl
based_act m header stack (ReadXMM r k) regs names = rw (names.0, names.1) refl
based_act m header stack (PopMachineFrame code) regs names = refl

named_act : (set : Option ℕ) (header : UnwindInfoHeader) (stack : Stack) (o : UnwindOperation) (regs : Registers) → Names set header → act header stack o regs ≡ act_by (frame_named set) stack o regs
named_act None header stack o regs names = unnamed_act header stack o regs names
named_act (Some m) header stack o regs names = based_act m header stack o regs names

-- ---- runs

pub goes_assoc : (x : After) (f g : Registers → After) → then_goes (then_goes x f) g ≡ then_goes x (λ regs. then_goes (f regs) g)
goes_assoc (Goes regs) f g = refl
goes_assoc (Ends end) f g = refl

pub goes_same : (x : After) (f g : Registers → After) → ((regs : Registers) → f regs ≡ g regs) → then_goes x f ≡ then_goes x g
goes_same (Goes regs) f g h = h regs
goes_same (Ends end) f g h = refl

-- the operations of a record that names this register
pub headed_run : (set : Option ℕ) (info : Info) (stack : Stack) (os : List UnwindOperation) (regs : Registers) → Names set info.header → run_headed stack (headed_operations info os) regs ≡ run_by (frame_named set) stack os regs
unfolding run_headed
headed_run set info stack [] regs names = refl
headed_run set info stack (o ∷ os) regs names =
    ap (λ (x : After). then_goes x (run_headed stack (headed_operations info os))) (named_act set info.header stack o regs names)
    ∙ goes_same (act_by (frame_named set) stack o regs) (run_headed stack (headed_operations info os)) (run_by (frame_named set) stack os) (λ after. headed_run set info stack os after names)

pub run_cons : (frame : FrameBase) (stack : Stack) (o : UnwindOperation) (os : List UnwindOperation) (regs next : Registers) → act_by frame stack o regs ≡ Goes next → run_by frame stack (o ∷ os) regs ≡ run_by frame stack os next
run_cons frame stack o os regs next e = ap (λ (x : After). then_goes x (run_by frame stack os)) e

pub run_both : (frame : FrameBase) (stack : Stack) (xs ys : List UnwindOperation) (regs : Registers) → run_by frame stack (xs ++ ys) regs ≡ then_goes (run_by frame stack xs regs) (run_by frame stack ys)
run_both frame stack [] ys regs = refl
run_both frame stack (x ∷ xs) ys regs =
    goes_same (act_by frame stack x regs) (run_by frame stack (xs ++ ys)) (λ after. then_goes (run_by frame stack xs after) (run_by frame stack ys)) (λ after. run_both frame stack xs ys after)
    ∙ sym (goes_assoc (act_by frame stack x regs) (run_by frame stack xs) (run_by frame stack ys))

pub run_append : (frame : FrameBase) (stack : Stack) (xs ys : List UnwindOperation) (regs middle : Registers) → run_by frame stack xs regs ≡ Goes middle → run_by frame stack (xs ++ ys) regs ≡ run_by frame stack ys middle
run_append frame stack xs ys regs middle e = run_both frame stack xs ys regs ∙ ap (λ (x : After). then_goes x (run_by frame stack ys)) e

-- ---- words

pub word_read : (stack : Stack) (a v : ℕ) → stack a ≡ Some v → word_or_fault stack a ≡ Ok v
word_read stack a v e = rw e refl

pub return_read : (stack : Stack) (regs : Registers) (v : ℕ) → stack (regs.general 4) ≡ Some v → pop_return stack regs ≡ Returned v (with_stack_pointer (plus (regs.general 4) 8) regs)
return_read stack regs v e = rw e refl

mapped_number : (image : List Span) (n a : ℕ) → IsMapped image a n → (v : ℕ) × (number_at image a n ≡ Some v)
mapped_number image zero a mapped = (0, refl)
mapped_number image (suc n) a mapped =
    go (byte_at image a) (let here : a + 0 ≡ a = omega arith in subst (λ (x : ℕ). byte_at image x ≢ None) here (mapped 0 (omega arith)))
    (mapped_number image n (a + 1) (λ k lt. let place : a + (k + 1) ≡ (a + 1) + k = omega arith in subst (λ (x : ℕ). byte_at image x ≢ None) place (mapped (k + 1) (omega arith))))
  where
    go : (o : Option ℕ) → o ≢ None → (v : ℕ) × (number_at image (a + 1) n ≡ Some v) → (v : ℕ) × (option_and_then (λ b. option_map (λ x. b + 256 * x) (number_at image (a + 1) n)) o ≡ Some v)
    go None some later = absurd (some refl)
    go (Some b) some later = (b + 256 * later.0, ap (option_map (λ x. b + 256 * x)) later.1)

pub mapped_word : (image : List Span) (a : ℕ) → IsMapped image a 8 → (v : ℕ) × (word_at image a ≡ Some v)
unfolding word_at
mapped_word image a mapped = mapped_number image 8 a mapped

pub mapped_two : (image : List Span) (a : ℕ) → IsMapped image a 16 → IsMapped image a 8 × IsMapped image (a + 8) 8
mapped_two image a mapped = (λ k lt. mapped k (omega arith), λ k lt. let place : a + (k + 8) ≡ (a + 8) + k = omega arith in subst (λ (x : ℕ). byte_at image x ≢ None) place (mapped (k + 8) (omega arith)))

-- ---- prologues, joined

pub leaves_append : (image : List Span) (t : State) (xs ys : List Step) (sp : ℕ) → Leaves image t sp (xs ++ ys) → Leaves image t sp xs × Leaves image t (stack_after sp xs) ys
leaves_append image t [] ys sp h = (tt, h)
leaves_append image t (Push r ∷ xs) ys sp h = let ih = leaves_append image t xs ys (sp - 8) h.2 in ((h.0, h.1, ih.0), ih.1)
leaves_append image t (Allocate n ∷ xs) ys sp h = let ih = leaves_append image t xs ys (sp - n) h.1 in ((h.0, ih.0), ih.1)
leaves_append image t (SetFrame m ∷ xs) ys sp h = let ih = leaves_append image t xs ys sp h.1 in ((h.0, ih.0), ih.1)
leaves_append image t (Store r k ∷ xs) ys sp h = let ih = leaves_append image t xs ys sp h.2 in ((h.0, h.1, ih.0), ih.1)

pub stack_append : (xs ys : List Step) (sp : ℕ) → stack_after sp (xs ++ ys) ≡ stack_after (stack_after sp xs) ys
stack_append [] ys sp = refl
stack_append (Push r ∷ xs) ys sp = stack_append xs ys (sp - 8)
stack_append (Allocate n ∷ xs) ys sp = stack_append xs ys (sp - n)
stack_append (SetFrame m ∷ xs) ys sp = stack_append xs ys sp
stack_append (Store r k ∷ xs) ys sp = stack_append xs ys sp

pub stack_falls : (xs : List Step) (sp : ℕ) → stack_after sp xs ≤ sp
stack_falls [] sp = omega arith
stack_falls (Push r ∷ xs) sp = let ih = stack_falls xs (sp - 8) in omega arith
stack_falls (Allocate n ∷ xs) sp = let ih = stack_falls xs (sp - n) in omega arith
stack_falls (SetFrame m ∷ xs) sp = stack_falls xs sp
stack_falls (Store r k ∷ xs) sp = stack_falls xs sp
