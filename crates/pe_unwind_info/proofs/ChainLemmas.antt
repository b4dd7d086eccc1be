-- A frame over a function's records is one run.
use Rattle.std.proofs.Common.{◌≡◌, ℕ, zero, suc, ◌-◌, List, [], ◌∷◌, ◌++◌, Option, Some, None, Result, Ok, Err, refl, sym, ap, ◌∙◌}
use Rattle.pe_unwind_info.specs.declared.x86_64.fault.FrameFault.{FrameFault}
use Rattle.pe_unwind_info.specs.declared.x86_64.function_table.RuntimeFunction.{RuntimeFunction}
use Rattle.pe_unwind_info.specs.declared.x86_64.epilog.FunctionEpilogInstruction.{FunctionEpilogInstruction}
use Rattle.pe_unwind_info.specs.declared.x86_64.operations.UnwindOperation.{UnwindOperation}
use Rattle.pe_unwind_info.specs.Header.{frame_register_of}
use Rattle.pe_unwind_info.specs.Info.{Info}
use Rattle.pe_unwind_info.specs.InfoOperations.{operations_in}
use Rattle.pe_unwind_info.specs.EpilogList.{leading_epilogs, after_epilogs, is_due}
use Rattle.pe_unwind_info.specs.Machine.{Registers, Stack, FrameEnd, After, Goes, Ends, then_goes, then_ends, pop_return}
use Rattle.pe_unwind_info.specs.Steps.{act, run}
use Rattle.pe_unwind_info.specs.Frame.{info_in, chained_of, operations_alone, from_place, follow, link_of}
use Rattle.pe_unwind_info.specs.FrameOf.{Image, then_follows, end_of_chain, epilog_if_tested, by_test, in_record, frame_end_of}
use Rattle.pe_unwind_info.specs.Chain.{with_first, then_chain, chain_of, HeadedOperation, headed_operations, operations_of_all, operations_at, run_headed}

-- ---- runs
goes_assoc : (x : After) (f g : Registers → After) → then_goes (then_goes x f) g ≡ then_goes x (λ regs. then_goes (f regs) g)
goes_assoc (Goes regs) f g = refl
goes_assoc (Ends end) f g = refl

goes_same : (x : After) (f g : Registers → After) → ((regs : Registers) → f regs ≡ g regs) → then_goes x f ≡ then_goes x g
goes_same (Goes regs) f g h = h regs
goes_same (Ends end) f g h = refl

ends_assoc : (x : After) (f : Registers → After) (g : Registers → FrameEnd) → then_ends (then_goes x f) g ≡ then_ends x (λ regs. then_ends (f regs) g)
ends_assoc (Goes regs) f g = refl
ends_assoc (Ends end) f g = refl

ends_same : (x : After) (f g : Registers → FrameEnd) → ((regs : Registers) → f regs ≡ g regs) → then_ends x f ≡ then_ends x g
ends_same (Goes regs) f g h = h regs
ends_same (Ends end) f g h = refl

-- the operations of one record, all by its header
pub run_of_one : (info : Info) (stack : Stack) (operations : List UnwindOperation) (regs : Registers) → run_headed stack (headed_operations info operations) regs ≡ run info.header stack operations regs
unfolding run_headed run
run_of_one info stack [] regs = refl
run_of_one info stack (operation ∷ later) regs = goes_same (act info.header stack operation regs) (run_headed stack (headed_operations info later)) (run info.header stack later) (λ after. run_of_one info stack later after)

-- a run in two parts
pub run_of_both : (stack : Stack) (xs ys : List HeadedOperation) (regs : Registers) → run_headed stack (xs ++ ys) regs ≡ then_goes (run_headed stack xs regs) (run_headed stack ys)
unfolding run_headed
run_of_both stack [] ys regs = refl
run_of_both stack (x ∷ xs) ys regs =
    goes_same (act x.0 stack x.1 regs) (run_headed stack (xs ++ ys)) (λ after. then_goes (run_headed stack xs after) (run_headed stack ys)) (λ after. run_of_both stack xs ys after)
    ∙ sym (goes_assoc (act x.0 stack x.1 regs) (run_headed stack xs) (run_headed stack ys))

-- ---- chained records
first_is : (info : Info) (r : Result (List Info) FrameFault) (infos : List Info) → with_first info r ≡ Ok infos → (later : List Info) × (r ≡ Ok later) × (infos ≡ info ∷ later)
first_is info (Ok later) infos e = (later, refl, let h : info ∷ later ≡ infos = cc in sym h)
first_is info (Err fault) infos e = absurd cc

chain_is : (r : Result Info FrameFault) (later : Info → Result (List Info) FrameFault) (infos : List Info) → then_chain r later ≡ Ok infos →
    (info : Info) × (rest : List Info) × (r ≡ Ok info) × (later info ≡ Ok rest) × (infos ≡ info ∷ rest)
chain_is (Ok info) later infos e = let f = first_is info (later info) infos e in (info, f.0, refl, f.1, f.2)
chain_is (Err fault) later infos e = absurd cc

follow_is : (x : After) (next : Option RuntimeFunction) (later : Option RuntimeFunction → Registers → FrameEnd) → then_follows (follow next x) later ≡ then_ends x (later next)
follow_is (Goes regs) next later = refl
follow_is (Ends end) next later = refl

pub linked_is_run : (memory : Image) (stack : Stack) (n : ℕ) (next : Option RuntimeFunction) (regs : Registers) (infos : List Info) → chain_of memory n next ≡ Ok infos →
    end_of_chain memory stack n next regs ≡ then_ends (run_headed stack (operations_of_all infos) regs) (pop_return stack)
unfolding end_of_chain chain_of run_headed
linked_is_run memory stack zero None regs infos e = let none : [] ≡ infos = cc in ap (λ (is : List Info). then_ends (run_headed stack (operations_of_all is) regs) (pop_return stack)) none
linked_is_run memory stack zero (Some function) regs infos e = absurd cc
linked_is_run memory stack (suc n) None regs infos e = let none : [] ≡ infos = cc in ap (λ (is : List Info). then_ends (run_headed stack (operations_of_all is) regs) (pop_return stack)) none
linked_is_run memory stack (suc n) (Some function) regs infos e =
    let c = chain_is (info_in function.unwind_info_address (memory function.unwind_info_address)) (λ info. chain_of memory n (chained_of info)) infos e in
    let info : Info = c.0 in
    let rest : List Info = c.1 in
    let own : List HeadedOperation = headed_operations info (operations_alone (operations_in info)) in
    ap (λ (r : Result Info FrameFault). then_follows (link_of r stack regs) (end_of_chain memory stack n)) c.2
    ∙ follow_is (run info.header stack (operations_alone (operations_in info)) regs) (chained_of info) (end_of_chain memory stack n)
    ∙ ends_same (run info.header stack (operations_alone (operations_in info)) regs) (end_of_chain memory stack n (chained_of info)) (λ after. then_ends (run_headed stack (operations_of_all rest) after) (pop_return stack))
    (λ after. linked_is_run memory stack n (chained_of info) after rest c.3)
    ∙ ap (λ (x : After). then_ends x (λ after. then_ends (run_headed stack (operations_of_all rest) after) (pop_return stack))) (sym (run_of_one info stack (operations_alone (operations_in info)) regs))
    ∙ sym (ends_assoc (run_headed stack own regs) (run_headed stack (operations_of_all rest)) (pop_return stack))
    ∙ ap (λ (x : After). then_ends x (pop_return stack)) (sym (run_of_both stack own (operations_of_all rest) regs))
    ∙ ap (λ (is : List Info). then_ends (run_headed stack (operations_of_all is) regs) (pop_return stack)) (sym c.4)

-- ---- the frame
pub frame_is_run : (memory : Image) (stack : Stack) (address : ℕ) (function : RuntimeFunction) (regs : Registers) (first : Info) (chained : List Info) →
    info_in function.unwind_info_address (memory function.unwind_info_address) ≡ Ok first → chain_of memory 32 (chained_of first) ≡ Ok chained →
    epilog_if_tested (is_due function.end_address address (leading_epilogs (operations_in first))) memory (frame_register_of first.header) function.end_address address ≡ Ok None →
    frame_end_of memory stack address (Some function) regs ≡ then_ends (run_headed stack (operations_at (address - function.begin_address) first chained) regs) (pop_return stack)
frame_is_run memory stack address function regs first chained reads links quiet =
    let own : List UnwindOperation = operations_alone (from_place (address - function.begin_address) (after_epilogs (operations_in first))) in
    ap (λ (r : Result Info FrameFault). in_record memory stack address function r regs) reads
    ∙ ap (λ (r : Result (Option (List FunctionEpilogInstruction)) FrameFault). by_test memory stack address function first r regs) quiet
    ∙ ends_same (run first.header stack own regs) (end_of_chain memory stack 32 (chained_of first)) (λ after. then_ends (run_headed stack (operations_of_all chained) after) (pop_return stack))
    (λ after. linked_is_run memory stack 32 (chained_of first) after chained links)
    ∙ ap (λ (x : After). then_ends x (λ after. then_ends (run_headed stack (operations_of_all chained) after) (pop_return stack))) (sym (run_of_one first stack own regs))
    ∙ sym (ends_assoc (run_headed stack (headed_operations first own) regs) (run_headed stack (operations_of_all chained)) (pop_return stack))
    ∙ ap (λ (x : After). then_ends x (pop_return stack)) (sym (run_of_both stack (headed_operations first own) (operations_of_all chained) regs))
