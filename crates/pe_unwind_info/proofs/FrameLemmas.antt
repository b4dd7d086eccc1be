-- Frames over what is given as memory: more may be given, and where it is determined the frame is.
use Rattle.std.proofs.Common.{◌≡◌, ℕ, zero, suc, ◌-◌, Bool, true, false, List, Option, Some, None, Result, Ok, Err, ap, ◌∙◌}
use Rattle.pe_unwind_info.specs.declared.x86_64.registers.Register.{Register}
use Rattle.pe_unwind_info.specs.declared.x86_64.fault.FrameFault.{FrameFault}
use Rattle.pe_unwind_info.specs.declared.x86_64.function_table.RuntimeFunction.{RuntimeFunction}
use Rattle.pe_unwind_info.specs.declared.x86_64.epilog.FunctionEpilogInstruction.{FunctionEpilogInstruction}
use Rattle.pe_unwind_info.specs.Header.{frame_register_of}
use Rattle.pe_unwind_info.specs.Info.{Info}
use Rattle.pe_unwind_info.specs.InfoOperations.{operations_in}
use Rattle.pe_unwind_info.specs.Operations.{Placed}
use Rattle.pe_unwind_info.specs.EpilogList.{leading_epilogs, after_epilogs, is_due}
use Rattle.pe_unwind_info.specs.Machine.{Registers, Stack, FrameEnd, After, Goes, Ends, then_ends}
use Rattle.pe_unwind_info.specs.Steps.{run}
use Rattle.pe_unwind_info.specs.Frame.{info_in, epilog_in, operations_alone, from_place, Link, Follows, Stops, link_of, ByLink, chained_of, IsLinked, ByRun, IsTested, Leaves, ByTest, InRecord, IsFrame}
use Rattle.pe_unwind_info.specs.FrameOf.{Image, then_follows, end_of_chain, left_by, epilog_if_tested, by_test, in_record, frame_end_of}

module _ (gives more : ℕ → Option (List ℕ) → Type 0) (also : (rva : ℕ) (memory : Option (List ℕ)) → gives rva memory → more rva memory) (stack : Stack) where
  by_link_more : (link : Link) (f g : Option RuntimeFunction → Registers → FrameEnd → Type 0) (end : FrameEnd) → ((next : Option RuntimeFunction) (regs : Registers) → f next regs end → g next regs end) → ByLink link f end → ByLink link g end
  by_link_more (Follows next regs) f g end h b = h next regs b
  by_link_more (Stops stop) f g end h b = b

  linked_more : (n : ℕ) (next : Option RuntimeFunction) (regs : Registers) (end : FrameEnd) → IsLinked gives stack n next regs end → IsLinked more stack n next regs end
  unfolding IsLinked
  linked_more zero next regs end l = l
  linked_more (suc n) None regs end l = l
  linked_more (suc n) (Some function) regs end l =
      (l.0, also function.unwind_info_address l.0 l.1, by_link_more (link_of (info_in function.unwind_info_address l.0) stack regs) (IsLinked gives stack n) (IsLinked more stack n) end (λ next regs'. linked_more n next regs' end) l.2)

  by_run_more : (after : After) (info : Info) (end : FrameEnd) → ByRun after (IsLinked gives stack 32 (chained_of info)) end → ByRun after (IsLinked more stack 32 (chained_of info)) end
  by_run_more (Goes regs) info end l = linked_more 32 (chained_of info) regs end l
  by_run_more (Ends stop) info end l = l

  leaves_more : (info : Info) (operations : List Placed) (epilog : Option (List FunctionEpilogInstruction)) (regs : Registers) (end : FrameEnd) → Leaves gives stack info operations epilog regs end → Leaves more stack info operations epilog regs end
  leaves_more info operations None regs end l = by_run_more (run info.header stack (operations_alone operations) regs) info end l
  leaves_more info operations (Some instructions) regs end l = l

  tested_more : (due : Bool) (frame : Option Register) (end address : ℕ) (test : Result (Option (List FunctionEpilogInstruction)) FrameFault) → IsTested due gives frame end address test → IsTested due more frame end address test
  tested_more true frame end address test t = (t.0, also address t.0 t.1, t.2)
  tested_more false frame end address test t = t

  by_test_more : (address : ℕ) (function : RuntimeFunction) (info : Info) (test : Result (Option (List FunctionEpilogInstruction)) FrameFault) (regs : Registers) (end : FrameEnd) → ByTest gives stack address function info test regs end → ByTest more stack address function info test regs end
  by_test_more address function info (Err fault) regs end b = b
  by_test_more address function info (Ok epilog) regs end b = leaves_more info (from_place (address - function.begin_address) (after_epilogs (operations_in info))) epilog regs end b

  in_record_more : (address : ℕ) (function : RuntimeFunction) (info : Result Info FrameFault) (regs : Registers) (end : FrameEnd) → InRecord gives stack address function info regs end → InRecord more stack address function info regs end
  in_record_more address function (Err fault) regs end r = r
  in_record_more address function (Ok info) regs end r = (r.0, tested_more (is_due function.end_address address (leading_epilogs (operations_in info))) (frame_register_of info.header) function.end_address address r.0 r.1, by_test_more address function info r.0 regs end r.2)

  frame_more : (address : ℕ) (function : Option RuntimeFunction) (regs : Registers) (end : FrameEnd) → IsFrame gives stack address function regs end → IsFrame more stack address function regs end
  frame_more address None regs end f = f
  frame_more address (Some function) regs end f = (f.0, also function.unwind_info_address f.0 f.1, in_record_more address function (info_in function.unwind_info_address f.0) regs end f.2)

-- a frame over what is given is one over more that may be given
pub widened : (gives more : ℕ → Option (List ℕ) → Type 0) (stack : Stack) (address : ℕ) (function : Option RuntimeFunction) (regs : Registers) (end : FrameEnd) → IsFrame gives stack address function regs end →
    ((rva : ℕ) (memory : Option (List ℕ)) → gives rva memory → more rva memory) → IsFrame more stack address function regs end
widened gives more stack address function regs end f also = frame_more gives more also stack address function regs end f

module _ (gives : ℕ → Option (List ℕ) → Type 0) (memory : Image) (only : (rva : ℕ) (given : Option (List ℕ)) → gives rva given → given ≡ memory rva) (stack : Stack) where
  by_link_is : (link : Link) (f : Option RuntimeFunction → Registers → FrameEnd → Type 0) (g : Option RuntimeFunction → Registers → FrameEnd) (end : FrameEnd) → ((next : Option RuntimeFunction) (regs : Registers) → f next regs end → end ≡ g next regs) → ByLink link f end → end ≡ then_follows link g
  by_link_is (Follows next regs) f g end h b = h next regs b
  by_link_is (Stops stop) f g end h b = b

  linked_is : (n : ℕ) (next : Option RuntimeFunction) (regs : Registers) (end : FrameEnd) → IsLinked gives stack n next regs end → end ≡ end_of_chain memory stack n next regs
  unfolding IsLinked end_of_chain
  linked_is zero next regs end l = l
  linked_is (suc n) None regs end l = l
  linked_is (suc n) (Some function) regs end l =
      let rva = function.unwind_info_address in
      by_link_is (link_of (info_in rva l.0) stack regs) (IsLinked gives stack n) (end_of_chain memory stack n) end (λ next regs'. linked_is n next regs' end) l.2
      ∙ ap (λ (m : Option (List ℕ)). then_follows (link_of (info_in rva m) stack regs) (end_of_chain memory stack n)) (only rva l.0 l.1)

  by_run_is : (after : After) (info : Info) (end : FrameEnd) → ByRun after (IsLinked gives stack 32 (chained_of info)) end → end ≡ then_ends after (end_of_chain memory stack 32 (chained_of info))
  by_run_is (Goes regs) info end l = linked_is 32 (chained_of info) regs end l
  by_run_is (Ends stop) info end l = l

  leaves_is : (info : Info) (operations : List Placed) (epilog : Option (List FunctionEpilogInstruction)) (regs : Registers) (end : FrameEnd) → Leaves gives stack info operations epilog regs end → end ≡ left_by memory stack info operations epilog regs
  leaves_is info operations None regs end l = by_run_is (run info.header stack (operations_alone operations) regs) info end l
  leaves_is info operations (Some instructions) regs end l = l

  tested_is : (due : Bool) (frame : Option Register) (end address : ℕ) (test : Result (Option (List FunctionEpilogInstruction)) FrameFault) → IsTested due gives frame end address test → test ≡ epilog_if_tested due memory frame end address
  tested_is true frame end address test t = t.2 ∙ ap (epilog_in frame end address) (only address t.0 t.1)
  tested_is false frame end address test t = t

  by_test_is : (address : ℕ) (function : RuntimeFunction) (info : Info) (test : Result (Option (List FunctionEpilogInstruction)) FrameFault) (regs : Registers) (end : FrameEnd) → ByTest gives stack address function info test regs end → end ≡ by_test memory stack address function info test regs
  by_test_is address function info (Err fault) regs end b = b
  by_test_is address function info (Ok epilog) regs end b = leaves_is info (from_place (address - function.begin_address) (after_epilogs (operations_in info))) epilog regs end b

  in_record_is : (address : ℕ) (function : RuntimeFunction) (info : Result Info FrameFault) (regs : Registers) (end : FrameEnd) → InRecord gives stack address function info regs end → end ≡ in_record memory stack address function info regs
  in_record_is address function (Err fault) regs end r = r
  in_record_is address function (Ok info) regs end r =
      by_test_is address function info r.0 regs end r.2
      ∙ ap (λ (test : Result (Option (List FunctionEpilogInstruction)) FrameFault). by_test memory stack address function info test regs)
      (tested_is (is_due function.end_address address (leading_epilogs (operations_in info))) (frame_register_of info.header) function.end_address address r.0 r.1)

  pub frame_is : (address : ℕ) (function : Option RuntimeFunction) (regs : Registers) (end : FrameEnd) → IsFrame gives stack address function regs end → end ≡ frame_end_of memory stack address function regs
  frame_is address None regs end f = f
  frame_is address (Some function) regs end f =
      in_record_is address function (info_in function.unwind_info_address f.0) regs end f.2
      ∙ ap (λ (m : Option (List ℕ)). in_record memory stack address function (info_in function.unwind_info_address m) regs) (only function.unwind_info_address f.0 f.1)
