-- Chained records, one after another.
use Rattle.std.proofs.Common.{◌≡◌, ℕ, zero, suc, ◌-◌, ◌<◌, List, Option, Some, None, sym, subst, arith}
use Rattle.pe_unwind_info.specs.declared.x86_64.fault.FrameFault.TheVariants.{ChainLimit}
use Rattle.pe_unwind_info.specs.declared.x86_64.function_table.RuntimeFunction.{RuntimeFunction}
use Rattle.pe_unwind_info.specs.Machine.{Registers, Stack, FrameEnd, Faulted, pop_return}
use Rattle.pe_unwind_info.specs.Frame.{info_in, Link, Follows, Stops, link_of, ByLink, IsLinked}

pub linked_none : (gives : ℕ → Option (List ℕ) → Type 0) (stack : Stack) (n : ℕ) (regs : Registers) (end : FrameEnd) → end ≡ pop_return stack regs → IsLinked gives stack n None regs end
unfolding IsLinked
linked_none gives stack zero regs end e = e
linked_none gives stack (suc n) regs end e = e

pub linked_limit : (gives : ℕ → Option (List ℕ) → Type 0) (stack : Stack) (n : ℕ) (function : RuntimeFunction) (regs : Registers) (end : FrameEnd) → n ≡ 0 → end ≡ Faulted ChainLimit regs → IsLinked gives stack n (Some function) regs end
unfolding IsLinked
linked_limit gives stack zero function regs end z e = e
linked_limit gives stack (suc n) function regs end z e = absurd (omega arith)

-- a chained record that was gone through, with the memory that was given for it
pub record IsLink (gives : ℕ → Option (List ℕ) → Type 0) (stack : Stack) (function : RuntimeFunction) (regs : Registers) (link : Link) : Type 0 where
  pub memory : Option (List ℕ)
  pub given : gives function.unwind_info_address memory
  pub is : link_of (info_in function.unwind_info_address memory) stack regs ≡ link

pub linked_follows : (gives : ℕ → Option (List ℕ) → Type 0) (stack : Stack) (n : ℕ) (function : RuntimeFunction) (regs after : Registers) (next : Option RuntimeFunction) (end : FrameEnd) →
    0 < n → IsLink gives stack function regs (Follows next after) → IsLinked gives stack (n - 1) next after end → IsLinked gives stack n (Some function) regs end
unfolding IsLinked
linked_follows gives stack zero function regs after next end lt link later = absurd (omega arith)
linked_follows gives stack (suc n) function regs after next end lt link later =
    let less : suc n - 1 ≡ n = omega arith in
    let P : Link → Type 0 = λ l. ByLink l (IsLinked gives stack n) end in
    (link.memory, link.given, subst P (sym link.is) (subst (λ (m : ℕ). IsLinked gives stack m next after end) less later))

pub linked_stops : (gives : ℕ → Option (List ℕ) → Type 0) (stack : Stack) (n : ℕ) (function : RuntimeFunction) (regs : Registers) (stop end : FrameEnd) →
    0 < n → IsLink gives stack function regs (Stops stop) → end ≡ stop → IsLinked gives stack n (Some function) regs end
unfolding IsLinked
linked_stops gives stack zero function regs stop end lt link e = absurd (omega arith)
linked_stops gives stack (suc n) function regs stop end lt link e =
    let P : Link → Type 0 = λ l. ByLink l (IsLinked gives stack n) end in
    (link.memory, link.given, subst P (sym link.is) e)

-- the same from what a call ensures, over a stack that is the one asked for
pub link_is : (gives : ℕ → Option (List ℕ) → Type 0) (stack stack' : Stack) (function : RuntimeFunction) (regs : Registers) (link : Link) → stack ≡ stack' →
    ((memory : Option (List ℕ)) × gives function.unwind_info_address memory × (link ≡ link_of (info_in function.unwind_info_address memory) stack regs)) → IsLink gives stack' function regs link
link_is gives stack stack' function regs link same l = record {
  memory = l.0;
  given = l.1;
  is = subst (λ (s : Stack). link_of (info_in function.unwind_info_address l.0) s regs ≡ link) same (sym l.2);
}
