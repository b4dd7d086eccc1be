-- A chain of action records: what it asks with one turn more, by the record that stands first.
use Rattle.std.proofs.Common.{◌≡◌, ℕ, suc, Bool, Result, Ok, Err, List, length, refl, sym, ap, subst, ◌∙◌, eqb, true, false, ◌||◌}
use Rattle.memory_image.specs.Image.{Span}
use Rattle.unwind_definitions.specs.Pointers.{Bases}
use Rattle.unwind_definitions.specs.Caller.{StepFault}
use Rattle.unwinding_frames.specs.declared.cxx.error.CxxError.{CxxError}
use Rattle.unwinding_frames.specs.CxxTables.{Exception, CxxTable, ActionRecord, Handler, cxx_fault, action_record, record_takes, next_record, untaken, chain_from}

abbrev answered : Bool → Result Bool CxxError
answered b = Ok b

-- what a test answered, by what it is known to be
pub known : (r : Result Bool CxxError) (b d : Bool) → Ok b ≡ r → b ≡ d → r ≡ Ok d
known r b d is same = sym is ∙ ap answered same

-- where the next record stands, by the size of the table under either name
pub next_in : (m n : ℕ) (r : ActionRecord) (x : Result ℕ CxxError) → x ≡ next_record m r → m ≡ n → next_record n r ≡ x
next_in m n r x is same = subst (λ k. next_record k r ≡ x) same (sym is)

module _ (image : List Span) (bases : Bases) (x : Exception) (t : CxxTable) (pad : ℕ) (turns left place : ℕ) (met : Bool) (more : left ≡ suc turns) where
  pub record_fault : (e : StepFault) → action_record t.head.actions place ≡ Err e → chain_from left image bases x t pad place met ≡ Err (cxx_fault e)
  record_fault e fails = rw (more, fails) refl

  module _ (r : ActionRecord) (reads : action_record t.head.actions place ≡ Ok r) where
    pub takes_fault : (e : CxxError) → record_takes image bases x t.types r.filter ≡ Err e → chain_from left image bases x t pad place met ≡ Err e
    takes_fault e fails = rw (more, reads, fails) refl

    pub taken : record_takes image bases x t.types r.filter ≡ Ok true → chain_from left image bases x t pad place met ≡ Ok (Handler pad r.filter)
    taken takes = rw (more, reads, takes) refl

    module _ (passes : record_takes image bases x t.types r.filter ≡ Ok false) where
      pub last : eqb r.distance 0 ≡ true → chain_from left image bases x t pad place met ≡ Ok (untaken pad (met || eqb r.filter 0))
      last is = rw (more, reads, passes, is) refl

      module _ (some : eqb r.distance 0 ≡ false) where
        pub next_fault : (e : CxxError) → next_record (length t.head.actions.bytes) r ≡ Err e → chain_from left image bases x t pad place met ≡ Err e
        next_fault e fails = rw (more, reads, passes, some, fails) refl

        pub goes_on : (next : ℕ) → next_record (length t.head.actions.bytes) r ≡ Ok next → chain_from left image bases x t pad place met ≡ chain_from turns image bases x t pad next (met || eqb r.filter 0)
        goes_on next leads = rw (more, reads, passes, some, leads) refl
