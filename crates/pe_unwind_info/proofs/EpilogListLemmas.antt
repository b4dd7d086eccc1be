-- The leading epilog operations, one after another.
use Rattle.std.proofs.Common.{◌≡◌, ℕ, Bool, true, false, ◌||◌, List, [], ◌∷◌, None, refl}
use Rattle.pe_unwind_info.specs.declared.x86_64.operations.EpilogInformation.{EpilogInformation as Epilog}
use Rattle.pe_unwind_info.specs.declared.x86_64.operations.UnwindOperation.TheVariants.{EpilogInformation}
use Rattle.pe_unwind_info.specs.Operations.{Placed}
use Rattle.pe_unwind_info.specs.EpilogList.{first_epilog, leading_epilogs, after_epilogs, lists, any_lists}

pub leading_none : (ops : List Placed) → first_epilog ops ≡ None → leading_epilogs ops ≡ []
unfolding leading_epilogs
leading_none [] e = refl
leading_none (p ∷ later) e = rw e refl

pub after_none : (ops : List Placed) → first_epilog ops ≡ None → after_epilogs ops ≡ ops
unfolding after_epilogs
after_none [] e = refl
after_none (p ∷ later) e = rw e refl

pub leading_some : (ops later : List Placed) (place : ℕ) (epilog : Epilog) → ops ≡ (place, EpilogInformation epilog) ∷ later → leading_epilogs ops ≡ epilog ∷ leading_epilogs later
unfolding leading_epilogs
leading_some ops later place epilog e = rw e refl

pub after_some : (ops later : List Placed) (place : ℕ) (epilog : Epilog) → ops ≡ (place, EpilogInformation epilog) ∷ later → after_epilogs ops ≡ after_epilogs later
unfolding after_epilogs
after_some ops later place epilog e = rw e refl

pub any_none : (end size address : ℕ) → any_lists end size address [] ≡ false
unfolding any_lists
any_none end size address = refl

-- an epilog operation that lists the address, and one that doesn't
pub any_listed : (end size address : ℕ) (listed : Bool) (ops later : List Placed) (place : ℕ) (epilog : Epilog) → ops ≡ (place, EpilogInformation epilog) ∷ later → lists end size address epilog ≡ true →
    (listed || any_lists end size address (leading_epilogs ops)) ≡ true
unfolding any_lists
any_listed end size address listed ops later place epilog e t = rw (leading_some ops later place epilog e, t) (any listed)
  where
    any : (b : Bool) → (b || true) ≡ true
    any true = refl
    any false = refl

pub any_unlisted : (end size address : ℕ) (listed : Bool) (ops later : List Placed) (place : ℕ) (epilog : Epilog) → ops ≡ (place, EpilogInformation epilog) ∷ later → lists end size address epilog ≡ false →
    (listed || any_lists end size address (leading_epilogs ops)) ≡ (listed || any_lists end size address (leading_epilogs later))
unfolding any_lists
any_unlisted end size address listed ops later place epilog e t = rw (leading_some ops later place epilog e, t) refl
