-- Answers of walks, and what is due.
use Rattle.std.proofs.Common.{inl, inr, ◌≡◌, ◌≢◌, List, Result, Ok, Err, refl, sym, ap, ◌∙◌}
use Rattle.std.specs.Prelude.{◌⊎◌, IsOk, IsOkAnd}
use Rattle.unwind_arch.specs.declared.x86_64.Context.{Context}
use Rattle.stack_steps.specs.declared.error.DeliverError.{DeliverError}
use Rattle.stack_steps.specs.declared.error.DeliverError.TheVariants.{NoMemory}
use Rattle.stack_walks.specs.Lines.{GivesUnlessNoMemory}
use Rattle.stack_walks.specs.Walking.{RoomValue, IsWalked}

-- ---- walks

pub walked_fault : {A : Type 0} (r : Result A DeliverError) (room : RoomValue) (due : Result (List Context) DeliverError) (e : DeliverError) → IsWalked r room due → r ≡ Err e → due ≡ Err e
walked_fault (Ok done) room due e is fails = absurd cc
walked_fault (Err x) room due e is fails = let same : x ≡ e = cc in rw same at is

pub fault_walked : {A : Type 0} (r : Result A DeliverError) (room : RoomValue) (due : Result (List Context) DeliverError) (e : DeliverError) → IsWalked r room due → due ≡ Err e → r ≡ Err e
fault_walked (Ok done) room due e is fails = absurd cc
fault_walked (Err x) room due e is fails = let same : x ≡ e = cc in ap Err same

pub states_walked : {A : Type 0} (r : Result A DeliverError) (room : RoomValue) (due : Result (List Context) DeliverError) (cs : List Context) → IsWalked r room due → due ≡ Ok cs → IsOk r × (cs ≡ room.visited)
states_walked (Ok done) room due cs is goes = (refl, cc)
states_walked (Err x) room due cs is goes = absurd cc

-- ---- answers in whose place out of memory may stand

pub refused : {A : Type 0} (r answer : Result A DeliverError) (e : DeliverError) → GivesUnlessNoMemory r answer → e ≢ NoMemory → r ≡ Err e → answer ≡ Err e
refused r answer e (inl none) other is = let same : e ≡ NoMemory = cc in absurd (other same)
refused r answer e (inr due) other is = sym due ∙ is

pub due : {A : Type 0} (r answer : Result A DeliverError) (e : DeliverError) → GivesUnlessNoMemory r answer → answer ≡ Err e → (r ≡ Err NoMemory) ⊎ (r ≡ Err e)
due r answer e (inl none) is = inl none
due r answer e (inr same) is = inr (same ∙ is)

pub granted : {A : Type 0} (r answer : Result A DeliverError) (x : A) (P : A → Type 0) → GivesUnlessNoMemory r answer → answer ≡ Ok x → P x → (r ≡ Err NoMemory) ⊎ IsOkAnd r P
granted r answer x P (inl none) is p = inl none
granted r answer x P (inr same) is p = let ok : r ≡ Ok x = same ∙ is in inr (rw ok p)

-- a walk that may want memory
pub ok_walked : {A : Type 0} (r : Result A DeliverError) (x : A) (room : RoomValue) (answer : Result (List Context) DeliverError) → r ≡ Ok x → (r ≡ Err NoMemory) ⊎ IsWalked r room answer → GivesUnlessNoMemory (Ok room.visited) answer
ok_walked r x room answer is (inl memory) = absurd cc
ok_walked r x room answer is (inr walked) = inr (sym (rw is at walked))

pub err_walked : {A : Type 0} (r : Result A DeliverError) (e : DeliverError) (room : RoomValue) (answer : Result (List Context) DeliverError) → r ≡ Err e → (r ≡ Err NoMemory) ⊎ IsWalked r room answer → GivesUnlessNoMemory (Err e) answer
err_walked r e room answer is (inl memory) = let same : e ≡ NoMemory = cc in inl (ap Err same)
err_walked r e room answer is (inr walked) = inr (sym (rw is at walked))
