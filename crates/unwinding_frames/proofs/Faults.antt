-- A fault stays what it is.
use Rattle.std.proofs.Common.{◌≡◌, Result, Ok, Err, sym, ap, ◌∙◌}
use Rattle.std.specs.Result.{IsErrAnd}
use Rattle.memory_image.specs.Results.{◌>>=◌}
use Rattle.unwind_definitions.specs.declared.error.Error.{Error as Fault}
use Rattle.unwind_definitions.specs.Caller.{StepFault, Table}
use Rattle.unwinding_frames.specs.declared.frame.StepError.{StepError}
use Rattle.unwinding_frames.specs.declared.frame.StepError.TheVariants as code
use Rattle.unwinding_frames.specs.Calling.{fault_of}
use Rattle.unwinding_frames.specs.LanguageViews.{answer_seen}

pub err_stays : {A B : Type 0} → (r : Result A StepFault) (f : A → Result B StepFault) (e : StepFault) → r ≡ Err e → (r >>= f) ≡ Err e
err_stays (Ok v) f e fails = absurd cc
err_stays (Err x) f e fails = cc

abbrev faulted : {B : Type 0} → StepFault → Result B StepFault
faulted e = Err e

-- a fault of a table's bytes
pub table_given : {A B : Type 0} (view : A → B) (r : Result A StepError) (f : Fault) (due : Result B StepFault) → IsErrAnd r (λ e. e ≡ code.Table f) → due ≡ Err (Table f) → answer_seen view r ≡ due
table_given view (Ok x) f due fails is = absurd fails
table_given {A} {B} view (Err e) f due fails is = ap (λ (x : StepError). faulted {B = B} (fault_of x)) fails ∙ sym is
