-- A state that is stopped in a call of a function of a module of whatever format.
use Rattle.std.specs.Prelude.{◌≡◌, List, IsTrue}
use Rattle.std.specs.List.{Contains}
use Rattle.memory_image.specs.Image.{Span}
use Rattle.unwind_definitions.specs.State.{State, IsState}
use Rattle.unwind_definitions.specs.Function.{Function}
use Rattle.unwind_definitions.specs.Chain.{Call, IsCalled}
use Rattle.format_definitions.specs.Modules.{FormatModule, LiesDescribed}

-- A state is stopped in the body of a listed function, which was called from its caller's state and which a module describes.
-- The caller of an outermost function has the return address 0.
pub record IsDescribedCall (image : List Span) (modules : List FormatModule) (functions : List Function) (s : State) (c : Call) : Type 0 where
  pub listed : Contains functions c.callee
  pub lies : LiesDescribed image modules functions c.callee
  pub called : IsCalled image s c
  pub caller : IsState c.caller
  pub ends : IsTrue c.callee.outermost → c.caller.ra ≡ 0
