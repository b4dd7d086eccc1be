-- What rows say beside where they hold. No public clause cites this.
use Rattle.std.specs.Prelude.{◌≡◌, ℕ, ◌+◌, ◌<◌, ◌≤◌, List, ◌++◌, length, map, slice_range, slice_index_or, Result, Ok, Err}
use Rattle.unwind_definitions.specs.declared.error.Error.{Error as Fault}
use Rattle.unwind_definitions.specs.Instructions.{Rule}
use Rattle.frame_rows.specs.Reach.{IsReach}
use Rattle.frame_rows.specs.Rules.{entry_of, cfa_meaning, AscendsFrom}
use Rattle.frame_rows.specs.RowValue.{RowValue}
use Rattle.unwind_arch.specs.declared.register.Register.{Register as Column}
use Rattle.frame_rows.specs.declared.rule.RegisterRule.{RegisterRule}
use Rattle.frame_rows.specs.declared.rule.CfaRule.{CfaRule as CodedCfa}
use Rattle.frame_rows.specs.declared.row_bodies.RowBody.{RowBody}

-- the rules of a body, among those of all
abbrev pub body_rules : List (Column × RegisterRule) → RowBody → List (ℕ × Rule)
body_rules rules b = map entry_of (slice_range rules b.first_rule b.end_rule)

abbrev pub kept_answer : Result CodedCfa Fault → List (ℕ × Rule) → ℕ → Result RowValue Fault
kept_answer (Ok cfa) rules size = Ok (record { cfa = cfa_meaning cfa; rules = rules; saved_args_size = size })
kept_answer (Err e) rules size = Err e

abbrev pub body_in : List (Column × RegisterRule) → RowBody → Result RowValue Fault
body_in rules b = kept_answer b.cfa (body_rules rules b) b.saved_args_size

-- a body's rules are among those of all, at most 32, by ascending column, and reach as far as it says
pub record IsInRules (rules : List (Column × RegisterRule)) (b : RowBody) : Type 0 where
  pub ordered : b.first_rule ≤ b.end_rule
  pub within : b.end_rule ≤ length rules
  pub few : b.end_rule ≤ b.first_rule + 32
  pub ascending : AscendsFrom 0 (body_rules rules b)
  pub reached : IsReach b.reach (body_rules rules b)

-- what stands among bodies stays at its place
pub record Grows (old new : List (Result RowValue Fault)) : Type 0 where
  pub more : List (Result RowValue Fault)
  pub grown : new ≡ old ++ more

-- the body at a place says this
pub record Says (bodies : List (Result RowValue Fault)) (place : ℕ) (answer : Result RowValue Fault) : Type 0 where
  pub within : place < length bodies
  pub there : (d : Result RowValue Fault) → slice_index_or bodies place d ≡ answer
