use Rattle.std.proofs.Common.{◌≡◌, ◌+◌, ◌*◌, ◌^◌, List, [], ◌∷◌, ◌++◌, length, sym, subst, arith}
use Rattle.eh_frame.specs.Directory.{IsDirectory}
use Rattle.eh_frame.specs.declared.starts.Bounds.{Bounds}
use Rattle.eh_frame.proofs.Directory.{next_from, pushed, width_is, bounds_of}
use Rattle.eh_frame.proofs.starts.directory.Goals as goal
use Rattle.eh_frame.proofs.starts.directory.Goals.{else-loop-test, then-loop-test+in_default, then-loop-test+in-Some+in_ok-push+then-high-starts}

pub loop-preserved : goal.loop-preserved
loop-preserved c =
    let starts = c.args.starts.now in
    let ws = c.loop.directory.items in
    let w : Bounds = record { low = c.saturating_sub-low.result; high = c.first_from-high.result } in
    let width = width_is c.args.digits c.requires in
    let sum = c.in-Some.ensures.1 in
    let to : c.in-Some.to ≡ c.loop.from + 2 ^ c.args.digits = omega arith in
    let of = bounds_of starts c.loop.from c.in-Some.to c.loop.before w c.loop.invariant.3 c.saturating_sub-low.ensures c.first_from-high.ensures.within c.first_from-high.ensures.after in
    let items : c.push.new.self.items ≡ ws ++ w ∷ [] = c.in_ok-push.ensures.items in (
      subst (IsDirectory starts c.args.first c.args.digits) (sym items) (pushed starts c.args.first c.args.digits c.loop.from c.in-Some.to ws w c.loop.invariant.0 c.loop.invariant.1 to of),
      subst (λ (l : List Bounds). c.in-Some.to ≡ c.args.first + length l * 2 ^ c.args.digits) (sym items) (next_from c.args.first c.loop.from c.in-Some.to c.args.digits ws w c.loop.invariant.1 to),
      c.first_from-high.ensures.within,
      c.first_from-high.ensures.before,
    )

pub returns : goal.returns
returns c =
    let starts = c.args.starts.now in
    let ws = c.loop.directory.items in
    elim c.loop-test.branch [
      | else-loop-test w ↦ rw w.directory-is c.loop.invariant.0
      | then-loop-test+in_default w ↦ rw w.directory-is c.loop.invariant.0
      | then-loop-test+in-Some+in_ok-push+then-high-starts w ↦
          let v : Bounds = record { low = w.saturating_sub-low.result; high = w.first_from-high.result } in
          let width = width_is c.args.digits c.requires in
          let sum = w.in-Some.ensures.1 in
          let to : w.in-Some.to ≡ c.loop.from + 2 ^ c.args.digits = omega arith in
          let of = bounds_of starts c.loop.from w.in-Some.to c.loop.before v c.loop.invariant.3 w.saturating_sub-low.ensures w.first_from-high.ensures.within w.first_from-high.ensures.after in
          let items : w.push.new.self.items ≡ ws ++ v ∷ [] = w.in_ok-push.ensures.items in
          rw (w.directory-is, items) (pushed starts c.args.first c.args.digits c.loop.from w.in-Some.to ws v c.loop.invariant.0 c.loop.invariant.1 to of)
    ]
