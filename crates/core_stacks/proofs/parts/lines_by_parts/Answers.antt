use Rattle.std.proofs.Common.{◌≡◌, ◌∙◌, ◌≤◌, List, ℕ, Some, length, take, sym, ap, subst}
use Rattle.core_file.specs.Fronts.{front_end, front_of}
use Rattle.core_stacks.proofs.Fronts.{core_with}
use Rattle.core_stacks.proofs.PartLines.{core_told}
use Rattle.core_stacks.proofs.Sufficing.{as_long, some_walked}
use Rattle.core_stacks.proofs.parts.lines_by_parts.Goals as goal

pub returns-clause-told : goal.returns-clause-told
returns-clause-told g c = λ all tells.
    let whole = all c.args.path.now in
    let value = c.in-Some-parse.front in
    let read : take (length c.in-Some.bytes.items) whole ≡ c.in-Some.bytes.items = rw c.in-Some.is at (c.in_ok-bytes.ensures.told all tells) in
    let begin = subst (λ (front : List ℕ). take (length front) whole ≡ front) (sym c.deref.ensures.value) read in
    let size = (c.in_ok-has_size.ensures.told all tells).0 c.if-not-branch.false in
    let long = subst (λ (end : ℕ). end ≤ length whole) c.end.ensures size.0 in
    c.lines_by_front.ensures.told all tells (core_told c.deref.result.now whole value c.in-Some-parse.ensures.front begin long size.1)

pub returns-clause-walked : goal.returns-clause-walked
returns-clause-walked g c = λ all tells has few suffice.
    let whole = all c.args.path.now in
    let read : take (length c.in-Some.bytes.items) whole ≡ c.in-Some.bytes.items = rw c.in-Some.is at (c.in_ok-bytes.ensures.told all tells) in
    let begin = subst (λ (front : List ℕ). take (length front) whole ≡ front) (sym c.deref.ensures.value) read in
    let is : front_of c.deref.result.now ≡ Some c.in-Some-parse.front = sym c.parse.ensures.exact ∙ c.in-Some-parse.is in
    some_walked c.lines_by_front.result (c.lines_by_front.ensures.walked all tells) (suffice c.deref.result.now c.in-Some-parse.front begin is)

pub returns-in_default-parse-clause-walked : goal.returns-in_default-parse-clause-walked
returns-in_default-parse-clause-walked g c = λ all tells has few suffice.
    let whole = all c.args.path.now in
    let read : take (length c.in-Some.bytes.items) whole ≡ c.in-Some.bytes.items = rw c.in-Some.is at (c.in_ok-bytes.ensures.told all tells) in
    let begin = subst (λ (front : List ℕ). take (length front) whole ≡ front) (sym c.deref.ensures.value) read in
    let there : front_end whole ≤ length c.in-Some.bytes.items = rw c.in-Some.is at (c.in_ok-bytes.ensures.whole all tells has) in
    let within = subst (λ (front : List ℕ). front_end whole ≤ length front) (sym c.deref.ensures.value) there in
    c.in_default-parse.ensures.whole whole (core_with c.deref.result.now whole begin has) within

pub returns-then-not-branch-clause-walked : goal.returns-then-not-branch-clause-walked
returns-then-not-branch-clause-walked g c = λ all tells has few suffice.
    let whole = all c.args.path.now in
    let read : take (length c.in-Some.bytes.items) whole ≡ c.in-Some.bytes.items = rw c.in-Some.is at (c.in_ok-bytes.ensures.told all tells) in
    let begin = subst (λ (front : List ℕ). take (length front) whole ≡ front) (sym c.deref.ensures.value) read in
    let long = as_long c.deref.result.now whole c.in-Some-parse.front c.in-Some-parse.ensures.front begin has.core in
    let end = subst (λ (end : ℕ). end ≤ length whole) (sym c.end.ensures) long in
    let yes = (c.in_ok-has_size.ensures.told all tells).1 (end, few) in
    sym c.if-not-branch.true ∙ yes
