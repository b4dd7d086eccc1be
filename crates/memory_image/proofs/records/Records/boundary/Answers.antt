use Rattle.std.proofs.Common.{◌≡◌, ℕ, zero, suc, ◌+◌, ◌-◌, ◌/◌, ◌≤◌, map, length, Option, Some, None, refl, sym, ap, subst, ◌∙◌, arith}
use Rattle.std.specs.Option.{SomeIff}
use Rattle.std.proofs.lemmas.List.{length-map}
use Rattle.memory_image.specs.Halving.{place_before}
use Rattle.memory_image.specs.HalvingLaws.{Finds, goes_up, goes_down, is_answered, boundary_of-finds}
use Rattle.memory_image.proofs.RecordLemmas.{count_of, count_fits}
use Rattle.memory_image.proofs.records.Records.boundary.Goals as goal

middle : (low high : ℕ) → low ≤ high → (low + high) / 2 ≡ low + (high - low) / 2
middle low high h = omega arith

pub loop-low-init : goal.loop-low-init
loop-low-init g c =
    let same = count_of g.T.Record.SIZE g.T.Record.value_of c.self.inside.bytes.now c.self.inside.count c.args.self.now c.self.view_is in
    record { ordered = omega arith; within = omega (arith, same); same = rw same refl }

pub overflow_add-middle : goal.overflow_add-middle
overflow_add-middle g c =
    let same = count_of g.T.Record.SIZE g.T.Record.value_of c.self.inside.bytes.now c.self.inside.count c.args.self.now c.self.view_is in
    let few = count_fits g.T.Record.SIZE c.self.inside.count (length c.self.inside.bytes.now) g.met.T.Record.has_size c.self.invariant in
    let told = c.self.told.1 in
    let within = c.loop-low.invariant.within in
    let ordered = c.loop-low.invariant.ordered in
    omega (arith, same, few, told, within, ordered)

pub loop-low-preserved : goal.loop-low-preserved
loop-low-preserved g c =
    let half = middle c.loop-low.low c.loop-low.high c.loop-low.invariant.ordered in
    rw half (record {
      ordered = omega arith;
      within = (let a = c.loop-low.invariant.within in let b = c.loop-low-test.true in omega arith);
      same = goes_down (map g.T.Keyed.key c.args.self.now) (length c.args.self.now) c.args.p c.loop-low.low c.loop-low.high _ c.loop-low-test.true c.loop-low.invariant.within
          (let e = rw half at c.key_at.ensures in let after = c.if-key_at-p.false in omega (arith, e, after)) c.loop-low.invariant.same;
    })

pub loop-low-preserved-then-key_at-p : goal.loop-low-preserved-then-key_at-p
loop-low-preserved-then-key_at-p g c =
    let half = middle c.loop-low.low c.loop-low.high c.loop-low.invariant.ordered in
    rw half (record {
      ordered = (let b = c.loop-low-test.true in omega arith);
      within = c.loop-low.invariant.within;
      same = goes_up (map g.T.Keyed.key c.args.self.now) (length c.args.self.now) c.args.p c.loop-low.low c.loop-low.high _ c.loop-low-test.true c.loop-low.invariant.within
          (let e = rw half at c.key_at.ensures in let before = c.if-key_at-p.true in omega (arith, e, before)) c.loop-low.invariant.same;
    })

before : (low : ℕ) (o : Option ℕ) → SomeIff o (1 ≤ low) (low - 1) → o ≡ place_before low
before zero None none = refl
before (suc i) None none = absurd (none (omega arith))
before zero (Some k) some = absurd (omega (arith, some.0))
before (suc i) (Some k) some = let same : k ≡ i = omega (arith, some.1) in ap (λ (n : ℕ). Some n) same

pub returns-clause-same : goal.returns-clause-same
returns-clause-same g c = before c.loop-low.low c.checked_sub.result c.checked_sub.ensures
    ∙ is_answered (map g.T.Keyed.key c.args.self.now) (length c.args.self.now) c.args.p c.loop-low.low c.loop-low.high (length-map c.args.self.now g.T.Keyed.key) c.loop-low-test.false c.loop-low.invariant.same

pub returns-clause-found : goal.returns-clause-found
returns-clause-found g c = subst (Finds (map g.T.Keyed.key c.args.self.now) c.args.p) (sym (returns-clause-same g c)) (boundary_of-finds (map g.T.Keyed.key c.args.self.now) c.args.p)
