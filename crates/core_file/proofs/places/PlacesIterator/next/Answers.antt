use Rattle.std.proofs.Common.{◌≡◌, ◌∙◌, ◌∷◌, List, length, slice_get, Some, None, sym, ap, arith, refl}
use Rattle.core_file.specs.declared.program_header.ProgramHeader.{ProgramHeader}
use Rattle.core_file.specs.Fronts.{place_in, places_in}
use Rattle.core_file.specs.Left.{places_left}
use Rattle.core_file.proofs.ThreadLemmas.{places_give, places_skip}
use Rattle.core_file.proofs.places.PlacesIterator.next.Goals as goal

given : (c : goal.After-self-1) → places_left c.args.self.now ≡ c.in-Some.place ∷ places_in c.after-self.result
given c =
    let before = c.loop-i.invariant in
    let at : slice_get c.args.self.now.headers c.loop-i.i ≡ Some c.at.result = sym (ap (λ (hs : List ProgramHeader). slice_get hs c.loop-i.i) before.headers) ∙ c.at.ensures in
    sym before.left ∙ places_give c.args.self.now.headers c.loop-i.i c.at.result c.in-Some.place at (sym c.in-Some.ensures)
    ∙ rw (c.after-self.ensures, before.headers) refl

pub returns-in-Some-clause-steps : goal.returns-in-Some-clause-steps
returns-in-Some-clause-steps c = given c

pub returns-in-Some-clause-goes : goal.returns-in-Some-clause-goes
returns-in-Some-clause-goes c = let shorter = ap length (given c) in record { on = λ _. (tt, tt, omega arith); keeps = tt; rests = λ _. tt }

pub loop-i-preserved : goal.loop-i-preserved
loop-i-preserved c =
    let before = c.loop-i.invariant in
    let at : slice_get c.args.self.now.headers c.loop-i.i ≡ Some c.at.result = sym (ap (λ (hs : List ProgramHeader). slice_get hs c.loop-i.i) before.headers) ∙ c.at.ensures in
    let none : place_in c.at.result ≡ None = sym c.in_default.ensures in
    record {
      headers = before.headers;
      left = sym (places_skip c.args.self.now.headers c.loop-i.i c.at.result at none) ∙ before.left;
    }
