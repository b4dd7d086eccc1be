use Rattle.std.proofs.Common.{◌≡◌, ℕ, ◌-◌, ◌+◌, List, length, sym, ap, ◌∙◌, arith}
use Rattle.std.specs.Prelude.{slice_range}
use Rattle.std.specs.Int.{from_le_bytes, to_le_bytes, w64}
use Rattle.std.proofs.lemmas.Bool.{eq-eqb, eqb-true}
use Rattle.frame_rows.proofs.Ends.{same_by_ends}
use Rattle.frame_rows.proofs.known_programs.are_same.Goals as goal

pub returns-then-word_at : goal.returns-then-word_at
returns-then-word_at c = (
  λ is.
      let a : List ℕ = c.args.a.now in
      let b : List ℕ = c.args.b.now in
      let first : slice_range a 0 (0 + 8) ≡ slice_range b 0 (0 + 8) = sym c.word_at.ensures.bytes ∙ ap (to_le_bytes w64) c.if-word_at.true ∙ c.word_at-2.ensures.bytes in
      let words = eqb-true c.word_at-then-word_at.result c.word_at-then-word_at-2.result is in
      let last = sym c.word_at-then-word_at.ensures.bytes ∙ ap (to_le_bytes w64) words ∙ c.word_at-then-word_at-2.ensures.bytes in
      same_by_ends a b (omega arith) (omega arith) (omega arith) first last,
  λ same.
      let at = length (c.args.a.now) - 8 in
      let last_word = λ (bytes : List ℕ). from_le_bytes w64 (slice_range bytes at (at + 8)) in
      eq-eqb _ _ (c.word_at-then-word_at.ensures.word ∙ ap last_word same ∙ sym c.word_at-then-word_at-2.ensures.word),
)
