-- The reason of a walk is its end.
use Rattle.std.proofs.Common.{◌≡◌, ◌≢◌, ℕ, zero, suc, ◌==◌, Bool, cond, inl, inr, refl}
use Rattle.std.proofs.lemmas.Bool.{ne_eqb}
use Rattle.unwind_arch.specs.declared.x86_64.Context.{Context}
use Rattle.stack_steps.specs.Modules.{SpaceValue}
use Rattle.stack_steps.specs.Stepping.{step_of}
use Rattle.stack_steps.proofs.StepAnswers.{ends_step}
use Rattle.stack_walks.specs.declared.walk_end.EndReason.{EndReason}
use Rattle.stack_walks.specs.declared.walk_end.EndReason.TheVariants as reason
use Rattle.stack_walks.specs.Lines.{NeedsMore}
use Rattle.stack_walks.specs.WalkEnds.{EndsFor, Meets, ComesTo}
use Rattle.sampled_profile.specs.declared.stack_end.StackEnd.{StackEnd}
use Rattle.sampled_profile.specs.declared.stack_end.StackEnd.TheVariants.{Outermost, NoTable, Limit}
use Rattle.sampled_profile.specs.Walks.{end_after, end_of, end_told}

no_table : (n : ℕ) → n ≢ 0 → cond (n == 0) Outermost NoTable ≡ NoTable
no_table n some = rw (ne_eqb n 0 some) refl

module _ (space : SpaceValue) where
  ends_told : (why : EndReason) (c : Context) (interrupted : Bool) (outer : Context → Bool → StackEnd) → EndsFor why space c interrupted → end_after c (step_of space c interrupted) outer ≡ end_told why
  ends_told reason.Outermost c interrupted outer is = rw (ends_step space c interrupted (inl is), is) refl
  ends_told (reason.NoModule a) c interrupted outer is = rw is.1 (no_table c.ra is.0)
  ends_told (reason.NoDescription a) c interrupted outer is = rw is.1 (no_table c.ra is.0)
  ends_told (reason.UnreadableTable a offset e) c interrupted outer is = rw is.1 (no_table c.ra is.0)
  ends_told (reason.Refused a e) c interrupted outer is = rw is.1 refl
  ends_told reason.Limit c interrupted outer is = absurd is

  meets_told : (why : EndReason) (room : ℕ) (c : Context) (interrupted : Bool) → Meets space (EndsFor why space) room c interrupted → end_of space room c interrupted ≡ end_told why
  meets_told why zero c interrupted met = absurd met
  meets_told why (suc room) c interrupted (inl is) = ends_told why c interrupted (end_of space room) is
  meets_told why (suc room) c interrupted (inr met) = rw met.1 (meets_told why room met.0.context met.0.signal met.2)

  more_long : (room : ℕ) (c : Context) (interrupted : Bool) → NeedsMore space room c interrupted → end_of space room c interrupted ≡ Limit
  more_long zero c interrupted more = refl
  more_long (suc room) c interrupted more = rw more.1 (more_long room more.0.context more.0.signal more.2)

  -- at whichever reason
  pub comes_told : (why : EndReason) (room : ℕ) (c : Context) (interrupted : Bool) → ComesTo why space room c interrupted → end_of space room c interrupted ≡ end_told why
  comes_told reason.Outermost room c interrupted met = meets_told reason.Outermost room c interrupted met
  comes_told (reason.NoModule a) room c interrupted met = meets_told (reason.NoModule a) room c interrupted met
  comes_told (reason.NoDescription a) room c interrupted met = meets_told (reason.NoDescription a) room c interrupted met
  comes_told (reason.UnreadableTable a offset e) room c interrupted met = meets_told (reason.UnreadableTable a offset e) room c interrupted met
  comes_told (reason.Refused a e) room c interrupted met = meets_told (reason.Refused a e) room c interrupted met
  comes_told reason.Limit room c interrupted more = more_long room c interrupted more
