use Rattle.std.proofs.Common.{◌<◌, ◌∙◌, length, ap, arith}
use Rattle.mapped_names.specs.Places.{NamingValue}
use Rattle.named_walks.proofs.Texts.{lines_more}
use Rattle.named_walks.proofs.walking.put_states.Goals as goal

pub loop-index-preserved : goal.loop-index-preserved
loop-index-preserved g c =
    let before = c.loop-index.invariant in
    let put = c.in_ok-put_state.ensures in
    let files = ap (λ (v : NamingValue _). v.files) before.names in
    let parts = ap (λ (v : NamingValue _). v.parts) before.names in
    let within : c.loop-index.index < length c.args.visited.now = omega arith in
    record {
      told = λ all tells.
          lines_more all c.args.names.now.parts c.args.visited.now c.loop-index.index c.loop-index.report c.put_state.new.report within (rw parts at (put.told all (rw files tells))) ∙ before.told all tells;
      names = put.same ∙ before.names;
    }
