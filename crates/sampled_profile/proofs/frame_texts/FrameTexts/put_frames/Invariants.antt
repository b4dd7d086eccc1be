use Rattle.std.proofs.Common.{◌≡◌, ◌++◌}
use Rattle.sampled_profile.proofs.TextLemmas.{frames_from}
use Rattle.sampled_profile.proofs.frame_texts.FrameTexts.put_frames.Given as goal

abbrev pub invariant-loop-i : goal.invariant-loop-i
invariant-loop-i l = record {
  text : l.report ≡ l.initial.report ++ frames_from l.fn.self l.i l.addresses;
  files : l.self ≡ l.fn.self;
}
