-- Printed pairs of registers, one after another.
use Rattle.std.proofs.Common.{◌≡◌, ℕ, ◌+◌, ◌<◌, true, cond, List, ◌++◌, length, drop, get_or, sym, ap, ◌∙◌, append_assoc}
use Rattle.std.proofs.lemmas.List.{drop_more}
use Rattle.macho_unwind_info.specs.Arm64.{pair_text, pairs_text}
use Rattle.macho_unwind_info.specs.declared.opcodes.arm64.Pair.{Pair}

pub pairs_step : (below i : ℕ) (pairs : List Pair) (d : Pair) (done whole : List ℕ) → i < length pairs → (get_or pairs i d).saved ≡ true →
    done ++ pairs_text below (drop i pairs) ≡ whole → (done ++ pair_text (get_or pairs i d).register below) ++ pairs_text (below + 16) (drop (i + 1) pairs) ≡ whole
pairs_step below i pairs d done whole h saved e =
    let text = pair_text (get_or pairs i d).register below in
    let rest = drop (i + 1) pairs in
    let here : pairs_text below (drop i pairs) ≡ text ++ pairs_text (below + 16) rest =
    ap (pairs_text below) (drop_more pairs i d h) ∙ ap (λ b. cond b (text ++ pairs_text (below + 16) rest) (pairs_text below rest)) saved in
    append_assoc done text (pairs_text (below + 16) rest) ∙ ap (λ t. done ++ t) (sym here) ∙ e
