use Rattle.std.proofs.Common.{◌∙◌, ap, arith}
use Rattle.generated_chains.specs.Calls.{state_of, stack_bytes, resumes_of}
use Rattle.generated_chains.specs.Tables.{header_table, frame_table}
use Rattle.generated_chains.proofs.chain.chain_of.Goals as goal
use Rattle.generated_chains.proofs.MadeValid.{made_valid}

pub returns-clause-valid : goal.returns-clause-valid
returns-clause-valid c =
    let is = c.in_ok-functions.ensures.items in
    made_valid _ c.args.seed c.args.count (record {
      header = c.in_ok-header.ensures ∙ ap header_table (c.deref.ensures.value ∙ is);
      frames = c.in_ok-frames.ensures ∙ ap frame_table (c.deref-2.ensures.value ∙ is);
      languages = c.in_ok-languages.ensures.items ∙ c.language_tables.ensures;
      stack = c.in_ok-stack.ensures.bytes ∙ ap (stack_bytes c.args.seed) (c.deref-3.ensures.value ∙ is);
      innermost = c.in_ok-stack.ensures.innermost ∙ ap (state_of c.args.seed) (c.deref-3.ensures.value ∙ is);
      resumes = c.in_ok-resumes.ensures ∙ ap resumes_of (c.deref-4.ensures.value ∙ is);
    }) (omega arith) c.requires.some c.requires.few
