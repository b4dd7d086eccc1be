use Rattle.frame_facts_laws.proofs.FactsAsked.{goes_on, goes_on_by_table}
use Rattle.frame_facts_laws.proofs.deliveries.cleaned_frame_goes_on.Goals as goal

pub returns-clause-at : goal.returns-clause-at
returns-clause-at c p f t frames ret on chain = goes_on p f t frames ret on chain

pub returns-clause-by_table : goal.returns-clause-by_table
returns-clause-by_table c p resumes f t frames pad e listed chain = goes_on_by_table p resumes f t frames pad e listed chain
