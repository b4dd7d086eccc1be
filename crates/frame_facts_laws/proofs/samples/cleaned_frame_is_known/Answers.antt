use Rattle.std.proofs.Common.{refl}
use Rattle.frame_facts_laws.proofs.SampleFacts.{cleaned_goes_on}
use Rattle.frame_facts_laws.proofs.samples.cleaned_frame_is_known.Goals as goal

pub returns-clause-goes_on : goal.returns-clause-goes_on
returns-clause-goes_on c = cleaned_goes_on

pub returns-clause-past : goal.returns-clause-past
returns-clause-past c = refl

pub returns-clause-resumes : goal.returns-clause-resumes
returns-clause-resumes c = (0x401128, refl, cleaned_goes_on)
