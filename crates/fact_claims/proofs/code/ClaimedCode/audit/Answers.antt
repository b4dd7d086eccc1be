use Rattle.fact_claims.proofs.Auditing.{answers_of, differences_of}
use Rattle.fact_claims.proofs.code.ClaimedCode.audit.Goals as goal

pub returns-clause-refused : goal.returns-clause-refused
returns-clause-refused c =
    (answers_of (record { memory = c.self.inside.memory; frame = c.self.inside.frame; claims = c.self.inside.claims.items }) c.args.self.now c.audit.result _ _ c.self.view_is c.in_ok-image.ensures c.deref.ensures.value
    (record { refused = c.audit.ensures.refused; taken = c.audit.ensures.taken; audited = c.audit.ensures.audited; exact = c.audit.ensures.exact; said = c.audit.ensures.said })).refused

pub returns-clause-taken : goal.returns-clause-taken
returns-clause-taken c =
    (answers_of (record { memory = c.self.inside.memory; frame = c.self.inside.frame; claims = c.self.inside.claims.items }) c.args.self.now c.audit.result _ _ c.self.view_is c.in_ok-image.ensures c.deref.ensures.value
    (record { refused = c.audit.ensures.refused; taken = c.audit.ensures.taken; audited = c.audit.ensures.audited; exact = c.audit.ensures.exact; said = c.audit.ensures.said })).taken

pub returns-clause-audited : goal.returns-clause-audited
returns-clause-audited c =
    differences_of c.args.self.now c.audit.result
    (answers_of (record { memory = c.self.inside.memory; frame = c.self.inside.frame; claims = c.self.inside.claims.items }) c.args.self.now c.audit.result _ _ c.self.view_is c.in_ok-image.ensures c.deref.ensures.value
    (record { refused = c.audit.ensures.refused; taken = c.audit.ensures.taken; audited = c.audit.ensures.audited; exact = c.audit.ensures.exact; said = c.audit.ensures.said }))
