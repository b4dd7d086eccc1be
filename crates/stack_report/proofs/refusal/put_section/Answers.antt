use Rattle.stack_report.proofs.refusal.put_section.Goals as goal

pub returns-in-ReadError : goal.returns-in-ReadError
returns-in-ReadError c = rw (c.in-ReadError.is, ← c.part_name.ensures) c.put_named.ensures

pub returns-in-InvalidPageEntryFirstAddress : goal.returns-in-InvalidPageEntryFirstAddress
returns-in-InvalidPageEntryFirstAddress c = rw c.in-InvalidPageEntryFirstAddress.is c.put.ensures

pub returns-in-InvalidPageKind : goal.returns-in-InvalidPageKind
returns-in-InvalidPageKind c = rw c.in-InvalidPageKind.is c.put-in-InvalidPageKind.ensures

pub returns-in-UnexpectedSentinelPage : goal.returns-in-UnexpectedSentinelPage
returns-in-UnexpectedSentinelPage c = rw c.in-UnexpectedSentinelPage.is c.put-in-UnexpectedSentinelPage.ensures

pub returns-in-AddressOverflow : goal.returns-in-AddressOverflow
returns-in-AddressOverflow c = rw c.in-AddressOverflow.is c.put-in-AddressOverflow.ensures
