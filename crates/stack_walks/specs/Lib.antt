pub mod ContextsMet
pub mod WalkEndSample
pub mod WalkEnds
pub mod Lines
pub mod VisitViews
pub mod FrameVisits
pub mod Walking
pub mod KnownWalks
