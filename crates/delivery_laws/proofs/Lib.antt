pub mod AnyPassesAre
pub mod PersonalityAsks
pub mod SameAnswers
pub mod Starts
pub mod CountedStarts
