pub mod AloneLemmas
pub mod CommandLemmas
pub mod EnterLemmas
pub mod HelpLemmas
pub mod KnownLemmas
pub mod WordLemmas
