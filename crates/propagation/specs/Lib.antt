pub mod Runs
pub mod Consistency
pub mod Outcomes
pub mod Calls
pub mod RecordSteps
pub mod Loops
pub mod Narrowings
pub mod Planning
