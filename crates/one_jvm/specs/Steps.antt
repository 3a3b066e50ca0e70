-- What stands between the steps of a call: these words serve proofs alone.
pub mod Loading
pub mod Parts
pub mod ReplaySteps
pub mod RunSteps
pub mod Speaking
