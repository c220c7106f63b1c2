-- What the promises of the decoder are stated with, beside the definitions of the crate meaning.
pub mod Page
