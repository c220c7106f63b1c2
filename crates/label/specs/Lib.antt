-- What the label search asks of one place, and its answer.
pub mod Search
-- What the host lends.
pub mod Lent
