-- Lemmas of the crate's proofs.
mod Words
