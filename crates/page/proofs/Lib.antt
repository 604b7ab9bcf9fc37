-- Lemmas of the program.
mod Served
