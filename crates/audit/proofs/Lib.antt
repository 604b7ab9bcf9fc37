-- Lemmas of the program.
mod Blanking
