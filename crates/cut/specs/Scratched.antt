-- Memory of one's own for judging cells. Assumes nothing: these are definitions.
use Rattle.std.specs.Prelude.{◌≡◌, ℕ, replicate, vec_items, vec_len}
use Rattle.cut.specs.declared.scratch.Scratch.{Scratch}

-- there is memory for n cells
pub record Roomy (n : ℕ) (scratch : Scratch) : Type 0 where
  pub sums : vec_len scratch.sums ≡ n
  pub falls : vec_len scratch.falls ≡ n
  pub rises : vec_len scratch.rises ≡ n
  pub witness : vec_len scratch.witness ≡ n

-- there is memory for n cells, and 0 in all of it
pub record Cleared (n : ℕ) (scratch : Scratch) : Type 0 where
  pub sums : vec_items scratch.sums ≡ replicate n 0
  pub falls : vec_items scratch.falls ≡ replicate n 0
  pub rises : vec_items scratch.rises ≡ replicate n 0
  pub witness : vec_items scratch.witness ≡ replicate n 0
