-- Memory that is clear is there.
use Rattle.std.proofs.Common.{◌≡◌, ℕ, List, length, replicate, ap, ◌∙◌}
use Rattle.std.proofs.lemmas.List.{length-replicate}
use Rattle.cut.specs.Scratched.{Roomy, Cleared}
use Rattle.cut.specs.declared.scratch.Scratch.{Scratch}

-- what holds n times 0 has n entries
zeros_long : (n len : ℕ) (items : List ℕ) → len ≡ length items → items ≡ replicate n 0 → len ≡ n
zeros_long n len items long is = long ∙ ap length is ∙ length-replicate n 0

-- memory of one's own that is clear has room
pub cleared_roomy : (n : ℕ) (x : Scratch) → Cleared n x → Roomy n x
cleared_roomy n x clear = record {
  sums = zeros_long n _ _ x.sums.ok.0 clear.sums;
  falls = zeros_long n _ _ x.falls.ok.0 clear.falls;
  rises = zeros_long n _ _ x.rises.ok.0 clear.rises;
  witness = zeros_long n _ _ x.witness.ok.0 clear.witness;
}
