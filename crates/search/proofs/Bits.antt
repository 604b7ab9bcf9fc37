-- Bits that are put together from the highest down. Assumes nothing.
use Rattle.std.proofs.Common.{◌≡◌, ℕ, ◌+◌, ◌-◌, ◌*◌, ◌/◌, ◌%◌, ◌^◌, ◌<◌, Bool, eqb, sym, ap, ◌∙◌, inl, inr, arith}
use Rattle.std.proofs.lemmas.Nat.{shr-shr, pow-add, pow_pos}
use Rattle.std.proofs.lemmas.Bool.{cases_eq}
use Rattle.search.specs.Moves.{bit_of}

-- the bits of f from place k up to place n, moved down to 0
pub record BitsFrom (f : ℕ → Bool) (k n x : ℕ) : Type 0 where
  pub bits : (j : ℕ) → j + k < n → bit_of x j ≡ f (j + k)
  pub small : x < 2 ^ (n - k)

-- none yet
pub bits_none : (f : ℕ → Bool) (n : ℕ) → BitsFrom f n n 0
bits_none f n = record { bits = λ j below. absurd (omega arith); small = pow_pos (n - n) }

-- past the lowest bit the bits are those of the rest
bit_past : (x b j i : ℕ) → b < 2 → j ≡ 1 + i → bit_of (x * 2 + b) j ≡ bit_of x i
bit_past x b j i bit is =
    let half : (x * 2 + b) / 2 ^ 1 ≡ x = omega arith in
    ap (λ (n : ℕ). eqb (n % 2) 1) (ap (λ (m : ℕ). (x * 2 + b) / 2 ^ m) is ∙ sym (shr-shr (x * 2 + b) 1 i) ∙ ap (λ (m : ℕ). m / 2 ^ i) half)

-- one bit more, at the low end
pub bits_more : (f : ℕ → Bool) (k n x b : ℕ) → k < n → b < 2 → bit_of b 0 ≡ f k → BitsFrom f (k + 1) n x → BitsFrom f k n (x * 2 + b)
bits_more f k n x b below bit is high = record {
  bits = λ j more. elim (cases_eq j 0) [
    | inl low ↦
        let same : ((x * 2 + b) / 2 ^ 0) % 2 ≡ (b / 2 ^ 0) % 2 = omega arith in
        ap (bit_of (x * 2 + b)) low ∙ ap (λ (m : ℕ). eqb m 1) same ∙ is ∙ ap f (omega arith)
    | inr other ↦ bit_past x b j (j - 1) bit (omega arith) ∙ high.bits (j - 1) (omega arith) ∙ ap f (omega arith)
  ];
  small =
      let room : 2 ^ (n - k) ≡ 2 ^ (1 + (n - (k + 1))) = ap (λ (m : ℕ). 2 ^ m) (omega arith) in
      omega (arith, room, pow-add 2 1 (n - (k + 1)), high.small);
}
