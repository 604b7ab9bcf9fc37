-- Sums of f 0 .. f (n - 1): how they change with f, how they swap, and what one place gives. Nobody else unfolds span.
use Rattle.std.proofs.Common.{◌≡◌, ℕ, zero, suc, ◌+◌, ◌<◌, ◌≤◌, ◌≢◌, sym, refl, ap, inl, inr, arith}
use Rattle.std.proofs.lemmas.Bool.{cases_eq}
use Rattle.survey.specs.Page.{span}

-- no place: the sum is 0
pub span_none : (f : ℕ → ℕ) → span f 0 ≡ 0
unfolding span
span_none f = refl

-- one place more
pub span_suc : (f : ℕ → ℕ) (n : ℕ) → span f (suc n) ≡ f n + span f n
unfolding span
span_suc f n = refl

-- what holds below n + 1 holds below n
below_less : {P : ℕ → Type 0} (n : ℕ) → ((k : ℕ) → k < suc n → P k) → (k : ℕ) → k < n → P k
below_less n all k h = all k (omega arith)

-- place by place at most as much: the sum is at most as much
pub span_le : (f g : ℕ → ℕ) (n : ℕ) → ((k : ℕ) → k < n → f k ≤ g k) → span f n ≤ span g n
unfolding span
span_le f g zero each = omega arith
span_le f g (suc n) each = omega (arith, each n (omega arith), span_le f g n (below_less n each))

-- place by place the same: the same sum
pub span_cong : (f g : ℕ → ℕ) (n : ℕ) → ((k : ℕ) → k < n → f k ≡ g k) → span f n ≡ span g n
unfolding span
span_cong f g zero each = refl
span_cong f g (suc n) each = omega (arith, each n (omega arith), span_cong f g n (below_less n each))

-- 0 everywhere sums to 0
pub span_zero : (f : ℕ → ℕ) (n : ℕ) → ((k : ℕ) → k < n → f k ≡ 0) → span f n ≡ 0
unfolding span
span_zero f zero each = refl
span_zero f (suc n) each = omega (arith, each n (omega arith), span_zero f n (below_less n each))

-- the sum of sums place by place
pub span_add : (f g : ℕ → ℕ) (n : ℕ) → span (λ k. f k + g k) n ≡ span f n + span g n
unfolding span
span_add f g zero = refl
span_add f g (suc n) = omega (arith, span_add f g n)

-- by rows first or by columns first
pub span_swap : (f : ℕ → ℕ → ℕ) (m n : ℕ) → span (λ r. span (λ k. f r k) n) m ≡ span (λ k. span (λ r. f r k) m) n
unfolding span
span_swap f zero n = sym (span_zero (λ k. 0) n (λ k h. refl))
span_swap f (suc m) n =
    omega (arith, span_swap f m n, span_add (λ k. f m k) (λ k. span (λ r. f r k) m) n)

-- two that differ at one place only
pub span_changed : (f g : ℕ → ℕ) (n j : ℕ) → j < n → ((k : ℕ) → k < n → k ≢ j → f k ≡ g k) → span f n + g j ≡ span g n + f j
unfolding span
span_changed f g zero j h same = omega arith
span_changed f g (suc n) j h same = elim (cases_eq n j) [
  | inl e ↦ omega (arith, ap f e, ap g e, span_cong f g n (λ k l. same k (omega arith) (omega arith)))
  | inr e ↦ omega (arith, same n (omega arith) e, span_changed f g n j (omega arith) (λ k l. same k (omega arith)))
]

-- one place only is not 0
pub span_only : (f : ℕ → ℕ) (n j : ℕ) → j < n → ((k : ℕ) → k < n → k ≢ j → f k ≡ 0) → span f n ≡ f j
span_only f n j h none =
    omega (arith, span_changed f (λ k. 0) n j h none, span_zero (λ k. 0) n (λ k l. refl))

-- place by place at most as much, and e less at one place
pub span_spare : (f g : ℕ → ℕ) (n j e : ℕ) → j < n → ((k : ℕ) → k < n → f k ≤ g k) → f j + e ≤ g j → span f n + e ≤ span g n
unfolding span
span_spare f g zero j e h each spare = omega arith
span_spare f g (suc n) j e h each spare = elim (cases_eq n j) [
  | inl p ↦ omega (arith, ap f p, ap g p, span_le f g n (below_less n each))
  | inr p ↦ omega (arith, each n (omega arith), span_spare f g n j e (omega arith) (below_less n each) spare)
]

-- one place is at most the sum
pub span_term : (f : ℕ → ℕ) (n j : ℕ) → j < n → f j ≤ span f n
span_term f n j h =
    omega (arith, span_spare (λ k. 0) f n j (f j) h (λ k l. omega arith) (omega arith))
