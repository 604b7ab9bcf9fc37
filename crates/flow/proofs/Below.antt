-- What holds of some number below a bound, and of the least such.
use Rattle.std.proofs.Common.{◌≡◌, ℕ, zero, suc, ◌<◌, Bool, true, false, Decides, refl, inl, inr, arith}
use Rattle.std.proofs.lemmas.Bool.Decides.{Decides-below_or}
use Rattle.std.proofs.lemmas.Bool.{both_ways, or_from, cases_order, false_from_ne_true}
use Rattle.survey.specs.Survey.{pick}
use Rattle.flow.specs.Ways.{any_below, least}

-- any_below tells whether there is such a number
any_below_decides : (p : ℕ → Bool) (n : ℕ) → Decides (any_below p n) ((k : ℕ) × (k < n) × (p k ≡ true))
unfolding any_below
any_below_decides p n = Decides-below_or p (λ k. p k ≡ true) (any_below p) (λ k. (λ e. e, λ e. e)) refl (λ _. refl) n

-- one that has it will do
pub any_below_from : (p : ℕ → Bool) (n k : ℕ) → k < n → p k ≡ true → any_below p n ≡ true
any_below_from p n k l e = (any_below_decides p n).1 (k, l, e)

-- there is one
pub any_below_has : (p : ℕ → Bool) (n : ℕ) → any_below p n ≡ true → (k : ℕ) × (k < n) × (p k ≡ true)
any_below_has p n e = (any_below_decides p n).0 e

-- there is none
pub any_below_none : (p : ℕ → Bool) (n k : ℕ) → any_below p n ≡ false → k < n → p k ≡ false
any_below_none p n k e l = false_from_ne_true (p k) (λ t. both_ways _ e (any_below_from p n k l t))

-- the least one is below, has it, and none before it has
pub record Least (p : ℕ → Bool) (n m : ℕ) : Type 0 where
  pub below : m < n
  pub has : p m ≡ true
  pub first : (k : ℕ) → k < m → p k ≡ false

-- where there is one, least is the least
pub least_is : (p : ℕ → Bool) (n : ℕ) → any_below p n ≡ true → Least p n (least p n)
unfolding least any_below
least_is p zero e = absurd (both_ways false refl e)
least_is p (suc n) e = at (any_below p n) refl (p n) refl (least_is p n)
  where
    at : (b : Bool) → any_below p n ≡ b → (d : Bool) → p n ≡ d → (any_below p n ≡ true → Least p n (least p n)) →
        Least p (suc n) (pick b (least p n) (pick d n (suc n)))
    at true t d u m = record { below = omega (arith, (m t).below); has = (m t).has; first = (m t).first }
    at false t true u m = record { below = omega arith; has = u; first = λ k l. any_below_none p n k t l }
    at false t false u m = absurd (both_ways _ (or_from (p n) (any_below p n) u t) e)

-- there is one least
pub least_one : (p : ℕ → Bool) (n m : ℕ) → Least p n m → least p n ≡ m
least_one p n m is =
    let it = least_is p n (any_below_from p n m is.below is.has) in
    elim (cases_order (least p n) m) [
      | inl same ↦ same
      | inr (inl low) ↦ absurd (both_ways _ (is.first (least p n) low) it.has)
      | inr (inr high) ↦ absurd (both_ways _ (it.first m high) is.has)
    ]

module _ (p q : ℕ → Bool) where
  -- the same tests: there is one or none for both
  pub any_below_cong : (n : ℕ) → ((k : ℕ) → k < n → p k ≡ q k) → any_below p n ≡ any_below q n
  unfolding any_below
  any_below_cong zero same = refl
  any_below_cong (suc n) same = rw (same n (omega arith), any_below_cong n (λ k l. same k (omega arith)))

  -- and the least is the same
  pub least_cong : (n : ℕ) → ((k : ℕ) → k < n → p k ≡ q k) → least p n ≡ least q n
  unfolding least
  least_cong zero same = refl
  least_cong (suc n) same =
      rw (same n (omega arith), any_below_cong n (λ k l. same k (omega arith)), least_cong n (λ k l. same k (omega arith)))
