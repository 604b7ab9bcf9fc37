-- The order of the cells: a list in order is the only one.
use Rattle.std.proofs.Common.{◌≡◌, ℕ, zero, suc, ◌+◌, ◌<◌, ◌⊎◌, List, [], ◌∷◌, length, get_or, sym, refl, ap, ◌∙◌, inl, inr, add-one, arith}
use Rattle.std.specs.List.{ContainsAt as Has, AllByRecursion as All}
use Rattle.std.proofs.ByRecursion.{all-has, All-weaker}
use Rattle.survey.specs.Page.{Survey, true_sum}
use Rattle.search.specs.Search.{Before, InOrder}

module _ (s : Survey) where
  -- what comes before what comes before
  before_trans : (a b c : ℕ) → Before s a b → Before s b c → Before s a c
  before_trans a b c (inl p) (inl q) = inl (omega arith)
  before_trans a b c (inl p) (inr (e, q)) = inl (omega arith)
  before_trans a b c (inr (d, p)) (inl q) = inl (omega arith)
  before_trans a b c (inr (d, p)) (inr (e, q)) = inr (d ∙ e, omega arith)

  -- no two cells come before each other
  before_once : (a b : ℕ) → Before s a b → Before s b a → ⊥
  before_once a b (inl p) (inl q) = omega arith
  before_once a b (inl p) (inr (e, q)) = omega arith
  before_once a b (inr (d, p)) (inl q) = omega arith
  before_once a b (inr (d, p)) (inr (e, q)) = omega arith

  -- no cell comes before itself
  before_apart : (a b : ℕ) → a ≡ b → Before s a b → ⊥
  before_apart a b e (inl p) = omega (arith, ap (true_sum s) e)
  before_apart a b e (inr (d, p)) = omega arith

  -- each comes before all that follow
  abbrev Ascending : List ℕ → Type 0
  Ascending [] = Unit {0}
  Ascending (x ∷ xs) = All (λ y. Before s x y) xs × Ascending xs

  -- each comes before the next
  abbrev Stepping : List ℕ → Type 0
  Stepping xs = (i : ℕ) → i + 1 < length xs → Before s (get_or xs i 0) (get_or xs (i + 1) 0)

  -- where each comes before the next, each comes before all that follow
  ascends : (xs : List ℕ) → Stepping xs → Ascending xs
  ascends [] up = tt
  ascends (x ∷ []) up = (tt, tt)
  ascends (x ∷ (y ∷ ys)) up =
      let rest = ascends (y ∷ ys) (λ i l. rw add-one (rw add-one at (up (suc i) (omega arith)))) in
      ((up 0 (omega arith), All-weaker (λ z. Before s y z) (λ z. Before s x z) (λ z b. before_trans x y z (up 0 (omega arith)) b) ys rest.0), rest)

  -- the first, or one that follows
  has_cases : (x c : ℕ) (xs : List ℕ) → Has (x ∷ xs) c → (x ≡ c) ⊎ Has xs c
  has_cases x c xs (zero, l, at) = inl (at 0)
  has_cases x c xs (suc k, l, at) = inr (k, omega arith, at)

  -- the first is held
  has_first : (x : ℕ) (xs : List ℕ) → Has (x ∷ xs) x
  has_first x xs = (0, omega arith, λ d. refl)

  -- and what follows
  has_next : (x c : ℕ) (xs : List ℕ) → Has xs c → Has (x ∷ xs) c
  has_next x c xs (k, l, at) = (suc k, omega arith, at)

  -- the first of each is the same
  same_first : (x y : ℕ) (xs ys : List ℕ) → All (λ z. Before s x z) xs → All (λ z. Before s y z) ys → Has (y ∷ ys) x → Has (x ∷ xs) y → x ≡ y
  same_first x y xs ys a b p q = elim (has_cases y x ys p) [
    | inl e ↦ sym e
    | inr m ↦ elim (has_cases x y xs q) [
      | inl e ↦ e
      | inr n ↦ absurd (before_once x y (all-has _ xs y a n) (all-has _ ys x b m))
    ]
  ]

  -- what follows in the one follows in the other
  same_rest : (x y c : ℕ) (xs ys : List ℕ) → x ≡ y → All (λ z. Before s x z) xs → Has xs c → Has (y ∷ ys) c → Has ys c
  same_rest x y c xs ys e a m p = elim (has_cases y c ys p) [
    | inl f ↦ absurd (before_apart x c (e ∙ f) (all-has _ xs c a m))
    | inr n ↦ n
  ]

  -- two ascending lists that hold the same are the same
  same_ascending : (xs ys : List ℕ) → Ascending xs → Ascending ys → ((c : ℕ) → Has xs c → Has ys c) → ((c : ℕ) → Has ys c → Has xs c) → xs ≡ ys
  same_ascending [] [] a b to back = refl
  same_ascending [] (y ∷ ys) a b to back = let (k, l, at) = back y (has_first y ys) in absurd (omega arith)
  same_ascending (x ∷ xs) [] a b to back = let (k, l, at) = to x (has_first x xs) in absurd (omega arith)
  same_ascending (x ∷ xs) (y ∷ ys) a b to back =
      let e = same_first x y xs ys a.0 b.0 (to x (has_first x xs)) (back y (has_first y ys)) in
      let rest = same_ascending xs ys a.1 b.1
      (λ c m. same_rest x y c xs ys e a.0 m (to c (has_next x c xs m)))
      (λ c m. same_rest y x c ys xs (sym e) b.0 m (back c (has_next y c ys m))) in
      cc

  -- the cells that lack nothing have one order
  pub in_order_one : (cs ds : List ℕ) → InOrder s cs → InOrder s ds → cs ≡ ds
  in_order_one cs ds a b = same_ascending cs ds (ascends cs a.rising) (ascends ds b.rising)
      (λ c m. let (l, e) = a.only c m in b.all c l e)
      (λ c m. let (l, e) = b.only c m in a.all c l e)
