-- A scan in the middle: the first i numbers are done, and of the next one the first j places.
use Rattle.std.proofs.Common.{◌≡◌, ℕ, ◌+◌, ◌<◌, ◌≤◌, Bool, true, false, ◌&&◌, eqb, ◌≢◌, ◌⊎◌, List, length, get_or, set, sym, ap, ◌∙◌, inl, inr, arith}
use Rattle.std.proofs.lemmas.List.{length-set, get_or-set_same, get_or-set_other}
use Rattle.std.proofs.lemmas.Bool.{both_ways, cases_eq, cases_Bool, and_parts, and_from, and_left, and_right, eq-eqb, false_from_ne_true}
use Rattle.survey.proofs.Cells.{pick_true, pick_false}
use Rattle.flow.specs.Ways.{any_below}
use Rattle.flow.specs.Searching.{never, Spread}
use Rattle.flow.proofs.Below.{any_below_from, any_below_has, Least, least_one}

module _ (test : ℕ → ℕ → Bool) (live : ℕ → Bool) (I J v : ℕ) (rounds₀ parents₀ : List ℕ) where
  -- what was reached stays; what is reached now has its first parent; what is not has none so far
  pub record Scan (i j : ℕ) (rounds parents : List ℕ) : Type 0 where
    pub long : length rounds ≡ length rounds₀
    pub long_parents : length parents ≡ length parents₀
    pub kept : (x : ℕ) → (get_or rounds₀ x 0 ≢ never) ⊎ (J ≤ x) →
        (get_or rounds x 0 ≡ get_or rounds₀ x 0) × (get_or parents x 0 ≡ get_or parents₀ x 0)
    pub reached : (x : ℕ) → x < J → get_or rounds₀ x 0 ≡ never →
        (get_or rounds x 0 ≡ never) ⊎ ((get_or rounds x 0 ≡ v) × Least (λ a. live a && test a x) I (get_or parents x 0))
    pub done : (x a : ℕ) → x < J → get_or rounds x 0 ≡ never → a < i → live a ≡ true → test a x ≡ false
    pub here : (x : ℕ) → x < J → x < j → get_or rounds x 0 ≡ never → live i ≡ true → test i x ≡ false

  module _ (i j : ℕ) (rounds parents : List ℕ) (scan : Scan i j rounds parents) where
    -- a number from which no other place is reached is passed
    scan_passed : ((x : ℕ) → x < J → get_or rounds x 0 ≡ never → live i ≡ true → test i x ≡ false) → Scan (i + 1) 0 rounds parents
    scan_passed none = record {
      long = scan.long;
      long_parents = scan.long_parents;
      kept = scan.kept;
      reached = scan.reached;
      done = λ x a p e l t. elim (cases_eq a i) [
        | inl same ↦ rw same (none x p e (rw (← same) t))
        | inr other ↦ scan.done x a p e (omega arith) t
      ];
      here = λ x _ l _ _. absurd (omega arith);
    }

    -- so is one that is not live
    pub scan_idle : live i ≡ false → Scan (i + 1) 0 rounds parents
    scan_idle f = scan_passed (λ x p e t. absurd (both_ways _ f t))

    -- and one whose places have all been looked at
    pub scan_next : J ≤ j → Scan (i + 1) 0 rounds parents
    scan_next end = scan_passed (λ x p e t. scan.here x p (omega arith) e t)

    -- a place that is reached already, or can't be from here, is passed
    pub scan_skip : (get_or rounds j 0 ≢ never) ⊎ (test i j ≡ false) → Scan i (j + 1) rounds parents
    scan_skip why = record {
      long = scan.long;
      long_parents = scan.long_parents;
      kept = scan.kept;
      reached = scan.reached;
      done = scan.done;
      here = λ x p l e t. elim (cases_eq x j) [
        | inl same ↦ elim why [ inl off ↦ absurd (off (rw (← same) e)) | inr f ↦ rw same f ]
        | inr other ↦ scan.here x p (omega arith) e t
      ];
    }

    -- a place is reached from here
    pub scan_mark : v ≢ never → J ≤ length rounds → J ≤ length parents → i < I → j < J → live i ≡ true → test i j ≡ true →
        get_or rounds j 0 ≡ never → Scan i (j + 1) (set rounds j v) (set parents j i)
    scan_mark sooner room room_p p q t u free =
        let inside : j < length rounds = omega arith in
        let inside_p : j < length parents = omega arith in
        let same_round : get_or (set rounds j v) j 0 ≡ v = get_or-set_same rounds j v 0 inside in
        let same_parent : get_or (set parents j i) j 0 ≡ i = get_or-set_same parents j i 0 inside_p in
        record {
          long = length-set rounds j v ∙ scan.long;
          long_parents = length-set parents j i ∙ scan.long_parents;
          kept = λ x why.
              let old = scan.kept x why in
              let off : x ≢ j = λ same. elim why [ inl ne ↦ ne (sym old.0 ∙ rw same free) | inr past ↦ omega arith ] in
              (get_or-set_other rounds j x v 0 off ∙ old.0, get_or-set_other parents j x i 0 off ∙ old.1);
          reached = λ x l e. elim (cases_eq x j) [
            | inl same ↦ rw same (inr (
              same_round,
              rw same_parent (record {
                below = p;
                has = and_from _ _ t u;
                first = λ a low. elim (cases_Bool (live a)) [
                  | inl alive ↦ and_right (live a) _ (scan.done j a q free low alive)
                  | inr dead ↦ and_left _ _ dead
                ];
              }),
            ))
            | inr off ↦ rw (get_or-set_other rounds j x v 0 off, get_or-set_other parents j x i 0 off) (scan.reached x l e)
          ];
          done = λ x a l e low alive. elim (cases_eq x j) [
            | inl same ↦ absurd (sooner (sym same_round ∙ sym (ap (λ (a : ℕ). get_or (set rounds j v) a 0) same) ∙ e))
            | inr off ↦ scan.done x a l (sym (get_or-set_other rounds j x v 0 off) ∙ e) low alive
          ];
          here = λ x l low e alive. elim (cases_eq x j) [
            | inl same ↦ absurd (sooner (sym same_round ∙ sym (ap (λ (a : ℕ). get_or (set rounds j v) a 0) same) ∙ e))
            | inr off ↦ scan.here x l (omega arith) (sym (get_or-set_other rounds j x v 0 off) ∙ e) alive
          ];
        }

    -- all numbers are done
    pub scan_end : I ≤ i → Spread test live I J v rounds₀ parents₀ rounds parents
    scan_end end = record {
      long = scan.long;
      long_parents = scan.long_parents;
      kept = scan.kept;
      reached = λ x l e. elim (scan.reached x l e) [
        | inl free ↦ free ∙ sym (pick_false {A = ℕ} _ v never (none x l free))
        | inr (is, first) ↦ is ∙ sym (pick_true {A = ℕ} _ v never (any_below_from _ I _ first.below first.has))
      ];
      parent = λ x l e any. elim (scan.reached x l e) [
        | inl free ↦ absurd (both_ways _ (none x l free) any)
        | inr (is, first) ↦ sym (least_one _ I _ first)
      ];
    }
      where
        none : (x : ℕ) → x < J → get_or rounds x 0 ≡ never → any_below (λ a. live a && test a x) I ≡ false
        none x l free = false_from_ne_true _ (λ any.
            let (a, low, both) = any_below_has _ I any in
            let parts = and_parts (live a) _ both in
            both_ways _ (scan.done x a l free (omega arith) parts.0) parts.1)

-- whatever the scan started from, it goes on from the places of the number i that the loop began with
abbrev pub Onward : (ℕ → ℕ → Bool) → (ℕ → Bool) → ℕ → ℕ → ℕ → ℕ → ℕ → (rounds₁ parents₁ rounds parents : List ℕ) → Type 0
Onward test live I J v i j rounds₁ parents₁ rounds parents =
    (rounds₀ parents₀ : List ℕ) → Scan test live I J v rounds₀ parents₀ i 0 rounds₁ parents₁ →
    Scan test live I J v rounds₀ parents₀ i j rounds parents

-- some place is reached in round v
abbrev pub some_reached : List ℕ → ℕ → ℕ → Bool
some_reached rounds v n = any_below (λ x. eqb (get_or rounds x 0) v) n

-- the place that was reached just now is
pub now_reached : (rounds : List ℕ) (v n j : ℕ) → j < n → n ≤ length rounds → true ≡ some_reached (set rounds j v) v n
now_reached rounds v n j l room =
    sym (any_below_from _ n j l (eq-eqb _ v (get_or-set_same rounds j v 0 (omega arith))))

module _ (test : ℕ → ℕ → Bool) (live : ℕ → Bool) (I J v i j : ℕ) (rounds₁ parents₁ rounds parents rounds' parents' : List ℕ)
    (so_far : Onward test live I J v i j rounds₁ parents₁ rounds parents) where
  -- a place is passed
  pub onward_skip : (get_or rounds j 0 ≢ never) ⊎ (test i j ≡ false) → rounds' ≡ rounds → parents' ≡ parents →
      Onward test live I J v i (j + 1) rounds₁ parents₁ rounds' parents'
  onward_skip why is is_p rounds₀ parents₀ start =
      rw (is, is_p) (scan_skip test live I J v rounds₀ parents₀ i j rounds parents (so_far rounds₀ parents₀ start) why)

  -- a place is reached
  pub onward_mark : v ≢ never → J ≤ length rounds → J ≤ length parents → i < I → j < J → live i ≡ true → test i j ≡ true →
      get_or rounds j 0 ≡ never → rounds' ≡ set rounds j v → parents' ≡ set parents j i →
      Onward test live I J v i (j + 1) rounds₁ parents₁ rounds' parents'
  onward_mark sooner room room_p p q t u free is is_p rounds₀ parents₀ start =
      rw (is, is_p) (scan_mark test live I J v rounds₀ parents₀ i j rounds parents (so_far rounds₀ parents₀ start) sooner room room_p p q t u free)

module _ (test : ℕ → ℕ → Bool) (live : ℕ → Bool) (I J v i j : ℕ) (rounds₀ parents₀ rounds₁ parents₁ rounds parents rounds' parents' : List ℕ)
    (start : Scan test live I J v rounds₀ parents₀ i 0 rounds₁ parents₁) where
  -- all places of a number are done
  pub onward_next : Onward test live I J v i j rounds₁ parents₁ rounds parents → J ≤ j → rounds' ≡ rounds → parents' ≡ parents →
      Scan test live I J v rounds₀ parents₀ (i + 1) 0 rounds' parents'
  onward_next so_far end is is_p =
      rw (is, is_p) (scan_next test live I J v rounds₀ parents₀ i j rounds parents (so_far rounds₀ parents₀ start) end)

-- a number that is not live is passed
pub onward_idle : (test : ℕ → ℕ → Bool) (live : ℕ → Bool) (I J v i : ℕ) (rounds₀ parents₀ rounds parents rounds' parents' : List ℕ) →
    Scan test live I J v rounds₀ parents₀ i 0 rounds parents → live i ≡ false → rounds' ≡ rounds → parents' ≡ parents →
    Scan test live I J v rounds₀ parents₀ (i + 1) 0 rounds' parents'
onward_idle test live I J v i rounds₀ parents₀ rounds parents rounds' parents' scan f is is_p =
    rw (is, is_p) (scan_idle test live I J v rounds₀ parents₀ i 0 rounds parents scan f)

-- nothing new is reached where a place is passed
pub reached_same : (rounds rounds' : List ℕ) (v n : ℕ) (b b' : Bool) → b ≡ some_reached rounds v n → rounds' ≡ rounds → b' ≡ b → b' ≡ some_reached rounds' v n
reached_same rounds rounds' v n b b' so_far is same = rw is (same ∙ so_far)

-- something new is
pub reached_now : (rounds rounds' : List ℕ) (v n j : ℕ) (b : Bool) → j < n → n ≤ length rounds → rounds' ≡ set rounds j v → b ≡ true → b ≡ some_reached rounds' v n
reached_now rounds rounds' v n j b l room is same = rw is (same ∙ now_reached rounds v n j l room)
