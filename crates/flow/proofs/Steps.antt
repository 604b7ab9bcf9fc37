-- The rounds and the origins of steps, as lists of numbers.
use Rattle.std.proofs.Common.{◌≡◌, ℕ, ◌<◌, Bool, true, false, not, eqb, ◌≢◌, List, length, get_or, set, Some, None, Option, is_some, sym, refl, ap, ◌∙◌, arith}
use Rattle.std.proofs.lemmas.List.{length-map, map-set, get_or-map}
use Rattle.std.proofs.lemmas.Bool.{ne_eqb, not_from_false}
use Rattle.flow.specs.Searching.{never, round_of, parent_of, rounds, parents}
use Rattle.flow.specs.declared.step.Step.{Step}

pub length-rounds : (xs : List (Option Step)) → length xs ≡ length (rounds xs)
length-rounds xs = sym (length-map xs round_of)

pub length-parents : (xs : List (Option Step)) → length xs ≡ length (parents xs)
length-parents xs = sym (length-map xs parent_of)

pub rounds_set : (xs : List (Option Step)) (i : ℕ) (x : Option Step) → rounds (set xs i x) ≡ set (rounds xs) i (round_of x)
rounds_set = map-set round_of

pub parents_set : (xs : List (Option Step)) (i : ℕ) (x : Option Step) → parents (set xs i x) ≡ set (parents xs) i (parent_of x)
parents_set = map-set parent_of

-- what has a step has a round
reached_early : (x : Option Step) → is_some x ≡ not (eqb (round_of x) never)
reached_early None = refl
reached_early (Some step) = sym (not_from_false _ (ne_eqb step.round never (omega (arith, step.early))))

pub some_known : (xs : List (Option Step)) (i : ℕ) → i < length xs → is_some (get_or xs i None) ≡ not (eqb (get_or (rounds xs) i 0) never)
some_known xs i l = reached_early (get_or xs i None) ∙ sym (ap (λ (n : ℕ). not (eqb n never)) (get_or-map round_of xs i None 0 l))

-- what was told of the step at place i; d is what would be read past the end
module _ (xs : List (Option Step)) (i : ℕ) (d : Option Step) (inside : i < length xs) (b : Bool) where
  round_is : get_or (rounds xs) i 0 ≡ round_of (get_or xs i d)
  round_is = get_or-map round_of xs i d 0 inside

  pub round_told : (n : ℕ) (v : Bool) → b ≡ eqb (round_of (get_or xs i d)) n → b ≡ v → eqb (get_or (rounds xs) i 0) n ≡ v
  round_told n v told was = ap (λ (m : ℕ). eqb m n) round_is ∙ sym told ∙ was

  pub none_told : is_some (get_or xs i d) ≡ not b → b ≡ true → get_or (rounds xs) i 0 ≡ never
  none_told told was = round_is ∙ never_of (get_or xs i d) (told ∙ ap not was)
    where
      never_of : (x : Option Step) → is_some x ≡ false → round_of x ≡ never
      never_of None e = refl
      never_of (Some step) e = absurd cc

  pub some_told : is_some (get_or xs i d) ≡ not b → b ≡ false → get_or (rounds xs) i 0 ≢ never
  some_told told was e = early (get_or xs i d) (told ∙ ap not was) (sym round_is ∙ e)
    where
      early : (x : Option Step) → is_some x ≡ true → round_of x ≡ never → ⊥
      early None t e = absurd cc
      early (Some step) t e = absurd (omega (arith, step.early))
