-- The refusal of the first odd byte, from its place. Assumes nothing.
use Rattle.std.proofs.Common.{◌≡◌, ℕ, ◌+◌, ltb, List, [], ◌∷◌, refl, ap, sym, ◌∙◌, arith}
use Rattle.std.proofs.lemmas.Bool.Decides.{nat_tests}
use Rattle.std.proofs.lemmas.Iterator.Adapters.{position_from-zero}
use Rattle.std.specs.List.{position, position_from}
use Rattle.std.specs.Option.{option_map}
use Rattle.survey.specs.declared.refusal.Refusal.TheVariants.{Pattern}
use Rattle.pattern.specs.Blanks.{first_odd}

-- where the list's first byte has the number i
odd_from : (bytes : List ℕ) (i : ℕ) → first_odd bytes i ≡ option_map Pattern (position_from (λ b. ltb 1 b) i bytes)
odd_from [] i = refl
odd_from (b ∷ bs) i = grind (arith, nat_tests, odd_from bs (i + 1))

-- from its place in the list
pub odd_is : (bytes : List ℕ) → first_odd bytes 0 ≡ option_map Pattern (position (λ b. ltb 1 b) bytes)
odd_is bytes = odd_from bytes 0 ∙ ap (option_map Pattern) (sym (position_from-zero (λ b. ltb 1 b) bytes))
