-- A cell past the table has no workshop. Assumes nothing.
use Rattle.std.proofs.Common.{◌≡◌, ℕ, ◌≤◌, arith}
use Rattle.survey.proofs.Cells.{none_counted, none_sum, two_le_sum}
use Rattle.survey.specs.Model.{size}
use Rattle.survey.specs.Page.{Survey, Sound}
use Rattle.survey.specs.Survey.{many, sum_at, largest, second}
use Rattle.sensitivity.specs.Profiles.{profile_of, no_profile}

-- its profile is the empty one
pub profile_past : (s : Survey) (c : ℕ) → Sound s → size s ≤ c → profile_of s.cells s.values c ≡ no_profile
profile_past s c sound past =
    let none : many c s.cells ≡ 0 = none_counted c s.cells (λ i below same. omega (arith, sound.inside i below)) in
    let nothing : sum_at c s.cells s.values ≡ 0 = none_sum c s.cells s.values none in
    let x1 : largest c s.cells s.values ≡ 0 = omega (arith, two_le_sum c s.cells s.values) in
    let x2 : second c s.cells s.values ≡ 0 = omega (arith, two_le_sum c s.cells s.values) in
    λ i. record { workshops = none i; sum = nothing i; largest = x1 i; second = x2 i }
