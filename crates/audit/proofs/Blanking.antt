-- Memory that a pattern's bytes were written to holds the pattern that they say. Assumes nothing.
use Rattle.std.proofs.Common.{◌≡◌, ℕ, ◌<◌, Bool, true, false, eqb, List, length, None, Option, sym, refl, ◌∙◌, arith}
use Rattle.std.proofs.lemmas.List.{ext_get_or, length-map, get_or-map}
use Rattle.std.proofs.lemmas.Bool.{eqb-true}
use Rattle.pattern.specs.Blanks.{byte_blank, pattern_verdict}
use Rattle.survey.specs.Format.{unless}
use Rattle.survey.specs.Lending.{Written}
use Rattle.survey.specs.declared.refusal.Refusal.{Refusal}
use Rattle.audit.specs.Judges.{pattern_of}

-- where nothing is refused the test held
unless_held : (b : Bool) (e : Refusal) (rest : Option Refusal) → unless b e rest ≡ None → b ≡ true
unless_held true e rest none = refl
unless_held false e rest none = let z : ◌≡◌ {A = ℕ} 0 1 = cc in absurd (omega arith)

-- bytes that are taken are as many as the table has cells
pub taken_long : (n : ℕ) (bytes : List ℕ) (room : ℕ) → pattern_verdict n bytes room ≡ None → length bytes ≡ n
taken_long n bytes room none = eqb-true (length bytes) n (unless_held (eqb (length bytes) n) _ _ none)

-- what was written is the pattern
pub wrote_pattern : (n : ℕ) (bytes : List ℕ) (before after : List Bool) → length bytes ≡ n → length before ≡ n → Written false (byte_blank bytes) n before after →
    after ≡ pattern_of bytes
wrote_pattern n bytes before after many long wrote =
    let as_long : length after ≡ length (pattern_of bytes) = wrote.long ∙ long ∙ sym many ∙ sym (length-map bytes (λ b. eqb b 1)) in
    ext_get_or false after (pattern_of bytes) as_long (λ d below.
    let inside : d < n = omega (arith, wrote.long) in
    wrote.here d inside ∙ sym (get_or-map (λ b. eqb b 1) bytes d 0 false (omega arith)))
