-- A trial whose pattern changes. Assumes nothing.
use Rattle.std.proofs.Common.{◌≡◌, ℕ, true, false, List, length, set, ◌∙◌, inl, inr, arith}
use Rattle.std.proofs.lemmas.Bool.{both_ways, cases_eq, cases_lt}
use Rattle.std.proofs.lemmas.List.{get_or-set_same, get_or-set_other, get_or_past}
use Rattle.std.proofs.lemmas.List.Elements.{All-weaker}
use Rattle.survey.specs.Model.{size}
use Rattle.survey.specs.Page.{Survey, Pattern, hidden}
use Rattle.cut.specs.Scratched.{Roomy}
use Rattle.cut.specs.declared.scratch.Scratch.{Scratch}
use Rattle.search.specs.Lacking.{Known}
use Rattle.search.specs.Trials.{Tries}
use Rattle.search.specs.declared.lacking.Lacking.{Lacking}
use Rattle.search.proofs.Keeping.{known_more}

-- what is blank stays so where another cell is made blank
pub blank_still : (h : Pattern) (d c : ℕ) → hidden h c ≡ true → hidden (set h d true) c ≡ true
blank_still h d c blank = elim (cases_eq c d) [
  | inl same ↦ elim (cases_lt d (length h)) [
    | inl within ↦ rw same (get_or-set_same h d true false within)
    | inr past ↦ absurd (both_ways _ (get_or_past h c false (omega arith)) blank)
  ]
  | inr other ↦ get_or-set_other h d c true false other ∙ blank
]

-- more cells are blank
pub tries_more : (s : Survey) (h g : Pattern) (ls : List Lacking) (x y : Scratch) → ((d : ℕ) → hidden h d ≡ true → hidden g d ≡ true) →
    length g ≡ size s → Roomy (size s) y → Tries s h ls x → Tries s g ls y
tries_more s h g ls x y more long roomy tries = record {
  long = long;
  blank = λ c inside lacking. more c (tries.blank c inside lacking);
  listed = tries.listed;
  known = All-weaker (Known s h) (Known s g) (known_more s h g more) ls tries.known;
  roomy = roomy;
}
