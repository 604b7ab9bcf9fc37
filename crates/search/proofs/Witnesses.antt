-- A witness in other patterns: with more cells blank, with a cell printed that it leaves at its true sum, and cut down to
-- the table.
use Rattle.std.proofs.Common.{◌≡◌, ℕ, ◌+◌, ◌*◌, ◌<◌, ◌≤◌, true, false, ltb, length, set, ap, ◌∙◌, inl, inr, arith}
use Rattle.std.proofs.lemmas.Bool.{cases_lt, cases_eq, cases_Bool, both_ways, lt-ltb, le-ltb}
use Rattle.std.proofs.lemmas.List.{length-set, get_or-set_same, get_or-set_other, get_or_past}
use Rattle.std.proofs.lemmas.Nat.{mul-add-lt}
use Rattle.survey.specs.Survey.{pick}
use Rattle.survey.specs.Page.{Survey, Pattern, Witness, Protected, hidden, need, true_sum}
use Rattle.survey.specs.Promise.{all_hidden}
use Rattle.survey.proofs.Spans.{span_cong}
use Rattle.survey.proofs.Cells.{largest_le_sum, pick_true, pick_false}
use Rattle.survey.specs.Model.{size}
use Rattle.search.specs.Search.{}
use Rattle.search.proofs.Patterns.{all_hidden_at}

-- a cell that is printed is not blank
pub printed_shows : (h : Pattern) (d : ℕ) → hidden (set h d false) d ≡ false
printed_shows h d = elim (cases_lt d (length h)) [
  | inl l ↦ get_or-set_same h d false false l
  | inr past ↦ get_or_past (set h d false) d false (omega (arith, length-set h d false))
]

-- what is blank after a cell is printed was blank before
pub printed_fewer : (h : Pattern) (d c : ℕ) → hidden (set h d false) c ≡ true → hidden h c ≡ true
printed_fewer h d c blank = elim (cases_eq c d) [
  | inl e ↦ absurd (both_ways _ (ap (λ x. hidden (set h d false) x) e ∙ printed_shows h d) blank)
  | inr ne ↦ rw (get_or-set_other h d c false false ne) at blank
]

-- where g hides no more than h, the same holds with one cell printed in both
pub printed_both : (h g : Pattern) (d : ℕ) → ((c : ℕ) → hidden g c ≡ true → hidden h c ≡ true) →
    (c : ℕ) → hidden (set g d false) c ≡ true → hidden (set h d false) c ≡ true
printed_both h g d fewer c blank = elim (cases_eq c d) [
  | inl e ↦ absurd (both_ways _ (ap (λ x. hidden (set g d false) x) e ∙ printed_shows g d) blank)
  | inr ne ↦ get_or-set_other h d c false false ne ∙ fewer c (printed_fewer g d c blank)
]

-- a cell that lacks something and has a witness is blank
pub witness_blank : (s : Survey) (h : Pattern) (c : ℕ) → 0 < need s c → Witness s h c → hidden h c ≡ true
witness_blank s h c lacking w = elim (cases_Bool (hidden h c)) [
  | inl blank ↦ blank
  | inr shows ↦ absurd (omega (arith, w.higher, w.printed c shows))
]

-- sums cut down to the table: past it the true ones
abbrev cut : Survey → (ℕ → ℕ) → ℕ → ℕ
cut s y d = pick (ltb d (size s)) (y d) (true_sum s d)

-- in the table they are as they were
cut_inside : (s : Survey) (y : ℕ → ℕ) (d : ℕ) → d < size s → cut s y d ≡ y d
cut_inside s y d l = pick_true _ _ _ (lt-ltb d (size s) l)

-- past it they are the true ones
cut_past : (s : Survey) (y : ℕ → ℕ) (d : ℕ) → size s ≤ d → cut s y d ≡ true_sum s d
cut_past s y d l = pick_false _ _ _ (le-ltb d (size s) l)

-- a witness in any pattern, cut down to the table, is one with all cells blank
pub witness_all : (s : Survey) (h : Pattern) (c : ℕ) → c < size s → Witness s h c → Witness s (all_hidden (size s)) c
witness_all s h c inside w = record {
  sums = cut s w.sums;
  by_row = λ r l.
      span_cong (λ k. cut s w.sums (r * s.columns + k)) (λ k. w.sums (r * s.columns + k)) s.columns
      (λ k m. cut_inside s w.sums _ (omega (arith, mul-add-lt r s.columns k s.rows l m)))
      ∙ w.by_row r l;
  by_column = λ k l.
      span_cong (λ r. cut s w.sums (r * s.columns + k)) (λ r. w.sums (r * s.columns + k)) s.rows
      (λ r m. cut_inside s w.sums _ (omega (arith, mul-add-lt r s.columns k s.rows m l)))
      ∙ w.by_column k l;
  printed = λ d shows. elim (cases_lt d (size s)) [
    | inl l ↦ absurd (both_ways _ shows (all_hidden_at (size s) d l))
    | inr past ↦ cut_past s w.sums d past
  ];
  higher = omega (arith, w.higher, cut_inside s w.sums c inside);
  not_below = λ d ne. elim (cases_lt d (size s)) [
    | inl l ↦ omega (arith, w.not_below d ne, cut_inside s w.sums d l)
    | inr past ↦ omega (arith, largest_le_sum d s.cells s.values, cut_past s w.sums d past)
  ];
  alone = λ d ne few. elim (cases_lt d (size s)) [
    | inl l ↦ cut_inside s w.sums d l ∙ w.alone d ne few
    | inr past ↦ cut_past s w.sums d past
  ];
}

-- where some pattern protects, all cells blank do
pub protected_all : (s : Survey) (h : Pattern) → Protected s h → Protected s (all_hidden (size s))
unfolding Protected
protected_all s h protects c l lacking = witness_all s h c l (protects c l lacking)
