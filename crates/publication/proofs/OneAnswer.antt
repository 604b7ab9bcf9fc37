-- An audit has one answer at most, and its rows and columns are a bar.
use Rattle.std.proofs.Common.{◌≡◌, ℕ, ◌<◌, Bool, true, false, List, get_or, sym, refl, ap, ◌∙◌, subst, inl, inr, arith}
use Rattle.std.proofs.lemmas.List.{ext_get_or}
use Rattle.std.proofs.lemmas.Bool.{cases_eq, cases_lt, both_ways}
use Rattle.survey.specs.Page.{Survey, Pattern, hidden, Protected}
use Rattle.survey.specs.Promise.{OneOrOther}
use Rattle.cut.specs.Least.{LeastCut}
use Rattle.cut.proofs.BarLaw.{bar_closed, closed_bar}
use Rattle.cut.proofs.Least.{least_rows, least_columns}
use Rattle.cut.proofs.OneOrOther.{one_or_other}
use Rattle.publication.specs.Audit.{protected, printed, barred, FirstOpen, Forty, Audited, OneAnswer, PrintedOpen, BarredByBar}

-- a witness has the printed cell's own sum, and would have to have more
pub printed_open : PrintedOpen
unfolding PrintedOpen
printed_open s h c out lacks w = omega (arith, w.printed c out, w.higher)

module _ (s : Survey) (h : Pattern) where
  -- there is one first open cell at most
  same_cell : (c d : ℕ) → FirstOpen s h c → FirstOpen s h d → c ≡ d
  same_cell c d p q = elim (cases_eq c d) [
    | inl e ↦ e
    | inr ne ↦ elim (cases_lt c d) [
      | inl l ↦ absurd (p.none (q.before c l p.lacks))
      | inr l ↦ absurd (q.none (p.before d (omega arith) q.lacks))
    ]
  ]

  -- where the pattern protects no cell is open
  none_open : (c : ℕ) → Protected s h → FirstOpen s h c → ⊥
  unfolding Protected
  none_open c all p = p.none (all c p.inside p.lacks)

  -- an open cell is blank or printed
  not_both : (c d : ℕ) → FirstOpen s h c → hidden h c ≡ false → FirstOpen s h d → hidden h d ≡ true → ⊥
  not_both c d p out q blank = both_ways (hidden h d) (ap (hidden h) (sym (same_cell c d p q)) ∙ out) blank

  -- forty marks that are the same in the table are the same
  same_marks : (n : ℕ) (xs ys : List Bool) → Forty n xs → Forty n ys → ((i : ℕ) → i < n → get_or xs i false ≡ get_or ys i false) → xs ≡ ys
  same_marks n xs ys p q inside = ext_get_or false xs ys (p.long ∙ sym q.long) (λ i l. elim (cases_lt i n) [
    | inl b ↦ inside i b
    | inr b ↦ p.past i b ∙ sym (q.past i b)
  ])

-- one answer at most
pub one_answer : OneAnswer
unfolding OneAnswer Audited
one_answer s h protected protected p q = refl
one_answer s h protected (printed d) p q = absurd (none_open s h d p q.0)
one_answer s h protected (barred d rs ks) p q = absurd (none_open s h d p q.0)
one_answer s h (printed c) protected p q = absurd (none_open s h c q p.0)
one_answer s h (printed c) (printed d) p q = ap printed (same_cell s h c d p.0 q.0)
one_answer s h (printed c) (barred d rs ks) p q = absurd (not_both s h c d p.0 p.1 q.0 q.1)
one_answer s h (barred c rs ks) protected p q = absurd (none_open s h c q p.0)
one_answer s h (barred c rs ks) (printed d) p q = absurd (not_both s h d c q.0 q.1 p.0 p.1)
one_answer s h (barred c rs ks) (barred d rs' ks') p q =
    let cell = same_cell s h c d p.0 q.0 in
    let least = subst (λ e. LeastCut s h e rs' ks') (sym cell) q.2 in
    let rows = same_marks s h s.rows rs rs' p.3 q.3 (least_rows s h c rs ks rs' ks' p.2 least) in
    let columns = same_marks s h s.columns ks ks' p.4 q.4 (least_columns s h c rs ks rs' ks' p.2 least) in
    cc

-- there is a bar, since there is no witness; and the least cut lets no more leave than that
pub barred_by_bar : BarredByBar
unfolding BarredByBar Audited OneOrOther
barred_by_bar s h c rs ks sound p = elim (one_or_other s h c sound p.0.inside p.1 p.0.lacks) [
  | inl w ↦ absurd (p.0.none w)
  | inr found ↦
      let bar = found.2 in
      closed_bar s h c rs ks p.2.closed
      (omega (arith, bar.little, p.2.least found.0 found.1 (bar_closed s h c found.0 found.1 bar)))
]
