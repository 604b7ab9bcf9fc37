-- Other cell sums that are a witness for workshop b's cell give turnovers for which any other workshop a sees the same
-- page and its own turnover, and b has enough more.
use Rattle.std.proofs.Common.{◌≡◌, ℕ, ◌+◌, ◌*◌, ◌<◌, ◌≤◌, false, ◌≢◌, ◌⊎◌, List, length, get_or, sym, refl, ap, ◌∙◌, inl, inr, arith}
use Rattle.std.proofs.lemmas.Bool.{cases_lt, cases_eq}
use Rattle.std.proofs.lemmas.Nat.{mul-le, mul-add-lt}
use Rattle.survey.specs.Survey.{cell_sum, column_sum, sum_at, open_above, lacks}
use Rattle.survey.specs.Page.{Survey, Pattern, Sound, Agrees, Open, Witness, hidden, span}
use Rattle.survey.proofs.Spans.{span_cong}
use Rattle.survey.proofs.Cells.{pick_eqb, one_le_largest, pair_le_two, largest_le_sum, lacks_covers, open_above_le}
use Rattle.survey.proofs.Totals.{row_is_span, column_is_span, cell_past, column_past}
use Rattle.pattern.proofs.Takers.{share, share_le_largest, world, world_length, world_own, world_taker, world_sum}

-- turnovers that have a witness's cell sums give the same page
agrees_by_cells : (s : Survey) (h : Pattern) (c : ℕ) (w : List ℕ) → Sound s → (y : Witness s h c) → length w ≡ length s.values →
    ((d : ℕ) → d < s.rows * s.columns → cell_sum s.cells w d ≡ y.sums d) → Agrees s h w
agrees_by_cells s h c w sound y each same = record {
  each = each;
  rows = λ r. row_is_span C cells w r some ∙ by_rows r (cases_lt r R) ∙ sym (row_is_span C cells values r some);
  columns = λ k. by_columns k (cases_lt k C);
  printed = λ d e. by_cells d e (cases_lt d (R * C));
}
  where
    R : ℕ
    R = s.rows

    C : ℕ
    C = s.columns

    cells : List ℕ
    cells = s.cells

    values : List ℕ
    values = s.values

    some : 0 < C
    some = sound.some_columns

    past : (d : ℕ) → R * C ≤ d → cell_sum cells w d ≡ cell_sum cells values d
    past d l = cell_past (R * C) cells w d sound.inside l ∙ sym (cell_past (R * C) cells values d sound.inside l)

    by_rows : (r : ℕ) → (r < R) ⊎ (R ≤ r) → span (λ k. cell_sum cells w (r * C + k)) C ≡ span (λ k. cell_sum cells values (r * C + k)) C
    by_rows r (inl l) =
        span_cong (λ k. cell_sum cells w (r * C + k)) (λ k. y.sums (r * C + k)) C
        (λ k m. same (r * C + k) (omega (arith, mul-add-lt r C k R l m)))
        ∙ y.by_row r l
    by_rows r (inr l) =
        span_cong (λ k. cell_sum cells w (r * C + k)) (λ k. cell_sum cells values (r * C + k)) C
        (λ k m. past (r * C + k) (omega (arith, mul-le R C r C l (omega arith))))

    by_columns : (k : ℕ) → (k < C) ⊎ (C ≤ k) → column_sum C cells w k ≡ column_sum C cells values k
    by_columns k (inl l) =
        column_is_span R C cells w k l sound.inside
        ∙ span_cong (λ r. cell_sum cells w (r * C + k)) (λ r. y.sums (r * C + k)) R
        (λ r m. same (r * C + k) (omega (arith, mul-add-lt r C k R m l)))
        ∙ y.by_column k l ∙ sym (column_is_span R C cells values k l sound.inside)
    by_columns k (inr l) = column_past C cells w k some l ∙ sym (column_past C cells values k some l)

    by_cells : (d : ℕ) → hidden h d ≡ false → (d < R * C) ⊎ (R * C ≤ d) → cell_sum cells w d ≡ cell_sum cells values d
    by_cells d e (inl l) = same d l ∙ y.printed d e
    by_cells d e (inr l) = past d l

-- a cell raised by what it lacks has room for a's share, and for b's turnover and what must stay open above it
room : (p a b : ℕ) (ms vs : List ℕ) → a ≢ b → a < length ms → b < length ms →
    get_or vs b 0 + open_above p (get_or vs b 0) + share ms vs a (get_or ms b 0) ≤ sum_at (get_or ms b 0) ms vs + lacks p ms vs (get_or ms b 0)
room p a b ms vs ne ha hb =
    let below = one_le_largest (get_or ms b 0) b ms vs hb refl in
    let covers = lacks_covers p (get_or ms b 0) ms vs in
    let more = open_above_le p (get_or vs b 0) _ below in
    elim (pick_eqb (get_or ms a 0) (get_or ms b 0) (get_or vs a 0) 0) [
      | inl q ↦ omega (arith, pair_le_two (get_or ms b 0) a b ms vs ne ha hb q.0 refl)
      | inr q ↦ omega arith
    ]

-- in each cell a witness leaves workshop a its share
leaves_share : (s : Survey) (h : Pattern) (c : ℕ) (y : Witness s h c) (a d : ℕ) → a < length s.cells → share s.cells s.values a d ≤ y.sums d
leaves_share s h c y a d ha =
    let mine = share_le_largest s.cells s.values a d ha in
    elim (cases_eq d c) [
      | inl e ↦ omega (arith, largest_le_sum d s.cells s.values, y.higher, ap y.sums e, ap (λ k. sum_at k s.cells s.values) e)
      | inr ne ↦ omega (arith, y.not_below d ne)
    ]

-- a witness for b's cell opens b to any other workshop a
pub opens : (s : Survey) (h : Pattern) (a b : ℕ) → Sound s → a < length s.values → b < length s.values → a ≢ b →
    Witness s h (get_or s.cells b 0) → Open s h a b
opens s h a b sound la lb ne y =
    let each = sound.each in
    let ha : a < length s.cells = omega arith in
    let hb : b < length s.cells = omega arith in
    let size : ℕ = s.rows * s.columns in
    record {
      world = world s.cells s.values size a b y.sums;
      agrees = agrees_by_cells s h _ _ sound y (world_length s.cells s.values size a b y.sums each ne ha hb)
          (λ d l. world_sum s.cells s.values size a b y.sums each ne ha hb d (omega arith) (leaves_share s h _ y a d ha) (y.alone d));
      own = world_own s.cells s.values size a b y.sums each ne ha hb;
      above = omega (
        arith,
        world_taker s.cells s.values size a b y.sums each ne ha hb,
        room s.percent a b s.cells s.values ne ha hb,
        y.higher,
      );
    }
