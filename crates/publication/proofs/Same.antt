-- The text is made of the sums and the printed cells alone.
use Rattle.std.proofs.Common.{◌≡◌, ℕ, zero, suc, ◌+◌, ◌*◌, Bool, true, false, List, [], ◌∷◌, decimal, sym, refl, ap, ◌∙◌}
use Rattle.survey.specs.Page.{Survey, Pattern, hidden, true_sum, Sound, Agrees, Open, Safe}
use Rattle.survey.specs.Promise.{AddsUp}
use Rattle.survey.specs.Survey.{pick, row_sum, sum_of_all}
use Rattle.survey.proofs.Spans.{span_cong}
use Rattle.survey.proofs.Totals.{adds_up}
use Rattle.publication.specs.Text.{entry, row_text, row_line, row_lines, column_text, sums_line, page_text}
use Rattle.publication.specs.Worlds.{with_values, OpenText, SafeText, SameText}

module _ (s : Survey) (h : Pattern) (w : List ℕ) (agrees : Agrees s h w) where
  -- a blank stands for any sum, and a printed cell's sum is kept
  same_entry : (d : ℕ) → entry (with_values s w) h d ≡ entry s h d
  unfolding entry
  same_entry d = at (hidden h d) refl
    where
      at : (b : Bool) → hidden h d ≡ b → pick b (45 ∷ []) (decimal (true_sum (with_values s w) d)) ≡ pick b (45 ∷ []) (decimal (true_sum s d))
      at true e = refl
      at false e = ap decimal (agrees.printed d e)

  same_row_text : (r n : ℕ) → row_text (with_values s w) h r n ≡ row_text s h r n
  unfolding row_text
  same_row_text r zero = refl
  same_row_text r (suc n) =
      let before = same_row_text r n in
      let here = same_entry (r * s.columns + n) in
      cc

  same_row_line : (r : ℕ) → row_line (with_values s w) h r ≡ row_line s h r
  unfolding row_line
  same_row_line r =
      let cells = same_row_text r s.columns in
      let sum = agrees.rows r in
      cc

  same_row_lines : (n : ℕ) → row_lines (with_values s w) h n ≡ row_lines s h n
  unfolding row_lines
  same_row_lines zero = refl
  same_row_lines (suc n) =
      let before = same_row_lines n in
      let here = same_row_line n in
      cc

  same_column_text : (n : ℕ) → column_text (with_values s w) n ≡ column_text s n
  unfolding column_text
  same_column_text zero = refl
  same_column_text (suc n) =
      let before = same_column_text n in
      let here = agrees.columns n in
      cc

  module _ (sound : Sound s) where
    -- the survey with the other turnovers is in order too
    sound_too : Sound (with_values s w)
    sound_too = record { some_columns = sound.some_columns; each = agrees.each ∙ sound.each; inside = sound.inside }

    -- the rows keep their sums, and so do all together
    same_total : sum_of_all w ≡ sum_of_all s.values
    unfolding AddsUp
    same_total =
        sym (adds_up (with_values s w) sound_too).1
        ∙ span_cong (λ r. row_sum s.columns s.cells w r) (λ r. row_sum s.columns s.cells s.values r) s.rows (λ r below. agrees.rows r)
        ∙ (adds_up s sound).1

    same_sums_line : sums_line (with_values s w) ≡ sums_line s
    unfolding sums_line
    same_sums_line =
        let columns = same_column_text s.columns in
        let total = same_total in
        cc

    same_page : page_text (with_values s w) h ≡ page_text s h
    unfolding page_text
    same_page =
        let rows = same_row_lines s.rows in
        let sums = same_sums_line in
        cc

-- who is open is open to a reader of the text
open_text : (s : Survey) (h : Pattern) (a b : ℕ) → Sound s → Open s h a b → OpenText s h a b
open_text s h a b sound is =
    record {
      world = is.world;
      each = is.agrees.each;
      page = same_page s h is.world is.agrees sound;
      own = is.own;
      above = is.above;
    }

-- a safe page's text is safe
safe_text : (s : Survey) (h : Pattern) → Sound s → Safe s h → SafeText s h
unfolding Safe SafeText
safe_text s h sound safe a b l m ne = open_text s h a b sound (safe a b l m ne)

pub same_text : SameText
unfolding SameText
same_text = (λ s h w sound agrees. same_page s h w agrees sound, open_text, safe_text)
