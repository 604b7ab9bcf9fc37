-- What the head says and what no workshop is refused for make the survey's invariant.
use Rattle.std.proofs.Common.{◌≡◌, ℕ, ◌*◌, ◌<◌, map, vec_len, get_or, ap, ◌∙◌, arith}
use Rattle.std.proofs.lemmas.Simd.{map-map}
use Rattle.std.specs.List.{range_with_len}
use Rattle.survey.proofs.Decoding.{InOrder, none_bad, workshops_decide, read_length, read_item}
use Rattle.survey.specs.Format.{decoded}
use Rattle.survey.specs.Model.{cells_of, turnovers_of}
use Rattle.survey.specs.Reading.{workshop_in}
use Rattle.survey.specs.declared.workshop.Workshop.{Workshop}
use Rattle.survey.proofs.reading.read.Goals as goal
use Rattle.survey.proofs.reading.read.Goals.{In_ok-workshops}

module _ (c : In_ok-workshops) where
  -- as many as the head announces
  many : vec_len c.in_ok-workshops.workshops ≡ c.in_ok-head.head.workshops
  many = c.in_ok-workshops.workshops.ok.0 ∙ read_length _ _ _ c.in_ok-workshops.ensures

  -- each is the one in the bytes
  item : (k : ℕ) (d : Workshop) → k < vec_len c.in_ok-workshops.workshops →
      get_or c.in_ok-workshops.workshops.items k d ≡ workshop_in c.args.bytes.now k
  item k d below = read_item _ _ _ c.in_ok-workshops.ensures k d (omega (arith, many))

  -- and in order
  each_in_order : (k : ℕ) → k < vec_len c.in_ok-workshops.workshops →
      InOrder c.args.bytes.now (c.in_ok-head.head.rows * c.in_ok-head.head.columns) k
  each_in_order k below = none_bad c.args.bytes.now _ 0 c.in_ok-head.head.workshops c.in_ok-check_workshops.ensures k (omega arith) (omega (arith, many))

pub invariant_of-result-clause-few : goal.invariant_of-result-clause-few
invariant_of-result-clause-few c = omega (arith, many c, c.in_ok-head.ensures.few)

pub invariant_of-result-clause-inside : goal.invariant_of-result-clause-inside
invariant_of-result-clause-inside c = λ k d below. rw (item c k d below) ((each_in_order c k below).0)

pub invariant_of-result-clause-in_range : goal.invariant_of-result-clause-in_range
invariant_of-result-clause-in_range c = λ k d below. rw (item c k d below) ((each_in_order c k below).1)

pub returns : goal.returns
unfolding decoded
returns c =
    let h = c.in_ok-head.ensures in
    let bytes = c.args.bytes.now in
    let read = c.in_ok-workshops.ensures ∙ ap (λ (n : ℕ). map (workshop_in bytes) (range_with_len 0 n)) h.workshops in
    record {
      taken = workshops_decide _ _ h ∙ c.in_ok-check_workshops.ensures;
      survey = λ i. record {
        rows = h.rows i;
        columns = h.columns i;
        percent = h.percent i;
        cells = (ap cells_of read ∙ map-map (λ (w : Workshop). w.cell) (workshop_in bytes) _) i;
        values = (ap turnovers_of read ∙ map-map (λ (w : Workshop). w.turnover) (workshop_in bytes) _) i;
      };
    }
