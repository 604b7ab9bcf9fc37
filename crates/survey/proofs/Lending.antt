-- Lent memory that is filled place by place. Assumes nothing.
use Rattle.std.proofs.Common.{◌≡◌, ℕ, ◌+◌, ◌<◌, ◌≤◌, ◌≢◌, List, length, set, refl, ◌∙◌, inl, inr, arith}
use Rattle.std.proofs.lemmas.List.{length-set, get_or-set_same, get_or-set_other}
use Rattle.std.proofs.lemmas.Bool.{cases_eq}
use Rattle.survey.specs.Lending.{Written}

-- nothing is written yet
pub written_none : {X : Type 0} (z : X) (f : ℕ → X) (xs : List X) → Written z f 0 xs xs
written_none z f xs = record { long = refl; here = λ d below. absurd (omega arith); past = λ d above. refl }

module _ {X : Type 0} (z : X) (f : ℕ → X) (n : ℕ) (before now : List X) (so_far : Written z f n before now) where
  -- one entry more
  pub written_more : (v : X) → n < length before → v ≡ f n → Written z f (n + 1) before (set now n v)
  written_more v room is =
      let inside : n < length now = omega (arith, so_far.long) in
      record {
        long = length-set now n v ∙ so_far.long;
        here = λ d below. elim (cases_eq d n) [
          | inl same ↦ rw same (get_or-set_same now n v z inside ∙ is)
          | inr other ↦ get_or-set_other now n d v z other ∙ so_far.here d (omega arith)
        ];
        past = λ d above. get_or-set_other now n d v z (λ same. omega arith) ∙ so_far.past d (omega arith);
      }

  -- one entry is another value now
  pub written_changed : (g : ℕ → X) (at : ℕ) (v : X) → at < n → n ≤ length before → v ≡ g at → ((d : ℕ) → d ≢ at → f d ≡ g d) →
      Written z g n before (set now at v)
  written_changed g at v within room is others =
      let inside : at < length now = omega (arith, so_far.long) in
      record {
        long = length-set now at v ∙ so_far.long;
        here = λ d below. elim (cases_eq d at) [
          | inl same ↦ rw same (get_or-set_same now at v z inside ∙ is)
          | inr other ↦ get_or-set_other now at d v z other ∙ so_far.here d below ∙ others d other
        ];
        past = λ d above. get_or-set_other now at d v z (λ same. omega arith) ∙ so_far.past d above;
      }
