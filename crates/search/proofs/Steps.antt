-- Cells printed again one after another, as a program goes.
use Rattle.std.proofs.Common.{◌≡◌, ℕ, ◌+◌, ◌<◌, Bool, true, false, MatchBool, List, [], ◌∷◌, length, take, get_or, set, refl, ap, arith, sym, ◌∙◌, subst, add-one}
use Rattle.std.proofs.Math.Seq.{take-append_seam}
use Rattle.std.proofs.lemmas.List.{length_push, length-take, get_or_push, get_or-take, take-take}
use Rattle.std.specs.List.{push}
use Rattle.survey.specs.Page.{Survey, Pattern, Protected}
use Rattle.search.specs.Search.{PrintedBack}
use Rattle.search.specs.declared.ranking.Ranked.{Ranked}
use Rattle.search.proofs.Blanking.{ranked_at}
use Rattle.search.specs.Search.PrintedBack.{done, prints, keeps}

-- from pattern h₀ and the first k of cs the printing has come to h, with the first i left to look at
abbrev pub ComeTo : Survey → List ℕ → ℕ → Pattern → ℕ → Pattern → Type 0
ComeTo s cs k h₀ i h = (g : Pattern) → PrintedBack s cs i h g → PrintedBack s cs k h₀ g

module _ (s : Survey) (cs : List ℕ) (k : ℕ) (h₀ : Pattern) where
  -- it begins
  pub come_first : ComeTo s cs k h₀ k h₀
  come_first g p = p

  -- a cell is printed
  pub come_prints : (i j : ℕ) (h : Pattern) → i ≡ j + 1 → ComeTo s cs k h₀ i h → Protected s (set h (get_or cs j 0) false) →
      ComeTo s cs k h₀ j (set h (get_or cs j 0) false)
  come_prints i j h e come protects g p = come g (subst (λ n. PrintedBack s cs n h g) (sym (e ∙ add-one j)) (prints protects p))

  -- a cell is kept blank
  pub come_keeps : (i j : ℕ) (h : Pattern) → i ≡ j + 1 → ComeTo s cs k h₀ i h → (Protected s (set h (get_or cs j 0) false) → ⊥) →
      ComeTo s cs k h₀ j h
  come_keeps i j h e come doesn't g p = come g (subst (λ n. PrintedBack s cs n h g) (sym (e ∙ add-one j)) (keeps doesn't p))

  -- it ends
  pub come_all : (i : ℕ) (h : Pattern) → i ≡ 0 → ComeTo s cs k h₀ i h → PrintedBack s cs k h₀ h
  come_all i h e come = come h (subst (λ n. PrintedBack s cs n h h) (sym e) done)

  -- a cell is tried
  pub come_tried : (i j : ℕ) (h g : Pattern) (printed : Bool) → i ≡ j + 1 → ComeTo s cs k h₀ i h →
      MatchBool printed ((g ≡ set h (get_or cs j 0) false) × Protected s (set h (get_or cs j 0) false)) ((g ≡ h) × (Protected s (set h (get_or cs j 0) false) → ⊥)) →
      ComeTo s cs k h₀ j g
  come_tried i j h g true e come (is, protects) = rw is (come_prints i j h e come protects)
  come_tried i j h g false e come (is, doesn't) = rw is (come_keeps i j h e come doesn't)

-- the last of those that are left, where they are the first of the order
pub record Last (order rest' : List Ranked) (n : ℕ) (p : Ranked) : Type 0 where
  pub long : n ≡ length rest' + 1
  pub left : rest' ≡ take (length rest') order
  pub within : length rest' < length order
  pub is : ranked_at order (length rest') ≡ p.cell

-- it is taken from them
pub take_last : (order rest rest' : List Ranked) (p : Ranked) → rest ≡ take (length rest) order → rest ≡ push rest' p → Last order rest' (length rest) p
take_last order rest rest' p left is =
    let long : length rest ≡ length rest' + 1 = ap length is ∙ length_push rest' p in
    let within : length rest' < length order = omega (arith, ap length left, length-take (length rest) order) in
    let d : Ranked = record { sum = 0; cell = 0 } in
    record {
      long = long;
      left = sym (take-append_seam rest' (p ∷ [])) ∙ ap (take (length rest')) (sym is ∙ left) ∙ take-take (length rest') (length rest) order (omega arith);
      within = within;
      is = ap (λ (q : Ranked). q.cell) (sym (get_or-take (length rest) order (length rest') d (omega arith)) ∙ ap (λ ps. get_or ps (length rest') d) (sym left ∙ is) ∙ get_or_push rest' p d (length rest') refl);
    }
