-- What was found is copied, and what it promises goes with it.
use Rattle.std.proofs.Common.{◌≡◌, ℕ, ◌≤◌, false, ◌++◌, length, drop, vec_items, refl, sym, ap, ◌∙◌, inr, arith}
use Rattle.std.proofs.lemmas.List.{length-take-le}
use Rattle.std.proofs.lemmas.Result.{err_from_is_err_and}
use Rattle.survey.proofs.Facts.{model_sound}
use Rattle.survey.specs.Lending.{Written}
use Rattle.survey.specs.Model.{model, size}
use Rattle.survey.specs.Page.{Survey, Pattern, hidden}
use Rattle.search.specs.Search.{Finds}
use Rattle.search.proofs.Outcomes.{found_by_rule, failed_by_rule, written_front}
use Rattle.search.proofs.Right.{finds_long}
use Rattle.search.proofs.searching.search.Goals as goal

pub returns-in_err-found : goal.returns-in_err-found
returns-in_err-found c =
    let room : size (model c.args.table.now.survey) ≤ length c.args.pattern.now =
    omega (arith, c.if-pattern-cells.false, c.cells.ensures.value, ap (λ t. size (model t)) c.survey.ensures) in
    let err = err_from_is_err_and c.from_residual.result c.from_residual.ensures.1 in
    rw (err.1, err.2) (refl, inr (room, failed_by_rule _ _ c.in_err-found.ensures))

-- memory that is not too short has room for what was found
fits : (s : Survey) (g : Pattern) (n cells lent : ℕ) → Finds s g → n ≡ length g → cells ≡ size s → cells ≤ lent → n ≤ lent
fits s g n cells lent finds is many room = omega (arith, finds_long s g finds)

pub slice_bounds-copy_from_slice-end : goal.slice_bounds-copy_from_slice-end
slice_bounds-copy_from_slice-end c =
    fits _ _ _ _ _ c.in_ok-found.ensures (c.len.ensures ∙ c.in_ok-found.found.ok.0)
    (c.cells.ensures.value ∙ ap (λ t. size (model t)) c.survey.ensures)
    c.if-pattern-cells.false

pub slice_bounds-copy_from_slice-end-2 : goal.slice_bounds-copy_from_slice-end-2
slice_bounds-copy_from_slice-end-2 c =
    let room = fits _ _ _ _ _ c.in_ok-found.ensures (c.len.ensures ∙ c.in_ok-found.found.ok.0)
    (c.cells.ensures.value ∙ ap (λ t. size (model t)) c.survey.ensures)
    c.if-pattern-cells.false in
    sym (length-take-le c.len.result c.args.pattern.now room)

pub copy_from_slice-requires : goal.copy_from_slice-requires
copy_from_slice-requires c =
    let room = fits _ _ _ _ _ c.in_ok-found.ensures (c.len.ensures ∙ c.in_ok-found.found.ok.0)
    (c.cells.ensures.value ∙ ap (λ t. size (model t)) c.survey.ensures)
    c.if-pattern-cells.false in
    length-take-le c.len.result c.args.pattern.now room ∙ c.len.ensures ∙ sym c.deref.ensures.len

pub returns : goal.returns
returns c =
    let s = model c.args.table.now.survey in
    let g = vec_items c.in_ok-found.found in
    let room : size s ≤ length c.args.pattern.now =
    omega (arith, c.if-pattern-cells.false, c.cells.ensures.value, ap (λ t. size (model t)) c.survey.ensures) in
    let long : length g ≡ size s = finds_long s g c.in_ok-found.ensures in
    let n : c.len.result ≡ length g = c.len.ensures ∙ c.in_ok-found.found.ok.0 in
    let wrote : Written false (hidden g) (size s) c.args.pattern.now (c.copy_from_slice.new.self ++ drop c.len.result c.args.pattern.now) =
    rw (← long, c.copy_from_slice.ensures.after, c.deref.ensures.value, n) (written_front g c.args.pattern.now (omega arith)) in
    (room, (g, found_by_rule s g (model_sound c.args.table.now.survey) c.in_ok-found.ensures, wrote))
