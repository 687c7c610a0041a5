use Rattle.std.proofs.Common.{◌≡◌, ◌∙◌, ◌&&◌, true, false, refl, ap, arith, sym, ℕ, Bool}
use Rattle.std.specs.Prelude.{if◌then◌else◌}
use Rattle.std.proofs.lemmas.List.{drop_all}
use Rattle.edit_planner.specs.Row.{place_from, place_for, is_format}
use Rattle.edit_planner.proofs.Row.{place_step, place_found, place_inside}
use Rattle.edit_planner.proofs.cells.place_for.Goals as goal

found : (b f : Bool) (k last n : ℕ) → b ≡ true → f ≡ true → (if b && f then k else n) ≡ k
found true true k last n e h = refl
found true false k last n e h = absurd cc
found false f k last n e h = absurd cc

pub returns-then-is_format-clause-place : goal.returns-then-is_format-clause-place
returns-then-is_format-clause-place c =
    let xs = c.args.cells.now in
    let i = c.cells.cell-index in
    let x = c.cell-item.result in
    let step = place_step c.args.before_format c.cells.k c.cells.last xs i x (omega arith) c.cell-item.is in
    sym (found c.args.before_format (is_format x.content) c.cells.k c.cells.last _ c.if-before_format.true (sym c.is_format.ensures ∙ c.if-is_format.true)) ∙ sym step ∙ c.cells.invariant.left ∙ place_found c.args.before_format xs

pub returns-clause-place : goal.returns-clause-place
returns-clause-place c =
    let xs = c.args.cells.now in
    sym (ap (place_from c.args.before_format c.cells.k c.cells.last) (drop_all c.cells.cell-index xs (omega arith))) ∙ c.cells.invariant.left ∙ place_found c.args.before_format xs

pub returns-clause-inside : goal.returns-clause-inside
returns-clause-inside c =
    let xs = c.args.cells.now in
    let same : c.cells.last ≡ place_for c.args.before_format xs =
    sym (ap (place_from c.args.before_format c.cells.k c.cells.last) (drop_all c.cells.cell-index xs (omega arith))) ∙ c.cells.invariant.left ∙ place_found c.args.before_format xs
    in
    omega (arith, same, place_inside c.args.before_format xs)
