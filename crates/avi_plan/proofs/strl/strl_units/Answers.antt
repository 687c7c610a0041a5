use Rattle.std.proofs.Common.{◌≡◌, ◌∙◌, ℕ, false, map, eqb, sym, ap, arith}
use Rattle.std.specs.Prelude.{Option}
use Rattle.me_disk.proofs.Holds.{holds_on}
use Rattle.carrier_model.specs.Names.{name_cells}
use Rattle.unit_plan.specs.Rows.{cells_outcome}
use Rattle.unit_plan.specs.Places.{shape_in}
use Rattle.avi_names.specs.Names.{chunks_of}
use Rattle.avi_model.specs.Named.{cell_of}
use Rattle.avi_plan.specs.Strls.{cells_from, name_chunks, one, shapes}
use Rattle.avi_plan.proofs.Celled.{cells_are}
use Rattle.avi_plan.proofs.strl.strl_units.Goals as goal

pub returns-clause-outcome : goal.returns-clause-outcome
returns-clause-outcome g c b held bytes =
    let strl = c.args.strl in
    let ns = name_chunks c.args.name.now in
    let cs = (chunks_of b strl).chunks in
    let row = c.in-Ok-strl_row.row in
    let later = holds_on (g.D.Depot.disk c.args.depot.now) (g.D.Depot.disk c.new_place.new.depot) b c.in-Ok-new_place.ensures.reads held in
    let shaped : map (shape_in b) row.places.items ≡ shapes (name_cells ns (map cell_of cs)) =
    c.in-Ok-strl_row.ensures.shapes b ns later bytes c.in-Ok.ensures
    ∙ ap (λ (p : Option ℕ). shapes (cells_from ns p false strl.at cs)) (c.in-Ok-new_place.ensures.place b ns held c.in-Ok.ensures)
    ∙ ap shapes (sym (cells_are ns strl.at cs)) in
    c.in-Ok-units_of.ensures.outcome b ns cs (omega (arith, c.in-Ok-strl_row.ensures.inside, c.requires.within, c.requires.inside b held)) shaped
    ∙ ap (λ (p : ℕ). cells_outcome one (eqb p c.args.len) strl.at (name_cells ns (map cell_of cs))) (c.in-Ok-strl_row.ensures.end b later)
