use Rattle.std.proofs.Common.{◌∙◌, ◌+◌, List, map, ap, eqb}
use Rattle.std.proofs.lemmas.Bool.{eqb-true}
use Rattle.unit_plan.specs.Places.{shape_in}
use Rattle.unit_plan.specs.Shapes.{Shape}
use Rattle.unit_plan.specs.declared.place.Place.{Place}
use Rattle.unit_plan.specs.Rows.{none, row}
use Rattle.unit_plan.proofs.Outcomes.{cells_told}
use Rattle.unit_plan.proofs.Spans.{ascend_high}
use Rattle.carrier_model.specs.Names.{name_cells}
use Rattle.avi_model.specs.Named.{cell_of}
use Rattle.avi_plan.specs.Strls.{one}
use Rattle.avi_plan.proofs.Unitled.{exact_or, one_counts}
use Rattle.avi_plan.proofs.strl.units_of.Goals as goal

pub returns-clause-outcome : goal.returns-clause-outcome
returns-clause-outcome c b ns cs inside shaped =
    let ends = eqb c.args.row.at c.args.len in
    c.in_ok-units.ensures.outcome b inside ∙ ap (λ (ps : List Place). row ends c.args.strl.at none (map (shape_in b) ps)) c.deref.ensures.value ∙ ap (λ (xs : List Shape). row ends c.args.strl.at none xs) shaped ∙ cells_told one ends one_counts c.args.strl.at (name_cells ns (map cell_of cs))

pub returns-clause-ascend : goal.returns-clause-ascend
returns-clause-ascend c = ascend_high c.args.strl.at c.args.row.at (c.args.strl.at + c.args.strl.len) c.in_ok-units.units.cuts.items c.requires.inside c.in_ok-units.ensures.ascend

pub returns-clause-fits : goal.returns-clause-fits
returns-clause-fits c fits =
    exact_or c.args.len c.args.strl.at c.args.row.at (c.args.strl.at + c.args.strl.len) c.in_ok-units.units.cuts.items c.requires.inside c.requires.whole c.in_ok-units.ensures.ascend
    (c.in_ok-units.ensures.fits c.args.len (λ e. eqb-true c.args.row.at c.args.len e) fits)
