use Rattle.std.proofs.Common.{arith, ap, ◌≤◌, sym, refl, eqb}
use Rattle.wave_plan.proofs.Rowed.{comes_to, stand_fits}
use Rattle.wave_plan.proofs.row.plan_row.Goals as goal

pub plan_units-requires-clause-stands : goal.plan_units-requires-clause-stands
plan_units-requires-clause-stands g c = record {
  from = c.args.from;
  end = c.args.end;
  round = c.in-Ok.ensures.round c.args.end c.requires.low c.requires.high;
  ascend = c.in-Ok-unit_cuts.ensures.ascend;
  fits = stand_fits c.args.from c.args.end c.in-Ok.frame.len (eqb c.args.end c.args.form.len) c.in-Ok-unit_cuts.units (ap (eqb c.args.end) (sym c.in-Ok.ensures.len)) c.in-Ok-unit_cuts.ensures.ascend c.in-Ok-unit_cuts.ensures.fits;
}

pub returns-in-Err-plan_units-clause-plans : goal.returns-in-Err-plan_units-clause-plans
returns-in-Err-plan_units-clause-plans g c = λ b e holds bytes begins wider shapes listed.
    let known = c.requires.form b holds in
    let frame = c.in-Ok.ensures.frame b holds bytes begins in
    let inside : c.args.end ≤ c.args.form.len = omega (arith, c.requires.high, c.requires.sound.inside) in
    let comes = comes_to b e bytes known.supported c.args.from c.args.end c.args.form.len (eqb c.args.end c.args.form.len) c.args.places.now c.in-Ok-unit_cuts.units known.len inside begins c.requires.follow shapes refl (c.in-Ok-unit_cuts.ensures.outcome b (omega (arith, inside, known.len))) in
    c.in-Err-plan_units.ensures.plans b e bytes known.supported frame wider comes listed

pub returns-clause-plans : goal.returns-clause-plans
returns-clause-plans g c = λ b e holds bytes begins wider shapes listed.
    let known = c.requires.form b holds in
    let frame = c.in-Ok.ensures.frame b holds bytes begins in
    let inside : c.args.end ≤ c.args.form.len = omega (arith, c.requires.high, c.requires.sound.inside) in
    let comes = comes_to b e bytes known.supported c.args.from c.args.end c.args.form.len (eqb c.args.end c.args.form.len) c.args.places.now c.in-Ok-unit_cuts.units known.len inside begins c.requires.follow shapes refl (c.in-Ok-unit_cuts.ensures.outcome b (omega (arith, inside, known.len))) in
    c.in-Ok-plan_units.ensures.plans b e bytes known.supported frame wider comes listed
