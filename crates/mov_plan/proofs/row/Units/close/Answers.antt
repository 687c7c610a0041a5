use Rattle.std.proofs.Common.{subst, sym, ◌∙◌}
use Rattle.std.specs.Prelude.{Option}
use Rattle.std.proofs.lemmas.Bool.{and_parts}
use Rattle.mov_plan.specs.declared.unit.OpenUnit.{OpenUnit}
use Rattle.mov_plan.specs.Places.{IsSoFar, open_start}
use Rattle.unit_plan.proofs.Spans.{added_ascend, added_exact, added_fits, exact_fit}
use Rattle.mov_plan.proofs.row.Units.close.Goals as goal

pub returns-in-None-clause-fits : goal.returns-in-None-clause-fits
returns-in-None-clause-fits c = λ from len so_far end fits. exact_fit len c.args.self.now.cuts.items (so_far.exact fits)

pub returns-in_ok-add-in-Some-clause-so_far : goal.returns-in_ok-add-in-Some-clause-so_far
returns-in_ok-add-in-Some-clause-so_far c = λ from so_far ends.
    let so_far_at : IsSoFar from c.args.self.now c.in-Some.unit.start = subst (λ (o : Option OpenUnit). IsSoFar from c.args.self.now (open_start o c.args.end)) c.in-Some.is so_far in
    let place = c.in_ok-filled-in-Some.ensures.place in
    record {
      ascend = added_ascend from c.in-Some.unit.start c.args.end c.args.self.now.cuts.items c.add.new.self.cuts.items c.in_ok-filled-in-Some.filled.cut so_far_at.ascend place.0 place.1 place.2 c.in_ok-add-in-Some.ensures.cuts;
      exact = λ fits.
          let both_fit = and_parts c.args.self.now.fits c.in_ok-filled-in-Some.filled.fits (sym c.in_ok-add-in-Some.ensures.fits ∙ fits) in
          added_exact c.args.self.now.cuts.items c.add.new.self.cuts.items c.in_ok-filled-in-Some.filled.cut (so_far.exact both_fit.0) (c.in_ok-filled-in-Some.ensures.exact ends both_fit.1) c.in_ok-add-in-Some.ensures.cuts;
    }

pub returns-in_ok-add-in-Some-clause-ascend : goal.returns-in_ok-add-in-Some-clause-ascend
returns-in_ok-add-in-Some-clause-ascend c = λ from so_far.
    let so_far_at : IsSoFar from c.args.self.now c.in-Some.unit.start = subst (λ (o : Option OpenUnit). IsSoFar from c.args.self.now (open_start o c.args.end)) c.in-Some.is so_far in
    let place = c.in_ok-filled-in-Some.ensures.place in
    added_ascend from c.in-Some.unit.start c.args.end c.args.self.now.cuts.items c.add.new.self.cuts.items c.in_ok-filled-in-Some.filled.cut so_far_at.ascend place.0 place.1 place.2 c.in_ok-add-in-Some.ensures.cuts

pub returns-in_ok-add-in-Some-clause-fits : goal.returns-in_ok-add-in-Some-clause-fits
returns-in_ok-add-in-Some-clause-fits c = λ from len so_far end fits.
    let both_fit = and_parts c.args.self.now.fits c.in_ok-filled-in-Some.filled.fits (sym c.in_ok-add-in-Some.ensures.fits ∙ fits) in
    let place = c.in_ok-filled-in-Some.ensures.place in
    added_fits len c.args.end c.args.ends c.args.self.now.cuts.items c.add.new.self.cuts.items c.in_ok-filled-in-Some.filled.cut (so_far.exact both_fit.0) c.in_ok-add-in-Some.ensures.cuts place.1 end
    (λ no. c.in_ok-filled-in-Some.ensures.exact no both_fit.1) c.in_ok-filled-in-Some.ensures.ending
