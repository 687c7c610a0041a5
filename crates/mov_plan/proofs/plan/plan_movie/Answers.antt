use Rattle.std.proofs.Common.{rules, arith, ap, sym, subst, ◌∙◌, ◌≡◌, List, length, false, true}
use Rattle.std.specs.List.{AllByRecursion}
use Rattle.me_disk.proofs.Holds.{holds_on}
use Rattle.part_tree.specs.Moves.{Ascend}
use Rattle.carrier_model.specs.Gaps.{moves_of}
use Rattle.mov_model.specs.After.{widens}
use Rattle.mov_model.specs.Edited.{changes}
use Rattle.mov_model.specs.Movie.{movie_of}
use Rattle.mov_model.specs.New.{edit_cuts}
use Rattle.unit_plan.specs.declared.cut.CutAt.{CutAt}
use Rattle.mov_plan.specs.Made.{IsNamed}
use Rattle.mov_plan.specs.Moved.{GoBetween}
use Rattle.mov_plan.specs.Planned.{IsKnown, StandsIn}
use Rattle.mov_plan.specs.Tables.{LiesIn}
use Rattle.mov_plan.proofs.Known.{known_by}
use Rattle.mov_plan.proofs.Narrow.{goes}
use Rattle.mov_plan.proofs.Widening.{named_narrow, not_named_wide}
use Rattle.mov_plan.proofs.Widens.{tables_lie, widens_told}
use Rattle.mov_plan.proofs.plan.plan_movie.Goals as goal

pub plan_wide-requires-clause-stands : goal.plan_wide-requires-clause-stands
plan_wide-requires-clause-stands g c =
    let sound = c.requires.sound in
    record {
      ascend = c.in-Ok.ensures.ascend;
      fits = λ fits. c.in-Ok.ensures.fits c.args.moov.now.len (λ goes last. omega (arith, sound.goes goes, sound.last last)) fits;
    }

pub plan_narrow-requires-clause-stands : goal.plan_narrow-requires-clause-stands
plan_narrow-requires-clause-stands g c =
    let sound = c.requires.sound in
    record {
      ascend = c.in-Ok.ensures.ascend;
      fits = λ fits. c.in-Ok.ensures.fits c.args.moov.now.len (λ goes last. omega (arith, sound.goes goes, sound.last last)) fits;
    }

pub returns-then-named-clause-plans : goal.returns-then-named-clause-plans
returns-then-named-clause-plans g c = λ b e holds bytes is known hold same carried.
    let m = c.args.moov.now in
    let ts = c.args.tables.now in
    let u = c.in-Ok.units in
    let ms = c.in-Ok-moves_between.moves in
    let sound = c.requires.sound in
    let told : IsKnown b e m ts u
    = known_by b e m ts u c.args.places.now bytes is known same carried (c.in-Ok.ensures.outcome b (omega (arith, sound.inside, is.len))) in
    let stands : StandsIn m u = record { ascend = c.in-Ok.ensures.ascend; fits = λ fits. c.in-Ok.ensures.fits m.len (λ goes last. omega (arith, sound.goes goes, sound.last last)) fits } in
    let between : GoBetween m.len u.cuts.items ms = subst (λ (ks : List CutAt). GoBetween m.len ks ms) c.deref.ensures.value c.in-Ok-moves_between.ensures in
    let moves : ms ≡ moves_of (edit_cuts (movie_of b) (changes b e)) (length b) = goes b e m ts u told sound stands ms between ∙ ap (moves_of (edit_cuts (movie_of b) (changes b e))) is.len in
    let up : Ascend 0 ms = search rules in
    let named : AllByRecursion (IsNamed false ms b) ts = c.in-Ok-all_named.ensures.named b holds c.if-named.true in
    let narrow : widens b e ≡ false = widens_told b e bytes is.supported.readable ts known carried.effect ∙ named_narrow b e bytes is.supported.readable ms moves up ts known named in
    c.plan_narrow.ensures.plans b e told narrow named

pub returns-clause-plans : goal.returns-clause-plans
returns-clause-plans g c = λ b e holds bytes is known hold same carried.
    let m = c.args.moov.now in
    let ts = c.args.tables.now in
    let u = c.in-Ok.units in
    let ms = c.in-Ok-moves_between.moves in
    let sound = c.requires.sound in
    let told : IsKnown b e m ts u
    = known_by b e m ts u c.args.places.now bytes is known same carried (c.in-Ok.ensures.outcome b (omega (arith, sound.inside, is.len))) in
    let stands : StandsIn m u = record { ascend = c.in-Ok.ensures.ascend; fits = λ fits. c.in-Ok.ensures.fits m.len (λ goes last. omega (arith, sound.goes goes, sound.last last)) fits } in
    let between : GoBetween m.len u.cuts.items ms = subst (λ (ks : List CutAt). GoBetween m.len ks ms) c.deref.ensures.value c.in-Ok-moves_between.ensures in
    let moves : ms ≡ moves_of (edit_cuts (movie_of b) (changes b e)) (length b) = goes b e m ts u told sound stands ms between ∙ ap (moves_of (edit_cuts (movie_of b) (changes b e))) is.len in
    let up : Ascend 0 ms = search rules in
    let lie : AllByRecursion (LiesIn b) ts = tables_lie b e bytes is.supported.readable ts known in
    let never = c.in-Ok-all_named.ensures.not_named b holds (sym is.len) lie c.if-named.false in
    let wide : widens b e ≡ true = widens_told b e bytes is.supported.readable ts known carried.effect ∙ not_named_wide b e bytes is.supported.readable ms moves up ts known never in
    c.plan_wide.ensures.plans b e (holds_on _ _ b c.in-Ok-all_named.ensures.reads holds) told hold wide
