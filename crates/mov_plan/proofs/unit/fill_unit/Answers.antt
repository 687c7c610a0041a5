use Rattle.std.proofs.Common.{rules, ap, sym, ◌∙◌, ◌≡◌, ◌+◌, ◌-◌, ◌++◌, ℕ, length, cond, true}
use Rattle.std.specs.Prelude.{codes, Some}
use Rattle.std.specs.Int.{w32, to_be_bytes}
use Rattle.container_model.specs.Windows.{window}
use Rattle.mov_model.specs.New.{fill}
use Rattle.mov_model.specs.Room.{unit_fits}
use Rattle.mov_plan.specs.Places.{padding_in}
use Rattle.mov_plan.proofs.Slots.{filled_is}
use Rattle.unit_plan.proofs.Slots.{window_long}
use Rattle.mov_plan.proofs.unit.fill_unit.Goals as goal

pub returns-in_ok-extend_from_slice-in-Some-2-clause-outcome : goal.returns-in_ok-extend_from_slice-in-Some-2-clause-outcome
returns-in_ok-extend_from_slice-in-Some-2-clause-outcome c = λ b inside.
    let start = c.args.unit.start in
    let end = c.args.end in
    let spelled = c.args.unit.spelled.items in
    let keep = c.in-Some.keep in
    let slot = window b start end in
    let long : length slot ≡ end - start = window_long b start end c.requires.order inside in
    let count : c.len-len.result ≡ length spelled = search rules in
    let fill_as : fill c.args.ends true slot (length spelled) ≡ padding_in slot (Some keep) = ap (fill c.args.ends true slot) (sym count) ∙ c.in-Some.ensures.fill slot long in
    let made : c.of-in-Some.result ≡ (spelled ++ to_be_bytes w32 (keep + 8)) ++ codes "free" = search rules in
    let fits : c.fits_slot-fits.result ≡ unit_fits c.args.ends (end - start) (length spelled) = c.fits_slot-fits.ensures ∙ ap (unit_fits c.args.ends (end - start)) count in
    let inner : c.inner_len.result ≡ cond c.args.hangs (length spelled) (length spelled + 8 + keep) = c.inner_len.ensures ∙ ap (λ (k : ℕ). cond c.args.hangs k (k + 8 + keep)) count in
    filled_is b start end keep spelled c.of-in-Some.result c.args.ends c.args.hangs c.fits_slot-fits.result c.inner_len.result c.requires.order inside c.in-Some.ensures.inside fill_as made fits inner
