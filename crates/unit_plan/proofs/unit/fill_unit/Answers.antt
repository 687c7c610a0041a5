use Rattle.std.proofs.Common.{rules, ap, sym, ◌∙◌, ◌≡◌, ◌-◌, ◌++◌, ℕ, Bool, length}
use Rattle.std.specs.Prelude.{codes, Some, ◌&&◌}
use Rattle.std.specs.Int.{w32, to_le_bytes}
use Rattle.container_model.specs.Windows.{window}
use Rattle.carrier_model.specs.Info.{riff_fill}
use Rattle.carrier_model.specs.Room.{fits_slot}
use Rattle.unit_plan.specs.Cuts.{padding_in}
use Rattle.unit_plan.proofs.Slots.{filled_is, window_long}
use Rattle.unit_plan.proofs.unit.fill_unit.Goals as goal

pub returns-in_ok-extend_from_slice-in-Some-2-clause-outcome : goal.returns-in_ok-extend_from_slice-in-Some-2-clause-outcome
returns-in_ok-extend_from_slice-in-Some-2-clause-outcome c = λ b file last inside e.
    let start = c.args.unit.start in
    let end = c.args.end in
    let spelled = c.args.unit.spelled.items in
    let keep = c.in-Some.keep in
    let slot = window b start end in
    let long : length slot ≡ end - start = window_long b start end c.requires.order inside in
    let count : c.len-len.result ≡ length spelled = search rules in
    let fill : riff_fill file last slot (length spelled) ≡ padding_in slot (Some keep) = ap (riff_fill file last slot) (sym count) ∙ c.in-Some.ensures.fill file last slot e long in
    let made : c.of-in-Some.result ≡ (spelled ++ codes "JUNK") ++ to_le_bytes w32 keep = search rules in
    let fits : c.fits_slot-fits.result ≡ fits_slot (file && last) (end - start) (length spelled) =
    c.fits_slot-fits.ensures ∙ ap (λ (k : ℕ). fits_slot c.args.ends (end - start) k) count ∙ ap (λ (t : Bool). fits_slot t (end - start) (length spelled)) (sym e)
    in
    filled_is b start end keep spelled c.of-in-Some.result file last c.fits_slot-fits.result c.requires.order inside c.in-Some.ensures.inside c.in-Some.ensures.even fill made fits
