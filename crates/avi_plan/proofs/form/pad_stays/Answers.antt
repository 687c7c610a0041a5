use Rattle.std.proofs.Common.{◌∙◌, ◌+◌, ℕ, List, take, drop, sym, ap}
use Rattle.avi_plan.proofs.Pads.{no_pads, one_pad, unlike_pads}
use Rattle.avi_plan.proofs.form.pad_stays.Goals as goal

pub returns-then-pad-pad_after-clause-stays : goal.returns-then-pad-pad_after-clause-stays
returns-then-pad-pad_after-clause-stays g c b held bytes =
    unlike_pads b bytes c.args.form.now (c.requires.form b held) c.args.size c.if-size-form.false (λ same. c.if-pad-pad_after.true (c.pad-pad.ensures ∙ same ∙ sym c.pad_after.ensures))

pub returns-then-pad-eq0-clause-stays : goal.returns-then-pad-eq0-clause-stays
returns-then-pad-eq0-clause-stays g c b held bytes =
    no_pads b bytes c.args.form.now (c.requires.form b held) c.args.size c.if-size-form.false (sym c.pad-pad.ensures ∙ c.if-pad-eq0.true) (sym c.pad-pad.ensures ∙ c.if-pad-pad_after.false ∙ c.pad_after.ensures)

pub returns-clause-stays : goal.returns-clause-stays
returns-clause-stays g c b held bytes =
    let page = c.in_ok-read_at.ensures.bytes held.tells ∙ ap (λ (x : List ℕ). take 1 (drop (8 + c.args.form.now.size) x)) held.bytes in
    one_pad b bytes c.args.form.now (c.requires.form b held) c.args.size c.read_at.new.into c.if-size-form.false (λ none. c.if-pad-eq0.false (c.pad-pad.ensures ∙ none)) (sym c.pad-pad.ensures ∙ c.if-pad-pad_after.false ∙ c.pad_after.ensures) page
