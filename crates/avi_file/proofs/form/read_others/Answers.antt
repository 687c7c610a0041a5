use Rattle.std.proofs.Common.{refl, arith, false, subst, ◌∙◌, ◌≡◌, ◌+◌, ◌<◌, ℕ, length, length-drop, drop}
use Rattle.std.specs.declared.option.Option.TheVariants.{Some, None}
use Rattle.std.specs.declared.result.Result.TheVariants.{Err}
use Rattle.container_model.specs.Chunk.{ends, riff}
use Rattle.container_model.specs.Stood.{bare}
use Rattle.me_disk.proofs.Runs.{ReadsOnly-trans}
use Rattle.me_disk.proofs.Holds.{holds_on}
use Rattle.riff_form.specs.declared.StepFault.TheVariants.{Truncated}
use Rattle.riff_form.proofs.Windows.{window_stays}
use Rattle.riff_form.specs.Walk.{chunk_in, InOrder}
use Rattle.avi_model.specs.Avi.{body_span}
use Rattle.avi_file.specs.Forms.{CutAt, FormAt, forms_from, further_told, others_told}
use Rattle.avi_file.specs.Walk.{Reads, ReadAll, run_told}
use Rattle.avi_file.proofs.Left.{left_taken, left_refused, left_cut, left_ended}
use Rattle.avi_file.proofs.Placed.{keeps_then, ok_always, ok_then}
use Rattle.avi_file.proofs.Turned.{body_is, further_next, spans_next, spans_last}
use Rattle.avi_file.proofs.form.read_others.Goals as goal

pub returns-in-Err-Truncated-clause-run : goal.returns-in-Err-Truncated-clause-run
returns-in-Err-Truncated-clause-run g c b holds =
    let before = c.forms.invariant in
    let held = holds_on (g.D.Depot.disk c.args.depot.now) (g.D.Depot.disk c.forms.depot) b before.reads holds in
    let at = c.forms.at in
    let stuck : CutAt false b at (Truncated c.in-Err-Truncated.at) = rw c.in-Err-Truncated.field-0-is at (c.in-Err-Truncated.ensures.found b held) in
    rw c.in-Err-Truncated.field-0-is (left_cut (run_told others_told c.args.start (forms_from false b c.args.start)) others_told at c.in-Err-Truncated.at (forms_from false b at) (drop at b) c.args.reading.now c.forms.reading (λ p. refl) (before.left b holds) stuck.1 stuck.2)

pub returns-in-Ok-None-clause-run : goal.returns-in-Ok-None-clause-run
returns-in-Ok-None-clause-run g c b holds =
    let before = c.forms.invariant in
    let held = holds_on (g.D.Depot.disk c.args.depot.now) (g.D.Depot.disk c.forms.depot) b before.reads holds in
    let at = c.forms.at in
    let none : FormAt false b at None = rw c.in-Ok-None.field-0-is at (c.in-Ok-None.ensures.found b held) in
    let whole : c.args.len ≡ length b = c.requires.whole b holds in
    let long : at + length (drop at b) ≡ c.args.len = omega (arith, length-drop at b, before.inside, whole) in
    left_ended (run_told others_told c.args.start (forms_from false b c.args.start)) others_told at (forms_from false b at) (drop at b) c.args.reading.now c.forms.reading c.put_rest.new.reading c.put_rest.result (λ p. refl) (before.left b holds) none.1 (c.put_rest.ensures.took (drop at b) long)

pub returns-in-Ok-None-clause-spans : goal.returns-in-Ok-None-clause-spans
returns-in-Ok-None-clause-spans g c b holds =
    let before = c.forms.invariant in
    let held = holds_on (g.D.Depot.disk c.args.depot.now) (g.D.Depot.disk c.forms.depot) b before.reads holds in
    let at = c.forms.at in
    let none : FormAt false b at None = rw c.in-Ok-None.field-0-is at (c.in-Ok-None.ensures.found b held) in
    ok_always c.put_rest.result (spans_last c.forms.forms.items (forms_from false b at) at ends (drop at b) none.1 ∙ before.spans b holds)

pub returns-in-Ok-None-clause-placed : goal.returns-in-Ok-None-clause-placed
returns-in-Ok-None-clause-placed g c =
    let before = c.forms.invariant in
    let at = c.forms.at in
    ok_then c.put_rest.result (λ h. keeps_then c.args.start at at c.args.len at c.args.len c.args.len c.args.reading.now.parts.items c.forms.reading.parts.items c.put_rest.new.reading.parts.items before.placed h (omega arith) (omega arith) before.inside) c.put_rest.ensures.placed

pub returns-in-Err-clause-run : goal.returns-in-Err-clause-run
returns-in-Err-clause-run g c b holds =
    let before = c.forms.invariant in
    let k = c.in-Ok-Some.form in
    let this = chunk_in b riff k in
    let at = c.forms.at in
    let held = holds_on (g.D.Depot.disk c.args.depot.now) (g.D.Depot.disk c.forms.depot) b before.reads holds in
    let later = holds_on (g.D.Depot.disk c.forms.depot) (g.D.Depot.disk c.form_at.new.depot) b c.form_at.ensures.reads held in
    let step : FormAt false b at (Some k) = rw c.in-Ok-Some.field-0-is at (c.in-Ok-Some.ensures.found b held) in
    let order : InOrder at c.args.len k = rw c.in-Ok-Some.field-0-is at c.in-Ok-Some.ensures.order in
    let took : Reads (further_told at this) c.forms.reading c.read_further.new.reading (Err c.in-Err.fault)
    = subst (λ (p : ℕ). Reads (further_told p this) c.forms.reading c.read_further.new.reading (Err c.in-Err.fault)) order.begins (c.in-Err.ensures.took b later) in
    left_refused (run_told others_told c.args.start (forms_from false b c.args.start)) (further_told at this) others_told others_told at k.next this (forms_from false b at) (forms_from false b k.next) c.args.reading.now c.forms.reading c.read_further.new.reading c.in-Err.fault (before.left b holds) step.1 step.2
    (further_next at k.next this (forms_from false b k.next) step.2) took

pub forms-preserved : goal.forms-preserved
forms-preserved g c =
    let before = c.forms.invariant in
    let k = c.in-Ok-Some.form in
    let at = c.forms.at in
    let order : InOrder at c.args.len k = rw c.in-Ok-Some.field-0-is at c.in-Ok-Some.ensures.order in
    let ahead : at < k.next = rw c.in-Ok-Some.field-0-is at c.in-Ok-Some.ensures.ahead in
    record {
      inside = order.last;
      least = omega arith;
      window = window_stays (g.D.Depot.disk c.form_at.new.depot) (g.D.Depot.disk c.read_further.new.depot) c.form_at.new.window c.read_further.ensures.reads c.form_at.ensures.window;
      reads = ReadsOnly-trans _ _ _ (ReadsOnly-trans _ _ _ before.reads c.form_at.ensures.reads) c.read_further.ensures.reads;
      placed = keeps_then c.args.start at k.at k.next at k.next k.next c.args.reading.now.parts.items c.forms.reading.parts.items c.read_further.new.reading.parts.items before.placed c.in-Ok.ensures.placed (omega arith) (omega arith) (omega arith);
      spans = λ b holds.
          let this = chunk_in b riff k in
          let held = holds_on (g.D.Depot.disk c.args.depot.now) (g.D.Depot.disk c.forms.depot) b before.reads holds in
          let step : FormAt false b at (Some k) = rw c.in-Ok-Some.field-0-is at (c.in-Ok-Some.ensures.found b held) in
          let whole : c.args.len ≡ length b = c.requires.whole b holds in
          let body : k.body ≡ body_span (record { at = at; chunk = bare this }) = body_is b at k order.body (omega (arith, order.whole, order.last, whole)) in
          rw c.in-Ok-push.ensures.items (spans_next c.forms.forms.items k.body at k.next this (forms_from false b at) (forms_from false b k.next) step.1 step.2 body ∙ before.spans b holds);
      left = λ b holds.
          let this = chunk_in b riff k in
          let held = holds_on (g.D.Depot.disk c.args.depot.now) (g.D.Depot.disk c.forms.depot) b before.reads holds in
          let later = holds_on (g.D.Depot.disk c.forms.depot) (g.D.Depot.disk c.form_at.new.depot) b c.form_at.ensures.reads held in
          let step : FormAt false b at (Some k) = rw c.in-Ok-Some.field-0-is at (c.in-Ok-Some.ensures.found b held) in
          let took : ReadAll (further_told at this) c.forms.reading c.read_further.new.reading
          = subst (λ (p : ℕ). ReadAll (further_told p this) c.forms.reading c.read_further.new.reading) order.begins (c.in-Ok.ensures.took b later) in
          left_taken (run_told others_told c.args.start (forms_from false b c.args.start)) (further_told at this) others_told others_told at k.next this (forms_from false b at) (forms_from false b k.next) c.args.reading.now c.forms.reading c.read_further.new.reading (before.left b holds) step.1 step.2
          (further_next at k.next this (forms_from false b k.next) step.2) took;
    }
