use Rattle.std.proofs.Common.{◌≡◌, ◌∙◌, ◌+◌, ◌<◌, ◌≤◌, Bool, true, false, length, ap, refl, subst, arith}
use Rattle.std.specs.Prelude.{◌||◌}
use Rattle.std.specs.declared.option.Option.TheVariants.{Some, None}
use Rattle.std.specs.declared.result.Result.TheVariants.{Ok, Err}
use Rattle.me_disk.proofs.Holds.{holds_on}
use Rattle.part_tree.specs.declared.why.ReadFault.TheVariants.{Why}
use Rattle.part_tree.specs.declared.why.Why.TheVariants.{Truncated as TooShort}
use Rattle.container_model.specs.Chunk.{Run, riff}
use Rattle.container_model.proofs.Written.{length-slice}
use Rattle.carrier_model.specs.Info.{list_run}
use Rattle.riff_form.specs.declared.StepFault.TheVariants.{Truncated}
use Rattle.riff_form.specs.Walk.{chunk_in, row, InOrder}
use Rattle.avi_model.specs.Avi.{avi_front}
use Rattle.avi_file.specs.Forms.{CutAt, FormAt, form_told, forms_from}
use Rattle.avi_file.specs.Walk.{Reads, ReadAll, has_hdrl, run_told, top_told}
use Rattle.avi_file.proofs.Left.{reads_then, reads_fail}
use Rattle.avi_file.proofs.Formed.{form_read, form_short}
use Rattle.avi_file.proofs.Fronts.{first_cut, first_fails, first_kind, open_first}
use Rattle.avi_file.proofs.Placed.{keeps_after}
use Rattle.avi_file.proofs.Turned.{begun, full_long}
use Rattle.avi_file.proofs.form.read_first.Goals as goal

pub returns-in-Err-Truncated-clause-first : goal.returns-in-Err-Truncated-clause-first
returns-in-Err-Truncated-clause-first g c b holds =
    let cut : CutAt true b 0 (Truncated c.in-Err-Truncated.at) = rw c.in-Err-Truncated.field-0-is at (c.in-Err-Truncated.ensures.found b holds) in
    first_cut b c.in-Err-Truncated.at cut

pub returns-in-Ok-None-clause-first : goal.returns-in-Ok-None-clause-first
returns-in-Ok-None-clause-first g c b holds =
    let none : FormAt true b 0 None = rw c.in-Ok-None.field-0-is at (c.in-Ok-None.ensures.found b holds) in
    first_kind b none.0

pub returns-then-form-lt4-clause-first : goal.returns-then-form-lt4-clause-first
returns-then-form-lt4-clause-first g c b holds =
    let k = c.in-Ok-Some.form in
    let this = chunk_in b riff k in
    let whole : c.args.len ≡ length b = c.requires.whole b holds in
    let step : FormAt true b 0 (Some k) = rw c.in-Ok-Some.field-0-is at (c.in-Ok-Some.ensures.found b holds) in
    let order : InOrder 0 c.args.len k = rw c.in-Ok-Some.field-0-is at c.in-Ok-Some.ensures.order in
    let inside : k.body.at + k.body.len ≤ length b = omega (arith, order.whole, order.last) in
    let few : length this.body < 4 = omega (arith, length-slice b k.body.at k.body.len inside, c.if-form-lt4.true) in
    first_fails b this (forms_from false b k.next) c.args.top.now c.args.top.now (Why (TooShort 0)) (begun b (full_long (avi_front true b) step.0)) step.1 c.requires.met
    (reads_fail (form_told 0 this) (run_told (top_told false false) 12 (list_run this)) c.args.top.now.reading c.args.top.now.reading c.args.top.now.reading (Why (TooShort 0)) (form_short 0 this c.args.top.now.reading few))

pub returns-in-Err-clause-first : goal.returns-in-Err-clause-first
returns-in-Err-clause-first g c b holds =
    let k = c.in-Ok-Some.form in
    let this = chunk_in b riff k in
    let whole : c.args.len ≡ length b = c.requires.whole b holds in
    let held = holds_on (g.D.Depot.disk c.args.depot.now) (g.D.Depot.disk c.form_at.new.depot) b c.form_at.ensures.reads holds in
    let step : FormAt true b 0 (Some k) = rw c.in-Ok-Some.field-0-is at (c.in-Ok-Some.ensures.found b holds) in
    let order : InOrder 0 c.args.len k = rw c.in-Ok-Some.field-0-is at c.in-Ok-Some.ensures.order in
    let inside : k.body.at + k.body.len ≤ length b = omega (arith, order.whole, order.last) in
    let long : 4 ≤ k.body.len = omega (arith, c.if-form-lt4.false) in
    let enough : 4 ≤ length this.body = omega (arith, length-slice b k.body.at k.body.len inside) in
    first_fails b this (forms_from false b k.next) c.args.top.now c.read_top.new.top c.in-Err.fault (begun b (full_long (avi_front true b) step.0)) step.1 c.requires.met
    (reads_then (form_told 0 this) (run_told (top_told false false) 12 (list_run this)) c.args.top.now.reading c.args.top.now.reading c.read_top.new.top.reading (Err c.in-Err.fault) (form_read 0 this c.args.top.now.reading enough)
    (subst (λ (r : Run). Reads (run_told (top_told false false) 12 r) c.args.top.now.reading c.read_top.new.top.reading (Err c.in-Err.fault)) (open_first b k long inside order.body)
    (subst (λ (t : Bool). Reads (run_told (top_told false t) 12 (row b 12 (8 + k.body.len))) c.args.top.now.reading c.read_top.new.top.reading (Err c.in-Err.fault)) c.requires.idx1
    (subst (λ (t : Bool). Reads (run_told (top_told t c.args.top.now.idx1) 12 (row b 12 (8 + k.body.len))) c.args.top.now.reading c.read_top.new.top.reading (Err c.in-Err.fault)) c.requires.hdrl (c.in-Err.ensures.run b held)))))

pub returns-in-Ok-clause-first : goal.returns-in-Ok-clause-first
returns-in-Ok-clause-first g c b holds =
    let k = c.in-Ok-Some.form in
    let this = chunk_in b riff k in
    let whole : c.args.len ≡ length b = c.requires.whole b holds in
    let held = holds_on (g.D.Depot.disk c.args.depot.now) (g.D.Depot.disk c.form_at.new.depot) b c.form_at.ensures.reads holds in
    let step : FormAt true b 0 (Some k) = rw c.in-Ok-Some.field-0-is at (c.in-Ok-Some.ensures.found b holds) in
    let order : InOrder 0 c.args.len k = rw c.in-Ok-Some.field-0-is at c.in-Ok-Some.ensures.order in
    let inside : k.body.at + k.body.len ≤ length b = omega (arith, order.whole, order.last) in
    let long : 4 ≤ k.body.len = omega (arith, c.if-form-lt4.false) in
    let enough : 4 ≤ length this.body = omega (arith, length-slice b k.body.at k.body.len inside) in
    let run = open_first b k long inside order.body in
    record {
      kind = begun b (full_long (avi_front true b) step.0);
      run = step.1;
      next = omega (arith, step.2);
      all = reads_then (form_told 0 this) (run_told (top_told false false) 12 (list_run this)) c.args.top.now.reading c.args.top.now.reading c.read_top.new.top.reading (Ok tt) (form_read 0 this c.args.top.now.reading enough)
          (subst (λ (r : Run). ReadAll (run_told (top_told false false) 12 r) c.args.top.now.reading c.read_top.new.top.reading) run
          (subst (λ (t : Bool). ReadAll (run_told (top_told false t) 12 (row b 12 (8 + k.body.len))) c.args.top.now.reading c.read_top.new.top.reading) c.requires.idx1
          (subst (λ (t : Bool). ReadAll (run_told (top_told t c.args.top.now.idx1) 12 (row b 12 (8 + k.body.len))) c.args.top.now.reading c.read_top.new.top.reading) c.requires.hdrl (c.in-Ok.ensures.run b held))));
      hdrl = c.in-Ok.ensures.hdrl b held ∙ ap (λ (t : Bool). t || has_hdrl (row b 12 (8 + k.body.len)).chunks) c.requires.hdrl ∙ ap (λ (r : Run). has_hdrl r.chunks) run;
    }

pub returns-in-Ok-clause-placed : goal.returns-in-Ok-clause-placed
returns-in-Ok-clause-placed g c =
    let k = c.in-Ok-Some.form in
    let order : InOrder 0 c.args.len k = rw c.in-Ok-Some.field-0-is at c.in-Ok-Some.ensures.order in
    keeps_after 0 12 (8 + k.body.len) (8 + k.body.len) k.next k.next c.args.top.now.reading.parts.items c.args.top.now.reading.parts.items c.read_top.new.top.reading.parts.items refl c.in-Ok.ensures.placed (omega arith) (omega (arith, order.body, order.whole)) (omega (arith, order.body, order.whole))
