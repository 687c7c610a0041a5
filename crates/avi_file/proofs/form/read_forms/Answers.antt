use Rattle.std.proofs.Common.{◌≡◌, ◌∙◌, ◌+◌, ◌++◌, ◌∷◌, [], Bool, true, false, List, length, map, ap, sym, refl, arith}
use Rattle.std.specs.Prelude.{if◌then◌else◌, not, nat_lt, Some, None}
use Rattle.std.specs.declared.result.Result.TheVariants.{Ok, Err}
use Rattle.me_disk.proofs.Holds.{holds_on}
use Rattle.part_tree.specs.declared.names.Span.{Span}
use Rattle.part_tree.specs.declared.part.Part.{Part}
use Rattle.part_tree.specs.declared.why.Why.TheVariants.{NoHdrl, NoMovi}
use Rattle.container_model.specs.Chunk.{riff, spell}
use Rattle.container_model.specs.Stood.{stood}
use Rattle.riff_form.specs.Walk.{chunk_in}
use Rattle.avi_model.specs.Avi.{body_span, forms}
use Rattle.avi_file.specs.declared.top.Top.{Top}
use Rattle.avi_file.specs.Forms.{forms_from}
use Rattle.avi_file.specs.Walk.{ArePlaced, essence_of}
use Rattle.avi_file.proofs.Fronts.{all_forms, front_first, front_lists, front_others}
use Rattle.avi_file.proofs.Turned.{body_is, spans_next}
use Rattle.avi_file.proofs.form.read_forms.Goals as goal

movi_is : (result is : Bool) (ps qs : List Part) → result ≡ nat_lt 0 (length (essence_of ps)) → ps ≡ qs → result ≡ is → nat_lt 0 (length (essence_of qs)) ≡ is
movi_is result is ps qs told same e = sym (ap (λ (x : List Part). nat_lt 0 (length (essence_of x))) same) ∙ sym told ∙ e

pub returns-in-Err-clause-forms : goal.returns-in-Err-clause-forms
returns-in-Err-clause-forms g c b holds =
    let old : Top = record { reading = record { met = 0; parts = c.new.result; streams = c.new-2.result }; hdrl = false; idx1 = false } in
    front_first b old c.read_first.new.top c.in-Err.fault (c.in-Err.ensures.first b holds)

pub returns-in-Err-read_others-clause-forms : goal.returns-in-Err-read_others-clause-forms
returns-in-Err-read_others-clause-forms g c b holds =
    let held = holds_on (g.D.Depot.disk c.args.depot.now) (g.D.Depot.disk c.read_first.new.depot) b c.read_first.ensures.reads holds in
    let old : Top = record { reading = record { met = 0; parts = c.new.result; streams = c.new-2.result }; hdrl = false; idx1 = false } in
    let one = c.in-Ok.ensures.first b holds in
    front_others b old.reading c.read_others.new.reading c.in-Err-read_others.fault one.kind refl (all_forms b c.in-Ok.first old c.read_first.new.top c.read_others.new.reading (Err c.in-Err-read_others.fault) one (c.in-Err-read_others.ensures.run b held))

pub returns-then-not-top-clause-forms : goal.returns-then-not-top-clause-forms
returns-then-not-top-clause-forms g c b holds =
    let held = holds_on (g.D.Depot.disk c.args.depot.now) (g.D.Depot.disk c.read_first.new.depot) b c.read_first.ensures.reads holds in
    let old : Top = record { reading = record { met = 0; parts = c.new.result; streams = c.new-2.result }; hdrl = false; idx1 = false } in
    let one = c.in-Ok.ensures.first b holds in
    let all = all_forms b c.in-Ok.first old c.read_first.new.top c.read_others.new.reading (Ok tt) one (c.in-Ok-read_others.ensures.run b held) in
    front_lists b c.in-Ok.first old c.read_first.new.top c.read_others.new.reading one refl c.new.ensures.items all
    ∙ ap (λ (t : Bool). if not t then Some NoHdrl else (if not (nat_lt 0 (length (essence_of c.read_first.new.top.reading.parts.items))) then Some NoMovi else None)) c.if-not-top.true

pub returns-then-not-movi-clause-forms : goal.returns-then-not-movi-clause-forms
returns-then-not-movi-clause-forms g c b holds =
    let held = holds_on (g.D.Depot.disk c.args.depot.now) (g.D.Depot.disk c.read_first.new.depot) b c.read_first.ensures.reads holds in
    let old : Top = record { reading = record { met = 0; parts = c.new.result; streams = c.new-2.result }; hdrl = false; idx1 = false } in
    let one = c.in-Ok.ensures.first b holds in
    let all = all_forms b c.in-Ok.first old c.read_first.new.top c.read_others.new.reading (Ok tt) one (c.in-Ok-read_others.ensures.run b held) in
    let movi = movi_is c.has_essence-movi.result false c.deref.result.now c.read_first.new.top.reading.parts.items c.has_essence-movi.ensures c.deref.ensures.value c.if-not-movi.true in
    front_lists b c.in-Ok.first old c.read_first.new.top c.read_others.new.reading one refl c.new.ensures.items all
    ∙ ap (λ (t : Bool). if not t then Some NoHdrl else (if not (nat_lt 0 (length (essence_of c.read_first.new.top.reading.parts.items))) then Some NoMovi else None)) c.if-not-top.false
    ∙ ap (λ (t : Bool). if not t then Some NoMovi else None) movi

pub returns-clause-forms : goal.returns-clause-forms
returns-clause-forms g c b holds =
    let held = holds_on (g.D.Depot.disk c.args.depot.now) (g.D.Depot.disk c.read_first.new.depot) b c.read_first.ensures.reads holds in
    let old : Top = record { reading = record { met = 0; parts = c.new.result; streams = c.new-2.result }; hdrl = false; idx1 = false } in
    let one = c.in-Ok.ensures.first b holds in
    let all = all_forms b c.in-Ok.first old c.read_first.new.top c.read_others.new.reading (Ok tt) one (c.in-Ok-read_others.ensures.run b held) in
    let movi = movi_is c.has_essence-movi.result true c.deref.result.now c.read_first.new.top.reading.parts.items c.has_essence-movi.ensures c.deref.ensures.value c.if-not-movi.false in
    record {
      tests = front_lists b c.in-Ok.first old c.read_first.new.top c.read_others.new.reading one refl c.new.ensures.items all
          ∙ ap (λ (t : Bool). if not t then Some NoHdrl else (if not (nat_lt 0 (length (essence_of c.read_first.new.top.reading.parts.items))) then Some NoMovi else None)) c.if-not-top.false
          ∙ ap (λ (t : Bool). if not t then Some NoMovi else None) movi;
      parts = rw c.new.ensures.items at all.parts;
      streams = rw c.new-2.ensures.items at all.streams;
      spans =
          let k = c.in-Ok.first in
          let order = c.in-Ok.ensures.order in
          let whole : c.args.len ≡ length b = c.requires.whole b holds in
          let place : 0 + length (spell (chunk_in b riff k)) ≡ k.next = omega (arith, one.next) in
          c.in-Ok-read_others.ensures.spans b held
          ∙ ap (λ (ss : List Span). ss ++ map body_span (stood k.next (forms_from false b k.next).chunks)) (c.in-Ok-push.ensures.items ∙ ap (λ (ss : List Span). ss ++ k.body ∷ []) c.new-forms.ensures.items)
          ∙ spans_next [] k.body 0 k.next (chunk_in b riff k) (forms b) (forms_from false b k.next) one.run place (body_is b 0 k order.body (omega (arith, order.whole, order.last, whole)));
    }

pub returns-clause-placed : goal.returns-clause-placed
returns-clause-placed g c =
    let order = c.in-Ok.ensures.order in
    let none : ArePlaced 0 c.args.len c.new.result.items = rw c.new.ensures.items (record { essence = omega arith; fit = tt }) in
    c.in-Ok-read_others.ensures.placed c.args.len (omega arith) (c.in-Ok.ensures.placed c.args.len order.last none)
