use Rattle.std.proofs.Common.{◌≡◌, ◌∙◌, ◌+◌, ◌-◌, ◌≤◌, ◌∷◌, [], ℕ, true, List, length, arith, ap, subst}
use Rattle.std.specs.Prelude.{OnOk}
use Rattle.std.specs.declared.result.Result.TheVariants.{Ok, Err}
use Rattle.me_disk.proofs.Holds.{holds_on}
use Rattle.part_tree.specs.declared.names.Span.{Span}
use Rattle.container_model.specs.Tables.{named, size_at}
use Rattle.opendml_index.specs.Kinds.{is_standard_kind}
use Rattle.avi_file.specs.Indexes.{KeepsFirst, ReadsIndex, kept_at}
use Rattle.avi_file.proofs.Held.{body_there, index_fails, named_took, one_ends, place_fails}
use Rattle.avi_file.proofs.index.take_named.Goals as goal

pub returns-in-Err-clause-took : goal.returns-in-Err-clause-took
returns-in-Err-clause-took g c b holds = place_fails c.args.movis.now b c.args.place (kept_at b (c.args.place ∷ [])) c.args.named.now.items c.args.named.now.items c.in-Err.fault (c.in-Err.ensures.place b holds)

pub returns-in-Err-read_index-clause-took : goal.returns-in-Err-read_index-clause-took
returns-in-Err-read_index-clause-took g c b holds =
    let p = c.args.place in
    let held = holds_on (g.D.Depot.disk c.args.depot.now) (g.D.Depot.disk c.named_body.new.depot) b c.named_body.ensures.reads holds in
    let place = c.in-Ok.ensures.place b holds in
    let inside : p + (8 + size_at b p) ≤ length b = one_ends (length b) c.args.movis.now p (8 + size_at b p) (c.requires.inside b holds) place.0 in
    let body = body_there b p c.in-Ok.body (omega arith) place.1 in
    let at : c.in-Ok.body.at - 8 ≡ p = ap (λ (s : Span). s.at - 8) place.1 ∙ omega arith in
    index_fails c.args.movis.now b p (kept_at b (p ∷ [])) c.args.named.now.items c.args.named.now.items c.in-Err-read_index.fault place.0
    (subst (λ (q : ℕ). ReadsIndex is_standard_kind q (named b p).body (Err c.in-Err-read_index.fault)) at
    (subst (λ (x : List ℕ). ReadsIndex is_standard_kind (c.in-Ok.body.at - 8) x (Err c.in-Err-read_index.fault)) body (c.in-Err-read_index.ensures.head b held)))

pub returns-clause-took : goal.returns-clause-took
returns-clause-took g c b holds =
    let p = c.args.place in
    let head = c.in-Ok-read_index.field-0 in
    let held = holds_on (g.D.Depot.disk c.args.depot.now) (g.D.Depot.disk c.named_body.new.depot) b c.named_body.ensures.reads holds in
    let place = c.in-Ok.ensures.place b holds in
    let inside : p + (8 + size_at b p) ≤ length b = one_ends (length b) c.args.movis.now p (8 + size_at b p) (c.requires.inside b holds) place.0 in
    let body = body_there b p c.in-Ok.body (omega arith) place.1 in
    let at : c.in-Ok.body.at - 8 ≡ p = ap (λ (s : Span). s.at - 8) place.1 ∙ omega arith in
    let read : ReadsIndex is_standard_kind p (named b p).body (Ok head) =
    subst (λ (q : ℕ). ReadsIndex is_standard_kind q (named b p).body (Ok head)) at
    (subst (λ (x : List ℕ). ReadsIndex is_standard_kind (c.in-Ok.body.at - 8) x (Ok head)) body (c.in-Ok-read_index.ensures.head b held))
    in
    named_took c.args.movis.now b p c.args.named.now.items c.put_named.new.named.items c.put_named.result place.0 read.0
    (subst (λ (s : Span). OnOk c.put_named.result (KeepsFirst (record { body = s; standard = true } ∷ []) c.args.named.now.items c.put_named.new.named.items)) place.1 c.put_named.ensures.kept) c.put_named.ensures.memory
