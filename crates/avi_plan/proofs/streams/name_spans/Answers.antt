use Rattle.std.proofs.Common.{◌≡◌, ◌+◌, ℕ, subst, arith}
use Rattle.unit_plan.specs.Cuts.{SpansAscend}
use Rattle.unit_plan.proofs.Spans.{ascend_high}
use Rattle.avi_plan.specs.Streams.{told}
use Rattle.avi_plan.proofs.Hdrled.{sites_told}
use Rattle.avi_plan.proofs.Homed.{streams_end}
use Rattle.avi_plan.proofs.Nameable.{names_stand, names_told, the_sites}
use Rattle.avi_plan.proofs.streams.name_spans.Goals as goal

pub streams_spans-requires-clause-whole : goal.streams_spans-requires-clause-whole
streams_spans-requires-clause-whole g c b held = let t = c.requires.tells b held in streams_end b c.args.streams.now t.form.supported t.streams_are

pub names_at-requires-clause-ascend : goal.names_at-requires-clause-ascend
names_at-requires-clause-ascend g c =
    let l = c.hdrl_at-list.result in
    let h = c.args.hdrl in
    let ks = c.in-Ok.found.cuts.items in
    let is = c.hdrl_at-list.ensures.is in
    let are = c.in-Ok.ensures.inside in
    let low : h.at + 4 ≡ l.at + 12 = omega (arith, is.0) in
    let high : h.at + h.len ≡ l.at + 8 + l.size = omega (arith, is.0, is.1) in
    subst (λ (p : ℕ). SpansAscend p ks (l.at + 8 + l.size)) low (ascend_high (h.at + 4) c.in-Ok.found.at (l.at + 8 + l.size) ks (omega (arith, are.inside, high)) are.ascend)

pub returns-in-Ok-names_at-clause-names : goal.returns-in-Ok-names_at-clause-names
returns-in-Ok-names_at-clause-names g c b held bytes =
    let l = c.hdrl_at-list.result in
    let is = c.hdrl_at-list.ensures.is in
    let f = c.args.form.now in
    let e = told c.args.names.now in
    let t = c.requires.tells b held in
    let n = c.in-Ok-names_at in
    let sites = sites_told b bytes e f c.args.hdrl c.args.streams.now t in
    let streams = c.in-Ok.ensures.told b (the_sites b bytes e f c.args.hdrl c.args.streams.now t) held bytes sites in
    names_told b bytes e f c.args.hdrl c.args.streams.now t l c.hdrl_at-list.ensures.sound is.0 is.1 is.2 c.in-Ok.found streams c.in-Ok.ensures.inside
    n.named n.ensures.place.0 n.ensures.place.1 n.ensures.cuts n.ensures.fits n.ensures.len n.ensures.lacks n.ensures.parts.0 n.ensures.parts.1

pub returns-in-Ok-names_at-clause-stand : goal.returns-in-Ok-names_at-clause-stand
returns-in-Ok-names_at-clause-stand g c =
    let l = c.hdrl_at-list.result in
    let is = c.hdrl_at-list.ensures.is in
    let n = c.in-Ok-names_at in
    names_stand c.args.form.now c.args.hdrl l c.in-Ok.found n.named c.requires.sound c.requires.lies c.hdrl_at-list.ensures.sound is.0 is.1 (omega (arith, is.2)) c.in-Ok.ensures.inside
    n.ensures.place.0 n.ensures.place.1 n.ensures.cuts n.ensures.fits n.ensures.len
