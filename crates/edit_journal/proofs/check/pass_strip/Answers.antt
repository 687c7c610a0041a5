use Rattle.std.proofs.Common.{◌≡◌, ◌∙◌, ℕ, ◌-◌, ◌+◌, ap, sym, subst, take, drop, length, arith, length-drop}
use Rattle.me_disk.specs.Disk.{bytes_of}
use Rattle.edit_journal.specs.Journal.{version_of}
use Rattle.edit_journal.specs.Damage.{head_len, strip_len}
use Rattle.edit_journal.specs.Reads.{IsAt}
use Rattle.edit_journal.proofs.Walk.{window_gives, pass_broken, pass_next}
use Rattle.edit_journal.proofs.check.pass_strip.Goals as goal

pub numbers-strip-requires : goal.numbers-strip-requires
numbers-strip-requires g c = c.part.ensures.len ∙ c.head_size-size.ensures

pub returns-in-Some-clause-damaged : goal.returns-in-Some-clause-damaged
returns-in-Some-clause-damaged g c = λ tells k was.
    let j = bytes_of (g.D.Depot.disk c.args.depot.now).slots.journal in
    let h = c.args.head.now in
    let p = c.args.p in
    let n = c.head_size-size.result in
    let there = c.in_ok-fill.ensures.there in
    let read : c.part.result.now ≡ take (head_len (version_of h.version)) (drop p.at j) =
    window_gives c.fill.new.window j c.part.result.now p.at n (c.in_ok-fill.ensures.holds tells) there.0 there.1 c.part.ensures.bytes ∙ ap (λ (m : ℕ). take m (drop p.at j)) c.head_size-size.ensures in
    let left : h.len - p.at ≡ length (drop p.at j) = omega (arith, length-drop p.at j, (c.requires.told tells).1) in
    pass_broken h j k p c.part.result.now c.numbers-strip.result (h.len - p.at) read c.numbers-strip.ensures.header left was c.in-Some.at (omega (arith, c.if-left-size.false, c.head_size-size.ensures)) c.in-Some.ensures.breaks

pub returns-clause-next : goal.returns-clause-next
returns-clause-next g c = λ tells k was.
    let j = bytes_of (g.D.Depot.disk c.args.depot.now).slots.journal in
    let h = c.args.head.now in
    let p = c.args.p in
    let n = c.head_size-size.result in
    let s = c.numbers-strip.result in
    let there = c.in_ok-fill.ensures.there in
    let e = c.in_default.ensures in
    let read : c.part.result.now ≡ take (head_len (version_of h.version)) (drop p.at j) =
    window_gives c.fill.new.window j c.part.result.now p.at n (c.in_ok-fill.ensures.holds tells) there.0 there.1 c.part.ensures.bytes ∙ ap (λ (m : ℕ). take m (drop p.at j)) c.head_size-size.ensures in
    let left : h.len - p.at ≡ length (drop p.at j) = omega (arith, length-drop p.at j, (c.requires.told tells).1) in
    let size : n + c.body_size.result ≡ strip_len (version_of h.version) s = omega (arith, c.head_size-size.ensures, c.body_size.ensures) in
    let next = pass_next h j k p c.part.result.now s (h.len - p.at) read c.numbers-strip.ensures.header left was c.numbers-strip.ensures.bytes e.kind e.whole e.passes e.some e.after e.inside e.small e.joined in
    subst (λ (m : ℕ). IsAt h j k (record { end = s.place + s.len; total = p.total + s.len; at = p.at + m })) (sym size) next
