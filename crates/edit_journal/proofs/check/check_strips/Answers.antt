use Rattle.std.proofs.Common.{◌∙◌, ◌-◌, suc, ap, sym, subst, ℕ, List, arith, ◌≡◌}
use Rattle.std.specs.declared.option.Option.{Option}
use Rattle.me_disk.specs.Disk.{bytes_of}
use Rattle.me_disk.proofs.Runs.{ReadsOnly-trans}
use Rattle.edit_journal.specs.Damage.{damage}
use Rattle.edit_journal.specs.Reads.{IsAt, Holds}
use Rattle.edit_journal.proofs.Walk.{at_left_over, at_gap, at_end, damaged_map, at_same}
use Rattle.edit_journal.proofs.check.check_strips.Goals as goal

pub loop-left-preserved : goal.loop-left-preserved
loop-left-preserved g c =
    let so = c.loop-left.invariant in
    let e = c.in-Ok.ensures in
    let d0 = g.D.Depot.disk c.args.depot.now in
    let d1 = g.D.Depot.disk c.loop-left.depot in
    let same = so.reads.journal in
    let step : suc (c.loop-left.left - 1) ≡ c.loop-left.left = omega (arith, c.loop-left-test.true) in
    record {
      window = e.window;
      holds = λ tells. subst (λ (j : Option (List ℕ)). Holds c.pass_strip.new.window (bytes_of j)) same (e.holds (so.reads.tells ∙ tells));
      at = e.at.0;
      total = e.at.1;
      reads = ReadsOnly-trans d0 d1 (g.D.Depot.disk c.pass_strip.new.depot) so.reads e.reads;
      is_at = λ tells. at_same c.args.head.now d0.slots.journal d1.slots.journal (c.loop-left.left - 1) c.loop-left.left c.loop-left.p c.in-Ok.next same step (e.next (so.reads.tells ∙ tells) (c.loop-left.left - 1)) (so.is_at tells);
    }

pub returns-in-Err-clause-damaged : goal.returns-in-Err-clause-damaged
returns-in-Err-clause-damaged g c =
    let so = c.loop-left.invariant in
    let d0 = g.D.Depot.disk c.args.depot.now in
    let d1 = g.D.Depot.disk c.loop-left.depot in
    let step : c.loop-left.left ≡ suc (c.loop-left.left - 1) = omega (arith, c.loop-left-test.true) in
    damaged_map c.in-Err.e _ _ (λ at h tells.
    ap (λ (j : Option (List ℕ)). damage (bytes_of j)) (sym so.reads.journal) ∙ h (so.reads.tells ∙ tells) (c.loop-left.left - 1)
    (subst (λ (j : Option (List ℕ)). IsAt c.args.head.now (bytes_of j) (suc (c.loop-left.left - 1)) c.loop-left.p) (sym so.reads.journal)
    (subst (λ (k : ℕ). IsAt c.args.head.now (bytes_of d0.slots.journal) k c.loop-left.p) step (so.is_at tells))))
    c.in-Err.ensures.damaged

pub returns-then-p-head-clause-damaged : goal.returns-then-p-head-clause-damaged
returns-then-p-head-clause-damaged g c = λ tells.
    let so = c.loop-left.invariant in
    let j = bytes_of (g.D.Depot.disk c.args.depot.now).slots.journal in
    let none : c.loop-left.left ≡ 0 = omega (arith, c.loop-left-test.false) in
    at_left_over c.args.head.now j c.loop-left.p (subst (λ (k : ℕ). IsAt c.args.head.now j k c.loop-left.p) none (so.is_at tells)) (omega (arith, (c.requires.front tells).len, c.if-p-head.true))

pub returns-clause-whole : goal.returns-clause-whole
returns-clause-whole g c = λ tells.
    let so = c.loop-left.invariant in
    let j = bytes_of (g.D.Depot.disk c.args.depot.now).slots.journal in
    let none : c.loop-left.left ≡ 0 = omega (arith, c.loop-left-test.false) in
    at_end c.args.head.now j c.loop-left.p (subst (λ (k : ℕ). IsAt c.args.head.now j k c.loop-left.p) none (so.is_at tells)) (c.requires.front tells)
    (omega (arith, (c.requires.front tells).len, c.if-p-head.false)) (omega (arith, c.max.ensures, c.if-max-head.false))

pub returns-then-max-head-clause-damaged : goal.returns-then-max-head-clause-damaged
returns-then-max-head-clause-damaged g c = λ tells.
    let so = c.loop-left.invariant in
    let j = bytes_of (g.D.Depot.disk c.args.depot.now).slots.journal in
    let none : c.loop-left.left ≡ 0 = omega (arith, c.loop-left-test.false) in
    at_gap c.args.head.now j c.loop-left.p (subst (λ (k : ℕ). IsAt c.args.head.now j k c.loop-left.p) none (so.is_at tells))
    (omega (arith, (c.requires.front tells).len, c.if-p-head.false)) (omega (arith, c.max.ensures, c.if-max-head.true))
