use Rattle.std.proofs.Common.{◌∙◌, ◌+◌, ◌*◌, ℕ, take, drop, sym, ap, arith}
use Rattle.std.specs.Int.{w32, from_be_bytes}
use Rattle.me_disk.proofs.Holds.{holds_on}
use Rattle.me_disk.proofs.Runs.{ReadsOnly-trans}
use Rattle.track_samples.proofs.RunsLeft.{ascends_not, ascends_on, begins_well}
use Rattle.track_samples.proofs.runs.are_in_order.Goals as goal

pub runs-init : goal.runs-init
runs-init g c = record {
  window = c.in_ok-low.ensures.window;
  reads = c.in_ok-low.ensures.reads;
  left = λ b holds. begins_well b c.args.rows c.in_ok-low.low (omega arith) (c.in_ok-low.ensures.number b holds) (omega arith);
}

pub returns-then-first-low-clause-order : goal.returns-then-first-low-clause-order
returns-then-first-low-clause-order g c = λ b holds.
    let inv = c.runs.invariant in
    let held = holds_on _ _ b inv.reads holds in
    let k = c.runs.row in
    let at = ap (λ (i : ℕ). from_be_bytes w32 (take 4 (drop (c.args.rows.at + 12 * i) b))) c.from.ensures in
    sym (inv.left b holds ∙ ascends_not b c.args.rows c.runs.low k c.in_ok-first.first (omega arith) (c.in_ok-first.ensures.number b held ∙ at) (omega arith))

pub runs-preserved : goal.runs-preserved
runs-preserved g c =
    let inv = c.runs.invariant in
    let k = c.runs.row in
    record {
      window = c.in_ok-first.ensures.window;
      reads = ReadsOnly-trans _ _ _ inv.reads c.in_ok-first.ensures.reads;
      left = λ b holds.
          let held = holds_on _ _ b inv.reads holds in
          let at = ap (λ (i : ℕ). from_be_bytes w32 (take 4 (drop (c.args.rows.at + 12 * i) b))) c.from.ensures in
          inv.left b holds ∙ ascends_on b c.args.rows c.runs.low k c.in_ok-first.first (omega arith) (c.in_ok-first.ensures.number b held ∙ at) (omega arith);
    }
