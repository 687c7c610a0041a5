use Rattle.std.proofs.Common.{◌∙◌, ◌+◌, ◌*◌, ℕ, take, drop, ap, arith}
use Rattle.std.specs.Int.{w32, from_be_bytes}
use Rattle.me_disk.proofs.Holds.{holds_on}
use Rattle.me_disk.proofs.Runs.{ReadsOnly-trans}
use Rattle.track_samples.proofs.RunsLeft.{passes_run, stays_before}
use Rattle.track_samples.proofs.runs.Runs.go_to.Goals as goal

pub returns-then-first-chunk-clause-here : goal.returns-then-first-chunk-clause-here
returns-then-first-chunk-clause-here g c = λ b holds.
    let inv = c.runs.invariant in
    let held = holds_on _ _ b inv.reads holds in
    let s = c.runs.self in
    let at = ap (λ (i : ℕ). from_be_bytes w32 (take 4 (drop (s.rows.at + 12 * i) b))) c.from.ensures in
    stays_before b s.rows s.samples c.args.chunk s.next c.in_ok-first.first (omega arith) (c.in_ok-first.ensures.number b held ∙ at) (omega arith)

pub runs-preserved : goal.runs-preserved
runs-preserved g c =
    let inv = c.runs.invariant in
    let s = c.runs.self in
    record {
      rows = inv.rows;
      next = omega arith;
      window = c.in_ok-samples.ensures.window;
      reads = ReadsOnly-trans _ _ _ inv.reads (ReadsOnly-trans _ _ _ c.in_ok-first.ensures.reads c.in_ok-samples.ensures.reads);
      ahead = λ b n holds le.
          let held = holds_on _ _ b inv.reads holds in
          let then = holds_on _ _ b c.in_ok-first.ensures.reads held in
          let at = ap (λ (i : ℕ). from_be_bytes w32 (take 4 (drop (s.rows.at + 12 * i) b))) c.from.ensures in
          let behind = ap (λ (i : ℕ). from_be_bytes w32 (take 4 (drop (s.rows.at + 12 * i + 4) b))) c.from.ensures in
          inv.ahead b n holds le
          ∙ passes_run b s.rows s.samples n s.next c.in_ok-first.first c.in_ok-samples.samples (omega arith) (c.in_ok-first.ensures.number b held ∙ at) (c.in_ok-samples.ensures.number b then ∙ behind) (omega arith);
    }
