use Rattle.std.proofs.Common.{◌∙◌, ◌+◌, ◌-◌, ◌*◌, ℕ, take, drop, ap, arith}
use Rattle.std.specs.Int.{w32, from_be_bytes}
use Rattle.me_disk.proofs.Holds.{holds_on}
use Rattle.me_disk.proofs.Runs.{ReadsOnly-trans}
use Rattle.track_samples.proofs.SizesLeft.{fit_left, fit_step, fit_stop}
use Rattle.track_samples.proofs.sizes.fit_each.Goals as goal

pub returns-then-bytes-left-clause-fit : goal.returns-then-bytes-left-clause-fit
returns-then-bytes-left-clause-fit g c = λ b holds.
    let inv = c.sizes.invariant in
    let held = holds_on _ _ b inv.reads holds in
    let k = c.sizes.row in
    let at = ap (λ (i : ℕ). from_be_bytes w32 (take 4 (drop (c.args.at + 4 * i) b))) c.from.ensures in
    fit_stop b c.args.at c.args.count k c.in_ok-size.size c.sizes.left _ (omega arith) (c.in_ok-size.ensures.number b held ∙ at) (omega (arith, c.from-bytes.ensures)) (inv.fits b holds)

pub sizes-preserved : goal.sizes-preserved
sizes-preserved g c =
    let inv = c.sizes.invariant in
    let k = c.sizes.row in
    record {
      window = c.in_ok-size.ensures.window;
      reads = ReadsOnly-trans _ _ _ inv.reads c.in_ok-size.ensures.reads;
      fits = λ b holds.
          let held = holds_on _ _ b inv.reads holds in
          let at = ap (λ (i : ℕ). from_be_bytes w32 (take 4 (drop (c.args.at + 4 * i) b))) c.from.ensures in
          ap (λ (i : ℕ). k + 1 + fit_left b c.args.at c.args.count (k + 1) (c.sizes.left - i)) c.from-bytes.ensures
          ∙ fit_step b c.args.at c.args.count k c.in_ok-size.size c.sizes.left _ (omega arith) (c.in_ok-size.ensures.number b held ∙ at) (omega (arith, c.from-bytes.ensures)) (inv.fits b holds);
    }
