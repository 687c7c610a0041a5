use Rattle.std.proofs.Common.{◌≡◌, ◌∙◌, ◌+◌, ◌*◌, ℕ, suc, take, drop, ap, arith}
use Rattle.std.proofs.Math.Nat.{mul-suc}
use Rattle.me_disk.proofs.Holds.{holds_on}
use Rattle.me_disk.proofs.Runs.{ReadsOnly-trans}
use Rattle.sample_tables.specs.Samples.{samples_of}
use Rattle.track_samples.specs.Left.{fitting, runs_of, sizes_left, width_of}
use Rattle.track_samples.proofs.OnDisk.{window_on}
use Rattle.track_samples.proofs.Counted.{count_step}
use Rattle.track_samples.proofs.count.count_samples.Goals as goal

pub overflow_add-counted : goal.overflow_add-counted
overflow_add-counted g c = omega (arith, c.chunks.invariant.few, c.in_ok-fits.ensures.small)

pub chunks-preserved : goal.chunks-preserved
chunks-preserved g c =
    let inv = c.chunks.invariant in
    let w = width_of c.args.wide in
    let k = c.chunks.chunk in
    let d0 = g.D.Depot.disk c.chunks.depot in
    let d1 = g.D.Depot.disk c.read_place.new.depot in
    let d2 = g.D.Depot.disk c.go_to.new.depot in
    let d3 = g.D.Depot.disk c.take_next.new.depot in
    let first = c.read_place.ensures.reads in
    let second = c.go_to.ensures.reads in
    let third = c.take_next.ensures.reads in
    let last = ReadsOnly-trans d1 d2 d3 second third in
    record {
      rows = c.go_to.ensures.rows ∙ inv.rows;
      table = c.take_next.ensures.table ∙ inv.table;
      next_run = c.go_to.ensures.next;
      next_size = c.take_next.ensures.next;
      few = omega (arith, inv.few, c.in_ok-fits.ensures.few);
      window = window_on d1 d3 c.read_place.new.window last c.read_place.ensures.window;
      runs_window = window_on d2 d3 c.go_to.new.self.window third c.go_to.ensures.window;
      sizes_window = c.take_next.ensures.window;
      reads = ReadsOnly-trans _ d0 d3 inv.reads (ReadsOnly-trans d0 d1 d3 first last);
      runs = λ b n holds le.
          let held = holds_on _ d0 b inv.reads holds in
          let then = holds_on d0 d1 b first held in
          inv.runs b n holds (omega arith) ∙ c.in_ok-go_to.ensures.ahead b n then (omega arith);
      left = λ b holds.
          let held = holds_on _ d0 b inv.reads holds in
          let then = holds_on d0 d1 b first held in
          let after = holds_on d1 d2 b second then in
          let rs = runs_of b c.args.runs.now.rows in
          let a = c.args.places.at + w.bytes * k in
          let place = c.in_ok-place.ensures.place b held ∙ ap (λ (i : ℕ). w.get (take w.bytes (drop i b))) c.place_at-at.ensures.at in
          let now : samples_of 0 (k + 1) rs ≡ c.go_to.new.self.samples = inv.runs b (k + 1) holds (omega arith) ∙ c.in_ok-go_to.ensures.ahead b (k + 1) then (omega arith) ∙ c.in_ok-go_to.ensures.here b then in
          let sizes = sizes_left b c.chunks.sizes.table c.chunks.sizes.next in
          let fit = c.in_ok-fits.ensures.fit b after ∙ ap (fitting c.go_to.new.self.samples sizes) c.room_behind-room.ensures in
          let one : k + 1 ≡ suc k = omega arith in
          let next : c.args.places.at + w.bytes * (k + 1) ≡ a + w.bytes =
          ap (λ (i : ℕ). c.args.places.at + w.bytes * i) one ∙ ap (λ (i : ℕ). c.args.places.at + i) (mul-suc w.bytes k) ∙ omega arith in
          count_step b c.args.mdats.now c.args.wide rs k c.args.places.count a (c.args.places.at + w.bytes * (k + 1)) c.in_ok-fits.fits c.in_ok-place.place c.go_to.new.self.samples c.chunks.counted _ sizes
          (sizes_left b c.take_next.new.self.table c.take_next.new.self.next)
          (c.requires.inside b holds) (omega arith) place now fit (c.in_ok-fits.ensures.left b) next (inv.left b holds);
    }
