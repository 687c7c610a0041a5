use Rattle.std.proofs.Common.{◌≡◌, ◌∙◌, ◌+◌, ◌-◌, ◌*◌, ◌<◌, ℕ, take, drop, arith, ap, subst}
use Rattle.std.specs.Prelude.{◌==◌}
use Rattle.std.specs.declared.result.Result.TheVariants.{Ok, Err}
use Rattle.me_disk.proofs.Holds.{holds_on}
use Rattle.me_disk.proofs.Runs.{ReadsOnly-trans}
use Rattle.riff_form.proofs.Windows.{window_stays}
use Rattle.container_model.specs.Written.{rows, slice}
use Rattle.opendml_index.specs.Index.{place_by, super_place, used_place}
use Rattle.avi_file.specs.Indexes.{ReadsNamed, kept_at, kept_rows, places_tests, rows_tests}
use Rattle.avi_file.proofs.Lined.{named_more, named_cut, rows_left, tests_step, kept_step, place_is}
use Rattle.avi_file.proofs.index.take_all_named.Goals as goal

pub returns-in-Err-take_place-clause-took : goal.returns-in-Err-take_place-clause-took
returns-in-Err-take_place-clause-took g c b holds =
    let before = c.entries.invariant in
    let k = c.entries.k in
    let x = drop 24 (slice b c.args.body.at c.args.body.len) in
    let row = take 16 (drop (16 * k) x) in
    let later_rows = rows 16 (c.args.used - (k + 1)) (drop (16 * (k + 1)) x) in
    let below : k < c.args.used = omega (arith, c.entries-test.true, c.from-k-end.ensures) in
    let split = rows_left x c.args.used k below in
    let held = holds_on (g.D.Depot.disk c.args.depot.now) (g.D.Depot.disk c.entries.depot) b before.reads holds in
    let later = holds_on (g.D.Depot.disk c.entries.depot) (g.D.Depot.disk c.read_at.new.depot) b c.read_at.ensures.reads held in
    let place : c.from_le_bytes.result ≡ super_place row = c.from_le_bytes.ensures ∙ place_is b c.read_at.new.into c.args.body.at c.args.body.len k (omega (arith, c.requires.there)) (c.in-Ok.ensures.bytes b held) in
    let took : ReadsNamed (places_tests c.args.movis.now b (used_place row)) (kept_at b (used_place row)) c.entries.named.items c.take_place.new.named.items (Err c.in-Err-take_place.fault) =
    subst (λ (p : ℕ). ReadsNamed (places_tests c.args.movis.now b (place_by p (p == 0))) (kept_at b (place_by p (p == 0))) c.entries.named.items c.take_place.new.named.items (Err c.in-Err-take_place.fault)) place (c.in-Err-take_place.ensures.took b later)
    in
    named_cut (rows_tests c.args.movis.now b (rows 16 c.args.used x)) (rows_tests c.args.movis.now b (rows 16 (c.args.used - k) (drop (16 * k) x))) (rows_tests c.args.movis.now b later_rows) (places_tests c.args.movis.now b (used_place row))
    (kept_rows b (rows 16 c.args.used x)) (kept_rows b (rows 16 (c.args.used - k) (drop (16 * k) x))) (kept_at b (used_place row)) c.args.named.now.items c.entries.named.items c.take_place.new.named.items c.in-Err-take_place.fault (before.left b holds)
    (ap (rows_tests c.args.movis.now b) split ∙ tests_step c.args.movis.now b row later_rows) took

pub entries-preserved : goal.entries-preserved
entries-preserved g c =
    let before = c.entries.invariant in
    record {
      window = window_stays (g.D.Depot.disk c.read_at.new.depot) (g.D.Depot.disk c.take_place.new.depot) c.read_at.new.self c.take_place.ensures.reads c.read_at.ensures.window;
      reads = ReadsOnly-trans _ _ _ (ReadsOnly-trans _ _ _ before.reads c.read_at.ensures.reads) c.take_place.ensures.reads;
      sound = λ h. c.take_place.ensures.sound (before.sound h);
      left = λ b holds.
          let k = c.entries.k in
          let x = drop 24 (slice b c.args.body.at c.args.body.len) in
          let row = take 16 (drop (16 * k) x) in
          let later_rows = rows 16 (c.args.used - (k + 1)) (drop (16 * (k + 1)) x) in
          let below : k < c.args.used = omega (arith, c.entries-test.true, c.from-k-end.ensures) in
          let split = rows_left x c.args.used k below in
          let held = holds_on (g.D.Depot.disk c.args.depot.now) (g.D.Depot.disk c.entries.depot) b before.reads holds in
          let later = holds_on (g.D.Depot.disk c.entries.depot) (g.D.Depot.disk c.read_at.new.depot) b c.read_at.ensures.reads held in
          let place : c.from_le_bytes.result ≡ super_place row = c.from_le_bytes.ensures ∙ place_is b c.read_at.new.into c.args.body.at c.args.body.len k (omega (arith, c.requires.there)) (c.in-Ok.ensures.bytes b held) in
          let took : ReadsNamed (places_tests c.args.movis.now b (used_place row)) (kept_at b (used_place row)) c.entries.named.items c.take_place.new.named.items (Ok tt) =
          subst (λ (p : ℕ). ReadsNamed (places_tests c.args.movis.now b (place_by p (p == 0))) (kept_at b (place_by p (p == 0))) c.entries.named.items c.take_place.new.named.items (Ok tt)) place (c.in-Ok-take_place.ensures.took b later)
          in
          named_more (rows_tests c.args.movis.now b (rows 16 c.args.used x)) (rows_tests c.args.movis.now b (rows 16 (c.args.used - k) (drop (16 * k) x))) (rows_tests c.args.movis.now b later_rows) (places_tests c.args.movis.now b (used_place row))
          (kept_rows b (rows 16 c.args.used x)) (kept_rows b (rows 16 (c.args.used - k) (drop (16 * k) x))) (kept_rows b later_rows) (kept_at b (used_place row)) c.args.named.now.items c.entries.named.items c.take_place.new.named.items (before.left b holds)
          (ap (rows_tests c.args.movis.now b) split ∙ tests_step c.args.movis.now b row later_rows) (ap (kept_rows b) split ∙ kept_step b row later_rows) took;
    }
