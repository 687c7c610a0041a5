use Rattle.std.proofs.Common.{rules, arith, sym, ap, ◌≡◌, ◌∙◌, ◌+◌, ◌-◌, ◌*◌, ℕ, List, length, take, drop, Option, Some, None}
use Rattle.me_disk.proofs.Holds.{holds_on}
use Rattle.me_disk.proofs.Runs.{ReadsOnly-trans}
use Rattle.container_model.specs.Rows.{numbers}
use Rattle.mov_file.specs.Chunks.{first_astray, width_of}
use Rattle.mov_file.proofs.Astray.{astray_by_page, page_is, page_long, page_rows}
use Rattle.mov_file.proofs.chunks.astray_among.Goals as goal

pub returns-in-Some-clause-astray : goal.returns-in-Some-clause-astray
returns-in-Some-clause-astray g c = λ b holds fits.
    let inv = c.pages.invariant in
    let w = width_of c.args.wide in
    let ms = c.args.mdats.now in
    let n = c.pages.done in
    let s = c.min-some.result in
    let from = c.args.rows.at in
    let held = holds_on _ _ b inv.reads holds in
    let page = c.read_at.new.into in
    let long : length (take (c.row_len-width.result * s) c.pages.page) ≡ w.bytes * s = page_long c.args.wide c.row_len-width.result s c.pages.page c.row_len-width.ensures.len (omega (arith, c.min-some.ensures)) c.min-some.array_long in
    let there : from + c.row_len-width.result * c.from-in-pages.result ≡ from + w.bytes * n
    = ap (λ (k : ℕ). from + k * c.from-in-pages.result) c.row_len-width.ensures.len ∙ ap (λ (k : ℕ). from + w.bytes * k) c.from-in-pages.ensures in
    let is : page ≡ take (w.bytes * s) (drop (from + w.bytes * n) b)
    = page_is page (take (c.row_len-width.result * s) c.pages.page) _ b (from + c.row_len-width.result * c.from-in-pages.result) (from + w.bytes * n) (w.bytes * s) (c.in_ok-read_at.ensures.bytes held.tells) held.bytes long there in
    let rows : first_astray ms (n + 1) (numbers w s (drop (from + w.bytes * n) b)) ≡ first_astray ms (n + 1) (numbers w s page)
    = ap (first_astray ms (n + 1)) (sym (page_rows c.args.wide s (from + w.bytes * n) b page is)) in
    sym (inv.left b holds ∙ astray_by_page ms c.args.wide n s c.args.count from b (Some c.in-Some.found) (omega (arith, c.min-some.ensures, c.pages-test.true)) (rows ∙ sym c.in-Some.ensures))

pub pages-preserved : goal.pages-preserved
pages-preserved g c =
    let inv = c.pages.invariant in
    record {
      few = omega (arith, c.min-some.ensures, c.pages-test.true);
      reads = ReadsOnly-trans _ _ _ inv.reads c.in_ok-read_at.ensures.reads;
      left = λ b holds.
          let w = width_of c.args.wide in
          let ms = c.args.mdats.now in
          let n = c.pages.done in
          let s = c.min-some.result in
          let from = c.args.rows.at in
          let held = holds_on _ _ b inv.reads holds in
          let page = c.read_at.new.into in
          let long : length (take (c.row_len-width.result * s) c.pages.page) ≡ w.bytes * s = page_long c.args.wide c.row_len-width.result s c.pages.page c.row_len-width.ensures.len (omega (arith, c.min-some.ensures)) c.min-some.array_long in
          let there : from + c.row_len-width.result * c.from-in-pages.result ≡ from + w.bytes * n
          = ap (λ (k : ℕ). from + k * c.from-in-pages.result) c.row_len-width.ensures.len ∙ ap (λ (k : ℕ). from + w.bytes * k) c.from-in-pages.ensures in
          let is : page ≡ take (w.bytes * s) (drop (from + w.bytes * n) b)
          = page_is page (take (c.row_len-width.result * s) c.pages.page) _ b (from + c.row_len-width.result * c.from-in-pages.result) (from + w.bytes * n) (w.bytes * s) (c.in_ok-read_at.ensures.bytes held.tells) held.bytes long there in
          let rows : first_astray ms (n + 1) (numbers w s (drop (from + w.bytes * n) b)) ≡ first_astray ms (n + 1) (numbers w s page)
          = ap (first_astray ms (n + 1)) (sym (page_rows c.args.wide s (from + w.bytes * n) b page is)) in
          inv.left b holds ∙ astray_by_page ms c.args.wide n s c.args.count from b None (omega (arith, c.min-some.ensures, c.pages-test.true)) (rows ∙ sym c.in-None.ensures);
    }
