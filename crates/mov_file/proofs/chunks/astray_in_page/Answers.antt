use Rattle.std.proofs.Common.{rules, arith, sym, ap, ◌≡◌, ◌∙◌, ◌+◌, ◌-◌, ◌*◌, ℕ, suc, List, drop, Some, true, false}
use Rattle.part_tree.specs.Ranges.{in_one}
use Rattle.container_model.specs.Rows.{field, numbers}
use Rattle.mov_file.specs.Chunks.{first_astray, width_of}
use Rattle.mov_file.proofs.Astray.{astray_here, astray_more, next_row}
use Rattle.mov_file.proofs.chunks.astray_in_page.Goals as goal

pub returns-then-not-is_held : goal.returns-then-not-is_held
returns-then-not-is_held c =
    let w = width_of c.args.wide in
    let ms = c.args.mdats.now in
    let x = c.args.page.now in
    let r = c.rows.row in
    let k = c.args.rows - (r + 1) in
    let more : c.args.rows - r ≡ suc k = omega (arith, c.rows-test.true) in
    let place : c.place_in-place.result ≡ field w (w.bytes * r) x = c.place_in-place.ensures ∙ ap (λ (n : ℕ). field w (n * r) x) c.row_len-width.ensures.len in
    let apart : in_one ms c.place_in-place.result 1 ≡ false = search rules in
    let row : in_one ms (field w (w.bytes * r) x) 1 ≡ false = ap (λ (p : ℕ). in_one ms p 1) (sym place) ∙ apart in
    sym (c.rows.invariant.left
    ∙ ap (λ (i : ℕ). first_astray ms (c.args.first + r) (numbers w i (drop (w.bytes * r) x))) more
    ∙ astray_here ms w k (w.bytes * r) (c.args.first + r) x row)

pub rows-preserved : goal.rows-preserved
rows-preserved c =
    let w = width_of c.args.wide in
    let ms = c.args.mdats.now in
    let x = c.args.page.now in
    let r = c.rows.row in
    let k = c.args.rows - (r + 1) in
    let more : c.args.rows - r ≡ suc k = omega (arith, c.rows-test.true) in
    let place : c.place_in-place.result ≡ field w (w.bytes * r) x = c.place_in-place.ensures ∙ ap (λ (n : ℕ). field w (n * r) x) c.row_len-width.ensures.len in
    let held : in_one ms c.place_in-place.result 1 ≡ true = search rules in
    let row : in_one ms (field w (w.bytes * r) x) 1 ≡ true = ap (λ (p : ℕ). in_one ms p 1) (sym place) ∙ held in
    let next : suc (c.args.first + r) ≡ c.args.first + (r + 1) = omega arith in
    record {
      left = c.rows.invariant.left
          ∙ ap (λ (i : ℕ). first_astray ms (c.args.first + r) (numbers w i (drop (w.bytes * r) x))) more
          ∙ astray_more ms w k (w.bytes * r) (c.args.first + r) x row
          ∙ ap (λ (i : ℕ). first_astray ms i (numbers w k (drop (w.bytes * r + w.bytes) x))) next
          ∙ ap (λ (i : ℕ). first_astray ms (c.args.first + (r + 1)) (numbers w k (drop i x))) (next_row c.args.wide r);
    }
