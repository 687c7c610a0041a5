use Rattle.std.proofs.Common.{◌≡◌, ◌+◌, ◌-◌, ◌*◌, ℕ, List, drop}
use Rattle.container_model.specs.Rows.{numbers}
use Rattle.mov_file.specs.Chunks.{first_astray, width_of}
use Rattle.mov_file.proofs.chunks.astray_in_page.Given as goal

-- no row so far is astray, and those that are left say the rest
abbrev pub invariant-rows : goal.invariant-rows
invariant-rows l = record {
  left : first_astray l.mdats l.first (numbers (width_of l.wide) l.rows l.page) ≡ first_astray l.mdats (l.first + l.row) (numbers (width_of l.wide) (l.rows - l.row) (drop ((width_of l.wide).bytes * l.row) l.page));
}
