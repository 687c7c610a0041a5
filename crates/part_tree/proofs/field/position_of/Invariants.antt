use Rattle.std.proofs.Common.{◌≡◌, ◌<◌, ℕ, false, get_or}
use Rattle.std.specs.Str.{bytes_eq}
use Rattle.part_tree.specs.declared.names.FourCc.{FourCc}
use Rattle.part_tree.proofs.field.position_of.Given as goal

-- none of the identifiers so far is this one
abbrev pub invariant-loop-other : goal.invariant-loop-other
invariant-loop-other l = record {
  count : l.k ≡ l.other-index;
  before : (j : ℕ) (d : FourCc) → j < l.other-index → bytes_eq l.id.0 (get_or l.ids j d).0 ≡ false;
}
