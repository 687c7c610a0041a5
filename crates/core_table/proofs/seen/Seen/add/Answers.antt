use Rattle.std.proofs.Common.{◌||◌, ◌∙◌, ap, ℕ, List, not, Vec, Global, Ordering, map}
use Rattle.std.specs.Cmp.Lexicographic.{slice_cmp}
use Rattle.std.specs.Ordering.{nat_cmp}
use Rattle.std.specs.Str.{bytes_eq}
use Rattle.std.proofs.lemmas.Map.Text.{is_eq-slice_cmp}
use Rattle.core_table.specs.Sets.{has}
use Rattle.core_table.proofs.Keys.{contained, inserted}
use Rattle.core_table.proofs.seen.Seen.add.Goals as goal
use Rattle.core_table.proofs.seen.Seen.add.Goals.{in-Ok, in-Err}

-- the name of a key
abbrev name : Vec ℕ Global → List ℕ
name v = v.items

abbrev order : Vec ℕ Global → Vec ℕ Global → Ordering
order x y = slice_cmp nat_cmp x.items y.items

pub returns-clause-added : goal.returns-clause-added
returns-clause-added c = elim c.match-insert.branch [
  | in-Ok w ↦
      let h = rw w.in-Ok.is at c.insert.ensures.added in
      let e = contained name order (λ x y. is_eq-slice_cmp x.items y.items) c.self.inside.held.keys c.in_ok-copy.copy in
      let e2 = ap (λ (t : List ℕ). has (map name c.self.inside.held.keys) t) c.in_ok-copy.ensures.items in
      let e3 = ap (λ ks. has ks c.args.name.now) c.self.view_is in
      rw w.result-is (h ∙ ap not (e ∙ e2 ∙ e3))
  | in-Err w ↦ rw w.result-is tt
]

pub returns-clause-held : goal.returns-clause-held
returns-clause-held c = elim c.match-insert.branch [
  | in-Ok w ↦
      let h = rw w.in-Ok.is at c.insert.ensures.keys in
      rw w.result-is (λ other.
      let e = inserted name order (λ x y. is_eq-slice_cmp x.items y.items) c.self.inside.held.keys c.in_ok-copy.copy other in
      let e2 = ap (λ (t : List ℕ). bytes_eq other t || has (map name c.self.inside.held.keys) other) c.in_ok-copy.ensures.items in
      let e3 = ap (λ ks. bytes_eq other c.args.name.now || has ks other) c.self.view_is in
      ap (λ ks. has (map name ks) other) h ∙ e ∙ e2 ∙ e3)
  | in-Err w ↦ rw w.result-is tt
]
