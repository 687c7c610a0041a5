-- Spans of the same places leave the same ranges between them, whatever stands in their place, if it is as long.
use Rattle.std.proofs.Common.{◌≡◌, ◌∙◌, ℕ, zero, suc, ◌+◌, ◌-◌, ◌*◌, ◌≤◌, Bool, true, false, cond, List, [], ◌∷◌, ◌++◌, length, map, drop, refl, sym, ap, arith}
use Rattle.std.specs.Prelude.{nat_le}
use Rattle.std.specs.Int.{w64, to_be_bytes}
use Rattle.std.specs.List.{AllByRecursion}
use Rattle.std.proofs.lemmas.List.{length-append, length-drop}
use Rattle.part_tree.specs.Moves.{Move}
use Rattle.part_tree.specs.Plans.{segment_bytes}
use Rattle.part_tree.specs.declared.plan.Segment.TheVariants.{Table}
use Rattle.part_tree.specs.declared.table.TableForm.TheVariants.{Chunks64, Widen}
use Rattle.part_tree.proofs.Relocated.{relocated_length}
use Rattle.carrier_model.specs.Gaps.{between, moves_of}
use Rattle.container_model.specs.Rows.{Width, be64, numbers, spelled}
use Rattle.container_model.specs.Splice.{Cut, end_of}
use Rattle.mov_model.specs.Cuts.{RowTable}
use Rattle.unit_plan.specs.Cuts.{cut_in}
use Rattle.unit_plan.specs.declared.cut.CutAt.{CutAt}
use Rattle.mov_plan.specs.Tables.{LiesIn, form_of, merged, rows_of, table_in, width_of}
use Rattle.mov_plan.specs.declared.tables.TableAt.{TableAt}
use Rattle.mov_plan.proofs.Mixed.{IsRow, merged_is, mixed, rows_behind, rows_up_to}
use Rattle.mov_plan.proofs.Rowed.{wide_row}

-- a span of the same place, with as many bytes in its place
abbrev pub Alike : Cut → Cut → Type 0
Alike c d = (c.at ≡ d.at) × (c.len ≡ d.len) × (length c.bytes ≡ length d.bytes)

abbrev pub AllAlike : List Cut → List Cut → Type 0
AllAlike [] [] = Unit {0}
AllAlike [] (d ∷ ds) = ⊥
AllAlike (c ∷ cs) [] = ⊥
AllAlike (c ∷ cs) (d ∷ ds) = Alike c d × AllAlike cs ds

between_alike : (at to end : ℕ) (cs ds : List Cut) → AllAlike cs ds → between at to cs end ≡ between at to ds end
between_alike at to end [] [] h = refl
between_alike at to end [] (d ∷ ds) h = absurd h
between_alike at to end (c ∷ cs) [] h = absurd h
between_alike at to end (c ∷ cs) (d ∷ ds) h =
    ap (λ (x : ℕ). (record { at = at; len = x - at }, to) ∷ between (x + c.len) (to + (x - at) + length c.bytes) cs end) h.0.0
    ∙ ap (λ (x : ℕ). (record { at = at; len = d.at - at }, to) ∷ between (d.at + x) (to + (d.at - at) + length c.bytes) cs end) h.0.1
    ∙ ap (λ (x : ℕ). (record { at = at; len = d.at - at }, to) ∷ between (end_of d) (to + (d.at - at) + x) cs end) h.0.2
    ∙ ap (λ (ms : List Move). (record { at = at; len = d.at - at }, to) ∷ ms) (between_alike (end_of d) (to + (d.at - at) + length d.bytes) end cs ds h.1)

pub moves_alike : (cs ds : List Cut) (end : ℕ) → AllAlike cs ds → moves_of cs end ≡ moves_of ds end
moves_alike cs ds end h = between_alike 0 0 end cs ds h

both_alike : (a c b d : List Cut) → AllAlike a c → AllAlike b d → AllAlike (a ++ b) (c ++ d)
both_alike [] [] b d h g = g
both_alike [] (y ∷ c) b d h g = absurd h
both_alike (x ∷ a) [] b d h g = absurd h
both_alike (x ∷ a) (y ∷ c) b d h g = (h.0, both_alike a c b d h.1 g)

-- ---- tables among spans

module _ (g h : RowTable → Cut) where
  abbrev Same : RowTable → Type 0
  Same r = Alike (g r) (h r)

  rows_alike : (rs : List RowTable) → AllByRecursion Same rs → AllAlike (map g rs) (map h rs)
  rows_alike [] s = tt
  rows_alike (r ∷ rs) s = (s.0, rows_alike rs s.1)

  up_to_all : (p : ℕ) (rs : List RowTable) → AllByRecursion Same rs → AllByRecursion Same (rows_up_to p rs)
  up_to_all p [] s = tt
  up_to_all p (r ∷ rs) s = go (nat_le r.at p) (up_to_all p rs s.1)
    where
      go : (t : Bool) → AllByRecursion Same (rows_up_to p rs) → AllByRecursion Same (cond t (r ∷ rows_up_to p rs) [])
      go true again = (s.0, again)
      go false again = tt

  behind_all : (p : ℕ) (rs : List RowTable) → AllByRecursion Same rs → AllByRecursion Same (rows_behind p rs)
  behind_all p [] s = tt
  behind_all p (r ∷ rs) s = go (nat_le r.at p) (behind_all p rs s.1)
    where
      go : (t : Bool) → AllByRecursion Same (rows_behind p rs) → AllByRecursion Same (cond t (rows_behind p rs) (r ∷ rs))
      go true again = again
      go false again = s

  mixed_alike : (cs : List Cut) (rs : List RowTable) → AllByRecursion Same rs → AllAlike (mixed g cs rs) (mixed h cs rs)
  mixed_alike [] rs s = rows_alike rs s
  mixed_alike (k ∷ ks) rs s =
      both_alike (map g (rows_up_to k.at rs)) (map h (rows_up_to k.at rs)) (k ∷ mixed g ks (rows_behind k.at rs)) (k ∷ mixed h ks (rows_behind k.at rs))
      (rows_alike (rows_up_to k.at rs) (up_to_all k.at rs s)) ((refl, refl, refl), mixed_alike ks (rows_behind k.at rs) (behind_all k.at rs s))

-- ---- the tables of a plan

wide_long : (f : ℕ → ℕ) (w : Width) (k : ℕ) (b : List ℕ) → length (spelled be64 (map f (numbers w k b))) ≡ 8 * k
wide_long f w zero b = omega arith
wide_long f w (suc k) b =
    let more = wide_long f w k (drop w.bytes b) in
    let n = f (w.get (Rattle.std.specs.Prelude.take w.bytes b)) in
    omega (arith, more, length-append (to_be_bytes w64 n) (spelled be64 (map f (numbers w k (drop w.bytes b)))))

-- the rows of a table in a plan that widens them
abbrev plan_row : List Move → List ℕ → RowTable → Cut
plan_row ms b r = record { at = r.at; len = r.width.bytes * r.rows; bytes = segment_bytes ms b (Table (cond (Rattle.std.proofs.Common.eqb r.width.bytes 8) Chunks64 Widen) r.at r.rows) }

plan_is : (ms : List Move) (b : List ℕ) (t : TableAt) → table_in true ms b t ≡ plan_row ms b (rows_of t)
plan_is ms b t = go t.wide
  where
    go : (w : Bool) → record { at = t.at; len = cond w 8 4 * t.rows; bytes = segment_bytes ms b (Table (form_of w true) t.at t.rows) } ≡ plan_row ms b (record { at = t.at; width = width_of w; rows = t.rows })
    go true = refl
    go false = refl

row_alike : (ms : List Move) (f : ℕ → ℕ) (b : List ℕ) (t : TableAt) → LiesIn b t → Alike (plan_row ms b (rows_of t)) (wide_row f b (rows_of t))
row_alike ms f b t lies = (refl, refl, go t.wide lies)
  where
    go : (w : Bool) → t.at + cond w 8 4 * t.rows ≤ length b → length (plan_row ms b (record { at = t.at; width = width_of w; rows = t.rows })).bytes ≡ length (spelled be64 (map f (numbers (width_of w) t.rows (drop t.at b))))
    go true lies = relocated_length ms Chunks64 t.rows (drop t.at b) (omega (arith, lies, length-drop t.at b)) ∙ sym (wide_long f (width_of true) t.rows (drop t.at b))
    go false lies = relocated_length ms Widen t.rows (drop t.at b) (omega (arith, lies, length-drop t.at b)) ∙ sym (wide_long f (width_of false) t.rows (drop t.at b))

-- The spans of a plan are as those of the definitions.
pub merged_alike : (ms : List Move) (f : ℕ → ℕ) (b : List ℕ) (ks : List CutAt) (ts : List TableAt) → AllByRecursion (LiesIn b) ts
    → (end : ℕ) → moves_of (merged true ms b ks ts) end ≡ moves_of (mixed (wide_row f b) (map (cut_in b) ks) (map rows_of ts)) end
merged_alike ms f b ks ts lie end =
    ap (λ (cs : List Cut). moves_of cs end) (merged_is (plan_row ms b) true ms b ks ts (told ts))
    ∙ moves_alike (mixed (plan_row ms b) (map (cut_in b) ks) (map rows_of ts)) (mixed (wide_row f b) (map (cut_in b) ks) (map rows_of ts)) end
    (mixed_alike (plan_row ms b) (wide_row f b) (map (cut_in b) ks) (map rows_of ts) (alike ts lie))
  where
    told : (ts : List TableAt) → AllByRecursion (IsRow (plan_row ms b) true ms b) ts
    told [] = tt
    told (t ∷ ts) = (plan_is ms b t, told ts)

    alike : (ts : List TableAt) → AllByRecursion (LiesIn b) ts → AllByRecursion (λ (r : RowTable). Alike (plan_row ms b r) (wide_row f b r)) (map rows_of ts)
    alike [] h = tt
    alike (t ∷ ts) h = (row_alike ms f b t h.0, alike ts h.1)
