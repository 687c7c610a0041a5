-- A row whose `hdrl` gets another length comes to the same, but that what stands behind `hdrl` stands elsewhere.
use Rattle.std.proofs.Common.{◌≡◌, ◌∙◌, ℕ, ◌+◌, ◌≤◌, Bool, true, false, cond, List, [], ◌∷◌, ◌++◌, length, map, refl, sym, ap, subst, arith, inl, inr, append_assoc}
use Rattle.std.specs.Prelude.{◌&&◌, not}
use Rattle.std.specs.List.{AllByRecursion}
use Rattle.std.proofs.lemmas.List.{length-append}
use Rattle.part_tree.specs.declared.plan.Patch.{Patch}
use Rattle.container_model.specs.Chunk.{Chunk, spell, spell_all}
use Rattle.container_model.specs.Splice.{Cut}
use Rattle.container_model.specs.Units.{Cell, edited, gap, kept, lacks_pad, was}
use Rattle.carrier_model.specs.Info.{riff_fill}
use Rattle.carrier_model.specs.Room.{patch}
use Rattle.unit_plan.specs.Rows.{Open, Outcome, both, closed, counts, no_more, none, open_next, row, unit_at}
use Rattle.unit_plan.specs.Shapes.{Shape, changes, pads, parts_in, shape_of, stays}
use Rattle.avi_model.specs.Named.{is_hdrl}
use Rattle.avi_plan.specs.Row.{part_count, told_row}
use Rattle.avi_plan.proofs.Swapped.{Other, Swap}

-- ---- the same further on

-- spans from one place on, and the same from another
abbrev pub Slid : ℕ → ℕ → List Cut → List Cut → Type 0
Slid p q [] [] = Unit {0}
Slid p q (c ∷ cs) (d ∷ ds) = (p ≤ c.at) × (c.at + q ≡ d.at + p) × (c.len ≡ d.len) × (c.bytes ≡ d.bytes) × Slid p q cs ds
Slid p q _ _ = ⊥

abbrev pub SlidPatches : ℕ → ℕ → List Patch → List Patch → Type 0
SlidPatches p q [] [] = Unit {0}
SlidPatches p q (c ∷ cs) (d ∷ ds) = (p ≤ c.at) × (c.at + q ≡ d.at + p) × (c.bytes ≡ d.bytes) × SlidPatches p q cs ds
SlidPatches p q _ _ = ⊥

pub record SlidTo (p q : ℕ) (o n : Outcome) : Type 0 where
  pub cuts : Slid p q o.cuts n.cuts
  pub patches : SlidPatches p q o.patches n.patches
  pub fits : o.fits ≡ n.fits
  pub parts : o.parts ≡ n.parts

module _ (p q : ℕ) where
  slid_append : (a b c d : List Cut) → Slid p q a b → Slid p q c d → Slid p q (a ++ c) (b ++ d)
  slid_append [] [] c d h g = g
  slid_append (x ∷ a) (y ∷ b) c d h g = (h.0, h.1, h.2, h.3, slid_append a b c d h.4 g)
  slid_append _ _ c d h g = absurd h

  patches_append : (a b c d : List Patch) → SlidPatches p q a b → SlidPatches p q c d → SlidPatches p q (a ++ c) (b ++ d)
  patches_append [] [] c d h g = g
  patches_append (x ∷ a) (y ∷ b) c d h g = (h.0, h.1, h.2, patches_append a b c d h.3 g)
  patches_append _ _ c d h g = absurd h

  slid_both : (a b c d : Outcome) → SlidTo p q a b → SlidTo p q c d → SlidTo p q (both a c) (both b d)
  slid_both a b c d h g = record {
    cuts = slid_append a.cuts b.cuts c.cuts d.cuts h.cuts g.cuts;
    patches = patches_append a.patches b.patches c.patches d.patches h.patches g.patches;
    fits = ap (λ (t : Bool). t && c.fits) h.fits ∙ ap (λ (t : Bool). b.fits && t) g.fits;
    parts = omega (arith, h.parts, g.parts);
  }

  slid_counts : (n : ℕ) → SlidTo p q (counts n) (counts n)
  slid_counts n = record { cuts = tt; patches = tt; fits = refl; parts = refl }

  -- a unit that has begun at the one place and at the other, or none
  data Pair : Type 0 where
    no_pair : Pair
    pair : ℕ → ℕ → List ℕ → List ℕ → Pair

  abbrev left : Pair → Open
  left no_pair = none
  left (pair s t slot now) = unit_at s slot now

  abbrev right : Pair → Open
  right no_pair = none
  right (pair s t slot now) = unit_at t slot now

  abbrev IsPair : Pair → Type 0
  IsPair no_pair = Unit {0}
  IsPair (pair s t slot now) = (p ≤ s) × (s + q ≡ t + p)

  slid_patch : (s t : ℕ) (w : List ℕ) → p ≤ s → s + q ≡ t + p → SlidPatches p q (patch s w) (patch t w)
  slid_patch s t [] le e = tt
  slid_patch s t (x ∷ w) le e = (le, e, refl, tt)

  slid_closed : (ends last : Bool) (r : Pair) → IsPair r → SlidTo p q (closed ends last (left r)) (closed ends last (right r))
  slid_closed ends last no_pair h = slid_counts 0
  slid_closed ends last (pair s t slot now) h = record {
    cuts = (h.0, h.1, refl, refl, tt);
    patches = slid_patch s t (now ++ Rattle.std.specs.Prelude.take 8 (spell_all (riff_fill ends last slot (length now)))) h.0 h.1;
    fits = refl;
    parts = refl;
  }

  abbrev next_pair : Bool → ℕ → ℕ → Pair
  next_pair true s t = pair s t [] (0 ∷ [])
  next_pair false s t = no_pair

  slid_next : (ends : Bool) (t : Bool) (at to : ℕ) (xs : List Shape) → p ≤ at → at + q ≡ to + p → ((r : Pair) → IsPair r → SlidTo p q (row ends at (left r) xs) (row ends to (right r) xs)) → SlidTo p q (row ends at (open_next t at) xs) (row ends to (open_next t to) xs)
  slid_next ends true at to xs le e h = h (pair at to [] (0 ∷ [])) (le, e)
  slid_next ends false at to xs le e h = h no_pair tt

  row_slid : (ends : Bool) (at to : ℕ) (xs : List Shape) → p ≤ at → at + q ≡ to + p → (r : Pair) → IsPair r → SlidTo p q (row ends at (left r) xs) (row ends to (right r) xs)
  unfolding row
  row_slid ends at to [] le e r h = slid_closed ends true r h
  row_slid ends at to (stays n lacks k ∷ xs) le e r h =
      slid_both (closed ends false (left r)) (closed ends false (right r)) (both (counts k) (row ends (at + n) (open_next (lacks && not (no_more xs)) (at + n)) xs)) (both (counts k) (row ends (to + n) (open_next (lacks && not (no_more xs)) (to + n)) xs))
      (slid_closed ends false r h)
      (slid_both (counts k) (counts k) (row ends (at + n) (open_next (lacks && not (no_more xs)) (at + n)) xs) (row ends (to + n) (open_next (lacks && not (no_more xs)) (to + n)) xs) (slid_counts k)
      (slid_next ends (lacks && not (no_more xs)) (at + n) (to + n) xs (omega (arith, le)) (omega (arith, e)) (λ s g. row_slid ends (at + n) (to + n) xs (omega (arith, le)) (omega (arith, e)) s g)))
  row_slid ends at to (pads old lacks k ∷ xs) le e no_pair h =
      let n = length old in
      slid_both (counts k) (counts k) (row ends (at + n) (open_next (lacks && not (no_more xs)) (at + n)) xs) (row ends (to + n) (open_next (lacks && not (no_more xs)) (to + n)) xs) (slid_counts k)
      (slid_next ends (lacks && not (no_more xs)) (at + n) (to + n) xs (omega (arith, le)) (omega (arith, e)) (λ s g. row_slid ends (at + n) (to + n) xs (omega (arith, le)) (omega (arith, e)) s g))
  row_slid ends at to (pads old lacks k ∷ xs) le e (pair s t slot now) h =
      row_slid ends (at + length old) (to + length old) xs (omega (arith, le)) (omega (arith, e)) (pair s t (slot ++ old) now) h
  row_slid ends at to (changes old new k ∷ xs) le e no_pair h =
      slid_both (counts k) (counts k) (row ends (at + length old) (unit_at at old new) xs) (row ends (to + length old) (unit_at to old new) xs) (slid_counts k)
      (row_slid ends (at + length old) (to + length old) xs (omega (arith, le)) (omega (arith, e)) (pair at to old new) (le, e))
  row_slid ends at to (changes old new k ∷ xs) le e (pair s t slot now) h =
      slid_both (counts k) (counts k) (row ends (at + length old) (unit_at s (slot ++ old) (now ++ new)) xs) (row ends (to + length old) (unit_at t (slot ++ old) (now ++ new)) xs) (slid_counts k)
      (row_slid ends (at + length old) (to + length old) xs (omega (arith, le)) (omega (arith, e)) (pair s t (slot ++ old) (now ++ new)) h)

  pub next_slid : (ends : Bool) (t : Bool) (at to : ℕ) (xs : List Shape) → p ≤ at → at + q ≡ to + p → SlidTo p q (row ends at (open_next t at) xs) (row ends to (open_next t to) xs)
  next_slid ends t at to xs le e = slid_next ends t at to xs le e (λ r h. row_slid ends at to xs le e r h)

-- ---- before `hdrl` and behind it

-- What a row comes to: before a place both alike, and behind hdrl, which was `x` long and is `y`, elsewhere.
pub record Halves (from x y : ℕ) (o n : Outcome) : Type 0 where
  pub low : List Cut
  pub high : List Cut
  pub high_new : List Cut
  pub low_patches : List Patch
  pub high_patches : List Patch
  pub high_patches_new : List Patch
  pub old_cuts : o.cuts ≡ low ++ high
  pub new_cuts : n.cuts ≡ low ++ high_new
  pub old_patches : o.patches ≡ low_patches ++ high_patches
  pub new_patches : n.patches ≡ low_patches ++ high_patches_new
  pub low_before : AllByRecursion (λ (c : Cut). c.at ≤ from) low
  pub patches_before : AllByRecursion (λ (c : Patch). c.at ≤ from) low_patches
  pub slid : Slid (from + x) (from + y) high high_new
  pub slid_patches : SlidPatches (from + x) (from + y) high_patches high_patches_new
  pub fits : o.fits ≡ n.fits
  pub parts : o.parts ≡ n.parts

all_cuts : (P : Cut → Type 0) (a b : List Cut) → AllByRecursion P a → AllByRecursion P b → AllByRecursion P (a ++ b)
all_cuts P [] b h g = g
all_cuts P (x ∷ a) b h g = (h.0, all_cuts P a b h.1 g)

all_patches : (P : Patch → Type 0) (a b : List Patch) → AllByRecursion P a → AllByRecursion P b → AllByRecursion P (a ++ b)
all_patches P [] b h g = g
all_patches P (x ∷ a) b h g = (h.0, all_patches P a b h.1 g)

halves_more : (from x y : ℕ) (a o n : Outcome) → AllByRecursion (λ (c : Cut). c.at ≤ from) a.cuts → AllByRecursion (λ (c : Patch). c.at ≤ from) a.patches → Halves from x y o n → Halves from x y (both a o) (both a n)
halves_more from x y a o n cs ps h = record {
  low = a.cuts ++ h.low;
  high = h.high;
  high_new = h.high_new;
  low_patches = a.patches ++ h.low_patches;
  high_patches = h.high_patches;
  high_patches_new = h.high_patches_new;
  old_cuts = ap (λ (z : List Cut). a.cuts ++ z) h.old_cuts ∙ sym (append_assoc a.cuts h.low h.high);
  new_cuts = ap (λ (z : List Cut). a.cuts ++ z) h.new_cuts ∙ sym (append_assoc a.cuts h.low h.high_new);
  old_patches = ap (λ (z : List Patch). a.patches ++ z) h.old_patches ∙ sym (append_assoc a.patches h.low_patches h.high_patches);
  new_patches = ap (λ (z : List Patch). a.patches ++ z) h.new_patches ∙ sym (append_assoc a.patches h.low_patches h.high_patches_new);
  low_before = all_cuts (λ (c : Cut). c.at ≤ from) a.cuts h.low cs h.low_before;
  patches_before = all_patches (λ (c : Patch). c.at ≤ from) a.patches h.low_patches ps h.patches_before;
  slid = h.slid;
  slid_patches = h.slid_patches;
  fits = ap (λ (t : Bool). a.fits && t) h.fits;
  parts = ap (λ (k : ℕ). a.parts + k) h.parts;
}

-- a unit that has begun at a place or before it
abbrev StartsBy : ℕ → Open → Type 0
StartsBy at none = Unit {0}
StartsBy at (unit_at s slot now) = s ≤ at

patch_by : (s from : ℕ) (w : List ℕ) → s ≤ from → AllByRecursion (λ (c : Patch). c.at ≤ from) (patch s w)
patch_by s from [] le = tt
patch_by s from (x ∷ w) le = (le, tt)

closed_by : (ends last : Bool) (at from : ℕ) (o : Open) → at ≤ from → StartsBy at o → AllByRecursion (λ (c : Cut). c.at ≤ from) (closed ends last o).cuts × AllByRecursion (λ (c : Patch). c.at ≤ from) (closed ends last o).patches
closed_by ends last at from none le h = (tt, tt)
closed_by ends last at from (unit_at s slot now) le h = ((omega (arith, le, h), tt), patch_by s from (now ++ Rattle.std.specs.Prelude.take 8 (spell_all (riff_fill ends last slot (length now)))) (omega (arith, le, h)))

module _ (h k : Chunk) (typed : is_hdrl h ≡ true) (one_part : part_count h ≡ part_count k) (ends : Bool) where
  abbrev x : ℕ
  x = length (spell h)

  abbrev y : ℕ
  y = length (spell k)

  more_told : (n : ℕ) (lacks : Bool) (xs ys : List Cell) → Swap h k n xs ys → (no_more (told_row lacks xs) ≡ false) × (no_more (map (shape_of part_count) ys) ≡ false)
  more_told n lacks [] ys q = absurd q
  more_told n lacks (c ∷ xs) [] q = absurd q
  more_told n lacks (kept c ∷ xs) (d ∷ ys) q = (go (is_hdrl c), refl)
    where
      go : (t : Bool) → no_more (cond t (stays (length (spell c)) lacks (part_count c) ∷ map (shape_of part_count) xs) (shape_of part_count (kept c) ∷ told_row lacks xs)) ≡ false
      go true = refl
      go false = refl
  more_told n lacks (gap c ∷ xs) (d ∷ ys) q = (refl, refl)
  more_told n lacks (edited o w ∷ xs) (d ∷ ys) q = (refl, refl)

  -- hdrl itself
  here : (at : ℕ) (o : Open) (xs : List Shape) → StartsBy at o → Halves at (length (spell h)) (length (spell k)) (row ends at o (stays (length (spell h)) (lacks_pad k) (part_count h) ∷ xs)) (row ends at o (stays (length (spell k)) (lacks_pad k) (part_count k) ∷ xs))
  unfolding row
  here at o xs begins =
      let c = closed ends false o in
      let t = lacks_pad k && not (no_more xs) in
      let old = row ends (at + x) (open_next t (at + x)) xs in
      let new = row ends (at + y) (open_next t (at + y)) xs in
      let z = next_slid (at + x) (at + y) ends t (at + x) (at + y) xs (omega arith) (omega arith) in
      let b = closed_by ends false at at o (omega arith) begins in
      record {
        low = c.cuts;
        high = old.cuts;
        high_new = new.cuts;
        low_patches = c.patches;
        high_patches = old.patches;
        high_patches_new = new.patches;
        old_cuts = refl;
        new_cuts = refl;
        old_patches = refl;
        new_patches = refl;
        low_before = b.0;
        patches_before = b.1;
        slid = z.cuts;
        slid_patches = z.patches;
        fits = ap (λ (t : Bool). c.fits && t) z.fits;
        parts = omega (arith, z.parts, one_part);
      }

  pub rows_halves : (n at from : ℕ) (o : Open) (xs ys : List Cell) → Swap h k n xs ys → at + n ≡ from → StartsBy at o
      → Halves from (length (spell h)) (length (spell k)) (row ends at o (told_row (lacks_pad k) xs)) (row ends at o (map (shape_of part_count) ys))
  unfolding row
  rows_halves n at from o [] ys q e begins = absurd q
  rows_halves n at from o (c ∷ xs) [] q e begins = absurd q
  rows_halves n at from o (c ∷ xs) (d ∷ ys) (inl q) e begins =
      subst (λ (z : Cell). Halves from x y (row ends at o (told_row (lacks_pad k) (z ∷ xs))) (row ends at o (map (shape_of part_count) (d ∷ ys)))) (sym q.1)
      (subst (λ (z : Cell). Halves from x y (row ends at o (told_row (lacks_pad k) (kept h ∷ xs))) (row ends at o (map (shape_of part_count) (z ∷ ys)))) (sym q.2)
      (subst (λ (t : Bool). Halves from x y (row ends at o (cond t (stays (length (spell h)) (lacks_pad k) (part_count h) ∷ map (shape_of part_count) xs) (shape_of part_count (kept h) ∷ told_row (lacks_pad k) xs))) (row ends at o (map (shape_of part_count) (kept k ∷ ys)))) (sym typed)
      (subst (λ (zs : List Cell). Halves from x y (row ends at o (stays (length (spell h)) (lacks_pad k) (part_count h) ∷ map (shape_of part_count) xs)) (row ends at o (stays (length (spell k)) (lacks_pad k) (part_count k) ∷ map (shape_of part_count) zs))) q.3
      (subst (λ (m : ℕ). Halves m x y (row ends at o (stays (length (spell h)) (lacks_pad k) (part_count h) ∷ map (shape_of part_count) xs)) (row ends at o (stays (length (spell k)) (lacks_pad k) (part_count k) ∷ map (shape_of part_count) xs))) (omega (arith, e, q.0))
      (here at o (map (shape_of part_count) xs) begins)))))
  rows_halves n at from o (c ∷ xs) (d ∷ ys) (inr q) e begins =
      subst (λ (z : Cell). Halves from x y (row ends at o (told_row (lacks_pad k) (c ∷ xs))) (row ends at o (map (shape_of part_count) (z ∷ ys)))) q.2
      (go c o q.1 q.3 begins (λ to p j b. rows_halves q.0 to from p xs ys q.4 j b))
    where
      m : ℕ
      m = q.0

      tests : (no_more (told_row (lacks_pad k) xs) ≡ false) × (no_more (map (shape_of part_count) ys) ≡ false)
      tests = more_told q.0 (lacks_pad k) xs ys q.4

      -- behind a chunk
      next : (lacks : Bool) (to : ℕ) → to + q.0 ≡ from → ((to : ℕ) (p : Open) → to + q.0 ≡ from → StartsBy to p → Halves from (length (spell h)) (length (spell k)) (row ends to p (told_row (lacks_pad k) xs)) (row ends to p (map (shape_of part_count) ys)))
          → Halves from (length (spell h)) (length (spell k)) (row ends to (open_next (lacks && not (no_more (told_row (lacks_pad k) xs))) to) (told_row (lacks_pad k) xs)) (row ends to (open_next (lacks && not (no_more (map (shape_of part_count) ys))) to) (map (shape_of part_count) ys))
      next lacks to j again =
          subst (λ (t : Bool). Halves from (length (spell h)) (length (spell k)) (row ends to (open_next (lacks && not t) to) (told_row (lacks_pad k) xs)) (row ends to (open_next (lacks && not (no_more (map (shape_of part_count) ys))) to) (map (shape_of part_count) ys))) (sym tests.0)
          (subst (λ (t : Bool). Halves from (length (spell h)) (length (spell k)) (row ends to (open_next (lacks && not false) to) (told_row (lacks_pad k) xs)) (row ends to (open_next (lacks && not t) to) (map (shape_of part_count) ys))) (sym tests.1) (by lacks))
        where
          by : (l : Bool) → Halves from (length (spell h)) (length (spell k)) (row ends to (open_next (l && true) to) (told_row (lacks_pad k) xs)) (row ends to (open_next (l && true) to) (map (shape_of part_count) ys))
          by true = again to (unit_at to [] (0 ∷ [])) j (omega arith)
          by false = again to none j tt

      low : (r : ℕ) → n ≡ r + q.0 → at ≤ from
      low r g = omega (arith, e, g)

      go : (c : Cell) (o : Open) → n ≡ length (spell_all (was c)) + q.0 → Other c → StartsBy at o
          → ((to : ℕ) (p : Open) → to + q.0 ≡ from → StartsBy to p → Halves from (length (spell h)) (length (spell k)) (row ends to p (told_row (lacks_pad k) xs)) (row ends to p (map (shape_of part_count) ys)))
          → Halves from (length (spell h)) (length (spell k)) (row ends at o (told_row (lacks_pad k) (c ∷ xs))) (row ends at o (map (shape_of part_count) (c ∷ ys)))
      go (kept c) o g other b again =
          let w = length (spell c) in
          let to : (at + w) + q.0 ≡ from = omega (arith, e, g, length-append (spell c) []) in
          let z = closed_by ends false at from o (low (length (spell_all (c ∷ []))) g) b in
          let old = row ends (at + w) (open_next (lacks_pad c && not (no_more (told_row (lacks_pad k) xs))) (at + w)) (told_row (lacks_pad k) xs) in
          let new = row ends (at + w) (open_next (lacks_pad c && not (no_more (map (shape_of part_count) ys))) (at + w)) (map (shape_of part_count) ys) in
          subst (λ (t : Bool). Halves from (length (spell h)) (length (spell k)) (row ends at o (cond t (stays (length (spell c)) (lacks_pad k) (part_count c) ∷ map (shape_of part_count) xs) (shape_of part_count (kept c) ∷ told_row (lacks_pad k) xs))) (row ends at o (map (shape_of part_count) (kept c ∷ ys)))) (sym other.0)
          (halves_more from x y (closed ends false o) (both (counts (part_count c)) old) (both (counts (part_count c)) new) z.0 z.1 (halves_more from x y (counts (part_count c)) old new tt tt (next (lacks_pad c) (at + w) to again)))
      go (gap c) none g other b again =
          let w = length (spell c) in
          let to : (at + w) + q.0 ≡ from = omega (arith, e, g, length-append (spell c) []) in
          let old = row ends (at + w) (open_next (lacks_pad c && not (no_more (told_row (lacks_pad k) xs))) (at + w)) (told_row (lacks_pad k) xs) in
          let new = row ends (at + w) (open_next (lacks_pad c && not (no_more (map (shape_of part_count) ys))) (at + w)) (map (shape_of part_count) ys) in
          halves_more from x y (counts (part_count c)) old new tt tt (next (lacks_pad c) (at + w) to again)
      go (gap c) (unit_at s slot now) g other b again =
          let w = length (spell c) in
          let to : (at + w) + q.0 ≡ from = omega (arith, e, g, length-append (spell c) []) in
          again (at + w) (unit_at s (slot ++ spell c) now) to (omega (arith, b))
      go (edited old now) none g other b again =
          let w = length (spell_all old) in
          let to : (at + w) + q.0 ≡ from = omega (arith, e, g) in
          halves_more from x y (counts (parts_in part_count now)) (row ends (at + w) (unit_at at (spell_all old) (spell_all now)) (told_row (lacks_pad k) xs)) (row ends (at + w) (unit_at at (spell_all old) (spell_all now)) (map (shape_of part_count) ys)) tt tt
          (again (at + w) (unit_at at (spell_all old) (spell_all now)) to (omega arith))
      go (edited old now) (unit_at s slot begun) g other b again =
          let w = length (spell_all old) in
          let to : (at + w) + q.0 ≡ from = omega (arith, e, g) in
          let unit = unit_at s (slot ++ spell_all old) (begun ++ spell_all now) in
          halves_more from x y (counts (parts_in part_count now)) (row ends (at + w) unit (told_row (lacks_pad k) xs)) (row ends (at + w) unit (map (shape_of part_count) ys)) tt tt
          (again (at + w) unit to (omega (arith, b)))
