-- How many bytes spans bring and take; lists of spans that are split at a place; spans put between others; and how long a row is.
use Rattle.std.proofs.Common.{◌≡◌, ◌∙◌, ℕ, ◌+◌, ◌-◌, ◌≤◌, ◌<◌, Bool, true, false, cond, eqb, leb, List, [], ◌∷◌, ◌++◌, length, map, take, drop, refl, ap, arith, length-take, length-drop}
use Rattle.std.specs.Prelude.{◌&&◌}
use Rattle.std.specs.Str.{bytes_eq}
use Rattle.std.specs.List.{AllByRecursion, flat_map}
use Rattle.std.proofs.lemmas.Bool.{cond-true, eq-eqb, eqb-true, le-leb}
use Rattle.std.proofs.lemmas.List.{length-append}
use Rattle.part_tree.specs.declared.plan.Patch.{Patch}
use Rattle.part_tree.proofs.Places.{bytes_same}
use Rattle.container_model.specs.Chunk.{spell, spell_all}
use Rattle.container_model.specs.Items.{is_nil}
use Rattle.container_model.specs.Splice.{Ascend, Cut, end_of, gained, lost}
use Rattle.container_model.specs.Units.{Cell, edited, gap, kept, was}
use Rattle.container_model.proofs.Splice.{before_lost}
use Rattle.container_model.proofs.Units.{spell_all-append}
use Rattle.container_model.proofs.Windows.{length-window}
use Rattle.carrier_model.specs.RiffForm.{pad_cut}
use Rattle.avi_model.specs.Named.{is_hdrl}
use Rattle.avi_model.specs.NewFile.{put_cut, put_cuts}
use Rattle.unit_plan.specs.Cuts.{SpansAscend, cut_in}
use Rattle.unit_plan.specs.Places.{Follow, shape_by, shape_in}
use Rattle.unit_plan.specs.Shapes.{Shape, changes, pads, shape_of, stays}
use Rattle.unit_plan.specs.Sized as Sized
use Rattle.unit_plan.specs.declared.cut.CutAt.{CutAt}
use Rattle.unit_plan.specs.declared.place.Place.{Place}
use Rattle.unit_plan.specs.declared.place.What.{What}
use Rattle.unit_plan.specs.declared.place.What.TheVariants.{Changes, Pads, Stays}
use Rattle.unit_plan.proofs.Spans.{lost_low}
use Rattle.avi_plan.specs.Row.{part_count, told_row}
use Rattle.avi_plan.proofs.Drops.{ascend_high, puts_behind}
use Rattle.avi_plan.proofs.Refined.{Behind}
use Rattle.avi_plan.proofs.Slid.{Slid}

-- ---- sums

abbrev pub brings : List Cut → ℕ
brings [] = 0
brings (c ∷ cs) = length c.bytes + brings cs

abbrev pub takes : List Cut → ℕ
takes [] = 0
takes (c ∷ cs) = c.len + takes cs

pub brings_both : (a b : List Cut) → (brings (a ++ b) ≡ brings a + brings b) × (takes (a ++ b) ≡ takes a + takes b)
brings_both [] b = (omega arith, omega arith)
brings_both (c ∷ a) b = let z = brings_both a b in (omega (arith, z.0), omega (arith, z.1))

-- behind them all
pub all_past : (at end p : ℕ) (cs : List Cut) → Ascend at cs end → end ≤ p → (gained cs p ≡ brings cs) × (lost cs p ≡ takes cs)
all_past at end p [] h le = (refl, refl)
all_past at end p (c ∷ cs) h le =
    let far : end_of c ≤ p = omega (arith, ascend_high (end_of c) end cs h.1, le) in
    let z = before_lost c cs p far in
    let w = all_past (end_of c) end p cs h.1 le in
    (omega (arith, z.0, w.0), omega (arith, z.1, w.1))

-- as a planner holds them
pub held : (b : List ℕ) (from end : ℕ) (ks : List CutAt) → end ≤ length b → SpansAscend from ks end → (Sized.gained ks ≡ brings (map (cut_in b) ks)) × (Sized.lost ks ≡ takes (map (cut_in b) ks))
held b from end [] le h = (refl, refl)
held b from end (k ∷ ks) le h =
    let z = held b (k.span.at + k.span.len) end ks le h.2 in
    let low = lost_low (k.span.at + k.span.len) end ks h.2 in
    let n : length (take k.keep (drop (k.span.at + k.span.len - k.keep) b)) ≡ k.keep = omega (arith, h.1, low, le, length-take k.keep (drop (k.span.at + k.span.len - k.keep) b), length-drop (k.span.at + k.span.len - k.keep) b) in
    (omega (arith, z.0, n, length-append k.bytes (take k.keep (drop (k.span.at + k.span.len - k.keep) b))), omega (arith, z.1))

pub slid_sums : (p q : ℕ) (a b : List Cut) → Slid p q a b → (brings a ≡ brings b) × (takes a ≡ takes b)
slid_sums p q [] [] h = (refl, refl)
slid_sums p q (c ∷ a) (d ∷ b) h = let z = slid_sums p q a b h.4 in (omega (arith, z.0, ap (λ (x : List ℕ). length x) h.3), omega (arith, z.1, h.2))
slid_sums p q _ _ h = absurd h

pub pad_sums : (at : ℕ) (old new : List ℕ) → brings (pad_cut at old new) + length old ≡ takes (pad_cut at old new) + length new
pad_sums at old new = go (bytes_eq old new) refl
  where
    go : (t : Bool) → bytes_eq old new ≡ t → brings (cond t [] (record { at = at; len = length old; bytes = new } ∷ [])) + length old ≡ takes (cond t [] (record { at = at; len = length old; bytes = new } ∷ [])) + length new
    go true e = omega (arith, ap (λ (x : List ℕ). length x) (bytes_same old new e))
    go false e = omega arith

pub sized_both : (a b : List CutAt) → (Sized.gained (a ++ b) ≡ Sized.gained a + Sized.gained b) × (Sized.lost (a ++ b) ≡ Sized.lost a + Sized.lost b)
sized_both [] b = (omega arith, omega arith)
sized_both (k ∷ a) b = let z = sized_both a b in (omega (arith, z.0), omega (arith, z.1))

-- ---- two lists that are one, split at a place

abbrev head_or : {X : Type 0} → X → List X → X
head_or d [] = d
head_or d (x ∷ xs) = x

abbrev rest_of : {X : Type 0} → List X → List X
rest_of [] = []
rest_of (x ∷ xs) = xs

pub split_cuts : (q : ℕ) (a b c d : List Cut) → a ++ b ≡ c ++ d → AllByRecursion (λ (k : Cut). k.at ≤ q) a → AllByRecursion (λ (k : Cut). q < k.at) b → AllByRecursion (λ (k : Cut). k.at ≤ q) c → AllByRecursion (λ (k : Cut). q < k.at) d → (a ≡ c) × (b ≡ d)
split_cuts q [] b [] d e ha hb hc hd = (refl, e)
split_cuts q [] [] (y ∷ c) d e ha hb hc hd = let no : [] ≡ y ∷ (c ++ d) = e in absurd cc
split_cuts q [] (x ∷ b) (y ∷ c) d e ha hb hc hd = let same : x ≡ y = ap (head_or x) e in absurd (omega (arith, hb.0, hc.0, ap (λ (k : Cut). k.at) same))
split_cuts q (x ∷ a) b [] [] e ha hb hc hd = let no : x ∷ (a ++ b) ≡ [] = e in absurd cc
split_cuts q (x ∷ a) b [] (y ∷ d) e ha hb hc hd = let same : x ≡ y = ap (head_or x) e in absurd (omega (arith, ha.0, hd.0, ap (λ (k : Cut). k.at) same))
split_cuts q (x ∷ a) b (y ∷ c) d e ha hb hc hd =
    let same : x ≡ y = ap (head_or x) e in
    let z = split_cuts q a b c d (ap rest_of e) ha.1 hb hc.1 hd in
    (ap (λ (k : Cut). k ∷ a) same ∙ ap (λ (ks : List Cut). y ∷ ks) z.0, z.1)

pub split_patches : (q : ℕ) (a b c d : List Patch) → a ++ b ≡ c ++ d → AllByRecursion (λ (k : Patch). k.at ≤ q) a → AllByRecursion (λ (k : Patch). q < k.at) b → AllByRecursion (λ (k : Patch). k.at ≤ q) c → AllByRecursion (λ (k : Patch). q < k.at) d → (a ≡ c) × (b ≡ d)
split_patches q [] b [] d e ha hb hc hd = (refl, e)
split_patches q [] [] (y ∷ c) d e ha hb hc hd = let no : [] ≡ y ∷ (c ++ d) = e in absurd cc
split_patches q [] (x ∷ b) (y ∷ c) d e ha hb hc hd = let same : x ≡ y = ap (head_or x) e in absurd (omega (arith, hb.0, hc.0, ap (λ (k : Patch). k.at) same))
split_patches q (x ∷ a) b [] [] e ha hb hc hd = let no : x ∷ (a ++ b) ≡ [] = e in absurd cc
split_patches q (x ∷ a) b [] (y ∷ d) e ha hb hc hd = let same : x ≡ y = ap (head_or x) e in absurd (omega (arith, ha.0, hd.0, ap (λ (k : Patch). k.at) same))
split_patches q (x ∷ a) b (y ∷ c) d e ha hb hc hd =
    let same : x ≡ y = ap (head_or x) e in
    let z = split_patches q a b c d (ap rest_of e) ha.1 hb hc.1 hd in
    (ap (λ (k : Patch). k ∷ a) same ∙ ap (λ (ks : List Patch). y ∷ ks) z.0, z.1)

-- ---- spans put between others

put_first : (c : Cut) (ds : List Cut) → Behind (end_of c) ds → put_cut c ds ≡ c ∷ ds
put_first c [] h = refl
put_first c (d ∷ ds) h = cond-true (leb (end_of c) d.at) (c ∷ (d ∷ ds)) (d ∷ put_cut c ds) (le-leb (end_of c) d.at h)

behind_both : (q end : ℕ) (cs ds : List Cut) → Ascend q cs end → Behind end ds → Behind q (cs ++ ds)
behind_both q end [] [] h g = tt
behind_both q end [] (d ∷ ds) h g = omega (arith, h, g)
behind_both q end (c ∷ cs) ds h g = h.0

put_before : (at end : ℕ) (cs ds : List Cut) → Ascend at cs end → Behind end ds → put_cuts cs ds ≡ cs ++ ds
put_before at end [] ds h g = refl
put_before at end (c ∷ cs) ds h g = ap (put_cut c) (put_before (end_of c) end cs ds h.1 g) ∙ put_first c (cs ++ ds) (behind_both (end_of c) end cs ds h.1 g)

all_late : (q at end : ℕ) (d : Cut) (cs : List Cut) → d.at ≤ q → q + 1 ≤ at → Ascend at cs end → AllByRecursion (λ (c : Cut). d.at < end_of c) cs
all_late q at end d [] le lt h = tt
all_late q at end d (c ∷ cs) le lt h = (omega (arith, le, lt, h.0), all_late q (end_of c) end d cs le (omega (arith, lt, h.0)) h.1)

pub put_between : (q end : ℕ) (cs low high : List Cut) → Ascend (q + 1) cs end → AllByRecursion (λ (k : Cut). k.at ≤ q) low → Behind end high → put_cuts cs (low ++ high) ≡ low ++ (cs ++ high)
put_between q end cs [] high h l g = put_before (q + 1) end cs high h g
put_between q end cs (d ∷ low) high h l g = puts_behind d cs (low ++ high) (all_late q (q + 1) end d cs l.0 (omega arith) h) ∙ ap (λ (ks : List Cut). d ∷ ks) (put_between q end cs low high h l.1 g)

-- ---- how long a row is

abbrev shape_len : Shape → ℕ
shape_len (stays n lacks k) = n
shape_len (pads old lacks k) = length old
shape_len (changes old now k) = length old

abbrev row_len : List Shape → ℕ
row_len [] = 0
row_len (x ∷ xs) = shape_len x + row_len xs

shape_by_len : (old : List ℕ) (len : ℕ) (lacks : Bool) (parts : ℕ) (w : What) → length old ≡ len → shape_len (shape_by old len lacks parts w) ≡ len
shape_by_len old len lacks parts Stays e = refl
shape_by_len old len lacks parts Pads e = e
shape_by_len old len lacks parts (Changes now) e = e

follow_end : (at end : ℕ) (ps : List Place) → Follow at ps end → at ≤ end
follow_end at end [] h = omega (arith, h)
follow_end at end (p ∷ ps) h = omega (arith, h.0, h.1, h.2)

places_long : (b : List ℕ) (from end : ℕ) (ps : List Place) → end ≤ length b → Follow from ps end → from + row_len (map (shape_in b) ps) ≡ end
places_long b from end [] inside h = omega (arith, h)
places_long b from end (p ∷ ps) inside h =
    let one = shape_by_len (Rattle.container_model.specs.Windows.window b p.at p.next) (p.next - p.at) p.lacks_pad p.parts p.what (length-window b p.at p.next (omega (arith, h.2, inside))) in
    omega (arith, one, h.0, h.1, places_long b p.next end ps inside h.3)

cells_long : (xs : List Cell) → row_len (map (shape_of part_count) xs) ≡ length (spell_all (flat_map was xs))
cells_long [] = refl
cells_long (kept c ∷ xs) = omega (arith, cells_long xs, length-append (spell c) (spell_all (flat_map was xs)))
cells_long (gap c ∷ xs) = omega (arith, cells_long xs, length-append (spell c) (spell_all (flat_map was xs)))
cells_long (edited old now ∷ xs) = omega (arith, cells_long xs, ap length (spell_all-append old (flat_map was xs)), length-append (spell_all old) (spell_all (flat_map was xs)))

told_long : (lacks : Bool) (xs : List Cell) → row_len (told_row lacks xs) ≡ length (spell_all (flat_map was xs))
told_long lacks [] = refl
told_long lacks (kept c ∷ xs) = go (is_hdrl c) (told_long lacks xs)
  where
    go : (t : Bool) → row_len (told_row lacks xs) ≡ length (spell_all (flat_map was xs))
        → row_len (cond t (stays (length (spell c)) lacks (part_count c) ∷ map (shape_of part_count) xs) (shape_of part_count (kept c) ∷ told_row lacks xs)) ≡ length (spell c ++ spell_all (flat_map was xs))
    go true again = omega (arith, cells_long xs, length-append (spell c) (spell_all (flat_map was xs)))
    go false again = omega (arith, again, length-append (spell c) (spell_all (flat_map was xs)))
told_long lacks (gap c ∷ xs) = omega (arith, told_long lacks xs, length-append (spell c) (spell_all (flat_map was xs)))
told_long lacks (edited old now ∷ xs) = omega (arith, told_long lacks xs, ap length (spell_all-append old (flat_map was xs)), length-append (spell_all old) (spell_all (flat_map was xs)))

-- where the places end
pub row_end : (b : List ℕ) (end : ℕ) (ps : List Place) (lacks : Bool) (xs : List Cell) → end ≤ length b → Follow 12 ps end → map (shape_in b) ps ≡ told_row lacks xs → end ≡ 12 + length (spell_all (flat_map was xs))
row_end b end ps lacks xs inside h shapes = omega (arith, places_long b 12 end ps inside h, ap row_len shapes, told_long lacks xs)

not_eqb : (a n : ℕ) → (a ≡ n → ⊥) → eqb a n ≡ false
not_eqb a n ne = go (eqb a n) refl
  where
    go : (t : Bool) → eqb a n ≡ t → t ≡ false
    go true e = absurd (ne (eqb-true a n e))
    go false e = refl

pub nil_eqb : (x y z : List ℕ) (a n : ℕ) → n ≡ a + (length x + (length y + length z)) → eqb a n ≡ (is_nil x && (is_nil y && is_nil z))
nil_eqb [] [] [] a n e = eq-eqb a n (omega (arith, e))
nil_eqb [] [] (v ∷ z) a n e = not_eqb a n (λ i. omega (arith, e, i))
nil_eqb [] (v ∷ y) z a n e = not_eqb a n (λ i. omega (arith, e, i))
nil_eqb (v ∷ x) y z a n e = not_eqb a n (λ i. omega (arith, e, i))
