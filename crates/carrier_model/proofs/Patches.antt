-- Patches one after another, their order, and the places that they cover.
use Rattle.std.proofs.Common.{◌≡◌, ℕ, ◌+◌, ◌-◌, ◌<◌, ◌≤◌, List, [], ◌∷◌, ◌++◌, length, take, drop, refl, sym, ap, ◌∙◌, append_assoc, arith, inl, inr}
use Rattle.std.proofs.lemmas.List.{take_at, take-append-drop}
use Rattle.me_bytes.specs.Bytes.{overlay}
use Rattle.part_tree.specs.declared.plan.Patch.{Patch}
use Rattle.part_tree.specs.Patches.{InOrder, Touches, all_bytes, patched}
use Rattle.container_model.proofs.Units.{drop_past}
use Rattle.carrier_model.specs.Room.{patch}

-- ---- what they make

pub patched-append : (a b : List Patch) (y : List ℕ) → patched (a ++ b) y ≡ patched b (patched a y)
patched-append [] b y = refl
patched-append (p ∷ a) b y = patched-append a b (overlay p.at p.bytes y)

-- bytes laid over others, by what stands before them and behind them
pub overlay_is : (at : ℕ) (w y : List ℕ) → overlay at w y ≡ take at y ++ (w ++ drop (at + length w) y)
overlay_is at w y = append_assoc (take at y) w (drop (at + length w) y)

pub patched_one : (at : ℕ) (b y : List ℕ) → patched (patch at b) y ≡ overlay at b y
patched_one at [] y = let z : at + 0 ≡ at = omega arith in sym (overlay_is at [] y ∙ ap (λ (k : ℕ). take at y ++ drop k y) z ∙ take-append-drop at y)
patched_one at (x ∷ b) y = refl

-- bytes laid behind others
pub laid_behind : (at : ℕ) (x b y : List ℕ) → length x ≡ at → overlay at b (x ++ y) ≡ x ++ (b ++ drop (length b) y)
laid_behind at x b y e =
    let front = take_at x y at e in
    let k : (at + length b) - length x ≡ length b = omega (arith, e) in
    let back : drop (at + length b) (x ++ y) ≡ drop (length b) y = drop_past x y (at + length b) (omega (arith, e)) ∙ ap (λ (n : ℕ). drop n y) k in
    overlay_is at b (x ++ y) ∙ ap (λ (z : List ℕ). z ++ (b ++ drop (at + length b) (x ++ y))) front ∙ ap (λ (z : List ℕ). x ++ (b ++ z)) back

-- how many bytes patches have together
pub all_bytes-append : (a b : List Patch) → all_bytes (a ++ b) ≡ all_bytes a + all_bytes b
all_bytes-append [] b = omega arith
all_bytes-append (p ∷ a) b = omega (arith, all_bytes-append a b)

pub patch_bytes : (at : ℕ) (b : List ℕ) → all_bytes (patch at b) ≡ length b
patch_bytes at [] = refl
patch_bytes at (x ∷ b) = omega arith

pub one_patch : (at : ℕ) (b : List ℕ) → length (patch at b) ≤ 1
one_patch at [] = omega arith
one_patch at (x ∷ b) = omega arith

-- ---- their order

pub order_low : (new low from : ℕ) (ps : List Patch) → low ≤ from → InOrder new from ps → InOrder new low ps
order_low new low from [] l h = tt
order_low new low from (p ∷ ps) l h = (record { some = h.0.some; after = omega (arith, l, h.0.after); inside = h.0.inside }, h.1)

-- one patch, or none
pub order_patch : (new from at : ℕ) (b : List ℕ) (ps : List Patch) → from ≤ at → at + length b ≤ new → InOrder new (at + length b) ps → InOrder new from (patch at b ++ ps)
order_patch new from at [] ps l r h = order_low new from (at + 0) ps (omega arith) h
order_patch new from at (x ∷ b) ps l r h = (record { some = omega arith; after = l; inside = r }, h)

pub touches_behind : (q : ℕ) (a b : List Patch) → Touches q b → Touches q (a ++ b)
touches_behind q [] b h = h
touches_behind q (p ∷ a) b h = inr (touches_behind q a b h)

pub touches_patch : (q at : ℕ) (b : List ℕ) (ps : List Patch) → at ≤ q → q < at + length b → Touches q (patch at b ++ ps)
touches_patch q at [] ps l h = absurd (omega (arith, l, h))
touches_patch q at (x ∷ b) ps l h = inl (l, h)
