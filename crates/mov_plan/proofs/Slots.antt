-- The slot of a unit in a file, and its padding.
use Rattle.std.proofs.Common.{◌≡◌, ◌∙◌, ℕ, ◌+◌, ◌-◌, ◌≤◌, List, [], ◌∷◌, ◌++◌, length, take, drop, Bool, true, false, cond, refl, sym, ap, arith, append-nil, append_assoc, length-take, length-drop}
use Rattle.std.specs.Prelude.{codes, Some}
use Rattle.std.specs.Int.{w32, to_be_bytes}
use Rattle.std.proofs.lemmas.List.{drop-drop, drop-take, take_at}
use Rattle.container_model.specs.Atoms.{atom}
use Rattle.container_model.specs.Chunk.{Chunk, spell_all}
use Rattle.container_model.specs.Windows.{window}
use Rattle.carrier_model.specs.Room.{patch}
use Rattle.mov_model.specs.New.{fill}
use Rattle.mov_model.specs.Room.{unit_fits}
use Rattle.mov_plan.specs.Places.{padding_in}
use Rattle.mov_plan.specs.Rows.{closed, unit_at}
use Rattle.mov_plan.proofs.Outcomes.{outcome_eq}
use Rattle.unit_plan.proofs.Slots.{window_long}

window_drop : (b : List ℕ) (at len m : ℕ) → m ≤ len → drop m (take len (drop at b)) ≡ take (len - m) (drop (at + m) b)
window_drop b at len m le =
    let split : len ≡ m + (len - m) = omega arith in
    ap (λ (k : ℕ). drop m (take k (drop at b))) split
    ∙ drop-take m (len - m) (drop at b)
    ∙ ap (take (len - m)) (drop-drop m at b)
    ∙ ap (λ (k : ℕ). take (len - m) (drop k b)) (omega arith)

-- the header of a padding
abbrev pub padding_head : ℕ → List ℕ
padding_head n = to_be_bytes w32 (n + 8) ++ codes "free"

padding_spelled : (body : List ℕ) → spell_all (atom (codes "free") body ∷ []) ≡ padding_head (length body) ++ body
padding_spelled body = append-nil (padding_head (length body) ++ (body ++ [])) ∙ ap (λ (x : List ℕ). padding_head (length body) ++ x) (append-nil body)

-- how long a unit is in moov with its padding
inner_is : (hangs : Bool) (spelled pad keep : ℕ) → pad ≡ 8 + keep → cond hangs spelled (spelled + 8 + keep) ≡ cond hangs spelled (spelled + pad)
inner_is true spelled pad keep e = refl
inner_is false spelled pad keep e = omega (arith, e)

-- A unit of which a padding fills the slot.
pub filled_is : (b : List ℕ) (start end keep : ℕ) (spelled bytes : List ℕ) (ends hangs fits : Bool) (inner : ℕ) → start ≤ end → end ≤ length b → keep ≤ end - start
    → fill ends true (window b start end) (length spelled) ≡ padding_in (window b start end) (Some keep)
    → bytes ≡ (spelled ++ to_be_bytes w32 (keep + 8)) ++ codes "free"
    → fits ≡ unit_fits ends (end - start) (length spelled)
    → inner ≡ cond hangs (length spelled) (length spelled + 8 + keep)
    → record {
      cuts = record { at = start; len = end - start; bytes = bytes ++ take keep (drop (start + (end - start) - keep) b) } ∷ [];
      patches = patch start bytes;
      fits = fits;
      parts = 1;
      inner = inner;
    } ≡ closed ends hangs (unit_at start (window b start end) spelled)
filled_is b start end keep spelled bytes ends hangs fits inner order inside le fill_as made_is fits_is inner_as =
    let slot = window b start end in
    let long : length slot ≡ end - start = window_long b start end order inside in
    let kept = take keep (drop (start + (end - start) - keep) b) in
    let body : drop (length slot - keep) slot ≡ kept =
    ap (λ (k : ℕ). drop (k - keep) slot) long
    ∙ window_drop b start (end - start) (end - start - keep) (omega arith)
    ∙ ap (λ (k : ℕ). take k (drop (start + (end - start - keep)) b)) (omega (arith, le))
    ∙ ap (λ (k : ℕ). take keep (drop k b)) (omega (arith, le))
    in
    let n : length kept ≡ keep = omega (arith, length-take keep (drop (start + (end - start) - keep) b), length-drop (start + (end - start) - keep) b, inside, order, le) in
    let head = padding_head keep in
    let fill_is : fill ends true slot (length spelled) ≡ atom (codes "free") kept ∷ [] = fill_as ∙ ap (λ (x : List ℕ). atom (codes "free") x ∷ []) body in
    let whole : spell_all (fill ends true slot (length spelled)) ≡ head ++ kept = ap spell_all fill_is ∙ padding_spelled kept ∙ ap (λ (k : ℕ). padding_head k ++ kept) n in
    let bytes_are : bytes ≡ spelled ++ head = made_is ∙ append_assoc spelled (to_be_bytes w32 (keep + 8)) (codes "free") in
    let first : take 8 (head ++ kept) ≡ head = take_at head kept 8 refl in
    let cut_is : bytes ++ kept ≡ spelled ++ spell_all (fill ends true slot (length spelled)) =
    ap (λ (x : List ℕ). x ++ kept) bytes_are ∙ append_assoc spelled head kept ∙ ap (λ (x : List ℕ). spelled ++ x) (sym whole)
    in
    let patch_is : bytes ≡ spelled ++ take 8 (spell_all (fill ends true slot (length spelled))) =
    bytes_are ∙ ap (λ (x : List ℕ). spelled ++ x) (sym first ∙ ap (take 8) (sym whole))
    in
    let one : 1 ≡ length (fill ends true slot (length spelled)) = ap (λ (cs : List Chunk). length cs) (sym fill_is) in
    let pad_long : length (spell_all (fill ends true slot (length spelled))) ≡ 8 + keep = ap (λ (x : List ℕ). length x) whole ∙ omega (arith, n) in
    outcome_eq _ _ (ap (λ (x : List ℕ). record { at = start; len = end - start; bytes = x } ∷ []) cut_is ∙ ap (λ (k : ℕ). record { at = start; len = k; bytes = spelled ++ spell_all (fill ends true slot (length spelled)) } ∷ []) (sym long))
    (ap (patch start) patch_is) (fits_is ∙ ap (λ (k : ℕ). unit_fits ends k (length spelled)) (sym long)) one
    (inner_as ∙ inner_is hangs (length spelled) (length (spell_all (fill ends true slot (length spelled)))) keep pad_long)
