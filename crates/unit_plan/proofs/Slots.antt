-- The slot of a unit in a file, and its padding.
use Rattle.std.proofs.Common.{◌≡◌, ◌∙◌, ℕ, ◌+◌, ◌-◌, ◌≤◌, ◌%◌, List, [], ◌∷◌, ◌++◌, length, take, drop, Bool, refl, sym, ap, arith, append-nil, append_assoc, length-take, length-drop}
use Rattle.std.specs.Prelude.{◌&&◌, codes, Some}
use Rattle.std.specs.Int.{w32, to_le_bytes}
use Rattle.std.proofs.lemmas.List.{drop-drop, drop-take, take-take, take-append-drop, take_at}
use Rattle.container_model.specs.Chunk.{Chunk, spell_all}
use Rattle.container_model.specs.Windows.{window}
use Rattle.carrier_model.specs.Info.{made, riff_fill}
use Rattle.carrier_model.specs.Room.{fits_slot, patch}
use Rattle.unit_plan.specs.Rows.{closed, unit_at}
use Rattle.unit_plan.specs.Cuts.{padding_in}
use Rattle.unit_plan.proofs.Outcomes.{outcome_eq}

pub window_long : (b : List ℕ) (at end : ℕ) → at ≤ end → end ≤ length b → length (window b at end) ≡ end - at
window_long b at end order inside = omega (arith, length-take (end - at) (drop at b), length-drop at b)

window_drop : (b : List ℕ) (at len m : ℕ) → m ≤ len → drop m (take len (drop at b)) ≡ take (len - m) (drop (at + m) b)
window_drop b at len m le =
    let split : len ≡ m + (len - m) = omega arith in
    ap (λ (k : ℕ). drop m (take k (drop at b))) split
    ∙ drop-take m (len - m) (drop at b)
    ∙ ap (take (len - m)) (drop-drop m at b)
    ∙ ap (λ (k : ℕ). take (len - m) (drop k b)) (omega arith)

-- a slot grows
pub slot_more : (b : List ℕ) (start at next : ℕ) → start ≤ at → at ≤ next → window b start next ≡ window b start at ++ window b at next
slot_more b start at next before after =
    let whole = window b start next in
    let front : take (at - start) whole ≡ window b start at = take-take (at - start) (next - start) (drop start b) (omega arith) in
    let back : drop (at - start) whole ≡ window b at next =
    window_drop b start (next - start) (at - start) (omega arith)
    ∙ ap (λ (k : ℕ). take k (drop (start + (at - start)) b)) (omega arith)
    ∙ ap (λ (k : ℕ). take (next - at) (drop k b)) (omega arith)
    in
    sym (take-append-drop (at - start) whole) ∙ ap (λ (x : List ℕ). x ++ drop (at - start) whole) front ∙ ap (λ (x : List ℕ). window b start at ++ x) back

-- the header of a padding
abbrev pub padding_head : ℕ → List ℕ
padding_head n = codes "JUNK" ++ to_le_bytes w32 n

padding_spelled : (body : List ℕ) → length body % 2 ≡ 0 → spell_all (made (codes "JUNK") body ∷ []) ≡ padding_head (length body) ++ body
padding_spelled body even = rw (even, append-nil body) (append-nil (padding_head (length body) ++ body))

-- A unit of which a padding fills the slot.
pub filled_is : (b : List ℕ) (start end keep : ℕ) (spelled bytes : List ℕ) (file last fits : Bool) → start ≤ end → end ≤ length b → keep ≤ end - start → keep % 2 ≡ 0
    → riff_fill file last (window b start end) (length spelled) ≡ padding_in (window b start end) (Some keep)
    → bytes ≡ (spelled ++ codes "JUNK") ++ to_le_bytes w32 keep
    → fits ≡ fits_slot (file && last) (end - start) (length spelled)
    → record {
      cuts = record { at = start; len = end - start; bytes = bytes ++ take keep (drop (start + (end - start) - keep) b) } ∷ [];
      patches = patch start bytes;
      fits = fits;
      parts = 1;
    } ≡ closed file last (unit_at start (window b start end) spelled)
filled_is b start end keep spelled bytes file last fits order inside le even fill made_is fits_is =
    let slot = window b start end in
    let long : length slot ≡ end - start = window_long b start end order inside in
    let kept = take keep (drop (start + (end - start) - keep) b) in
    let body : drop (length slot - keep) slot ≡ kept =
    ap (λ (k : ℕ). drop (k - keep) slot) long
    ∙ window_drop b start (end - start) (end - start - keep) (omega arith)
    ∙ ap (λ (k : ℕ). take k (drop (start + (end - start - keep)) b)) (omega (arith, le))
    ∙ ap (λ (k : ℕ). take keep (drop k b)) (omega (arith, le))
    in
    let n : length kept ≡ keep = omega (arith, length-take keep (drop (start + (end - start) - keep) b), length-drop (start + (end - start) - keep) b, inside, order, le) in
    let two : length kept % 2 ≡ 0 = ap (λ (k : ℕ). k % 2) n ∙ even in
    let head = padding_head keep in
    let fill_is : riff_fill file last slot (length spelled) ≡ made (codes "JUNK") kept ∷ [] = fill ∙ ap (λ (x : List ℕ). made (codes "JUNK") x ∷ []) body in
    let whole : spell_all (riff_fill file last slot (length spelled)) ≡ head ++ kept = ap spell_all fill_is ∙ padding_spelled kept two ∙ ap (λ (k : ℕ). padding_head k ++ kept) n in
    let bytes_are : bytes ≡ spelled ++ head = made_is ∙ append_assoc spelled (codes "JUNK") (to_le_bytes w32 keep) in
    let first : take 8 (head ++ kept) ≡ head = take_at head kept 8 refl in
    let cut_is : bytes ++ kept ≡ spelled ++ spell_all (riff_fill file last slot (length spelled)) =
    ap (λ (x : List ℕ). x ++ kept) bytes_are ∙ append_assoc spelled head kept ∙ ap (λ (x : List ℕ). spelled ++ x) (sym whole)
    in
    let patch_is : bytes ≡ spelled ++ take 8 (spell_all (riff_fill file last slot (length spelled))) =
    bytes_are ∙ ap (λ (x : List ℕ). spelled ++ x) (sym first ∙ ap (take 8) (sym whole))
    in
    let one : 1 ≡ length (riff_fill file last slot (length spelled)) = ap (λ (cs : List Chunk). length cs) (sym fill_is) in
    outcome_eq _ _ (ap (λ (x : List ℕ). record { at = start; len = end - start; bytes = x } ∷ []) cut_is ∙ ap (λ (k : ℕ). record { at = start; len = k; bytes = spelled ++ spell_all (riff_fill file last slot (length spelled)) } ∷ []) (sym long))
    (ap (patch start) patch_is) (fits_is ∙ ap (λ (k : ℕ). fits_slot (file && last) k (length spelled)) (sym long)) one
