-- The patches of spans that fit keep the rules of a journal.
use Rattle.std.proofs.Common.{◌≡◌, ◌∙◌, ◌⊎◌, ℕ, ◌+◌, ◌≤◌, ◌<◌, ◌^◌, List, [], ◌∷◌, ◌++◌, length, drop, get_or, refl, ap, sym, subst, arith, inl, inr, append_assoc}
use Rattle.std.specs.List.{flat_map}
use Rattle.part_tree.specs.declared.plan.Patch.{Patch}
use Rattle.carrier_model.specs.Room.{patch}
use Rattle.carrier_model.proofs.Patches.{all_bytes-append, patch_bytes, order_patch, touches_behind, touches_patch}
use Rattle.part_tree.specs.Patches.{InOrder, Touches, FewRules, all_bytes}
use Rattle.unit_plan.specs.declared.cut.CutAt.{CutAt}
use Rattle.unit_plan.specs.Cuts.{SpansAscend, FitsIn, IsExact, EndsFile, patch_of}
use Rattle.unit_plan.specs.Sized.{gained, lost, IsTooMuch, spliced_len}
use Rattle.unit_plan.proofs.Spans.{lost_low, next_item}

pub ordered : (from low len new : ℕ) (ks : List CutAt) → low ≤ from → SpansAscend from ks len → FitsIn len ks → new ≡ spliced_len len ks → InOrder new low (flat_map patch_of ks)
ordered from low len new [] le h f e = tt
ordered from low len new (k ∷ ks) le h f e = go f.0 (λ at same low_at. ordered (k.span.at + k.span.len) at len new ks low_at h.2 f.1 same)
  where
    next : ℕ
    next = k.span.at + k.span.len

    go : (IsExact k) ⊎ (EndsFile len k × (ks ≡ [])) → ((at : ℕ) → new ≡ spliced_len len ks → at ≤ k.span.at + k.span.len → InOrder new at (flat_map patch_of ks)) → InOrder new low (patch_of k ++ flat_map patch_of ks)
    go (inl exact) again =
        let low_next = lost_low next len ks h.2 in
        let same : new ≡ spliced_len len ks = omega (arith, e, exact, low_next) in
        order_patch new low k.span.at k.bytes (flat_map patch_of ks) (omega (arith, h.0, le)) (omega (arith, same, exact, low_next)) (again (k.span.at + length k.bytes) same (omega (arith, exact)))
    go (inr last) again =
        let none : flat_map patch_of ks ≡ [] = ap (flat_map patch_of) last.1 in
        let nothing : (lost ks ≡ 0) × (gained ks ≡ 0) = (ap lost last.1, ap gained last.1) in
        subst (λ (ps : List Patch). InOrder new low (patch_of k ++ ps)) (sym none)
        (order_patch new low k.span.at k.bytes [] (omega (arith, h.0, le)) (omega (arith, e, nothing, last.0)) tt)

-- what the file gains is covered
pub covered : (from len new : ℕ) (ks : List CutAt) → SpansAscend from ks len → FitsIn len ks → new ≡ spliced_len len ks → (q : ℕ) → len ≤ q → q < new → Touches q (flat_map patch_of ks)
covered from len new [] h f e q low high = absurd (omega (arith, e, low, high))
covered from len new (k ∷ ks) h f e q low high = go f.0 (λ same. covered (k.span.at + k.span.len) len new ks h.2 f.1 same q low high)
  where
    next : ℕ
    next = k.span.at + k.span.len

    go : (IsExact k) ⊎ (EndsFile len k × (ks ≡ [])) → (new ≡ spliced_len len ks → Touches q (flat_map patch_of ks)) → Touches q (patch_of k ++ flat_map patch_of ks)
    go (inl exact) again =
        let low_next = lost_low next len ks h.2 in
        let same : new ≡ spliced_len len ks = omega (arith, e, exact, low_next) in
        touches_behind q (patch_of k) (flat_map patch_of ks) (again same)
    go (inr last) again =
        let nothing : (lost ks ≡ 0) × (gained ks ≡ 0) = (ap lost last.1, ap gained last.1) in
        touches_patch q k.span.at k.bytes (flat_map patch_of ks) (omega (arith, low, last.0)) (omega (arith, e, high, nothing, last.0))

pub keeps_rules : (len new : ℕ) (ks : List CutAt) (ps : List Patch) → SpansAscend 0 ks len → FitsIn len ks → new ≡ spliced_len len ks → len < 2 ^ 63 → new < 2 ^ 63
    → ps ≡ flat_map patch_of ks → length ps ≤ 65536 → all_bytes ps ≤ 2 ^ 24 → FewRules len new ps
keeps_rules len new ks ps h f e old_fits new_fits is few small = record {
  few = few;
  rules = record {
    old_fits = old_fits;
    new_fits = new_fits;
    order = subst (InOrder new 0) (sym is) (ordered 0 0 len new ks (omega arith) h f e);
    small = small;
    whole = λ q low high. subst (Touches q) (sym is) (covered 0 len new ks h f e q low high);
  };
}

-- ---- one patch more

pub patch_some : (at : ℕ) (bytes : List ℕ) → 1 ≤ length bytes → patch at bytes ≡ record { at = at; bytes = bytes } ∷ []
patch_some at [] h = absurd (omega (arith, h))
patch_some at (x ∷ bytes) h = refl

next_patches : (ks : List CutAt) (i : ℕ) (k : CutAt) → i < length ks → k ≡ get_or ks i k → flat_map patch_of (drop i ks) ≡ patch_of k ++ flat_map patch_of (drop (i + 1) ks)
next_patches ks i k lt e = ap (flat_map patch_of) (next_item ks i k lt e)

pub too_many_bytes : (ks : List CutAt) (i : ℕ) (k : CutAt) (items : List Patch) (bytes : List ℕ) (sum : ℕ) → i < length ks → k ≡ get_or ks i k → items ++ flat_map patch_of (drop i ks) ≡ flat_map patch_of ks
    → all_bytes items ≡ sum → bytes ≡ k.bytes → 2 ^ 24 < sum + length bytes → IsTooMuch (flat_map patch_of ks)
too_many_bytes ks i k items bytes sum lt e left is same high =
    let next = ap all_bytes (sym left ∙ ap (λ (ps : List Patch). items ++ ps) (next_patches ks i k lt e)) in
    let n : length bytes ≡ length k.bytes = ap length same in
    inr (omega (arith, next, n, is, high, all_bytes-append items (patch_of k ++ flat_map patch_of (drop (i + 1) ks)), all_bytes-append (patch_of k) (flat_map patch_of (drop (i + 1) ks)), patch_bytes k.span.at k.bytes))

pub patch_more : (ks : List CutAt) (i : ℕ) (k : CutAt) (items new : List Patch) (bytes copy : List ℕ) → i < length ks → k ≡ get_or ks i k → items ++ flat_map patch_of (drop i ks) ≡ flat_map patch_of ks
    → 1 ≤ length bytes → bytes ≡ k.bytes → copy ≡ bytes → new ≡ items ++ record { at = k.span.at; bytes = copy } ∷ [] → new ++ flat_map patch_of (drop (i + 1) ks) ≡ flat_map patch_of ks
patch_more ks i k items new bytes copy lt e left some same copied is =
    let n : 1 ≤ length k.bytes = omega (arith, some, ap length same) in
    ap (λ (ps : List Patch). ps ++ flat_map patch_of (drop (i + 1) ks)) (is ∙ ap (λ (x : List ℕ). items ++ record { at = k.span.at; bytes = x } ∷ []) (copied ∙ same) ∙ ap (λ (ps : List Patch). items ++ ps) (sym (patch_some k.span.at k.bytes n)))
    ∙ append_assoc items (patch_of k) (flat_map patch_of (drop (i + 1) ks))
    ∙ ap (λ (ps : List Patch). items ++ ps) (sym (next_patches ks i k lt e)) ∙ left

pub sum_more : (items new : List Patch) (at sum : ℕ) (bytes copy : List ℕ) → all_bytes items ≡ sum → copy ≡ bytes → new ≡ items ++ record { at = at; bytes = copy } ∷ [] → all_bytes new ≡ sum + length bytes
sum_more items new at sum bytes copy is copied e = omega (arith, is, ap length copied, ap all_bytes e, all_bytes-append items (record { at = at; bytes = copy } ∷ []))
