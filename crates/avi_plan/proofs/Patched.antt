-- The patches of spans that fit keep the rules of a journal, where more than one may end the file.
use Rattle.std.proofs.Common.{◌≡◌, ◌∙◌, ◌⊎◌, ℕ, ◌+◌, ◌-◌, ◌≤◌, ◌<◌, ◌^◌, List, [], ◌∷◌, ◌++◌, length, drop, get_or, refl, ap, sym, subst, arith, inl, inr, append_assoc}
use Rattle.std.specs.List.{AllByRecursion, flat_map}
use Rattle.std.proofs.lemmas.Bool.{cases_lt}
use Rattle.part_tree.specs.declared.plan.Patch.{Patch}
use Rattle.part_tree.specs.Patches.{FewRules, InOrder, Touches, all_bytes}
use Rattle.carrier_model.specs.Room.{patch}
use Rattle.carrier_model.proofs.Patches.{all_bytes-append, order_patch, patch_bytes, touches_behind, touches_patch}
use Rattle.unit_plan.specs.declared.cut.CutAt.{CutAt}
use Rattle.unit_plan.specs.Cuts.{EndsFile, FitsIn, IsExact, SpansAscend, patch_of}
use Rattle.unit_plan.specs.Sized.{IsTooMuch, gained, lost, spliced_len}
use Rattle.unit_plan.proofs.Spans.{lost_low, next_item}
use Rattle.avi_plan.specs.Patched.{FitsOn, patches_from, placed_patches}

-- ---- they are in order

-- where the old byte at a place stands at another, the new length is what is left there
ordered : (from to low len new : ℕ) (ks : List CutAt) → low ≤ to → SpansAscend from ks len → new + lost ks + from ≡ to + len + gained ks → InOrder new low (patches_from from to ks)
ordered from to low len new [] le h e = tt
ordered from to low len new (k ∷ ks) le h e =
    let at = to + (k.span.at - from) in
    let next = k.span.at + k.span.len in
    let low_next = lost_low next len ks h.2 in
    let sum : new + lost ks + next ≡ (at + (length k.bytes + k.keep)) + len + gained ks = omega (arith, e, h.0) in
    order_patch new low at k.bytes (patches_from next (at + (length k.bytes + k.keep)) ks) (omega (arith, le)) (omega (arith, sum, low_next))
    (ordered next (at + (length k.bytes + k.keep)) (at + length k.bytes) len new ks (omega arith) h.2 sum)

-- ---- they cover what the file gains

-- the spans that end it
last_covered : (from to len new : ℕ) (ks : List CutAt) → from ≡ len → SpansAscend from ks len → AllByRecursion (EndsFile len) ks → new ≡ to + gained ks → (q : ℕ) → to ≤ q → q < new → Touches q (patches_from from to ks)
last_covered from to len new [] f h ends e q low high = absurd (omega (arith, e, low, high))
last_covered from to len new (k ∷ ks) f h ends e q low high =
    go (cases_lt q (to + length k.bytes))
    (λ le. last_covered (k.span.at + k.span.len) (to + (k.span.at - from) + (length k.bytes + k.keep)) len new ks ends.0.0 h.2 ends.1 (omega (arith, e, f, h.0, ends.0.0, ends.0.1)) q (omega (arith, le, f, h.0, ends.0.0, ends.0.1)) high)
  where
    place : to + (k.span.at - from) ≡ to
    place = omega (arith, f, h.0, ends.0.0)

    go : (q < to + length k.bytes) ⊎ (to + length k.bytes ≤ q) → (to + length k.bytes ≤ q → Touches q (patches_from (k.span.at + k.span.len) (to + (k.span.at - from) + (length k.bytes + k.keep)) ks)) → Touches q (patches_from from to (k ∷ ks))
    go (inl lt) again = touches_patch q (to + (k.span.at - from)) k.bytes (patches_from (k.span.at + k.span.len) (to + (k.span.at - from) + (length k.bytes + k.keep)) ks) (omega (arith, low, place)) (omega (arith, lt, place))
    go (inr le) again = touches_behind q (patch (to + (k.span.at - from)) k.bytes) (patches_from (k.span.at + k.span.len) (to + (k.span.at - from) + (length k.bytes + k.keep)) ks) (again le)

none_lost : (xs : List CutAt) (at len : ℕ) → at ≡ len → SpansAscend at xs len → AllByRecursion (EndsFile len) xs → lost xs ≡ 0
none_lost [] at len a h ends = refl
none_lost (x ∷ xs) at len a h ends = omega (arith, none_lost xs (x.span.at + x.span.len) len ends.0.0 h.2 ends.1, a, h.0, ends.0.0)

covered : (from len new : ℕ) (ks : List CutAt) → SpansAscend from ks len → FitsOn len ks → new + lost ks ≡ len + gained ks → (q : ℕ) → len ≤ q → q < new → Touches q (patches_from from from ks)
covered from len new [] h f e q low high = absurd (omega (arith, e, low, high))
covered from len new (k ∷ ks) h f e q low high =
    go f.0
    (λ exact.
    let to = from + (k.span.at - from) + (length k.bytes + k.keep) in
    let same : to ≡ k.span.at + k.span.len = omega (arith, exact, h.0) in
    subst (λ (n : ℕ). Touches q (patches_from (k.span.at + k.span.len) n ks)) (sym same) (covered (k.span.at + k.span.len) len new ks h.2 f.1 (omega (arith, e, exact)) q low high))
  where
    place : from + (k.span.at - from) ≡ k.span.at
    place = omega (arith, h.0)

    go : IsExact k ⊎ (EndsFile len k × AllByRecursion (EndsFile len) ks) → (IsExact k → Touches q (patches_from (k.span.at + k.span.len) (from + (k.span.at - from) + (length k.bytes + k.keep)) ks)) → Touches q (patches_from from from (k ∷ ks))
    go (inl exact) again = touches_behind q (patch (from + (k.span.at - from)) k.bytes) (patches_from (k.span.at + k.span.len) (from + (k.span.at - from) + (length k.bytes + k.keep)) ks) (again exact)
    go (inr last) again = by (cases_lt q (k.span.at + length k.bytes))
      where
        by : (q < k.span.at + length k.bytes) ⊎ (k.span.at + length k.bytes ≤ q) → Touches q (patches_from from from (k ∷ ks))
        by (inl lt) =
            touches_patch q (from + (k.span.at - from)) k.bytes (patches_from (k.span.at + k.span.len) (from + (k.span.at - from) + (length k.bytes + k.keep)) ks)
            (omega (arith, low, place, last.0.0)) (omega (arith, lt, place))
        by (inr le) =
            touches_behind q (patch (from + (k.span.at - from)) k.bytes) (patches_from (k.span.at + k.span.len) (from + (k.span.at - from) + (length k.bytes + k.keep)) ks)
            (last_covered (k.span.at + k.span.len) (from + (k.span.at - from) + (length k.bytes + k.keep)) len new ks last.0.0 h.2 last.1
            (omega (arith, e, place, last.0.0, last.0.1, none_lost ks (k.span.at + k.span.len) len last.0.0 h.2 last.1)) q (omega (arith, le, place, last.0.1)) high)

pub keeps_rules : (len new : ℕ) (ks : List CutAt) (ps : List Patch) → SpansAscend 0 ks len → FitsOn len ks → new ≡ spliced_len len ks → len < 2 ^ 63 → new < 2 ^ 63
    → ps ≡ placed_patches ks → length ps ≤ 65536 → all_bytes ps ≤ 2 ^ 24 → FewRules len new ps
keeps_rules len new ks ps h f e old_fits new_fits is few small =
    let low = lost_low 0 len ks h in
    record {
      few = few;
      rules = record {
        old_fits = old_fits;
        new_fits = new_fits;
        order = subst (InOrder new 0) (sym is) (ordered 0 0 0 len new ks (omega arith) h (omega (arith, e, low)));
        small = small;
        whole = λ q under over. subst (Touches q) (sym is) (covered 0 len new ks h f (omega (arith, e, low)) q under over);
      };
    }

-- ---- one patch more

pub patch_some : (at : ℕ) (bytes : List ℕ) → 1 ≤ length bytes → patch at bytes ≡ record { at = at; bytes = bytes } ∷ []
patch_some at [] h = absurd (omega (arith, h))
patch_some at (x ∷ bytes) h = refl

-- the patches so far, and those of the spans that are left
pub patched_more : (ks : List CutAt) (i : ℕ) (k : CutAt) (from to from_next to_next at : ℕ) (items new : List Patch) (bytes : List ℕ) → i < length ks → k ≡ get_or ks i k
    → items ++ patches_from from to (drop i ks) ≡ placed_patches ks → at ≡ to + (k.span.at - from) → from_next ≡ k.span.at + k.span.len → to_next ≡ to + (k.span.at - from) + (length k.bytes + k.keep) → bytes ≡ k.bytes
    → new ≡ items ++ patch at bytes → new ++ patches_from from_next to_next (drop (i + 1) ks) ≡ placed_patches ks
patched_more ks i k from to from_next to_next at items new bytes lt is left place f t same e =
    let rest = drop (i + 1) ks in
    ap (λ (ps : List Patch). ps ++ patches_from from_next to_next rest) (e ∙ ap (λ (n : ℕ). items ++ patch n bytes) place ∙ ap (λ (x : List ℕ). items ++ patch (to + (k.span.at - from)) x) same)
    ∙ ap (λ (n : ℕ). (items ++ patch (to + (k.span.at - from)) k.bytes) ++ patches_from n to_next rest) f
    ∙ ap (λ (n : ℕ). (items ++ patch (to + (k.span.at - from)) k.bytes) ++ patches_from (k.span.at + k.span.len) n rest) t
    ∙ append_assoc items (patch (to + (k.span.at - from)) k.bytes) (patches_from (k.span.at + k.span.len) (to + (k.span.at - from) + (length k.bytes + k.keep)) rest)
    ∙ ap (λ (xs : List CutAt). items ++ patches_from from to xs) (sym (next_item ks i k lt is)) ∙ left

-- Patches that are too many, or too large, are so with those behind them.
pub too_much_more : (ks : List CutAt) (i : ℕ) (k : CutAt) (from to at : ℕ) (items : List Patch) (bytes : List ℕ) → i < length ks → k ≡ get_or ks i k
    → items ++ patches_from from to (drop i ks) ≡ placed_patches ks → at ≡ to + (k.span.at - from) → bytes ≡ k.bytes → IsTooMuch (items ++ patch at bytes) → IsTooMuch (placed_patches ks)
too_much_more ks i k from to at items bytes lt is left place same much =
    let rest = patches_from (k.span.at + k.span.len) (to + (k.span.at - from) + (length k.bytes + k.keep)) (drop (i + 1) ks) in
    let whole : (items ++ patch at bytes) ++ rest ≡ placed_patches ks =
    patched_more ks i k from to (k.span.at + k.span.len) (to + (k.span.at - from) + (length k.bytes + k.keep)) at items (items ++ patch at bytes) bytes lt is left place refl refl same refl
    in
    subst IsTooMuch whole (go much)
  where
    go : IsTooMuch (items ++ patch at bytes) → IsTooMuch ((items ++ patch at bytes) ++ patches_from (k.span.at + k.span.len) (to + (k.span.at - from) + (length k.bytes + k.keep)) (drop (i + 1) ks))
    go (inl many) = inl (omega (arith, many, Rattle.std.proofs.lemmas.List.length-append (items ++ patch at bytes) (patches_from (k.span.at + k.span.len) (to + (k.span.at - from) + (length k.bytes + k.keep)) (drop (i + 1) ks))))
    go (inr large) = inr (omega (arith, large, all_bytes-append (items ++ patch at bytes) (patches_from (k.span.at + k.span.len) (to + (k.span.at - from) + (length k.bytes + k.keep)) (drop (i + 1) ks))))

pub push_much : (items : List Patch) (at : ℕ) (bytes : List ℕ) → 1 ≤ length bytes → (65536 ≤ length items) ⊎ (2 ^ 24 < all_bytes items + length bytes) → IsTooMuch (items ++ patch at bytes)
push_much items at bytes some (inl many) = inl (omega (arith, many, some, ap (λ (ps : List Patch). length (items ++ ps)) (patch_some at bytes some), Rattle.std.proofs.lemmas.List.length-append items (record { at = at; bytes = bytes } ∷ [])))
push_much items at bytes some (inr large) = inr (omega (arith, large, all_bytes-append items (patch at bytes), patch_bytes at bytes))

-- ---- spans of which the last one alone ends the file

pub fits_in_on : (len : ℕ) (ks : List CutAt) → FitsIn len ks → FitsOn len ks
fits_in_on len [] h = tt
fits_in_on len (k ∷ ks) h = (go h.0, fits_in_on len ks h.1)
  where
    go : IsExact k ⊎ (EndsFile len k × (ks ≡ [])) → IsExact k ⊎ (EndsFile len k × AllByRecursion (EndsFile len) ks)
    go (inl exact) = inl exact
    go (inr last) = inr (last.0, subst (AllByRecursion (EndsFile len)) (sym last.1) tt)

-- exact spans stand where they stood
pub exact_patches : (from : ℕ) (ks : List CutAt) (len : ℕ) → SpansAscend from ks len → AllByRecursion IsExact ks → patches_from from from ks ≡ flat_map patch_of ks
exact_patches from [] len h e = refl
exact_patches from (k ∷ ks) len h e =
    let at : from + (k.span.at - from) ≡ k.span.at = omega (arith, h.0) in
    let to : from + (k.span.at - from) + (length k.bytes + k.keep) ≡ k.span.at + k.span.len = omega (arith, h.0, e.0) in
    ap (λ (n : ℕ). patch n k.bytes ++ patches_from (k.span.at + k.span.len) (from + (k.span.at - from) + (length k.bytes + k.keep)) ks) at
    ∙ ap (λ (n : ℕ). patch k.span.at k.bytes ++ patches_from (k.span.at + k.span.len) n ks) to
    ∙ ap (λ (ps : List Patch). patch k.span.at k.bytes ++ ps) (exact_patches (k.span.at + k.span.len) ks len h.2 e.1)
