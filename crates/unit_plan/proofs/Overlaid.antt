-- The patches of spans that fit, laid over a file, make the file with the spans replaced.
use Rattle.std.proofs.Common.{◌≡◌, ◌∙◌, ◌⊎◌, ℕ, ◌+◌, ◌-◌, ◌≤◌, List, [], ◌∷◌, ◌++◌, length, map, take, drop, refl, ap, sym, subst, arith, inl, inr, append_assoc, append-nil, length-take, length-drop, length-append}
use Rattle.std.specs.List.{flat_map}
use Rattle.std.proofs.lemmas.List.{drop-drop, drop_all, take_at, take-append-drop}
use Rattle.part_tree.specs.declared.plan.Patch.{Patch}
use Rattle.me_bytes.specs.Bytes.{overlay}
use Rattle.part_tree.specs.Patches.{patched, laid}
use Rattle.carrier_model.proofs.Patches.{overlay_is, patched-append, patched_one}
use Rattle.container_model.specs.Splice.{Cut, splice, splice_from}
use Rattle.container_model.proofs.Units.{take_past, drop_past}
use Rattle.unit_plan.specs.declared.cut.CutAt.{CutAt}
use Rattle.unit_plan.specs.Cuts.{SpansAscend, FitsIn, IsExact, EndsFile, cut_in, patch_of}
use Rattle.unit_plan.specs.Sized.{spliced_len}
use Rattle.unit_plan.proofs.Spans.{lost_low}

-- ---- how long the file is with the spans replaced

pub spliced_from_len : (b : List ℕ) (from : ℕ) (ks : List CutAt) → SpansAscend from ks (length b) → length (splice_from from (drop from b) (map (cut_in b) ks)) ≡ spliced_len (length b - from) ks
spliced_from_len b from [] h = omega (arith, length-drop from b)
spliced_from_len b from (k ∷ ks) h =
    let next = k.span.at + k.span.len in
    let low = lost_low next (length b) ks h.2 in
    let kept = take k.keep (drop (next - k.keep) b) in
    let front = take (k.span.at - from) (drop from b) in
    let rest = splice_from next (drop (next - from) (drop from b)) (map (cut_in b) ks) in
    let behind : drop (next - from) (drop from b) ≡ drop next b = drop-drop (next - from) from b ∙ ap (λ (n : ℕ). drop n b) (omega (arith, h.0)) in
    let again : length rest ≡ spliced_len (length b - next) ks = ap (λ (x : List ℕ). length (splice_from next x (map (cut_in b) ks))) behind ∙ spliced_from_len b next ks h.2 in
    omega (arith, again, low, h.0, h.1, length-append front ((k.bytes ++ kept) ++ rest), length-append (k.bytes ++ kept) rest, length-append k.bytes kept, length-take (k.span.at - from) (drop from b), length-drop from b, length-take k.keep (drop (next - k.keep) b), length-drop (next - k.keep) b)

pub spliced_length : (b : List ℕ) (len : ℕ) (ks : List CutAt) → length b ≡ len → SpansAscend 0 ks len → length (splice b (map (cut_in b) ks)) ≡ spliced_len len ks
spliced_length b len ks e h =
    let same : length b - 0 ≡ len = omega (arith, e) in
    spliced_from_len b 0 ks (subst (λ (n : ℕ). SpansAscend 0 ks n) (sym e) h) ∙ ap (λ (n : ℕ). spliced_len n ks) same

-- ---- patches

-- bytes laid over a file of which the front was changed
laid_over : (b x w : List ℕ) (from at : ℕ) → length x ≡ from → from ≤ at → overlay at w (x ++ drop from b) ≡ (x ++ take (at - from) (drop from b)) ++ (w ++ drop (at + length w) b)
laid_over b x w from at e le =
    let k : at - length x ≡ at - from = omega (arith, e) in
    let front : take at (x ++ drop from b) ≡ x ++ take (at - from) (drop from b) = take_past x (drop from b) at (omega (arith, e)) ∙ ap (λ (n : ℕ). x ++ take n (drop from b)) k in
    let back : drop (at + length w) (x ++ drop from b) ≡ drop (at + length w) b =
    drop_past x (drop from b) (at + length w) (omega (arith, e)) ∙ drop-drop ((at + length w) - length x) from b ∙ ap (λ (n : ℕ). drop n b) (omega (arith, e, le))
    in
    overlay_is at w (x ++ drop from b) ∙ ap (λ (z : List ℕ). z ++ (w ++ drop (at + length w) (x ++ drop from b))) front ∙ ap (λ (z : List ℕ). (x ++ take (at - from) (drop from b)) ++ (w ++ z)) back

-- the file with the spans replaced, from the first of them on
step_splice : (b x : List ℕ) (from : ℕ) (k : CutAt) (rest : List Cut) → from ≤ k.span.at
    → x ++ splice_from from (drop from b) (cut_in b k ∷ rest) ≡ ((x ++ take (k.span.at - from) (drop from b)) ++ (cut_in b k).bytes) ++ splice_from (k.span.at + k.span.len) (drop (k.span.at + k.span.len) b) rest
step_splice b x from k rest le =
    let next = k.span.at + k.span.len in
    let front = take (k.span.at - from) (drop from b) in
    let behind : drop (next - from) (drop from b) ≡ drop next b = drop-drop (next - from) from b ∙ ap (λ (n : ℕ). drop n b) (omega (arith, le)) in
    ap (λ (y : List ℕ). x ++ (front ++ ((cut_in b k).bytes ++ splice_from next y rest))) behind ∙ regroup x front (cut_in b k).bytes (splice_from next (drop next b) rest)
  where
    regroup : (a b c d : List ℕ) → a ++ (b ++ (c ++ d)) ≡ ((a ++ b) ++ c) ++ d
    regroup a b c d = simp append_assoc

-- what is behind the bytes of an exact span: the bytes that it keeps, and what is behind it
kept_behind : (b : List ℕ) (k : CutAt) → IsExact k → drop (k.span.at + length k.bytes) b ≡ take k.keep (drop (k.span.at + k.span.len - k.keep) b) ++ drop (k.span.at + k.span.len) b
kept_behind b k exact =
    let p = k.span.at + length k.bytes in
    let place : k.span.at + k.span.len - k.keep ≡ p = omega (arith, exact) in
    let next : k.keep + p ≡ k.span.at + k.span.len = omega (arith, exact) in
    sym (ap (λ (n : ℕ). take k.keep (drop n b) ++ drop (k.span.at + k.span.len) b) place ∙ ap (λ (z : List ℕ). take k.keep (drop p b) ++ z) (sym (drop-drop k.keep p b ∙ ap (λ (n : ℕ). drop n b) (add_comm p k.keep ∙ next))) ∙ take-append-drop k.keep (drop p b))
  where
    add_comm : (m n : ℕ) → m + n ≡ n + m
    add_comm m n = omega arith

pub laid_from : (b x : List ℕ) (from : ℕ) (ks : List CutAt) → length x ≡ from → SpansAscend from ks (length b) → FitsIn (length b) ks
    → (m : List ℕ) × (patched (flat_map patch_of ks) (x ++ drop from b) ≡ (x ++ splice_from from (drop from b) (map (cut_in b) ks)) ++ m)
laid_from b x from [] e h f = ([], sym (append-nil (x ++ drop from b)))
laid_from b x from (k ∷ ks) e h f = go f.0 (λ y len. laid_from b y (k.span.at + k.span.len) ks len h.2 f.1)
  where
    next : ℕ
    next = k.span.at + k.span.len

    front : List ℕ
    front = x ++ take (k.span.at - from) (drop from b)

    first : patched (patch_of k ++ flat_map patch_of ks) (x ++ drop from b) ≡ patched (flat_map patch_of ks) (front ++ (k.bytes ++ drop (k.span.at + length k.bytes) b))
    first = patched-append (patch_of k) (flat_map patch_of ks) (x ++ drop from b) ∙ ap (patched (flat_map patch_of ks)) (patched_one k.span.at k.bytes (x ++ drop from b) ∙ laid_over b x k.bytes from k.span.at e h.0)

    go : (IsExact k) ⊎ (EndsFile (length b) k × (ks ≡ []))
        → ((y : List ℕ) → length y ≡ k.span.at + k.span.len → (m : List ℕ) × (patched (flat_map patch_of ks) (y ++ drop (k.span.at + k.span.len) b) ≡ (y ++ splice_from (k.span.at + k.span.len) (drop (k.span.at + k.span.len) b) (map (cut_in b) ks)) ++ m))
        → (m : List ℕ) × (patched (patch_of k ++ flat_map patch_of ks) (x ++ drop from b) ≡ (x ++ splice_from from (drop from b) (cut_in b k ∷ map (cut_in b) ks)) ++ m)
    go (inl exact) again =
        let kept = take k.keep (drop (next - k.keep) b) in
        let low = lost_low next (length b) ks h.2 in
        let y = front ++ (k.bytes ++ kept) in
        let long : length y ≡ next = omega (arith, e, exact, low, h.0, h.1, length-append front (k.bytes ++ kept), length-append k.bytes kept, length-append x (take (k.span.at - from) (drop from b)), length-take (k.span.at - from) (drop from b), length-drop from b, length-take k.keep (drop (next - k.keep) b), length-drop (next - k.keep) b) in
        let done = again y long in (
          done.0,
          first ∙ ap (λ (z : List ℕ). patched (flat_map patch_of ks) (front ++ (k.bytes ++ z))) (kept_behind b k exact) ∙ ap (patched (flat_map patch_of ks)) (regroup front k.bytes kept (drop next b))
              ∙ done.1 ∙ ap (λ (z : List ℕ). z ++ done.0) (sym (step_splice b x from k (map (cut_in b) ks) h.0)),
        )
      where
        regroup : (a b c d : List ℕ) → a ++ (b ++ (c ++ d)) ≡ (a ++ (b ++ c)) ++ d
        regroup a b c d = simp append_assoc
    go (inr last) again =
        let kept = take k.keep (drop (next - k.keep) b) in
        let m = drop (k.span.at + length k.bytes) b in
        let none : flat_map patch_of ks ≡ [] = ap (flat_map patch_of) last.1 in
        let no_kept : kept ≡ [] = ap (λ (n : ℕ). take n (drop (next - n) b)) last.0.1 in
        let no_rest : splice_from next (drop next b) (map (cut_in b) ks) ≡ [] = ap (λ (js : List CutAt). splice_from next (drop next b) (map (cut_in b) js)) last.1 ∙ drop_all next b (omega (arith, last.0.0)) in
        let whole : x ++ splice_from from (drop from b) (cut_in b k ∷ map (cut_in b) ks) ≡ front ++ k.bytes =
        step_splice b x from k (map (cut_in b) ks) h.0
        ∙ ap (λ (z : List ℕ). (front ++ (k.bytes ++ kept)) ++ z) no_rest ∙ append-nil (front ++ (k.bytes ++ kept)) ∙ ap (λ (z : List ℕ). front ++ (k.bytes ++ z)) no_kept ∙ ap (λ (z : List ℕ). front ++ z) (append-nil k.bytes)
        in (
          m,
          first ∙ ap (λ (ps : List Patch). patched ps (front ++ (k.bytes ++ m))) none ∙ sym (append_assoc front k.bytes m) ∙ ap (λ (z : List ℕ). z ++ m) (sym whole),
        )

-- The patches, laid over the file at its new length, are the file with the spans replaced.
pub laid_splices : (b : List ℕ) (len new : ℕ) (ks : List CutAt) → length b ≡ len → SpansAscend 0 ks len → FitsIn len ks → new ≡ spliced_len len ks → laid new (flat_map patch_of ks) b ≡ splice b (map (cut_in b) ks)
laid_splices b len new ks e h f is =
    let ascend : SpansAscend 0 ks (length b) = subst (λ (n : ℕ). SpansAscend 0 ks n) (sym e) h in
    let fits : FitsIn (length b) ks = subst (λ (n : ℕ). FitsIn n ks) (sym e) f in
    let done = laid_from b [] 0 ks refl ascend fits in
    ap (take new) done.1 ∙ take_at (splice b (map (cut_in b) ks)) done.0 new (spliced_length b len ks e h ∙ sym is)
