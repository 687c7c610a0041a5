-- The segments of a new file, one more at a time.
use Rattle.std.proofs.Common.{◌≡◌, ◌∙◌, ℕ, ◌+◌, ◌-◌, ◌≤◌, ◌<◌, List, [], ◌∷◌, ◌++◌, length, map, take, drop, get_or, sym, ap, subst, arith, append_assoc}
use Rattle.std.proofs.lemmas.List.{drop-drop, drop-take, drop-append-le, take-append-le, take-take, take_all, length-drop, length-take}
use Rattle.part_tree.specs.declared.plan.Segment.{Segment}
use Rattle.part_tree.specs.Plans.{AllInside, Inside, segment_len, total_len}
use Rattle.container_model.specs.Splice.{Ascend, Cut, end_of, splice, splice_from}
use Rattle.unit_plan.specs.declared.cut.CutAt.{CutAt}
use Rattle.unit_plan.specs.Cuts.{SpansAscend, cut_in}
use Rattle.unit_plan.specs.Sized.{spliced_len}
use Rattle.unit_plan.proofs.Spans.{lost_low, next_item}

pub total_more : (ss new : List Segment) (s : Segment) → new ≡ ss ++ s ∷ [] → total_len new ≡ total_len ss + segment_len s
total_more ss new s e = ap total_len e ∙ go ss
  where
    go : (ss : List Segment) → total_len (ss ++ s ∷ []) ≡ total_len ss + segment_len s
    go [] = omega arith
    go (x ∷ ss) = omega (arith, go ss)

pub inside_more : (b : List ℕ) (ss new : List Segment) (s : Segment) → new ≡ ss ++ s ∷ [] → AllInside b ss → Inside b s → AllInside b new
inside_more b ss new s e h i = subst (AllInside b) (sym e) (go ss h)
  where
    go : (ss : List Segment) → AllInside b ss → AllInside b (ss ++ s ∷ [])
    go [] h = (i, tt)
    go (x ∷ ss) h = (h.0, go ss h.1)

-- ---- the spans that are left

-- the bytes so far, and what is left of the file with the spans left
pub one_cut : (b : List ℕ) (at : ℕ) (k : CutAt) (made next : List ℕ) (rest : List Cut) → at ≤ k.span.at
    → next ≡ made ++ (take (k.span.at - at) (drop at b) ++ (cut_in b k).bytes)
    → next ++ splice_from (k.span.at + k.span.len) (drop (k.span.at + k.span.len) b) rest ≡ made ++ splice_from at (drop at b) (cut_in b k ∷ rest)
one_cut b at k made next rest le is =
    let copy = take (k.span.at - at) (drop at b) in
    let end = k.span.at + k.span.len in
    let behind : drop end b ≡ drop (end - at) (drop at b) = sym (drop-drop (end - at) at b ∙ ap (λ (n : ℕ). drop n b) (omega arith)) in
    ap (λ (x : List ℕ). x ++ splice_from end (drop end b) rest) is
    ∙ regroup made copy (cut_in b k).bytes (splice_from end (drop end b) rest)
    ∙ ap (λ (x : List ℕ). made ++ (copy ++ ((cut_in b k).bytes ++ splice_from end x rest))) behind
  where
    regroup : (a b c d : List ℕ) → (a ++ (b ++ c)) ++ d ≡ a ++ (b ++ (c ++ d))
    regroup a b c d = simp append_assoc

pub last_copy : (b made next : List ℕ) (at len : ℕ) → length b ≡ len → next ≡ made ++ take (len - at) (drop at b) → next ≡ made ++ splice_from at (drop at b) []
last_copy b made next at len is e = e ∙ ap (λ (x : List ℕ). made ++ x) (take_all (len - at) (drop at b) (omega (arith, length-drop at b, is)))

-- the length so far, and that of what is left with the spans left
pub one_len : (len at : ℕ) (k : CutAt) (ks : List CutAt) (made next : ℕ) → SpansAscend at (k ∷ ks) len
    → next ≡ made + ((k.span.at - at) + (length k.bytes + k.keep))
    → next + (spliced_len (len - (k.span.at + k.span.len)) ks) ≡ made + spliced_len (len - at) (k ∷ ks)
one_len len at k ks made next h e = omega (arith, h.0, lost_low (k.span.at + k.span.len) len ks h.2)

pub first_len : (len : ℕ) (ks : List CutAt) → spliced_len (len - 0) ks ≡ spliced_len len ks
first_len len ks = let same : len - 0 ≡ len = omega arith in ap (λ (n : ℕ). spliced_len n ks) same

-- ---- the next span

pub left_ascend : (at len : ℕ) (ks : List CutAt) (i : ℕ) (k : CutAt) → i < length ks → k ≡ get_or ks i k → SpansAscend at (drop i ks) len → SpansAscend at (k ∷ drop (i + 1) ks) len
left_ascend at len ks i k lt e h = subst (λ (js : List CutAt). SpansAscend at js len) (next_item ks i k lt e) h

pub span_small : (at len : ℕ) (ks : List CutAt) (i : ℕ) (k : CutAt) → i < length ks → k ≡ get_or ks i k → SpansAscend at (drop i ks) len → k.span.at + k.span.len ≤ len
span_small at len ks i k lt e h =
    let left = left_ascend at len ks i k lt e h in
    omega (arith, lost_low (k.span.at + k.span.len) len (drop (i + 1) ks) left.2)

-- ---- laws of spans

pub ascend_in : (from end : ℕ) (ks : List CutAt) (b : List ℕ) → SpansAscend from ks end → Ascend from (map (cut_in b) ks) end
ascend_in from end [] b h = h
ascend_in from end (k ∷ ks) b h = (h.0, ascend_in (k.span.at + k.span.len) end ks b h.2)

ascend_end : (from end : ℕ) (cs : List Cut) → Ascend from cs end → from ≤ end
ascend_end from end [] h = h
ascend_end from end (c ∷ cs) h = omega (arith, h.0, ascend_end (end_of c) end cs h.1)

-- A span before all others is laid over the file with the others replaced.
pub first_cut : (at : ℕ) (w b : List ℕ) (cs : List Cut) → Ascend (at + length w) cs (length b)
    → splice b (record { at = at; len = length w; bytes = w } ∷ cs) ≡ take at (splice b cs) ++ (w ++ drop (at + length w) (splice b cs))
first_cut at w b [] h =
    let end = at + length w in
    let here : end - 0 ≡ end = omega arith in
    let front : at - 0 ≡ at = omega arith in
    ap (λ (n : ℕ). take n b ++ (w ++ drop (end - 0) b)) front ∙ ap (λ (n : ℕ). take at b ++ (w ++ drop n b)) here
first_cut at w b (c ∷ cs) h =
    let end = at + length w in
    let front = take c.at b in
    let more = c.bytes ++ splice_from (end_of c) (drop (end_of c) b) cs in
    let inside : end_of c ≤ length b = ascend_end (end_of c) (length b) cs h.1 in
    let long : length front ≡ c.at = omega (arith, length-take c.at b, inside) in
    let zero_at : c.at - 0 ≡ c.at = omega arith in
    let zero_end : end_of c - 0 ≡ end_of c = omega arith in
    let whole : splice b (c ∷ cs) ≡ front ++ more =
    ap (λ (k : ℕ). take k b ++ (c.bytes ++ splice_from (end_of c) (drop (end_of c - 0) b) cs)) zero_at ∙ ap (λ (k : ℕ). front ++ (c.bytes ++ splice_from (end_of c) (drop k b) cs)) zero_end
    in
    let first : take at (front ++ more) ≡ take at b = take-append-le at front more (omega (arith, long, h.0)) ∙ take-take at c.at b (omega (arith, h.0)) in
    let split : c.at ≡ end + (c.at - end) = omega (arith, h.0) in
    let rest : drop end (front ++ more) ≡ take (c.at - end) (drop end b) ++ more =
    drop-append-le end front more (omega (arith, long, h.0)) ∙ ap (λ (x : List ℕ). x ++ more) (ap (λ (k : ℕ). drop end (take k b)) split ∙ drop-take end (c.at - end) b)
    in
    let behind : drop (end_of c - end) (drop end b) ≡ drop (end_of c) b = drop-drop (end_of c - end) end b ∙ ap (λ (k : ℕ). drop k b) (omega (arith, h.0)) in
    let left : splice_from end (drop end b) (c ∷ cs) ≡ take (c.at - end) (drop end b) ++ more = ap (λ (x : List ℕ). take (c.at - end) (drop end b) ++ (c.bytes ++ splice_from (end_of c) x cs)) behind in
    let at_zero : at - 0 ≡ at = omega arith in
    let end_zero : end - 0 ≡ end = omega arith in
    ap (λ (k : ℕ). take k b ++ (w ++ splice_from end (drop (end - 0) b) (c ∷ cs))) at_zero
    ∙ ap (λ (k : ℕ). take at b ++ (w ++ splice_from end (drop k b) (c ∷ cs))) end_zero
    ∙ ap (λ (x : List ℕ). take at b ++ (w ++ x)) (left ∙ sym rest)
    ∙ ap (λ (x : List ℕ). x ++ (w ++ drop end (front ++ more))) (sym first)
    ∙ ap (λ (x : List ℕ). take at x ++ (w ++ drop end x)) (sym whole)
